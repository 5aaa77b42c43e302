-- What the table's symbols stand for says a tree by the notation.
-- Assumes nothing.
use mathlib.Core.Path.{◌≡◌, refl, subst}
use mathlib.Core.Bool.{Bool, true, false, cond}
use mathlib.Core.List.{List, [], ◌∷◌, ◌++◌, append_assoc, append-nil}
use mathlib.Core.Option.{some}
use Prim.Native.Nat.{ℕ, suc}
use lib.Dec.{eqb}
use Rattle.notation.specs.Tokens.{Token, sign, name, SHARED, ROW, START, KEEP, EACH, COMMAND, DO, ELSE, FOR, END, AND, OR, NOT, DOT, SEMI, ASSIGN, OPEN, CLOSE, Name}
use Rattle.notation.specs.Notation.{Role, quiet, declares, joins, negates, opens, target, begins_item, begins_command, Part, part, plain, Mode, Kind, shared_name, row_name, command_name, Expr, RowItem, Item, Clause, Command, Tree, factor_level, and_level, or_level, ExpressionIs, is_zero, is_one, is_star, is_name, is_not, is_parens, is_factor, is_and, is_term, is_or, Joined, last, RowItemIs, ItemIs, is_skip, is_set, is_for, CommandIs, is_command, ClauseIs, is_clause, Several, final, and_then, declared, TextIs, is_text, free_row, fixed_shared, followed, fixed_row, free_shared}
use Rattle.notation.specs.working.Table.{Sym, lit, whole, rows, clause, names, title, one_command, commands, factor, ands, ors, item, items, row_item, row_items, Val, Cont, Line, on, named, sum, command_rest, lines, skips, Found, find, Reads, done, over, takes}
use mathlib.Core.Option.{none-ne-some, some-injective}
use borrow.Author.Tests.{eqb-true}

data LitIs (k : ℕ) : List Part → Type 0 where
  is-lit : LitIs k (plain k ∷ [])

data NamesAre (s : Kind) : List Part → Type 0 where
  are_names : (ws : List Name) → NamesAre s (declared s ws)

data RowsAre : List Part → Type 0 where
  are_rows : (ws : List Name) → RowsAre (plain ROW ∷ declared row_name ws ++ (plain DOT ∷ []))

data TitleIs : List Part → Type 0 where
  is-title : (w : Name) → TitleIs (part (declares command_name) (name w) ∷ [])

-- What stands for one symbol: it says a tree, or goes on with one.
abbrev Piece : Sym → List Part → Type 0
Piece (lit k) ps = LitIs k ps
Piece whole ps = (x : Tree) × TextIs ps x
Piece rows ps = RowsAre ps
Piece (clause k) ps = (x : Clause) × ClauseIs k ps x
Piece (names s) ps = NamesAre s ps
Piece title ps = TitleIs ps
Piece one_command ps = (x : Command) × CommandIs ps x
Piece commands ps = (qs : List Part) (x : Command) → CommandIs qs x → (xs : List Command) × Several CommandIs (qs ++ ps) xs
Piece (factor m d) ps = (e : Expr) × ExpressionIs m factor_level d ps e
Piece (ands m d) ps = (qs : List Part) (a : Expr) → ExpressionIs m and_level d qs a → (e : Expr) × ExpressionIs m and_level d (qs ++ ps) e
Piece (ors m d) ps = (qs : List Part) (a : Expr) → ExpressionIs m or_level d qs a → (e : Expr) × ExpressionIs m or_level d (qs ++ ps) e
Piece item ps = (x : Item) × ItemIs ps x
Piece items ps = (qs : List Part) (x : Item) → ItemIs qs x → (xs : List Item) × Joined ItemIs (qs ++ ps) xs
Piece row_item ps = (x : RowItem) × RowItemIs ps x
Piece row_items ps = (qs : List Part) (x : RowItem) → RowItemIs qs x → (xs : List RowItem) × Joined RowItemIs (qs ++ ps) xs

data Pieces : List Sym → List Part → Type 0 where
  nil : Pieces [] []
  cons : {n : Sym} {σ : List Sym} (ps : List Part) {qs : List Part} → Piece n ps → Pieces σ qs → Pieces (n ∷ σ) (ps ++ qs)

empty : (n : Sym) {v : Val n} → skips n ≡ some v → Piece n []
unfolding skips
empty (lit k) e = absurd (none-ne-some _ e)
empty whole e = absurd (none-ne-some _ e)
empty rows e = absurd (none-ne-some _ e)
empty (clause k) e = absurd (none-ne-some _ e)
empty (names s) e = are_names []
empty title e = absurd (none-ne-some _ e)
empty one_command e = absurd (none-ne-some _ e)
empty commands e = λ qs x i. (x ∷ [], rw append-nil (final i))
empty (factor m d) e = absurd (none-ne-some _ e)
empty (ands m d) e = λ qs a x. (a, rw append-nil x)
empty (ors m d) e = λ qs a x. (a, rw append-nil x)
empty item e = absurd (none-ne-some _ e)
empty items e = λ qs x i. (x ∷ [], rw append-nil (last i))
empty row_item e = absurd (none-ne-some _ e)
empty row_items e = λ qs x i. (x ∷ [], rw append-nil (last i))

-- A property of each line of a table.
abbrev EachLine : {n : Sym} → (Token → Role → List Sym → Type 0) → List (Line n) → Type 0
EachLine P [] = Unit {0}
EachLine P (on k r α f ∷ ls) = P (sign k) r α × EachLine P ls
EachLine P (named r α f ∷ ls) = ((w : Name) → P (name w) r α) × EachLine P ls

at-found : (P : Token → Role → List Sym → Type 0) {n : Sym} (ls : List (Line n)) (t : Token) {f : Found n} → EachLine P ls → find ls t ≡ some f → P t f.role f.next
unfolding find
at-found P [] t h e = absurd (none-ne-some _ e)
at-found P {n} (on k r α a ∷ ls) (sign j) {f} h e = go (eqb k j) refl e (λ e. at-found P ls (sign j) h.1 e)
  where
    go : (b : Bool) → eqb k j ≡ b → cond b (some (record { role = r; next = α; act = a })) (find ls (sign j)) ≡ some f
        → (find ls (sign j) ≡ some f → P (sign j) f.role f.next) → P (sign j) f.role f.next
    go true i e rec = subst (λ (x : Found n). P (sign j) x.role x.next) (some-injective _ _ e) (rw (eqb-true k j i) at h.0)
    go false i e rec = rec e
at-found P (on k r α a ∷ ls) (name w) h e = at-found P ls (name w) h.1 e
at-found P (named r α a ∷ ls) (sign j) h e = at-found P ls (sign j) h.1 e
at-found P {n} (named r α a ∷ ls) (name w) h e = subst (λ (x : Found n). P (name w) x.role x.next) (some-injective _ _ e) (h.0 w)

-- What a line asks for makes a piece for the line's symbol.
abbrev Makes : Sym → Token → Role → List Sym → Type 0
Makes n t r α = (σ : List Sym) (ps : List Part) → Pieces (α ++ σ) ps → Pieces (n ∷ σ) (part r t ∷ ps)

-- An expression from its three pieces.
sum_of : {m : Mode} {d : ℕ} (ps qs rs : List Part) → Piece (factor m d) ps → Piece (ands m d) qs → Piece (ors m d) rs → (e : Expr) × ExpressionIs m or_level d ((ps ++ qs) ++ rs) e
sum_of ps qs rs f a o = o _ _ (is_term (a _ _ (is_factor f.1)).1)

make_not : (m : Mode) (d : ℕ) → Makes (factor m d) (sign NOT) (negates (suc d)) (factor m (suc d) ∷ [])
make_not m d σ ps (cons _ f rest) = cons {n = factor m d} _ (_, is_not f.1) rest

make_parens : (m : Mode) (d : ℕ) → Makes (factor m d) (sign OPEN) (opens (suc d)) (sum m (suc d) (lit CLOSE ∷ []))
make_parens m d σ ps (cons _ f (cons _ a (cons _ o (cons _ is-lit rest)))) =
    simp append_assoc at (cons {n = factor m d} _ (_, is_parens (sum_of _ _ _ f a o).1) rest)

make_and : (m : Mode) (d : ℕ) → Makes (ands m d) (sign AND) joins (factor m d ∷ ands m d ∷ [])
make_and m d σ ps (cons fs f (cons as' a rest)) =
    simp append_assoc at (cons {n = ands m d} (part joins (sign AND) ∷ fs ++ as') (λ qs x i. simp append_assoc at (a _ _ (is_and i f.1))) rest)

make_or : (m : Mode) (d : ℕ) → Makes (ors m d) (sign OR) joins (sum m d [])
make_or m d σ ps (cons fs f (cons as' a (cons os o rest))) =
    simp append_assoc at (cons {n = ors m d} (part joins (sign OR) ∷ fs ++ (as' ++ os)) (λ qs x i. simp append_assoc at (o _ _ (is_or i (a _ _ (is_factor f.1)).1))) rest)

make_set : (w : Name) → Makes item (name w) (target shared_name) (lit ASSIGN ∷ sum free_shared 0 [])
make_set w σ ps (cons _ is-lit (cons _ f (cons _ a (cons _ o rest)))) =
    simp append_assoc at (cons {n = item} _ (_, is_set w (sum_of _ _ _ f a o).1) rest)

make_row-set : (w : Name) → Makes row_item (name w) (target row_name) (lit ASSIGN ∷ sum free_row 0 [])
make_row-set w σ ps (cons _ is-lit (cons _ f (cons _ a (cons _ o rest)))) =
    simp append_assoc at (cons {n = row_item} _ (_, is_set w (sum_of _ _ _ f a o).1) rest)

make_for : Makes item (sign FOR) begins_item (sum free_row 0 (lit DO ∷ row_item ∷ row_items ∷ lit ELSE ∷ row_item ∷ row_items ∷ lit END ∷ []))
make_for σ ps (cons _ f (cons _ a (cons _ o (cons _ is-lit (cons _ x (cons _ xs (cons _ is-lit (cons _ y (cons _ ys (cons _ is-lit rest)))))))))) =
    simp append_assoc at (cons {n = item} _ (_, is_for (sum_of _ _ _ f a o).1 (xs _ _ x.1).1 (ys _ _ y.1).1) rest)

make_items : Makes items (sign SEMI) quiet (item ∷ items ∷ [])
make_items σ ps (cons as' x (cons bs xs rest)) =
    simp append_assoc at (cons {n = items} (plain SEMI ∷ as' ++ bs) (λ qs y i. (_, followed i (xs _ _ x.1).1)) rest)

make_row-items : Makes row_items (sign SEMI) quiet (row_item ∷ row_items ∷ [])
make_row-items σ ps (cons as' x (cons bs xs rest)) =
    simp append_assoc at (cons {n = row_items} (plain SEMI ∷ as' ++ bs) (λ qs y i. (_, followed i (xs _ _ x.1).1)) rest)

make_command : Makes one_command (sign COMMAND) begins_command (command_rest [])
make_command σ ps (cons _ (is-title w) (cons _ is-lit (cons _ f (cons _ a (cons _ o (cons _ is-lit (cons _ x (cons _ xs (cons _ is-lit (cons _ y (cons _ ys (cons _ is-lit rest)))))))))))) =
    simp append_assoc at (cons {n = one_command} _ (_, is_command w (sum_of _ _ _ f a o).1 (xs _ _ x.1).1 (ys _ _ y.1).1) rest)

make_commands : Makes commands (sign COMMAND) begins_command (command_rest (commands ∷ []))
make_commands σ ps (cons _ (is-title w) (cons _ is-lit
    (cons _ f (cons _ a (cons _ o (cons _ is-lit (cons _ x (cons _ xs (cons _ is-lit (cons _ y (cons _ ys (cons _ is-lit (cons cs c rest))))))))))))) =
    simp append_assoc at (cons {n = commands} _ (λ qs z i. (_, and_then i (c _ _ (is_command w (sum_of _ _ _ f a o).1 (xs _ _ x.1).1 (ys _ _ y.1).1)).1)) rest)

make_clause : (k : ℕ) → Makes (clause k) (sign k) quiet (sum fixed_shared 0 (lit EACH ∷ sum fixed_row 0 (lit DOT ∷ [])))
make_clause k σ ps (cons _ f (cons _ a (cons _ o (cons _ is-lit (cons _ g (cons _ b (cons _ p (cons _ is-lit rest)))))))) =
    simp append_assoc at (cons {n = clause k} _ (_, is_clause (sum_of _ _ _ f a o).1 (sum_of _ _ _ g b p).1) rest)

make_rows : Makes rows (sign ROW) quiet (names row_name ∷ lit DOT ∷ [])
make_rows σ ps (cons _ (are_names ws) (cons _ is-lit rest)) = simp append_assoc at (cons {n = rows} _ (are_rows ws) rest)

make_names : (s : Kind) (w : Name) → Makes (names s) (name w) (declares s) (names s ∷ [])
make_names s w σ ps (cons _ (are_names ws) rest) = cons {n = names s} _ (are_names (w ∷ ws)) rest

make_text : Makes whole (sign SHARED) quiet (names shared_name ∷ lit DOT ∷ rows ∷ clause START ∷ clause KEEP ∷ one_command ∷ commands ∷ [])
make_text σ ps (cons _ (are_names ws) (cons _ is-lit (cons _ (are_rows vs) (cons _ s (cons _ k (cons _ x (cons _ xs rest))))))) =
    simp append_assoc (simp append_assoc at (cons {n = whole} _ (_, is_text ws vs s.1 k.1 (xs _ _ x.1).1) rest))

makes : (n : Sym) → EachLine (Makes n) (lines n)
unfolding lines
makes (lit k) = (λ σ ps x. cons {n = lit k} _ is-lit x, tt)
makes whole = (make_text, tt)
makes rows = (make_rows, tt)
makes (clause k) = (make_clause k, tt)
makes (names s) = (make_names s, tt)
makes title = (λ w σ ps x. cons {n = title} _ (is-title w) x, tt)
makes one_command = (make_command, tt)
makes commands = (make_commands, tt)
makes (factor m d) = (
  λ σ ps x. cons {n = factor m d} _ (_, is_zero) x,
  (
    λ σ ps x. cons {n = factor m d} _ (_, is_one) x,
    (
      λ σ ps x. cons {n = factor m d} _ (_, is_star) x,
      (
        λ w σ ps x. cons {n = factor m d} _ (_, is_name w) x,
        (make_not m d, (make_parens m d, tt)),
      ),
    ),
  ),
)
makes (ands m d) = (make_and m d, tt)
makes (ors m d) = (make_or m d, tt)
makes item = (λ σ ps x. cons {n = item} _ (_, is_skip) x, (make_set, (make_for, tt)))
makes items = (make_items, tt)
makes row_item = (λ σ ps x. cons {n = row_item} _ (_, is_skip) x, (make_row-set, tt))
makes row_items = (make_row-items, tt)

pieces : {σ : List Sym} {k : Cont σ Tree} {ps : List Part} {x : Tree} → Reads σ k ps x → Pieces σ ps
pieces done = nil
pieces (over {n = n} s D) = cons {n = n} [] (empty n s) (pieces D)
pieces (takes {n = n} {σ = σ} {ps = ps} {t = t} f e D) = at-found (Makes n) (lines n) t (makes n) e σ ps (pieces D)

whole_piece : {ps : List Part} → Pieces (whole ∷ []) ps → (x : Tree) × TextIs ps x
whole_piece (cons _ x nil) = (x.0, rw append-nil x.1)

pub tree_of : {ps : List Part} {x : Tree} → Reads (whole ∷ []) (λ x. x) ps x → (y : Tree) × TextIs ps y
tree_of D = whole_piece (pieces D)
