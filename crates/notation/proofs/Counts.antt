-- What the parts of a text count: no more than the limits where they break no rule, and enough to pay for the code words and the stars of what they say.
-- Assumes nothing.
use mathlib.Core.Path.{◌≡◌, refl, sym, ◌∙◌, ap, subst}
use mathlib.Core.Bool.{Bool, true, false, cond, false≢true, ◌||◌}
use mathlib.Core.List.{List, [], ◌∷◌, ◌++◌, map, append_assoc, append-nil}
use mathlib.Core.Option.{Option, none, some}
use Prim.Native.Nat.{ℕ, suc, ◌+◌, ◌*◌, ◌≤◌}
use native.Mathlib.Omega.{arith}
use lib.Dec.{eqb}
use lib.ListN.{length, length-append}
use borrow.Author.Tests.{ltb-false, eqb-true}
use Rattle.notation.specs.Tokens.{Token, Word, Name, sign, name, EACH, COMMAND, IF, DO, ELSE, FOR, END, SKIP, AND, OR, NOT, ZERO, ONE, STAR, DOT, SEMI, ASSIGN, OPEN, CLOSE}
use Rattle.notation.specs.Texts.{expr_of, name_of, place_of, among, row_item_of, row_items_of, item_of, items_of, command_of, clause_of}
use Rattle.notation.specs.Regular.{Every}
use Rattle.notation.specs.Layout.{joined, expr_code, row_item_code, row_items_code, item_code, items_code, command_code}
use Rattle.notation.specs.Model as M
use Rattle.notation.specs.Model.{Place, stars_expr, stars_row, stars_items, stars}
use Rattle.notation.specs.Notation.{Role, quiet, declares, uses, constant, chance, joins, negates, opens, target, begins_item, begins_command, Part, part, plain, Mode, Kind, shared_name, row_name, command_name, Expr, RowItem, Item, Clause, Command, Level, ExpressionIs, is_zero, is_one, is_star, is_name, is_not, is_parens, is_factor, is_and, is_term, is_or, Joined, last, RowItemIs, ItemIs, is_skip, is_set, is_for, CommandIs, is_command, ClauseIs, is_clause, Several, final, and_then, followed}
use Rattle.notation.specs.Rules.{view, limit_of, depth_limit, elem, count, this_command, total, over, again, unknown, word_of, breach, Kept, COMMANDS, STARS, name_counts, NODES, ITEMS}

-- ---- what is counted

pub count-append : (k : ℕ) (ps qs : List Part) → count k (ps ++ qs) ≡ count k ps + count k qs
unfolding count
count-append k [] qs = omega arith
count-append k (part r t ∷ ps) qs = rw (count-append k ps qs) (omega arith)

pub this_append : (us ps qs : List Part) → this_command us (ps ++ qs) ≡ this_command (this_command us ps) qs
unfolding this_command
this_append us [] qs = refl
this_append us (part r t ∷ ps) qs = this_append (cond (view r).anew [] us ++ part r t ∷ []) ps qs

-- ---- what the rules say of one part

-- What is not refused passes each test.
passed : (x : Bool) (n : ℕ) (o : Option ℕ) → cond x (some n) o ≡ none → (x ≡ false) × (o ≡ none)
passed true n o e = ((cc), (cc))
passed false n o e = (refl, e)

neither : (x y : Bool) → x || y ≡ false → (x ≡ false) × (y ≡ false)
neither true y e = ((cc), (cc))
neither false y e = (refl, e)

-- A part that breaks no rule is not too deep, and none of the counts that it adds to is over its limit.
pub within : (us : List Part) (r : Role) (t : Token) → breach us (part r t) ≡ none → ((view r).depth ≤ depth_limit) × (over (view r).adds (us ++ part r t ∷ []) ≡ false)
unfolding breach
within us r t e =
    let a = passed (again us (view r).declared (word_of t)) 4 _ e in
    let u = passed (unknown us (view r).kinds (word_of t)) 5 _ a.1 in
    let s = passed (view r).barred 6 _ u.1 in
    let m = neither _ _ (passed _ 7 none s.1).0 in
    (ltb-false _ _ m.0, m.1)

over-at : (k : ℕ) (ks : List ℕ) (ps : List Part) → elem k ks ≡ true → over ks ps ≡ false → total k ps ≤ limit_of k
unfolding elem over
over-at k [] ps i e = absurd (false≢true i)
over-at k (j ∷ js) ps i e = let h = neither _ _ e in go (eqb j k) refl i (ltb-false _ _ h.0) (λ i. over-at k js ps i h.1)
  where
    go : (x : Bool) → eqb j k ≡ x → x || elem k js ≡ true → total j ps ≤ limit_of j → (elem k js ≡ true → total k ps ≤ limit_of k) → total k ps ≤ limit_of k
    go true a i h rec = subst (λ (n : ℕ). total n ps ≤ limit_of n) (eqb-true j k a) h
    go false a i h rec = rec i

-- A count to which a part does not add does not grow by it.
unmoved : (k : ℕ) (us : List Part) (r : Role) (t : Token) → elem k (view r).adds ≡ false → count k (us ++ part r t ∷ []) ≡ count k us
unfolding count
unmoved k us r t e = rw (count-append k us (part r t ∷ []), e) (omega arith)

stays : (k : ℕ) (us : List Part) (r : Role) (t : Token) → elem k (view r).adds ≡ false → total k (us ++ part r t ∷ []) ≤ total k us
unfolding total count this_command
stays k us r t e = go (eqb k STARS)
  where
    none_fewer : (x : Bool) (ps : List Part) → count k (cond x [] ps) ≤ count k ps
    none_fewer true ps = omega arith
    none_fewer false ps = omega arith

    go : (x : Bool) → count k (cond x (this_command [] (us ++ part r t ∷ [])) (us ++ part r t ∷ [])) ≤ count k (cond x (this_command [] us) us)
    go true = rw (this_append [] us (part r t ∷ []), unmoved k (cond (view r).anew [] (this_command [] us)) r t e) (none_fewer (view r).anew (this_command [] us))
    go false = omega (arith, unmoved k us r t e)

-- ---- what the rules say of all parts

-- What holds of no parts, and with one part more that breaks no rule, holds of all parts that break none.
pub kept-all : (Q : List Part → Type 0) → ((us : List Part) (r : Role) (t : Token) → breach us (part r t) ≡ none → Q us → Q (us ++ part r t ∷ [])) → Q [] → {ps : List Part} → Kept ps → Q ps
kept-all Q more q {ps} h = go [] ps h q
  where
    go : (us ps : List Part) → ((ws : List Part) (p : Part) (vs : List Part) → ps ≡ ws ++ p ∷ vs → breach (us ++ ws) p ≡ none) → Q us → Q (us ++ ps)
    go us [] h q = rw append-nil q
    go us (part r t ∷ ps) h q =
        rw append_assoc at (go (us ++ part r t ∷ []) ps
        (λ ws p vs e. rw append_assoc (h (part r t ∷ ws) p vs (ap (λ (x : List Part). part r t ∷ x) e)))
        (more us r t (rw append-nil at (h [] (part r t) ps refl)) q))

-- Each count is within its limit.
pub total-few : (k : ℕ) {ps : List Part} → Kept ps → total k ps ≤ limit_of k
unfolding total count this_command
total-few k h = kept-all (λ us. total k us ≤ limit_of k) more (none_yet (eqb k STARS)) h
  where
    none_yet : (x : Bool) → count k (cond x (this_command [] []) []) ≤ limit_of k
    none_yet true = omega arith
    none_yet false = omega arith

    more : (us : List Part) (r : Role) (t : Token) → breach us (part r t) ≡ none → total k us ≤ limit_of k → total k (us ++ part r t ∷ []) ≤ limit_of k
    more us r t e q = go (elem k (view r).adds) refl
      where
        go : (x : Bool) → elem k (view r).adds ≡ x → total k (us ++ part r t ∷ []) ≤ limit_of k
        go true a = over-at k (view r).adds (us ++ part r t ∷ []) a (within us r t e).1
        go false a = omega (arith, stays k us r t a)

kept-before : (ps qs : List Part) → Kept (ps ++ qs) → Kept ps
kept-before ps qs h us p vs e = h us p (vs ++ qs) (rw e (append_assoc us (p ∷ vs) qs))

-- ---- one or more

-- What holds of none, and with one more before it, holds of one or more.
module _ {A : Type 0} {One : List Part → A → Type 0} (P : List Part → List A → Type 0)
    (more : (ps qs : List Part) (x : A) (xs : List A) → One ps x → P qs xs → P (ps ++ qs) (x ∷ xs)) (base : P [] []) where
  pub several_all : {ps : List Part} {xs : List A} → Several One ps xs → P ps xs
  several_all (final i) = rw append-nil at (more _ _ _ _ i base)
  several_all (and_then i is) = more _ _ _ _ i (several_all is)

  pub joined-all : ((qs : List Part) (xs : List A) → P qs xs → P (plain SEMI ∷ qs) xs) → {ps : List Part} {xs : List A} → Joined One ps xs → P ps xs
  joined-all semi (last i) = rw append-nil at (more _ _ _ _ i base)
  joined-all semi (followed i is) = more _ _ _ _ i (semi _ _ (joined-all semi is))

-- ---- what parts pay for

-- Parts that pay for the code words and the stars of what they say, and in which no command begins.
record Sized (ps : List Part) (code stars : ℕ) : Type 0 where
  short : code ≤ count NODES ps + 3 * count ITEMS ps
  few : stars ≤ count STARS ps
  alone : (us : List Part) → this_command us ps ≡ us ++ ps

one : (r : Role) (t : Token) → (view r).anew ≡ false → Sized (part r t ∷ []) (count NODES (part r t ∷ []) + 3 * count ITEMS (part r t ∷ [])) (count STARS (part r t ∷ []))
unfolding this_command
one r t e = record { short = omega arith; few = omega arith; alone = λ us. rw e }

empty : Sized [] 0 0
unfolding this_command
empty = record { short = omega arith; few = omega arith; alone = λ us. sym (append-nil us) }

join : {ps qs : List Part} {c d s t : ℕ} → Sized ps c s → Sized qs d t → Sized (ps ++ qs) (c + d) (s + t)
join {ps} {qs} h g = record {
  short = simp count-append (omega arith);
  few = simp count-append (omega arith);
  alone = λ us. this_append us ps qs ∙ ap (λ (x : List Part). this_command x qs) (h.alone us) ∙ g.alone (us ++ ps) ∙ append_assoc us ps qs;
}

fit : {ps : List Part} {c d s t : ℕ} → Sized ps c s → d ≤ c → t ≤ s → Sized ps d t
fit h i j = record { short = omega arith; few = omega arith; alone = h.alone }

-- The forms: what follows a plain sign; what an operator joins; `skip`, an assignment and `for` before more; what `do` and `else` part, up to the sign k.
after : {ps : List Part} {c s : ℕ} (k : ℕ) → Sized ps c s → Sized (plain k ∷ ps) c s
unfolding view elem count
after k h = fit (join (one quiet (sign k) refl) h) (omega arith) (omega arith)

pair : {ps qs : List Part} {c d s t : ℕ} (u : Token) → Sized ps c s → Sized qs d t → Sized (ps ++ part joins u ∷ qs) (c + (d + 1)) (s + t)
unfolding view elem count
pair u h g = fit (join h (join (one joins u refl) g)) (omega arith) (omega arith)

skipped : {ps : List Part} {c s : ℕ} → Sized ps c s → Sized (part begins_item (sign SKIP) ∷ ps) (suc c) s
unfolding view elem count
skipped h = fit (join (one begins_item (sign SKIP) refl) h) (omega arith) (omega arith)

assigned : {ps qs : List Part} {c d s t : ℕ} (x : Kind) (w : Name) → Sized ps c s → Sized qs d t → Sized (part (target x) (name w) ∷ plain ASSIGN ∷ ps ++ qs) (c + 1 + d) (s + t)
unfolding view elem count
assigned x w h g = fit (join (one (target x) (name w) refl) (after ASSIGN (join h g))) (omega arith) (omega arith)

branches : {cs ps qs : List Part} {c d e s t u : ℕ} (k : ℕ) → Sized cs c s → Sized ps d t → Sized qs e u
    → Sized (cs ++ (plain DO ∷ ps ++ (plain ELSE ∷ qs ++ (plain k ∷ [])))) (c + (d + e)) (s + t + u)
branches k h g f = fit (join h (after DO (join g (after ELSE (join f (after k empty)))))) (omega arith) (omega arith)

looped : {cs ps qs rs : List Part} {c d e f s t u v : ℕ} → Sized cs c s → Sized ps d t → Sized qs e u → Sized rs f v →
    Sized (part begins_item (sign FOR) ∷ cs ++ (plain DO ∷ ps ++ (plain ELSE ∷ qs ++ (plain END ∷ []))) ++ rs) (c + (suc d + (suc e + 1)) + f) (s + t + u + v)
unfolding view elem count
looped h g f i = fit (join (one begins_item (sign FOR) refl) (join (branches END h g f) i)) (omega arith) (omega arith)

-- A command pays for its code, it is counted, and its stars are all that are counted while it is read.
record Commanded (cs : List Part) (code stars : ℕ) : Type 0 where
  short : code ≤ count NODES cs + 3 * count ITEMS cs + 3 * count COMMANDS cs
  one : 1 ≤ count COMMANDS cs
  few : (us : List Part) → stars ≤ total STARS (us ++ cs)

commanded : {cs ps qs : List Part} {c d e s t u : ℕ} (w : Name) → Sized cs c s → Sized ps d t → Sized qs e u →
    Commanded (part begins_command (sign COMMAND) ∷ part (declares command_name) (name w) ∷ plain IF ∷ cs ++
    (plain DO ∷ ps ++ (plain ELSE ∷ qs ++ (plain DOT ∷ [])))) (c + (suc d + (suc e + 1))) (s + t + u)
unfolding view elem name_counts count total this_command
commanded w h g f =
    let b = join (one (declares command_name) (name w) refl) (after IF (branches DOT h g f)) in
    record { short = omega (arith, b.short); one = omega arith; few = λ us. rw (this_append [] us, b.alone) (omega (arith, b.few)) }

-- a is the number of shared names, ws and vs are the names.
module _ (a : ℕ) (ws vs : List Word) where
  expression_sized : {m : Mode} {l : Level} {d : ℕ} {ps : List Part} {e : Expr} → ExpressionIs m l d ps e → (p : Place) (k : ℕ) →
      Sized ps (length (expr_code a (expr_of ws vs e k).is)) (length (stars_expr p (expr_of ws vs e k).is))
  unfolding view elem count expr_of expr_code stars_expr name_of
  expression_sized is_zero p k = one constant (sign ZERO) refl
  expression_sized is_one p k = one constant (sign ONE) refl
  expression_sized {m} is_star p k = one (chance m) (sign STAR) refl
  expression_sized {m} (is_name w) p k = go (among w.word ws)
    where
      go : (x : Bool) → Sized (part (uses m) (name w) ∷ []) (length (expr_code a (cond x (M.shared (place_of w.word ws)) (M.row (place_of w.word vs)))))
          (length (stars_expr p (cond x (M.shared (place_of w.word ws)) (M.row (place_of w.word vs)))))
      go true = one (uses m) (name w) refl
      go false = one (uses m) (name w) refl
  expression_sized (is_not x) p k = fit (join (one (negates _) (sign NOT) refl) (expression_sized x p k)) (simp length-append (omega arith)) (omega arith)
  expression_sized (is_parens x) p k = fit (join (one (opens _) (sign OPEN) refl) (join (expression_sized x p k) (after CLOSE empty))) (omega arith) (omega arith)
  expression_sized (is_factor x) p k = expression_sized x p k
  expression_sized (is_and x y) p k = simp length-append (pair (sign AND) (expression_sized x p k) (expression_sized y p _))
  expression_sized (is_term x) p k = expression_sized x p k
  expression_sized (is_or x y) p k = simp length-append (pair (sign OR) (expression_sized x p k) (expression_sized y p _))

  -- A clause pays for the code of its two expressions.
  pub clause-sized : {k : ℕ} {ps : List Part} {x : Clause} → ClauseIs k ps x →
      length (expr_code a (clause_of ws vs x).whole) + length (expr_code a (clause_of ws vs x).each) ≤ count NODES ps + 3 * count ITEMS ps
  unfolding clause_of
  clause-sized {k} (is_clause x y) = omega (arith, (after k (join (expression_sized x M.outside 0) (after EACH (join (expression_sized y M.outside 0) (after DOT empty))))).short)

  abbrev RowsSized : List Part → List RowItem → Type 0
  RowsSized ps xs = (k : ℕ) → Sized ps (length (row_items_code a (row_items_of ws vs xs k).is)) (length (stars_row (row_items_of ws vs xs k).is))

  row_sized : (ps qs : List Part) (x : RowItem) (xs : List RowItem) → RowItemIs ps x → RowsSized qs xs → RowsSized (ps ++ qs) (x ∷ xs)
  unfolding row_item_of row_items_of row_item_code row_items_code stars_row
  row_sized _ qs _ xs is_skip h k = skipped (h k)
  row_sized _ qs _ xs (is_set w x) h k = simp length-append (assigned row_name w (expression_sized x M.inside k) (h _))

  rows-sized : {ps : List Part} {xs : List RowItem} → Joined RowItemIs ps xs → RowsSized ps xs
  unfolding row_items_of row_items_code stars_row
  rows-sized is = joined-all RowsSized row_sized (λ k. empty) (λ qs xs h k. after SEMI (h k)) is

  abbrev ItemsSized : List Part → List Item → Type 0
  ItemsSized ps xs = (k : ℕ) → Sized ps (length (items_code a (items_of ws vs xs k).is)) (length (stars_items (items_of ws vs xs k).is))

  item-sized : (ps qs : List Part) (x : Item) (xs : List Item) → ItemIs ps x → ItemsSized qs xs → ItemsSized (ps ++ qs) (x ∷ xs)
  unfolding item_of items_of item_code items_code stars_items
  item-sized _ qs _ xs is_skip h k = skipped (h k)
  item-sized _ qs _ xs (is_set w x) h k = simp length-append (assigned shared_name w (expression_sized x M.outside k) (h _))
  item-sized _ qs _ xs (is_for x is js) h k = simp length-append (looped (expression_sized x M.inside k) (rows-sized is _) (rows-sized js _) (h _))

  items-sized : {ps : List Part} {xs : List Item} → Joined ItemIs ps xs → ItemsSized ps xs
  unfolding items_of items_code stars_items
  items-sized is = joined-all ItemsSized item-sized (λ k. empty) (λ qs xs h k. after SEMI (h k)) is

  command-sized : {cs : List Part} {x : Command} → CommandIs cs x → Commanded cs (length (command_code a (command_of ws vs x))) (length (stars (command_of ws vs x)))
  unfolding command_of command_code stars
  command-sized (is_command w x is js) = simp length-append (commanded w (expression_sized x M.outside 0) (items-sized is _) (items-sized js _))

  -- Commands pay for their code, each is counted, and the stars of each are all that are counted while it is read.
  pub record SizedCommands (cs : List Part) (xs : List Command) : Type 0 where
    pub short : length (joined (map (command_code a) (map (command_of ws vs) xs))) ≤ count NODES cs + 3 * count ITEMS cs + 3 * count COMMANDS cs
    pub many : length xs ≤ count COMMANDS cs
    pub few : (us : List Part) → Kept (us ++ cs) → Every (λ k. length (stars k) ≤ 8) (map (command_of ws vs) xs)

  command-more : (cs ds : List Part) (x : Command) (xs : List Command) → CommandIs cs x → SizedCommands ds xs → SizedCommands (cs ++ ds) (x ∷ xs)
  unfolding joined
  command-more cs ds x xs i h =
      let c = command-sized i in
      record {
        short = simp (length-append, count-append) (omega (arith, h.short, c.short));
        many = simp count-append (omega (arith, h.many, c.one));
        few = λ us k.
            let l : Kept (us ++ cs ++ ds) = rw append_assoc k in
            (omega (arith, total-few STARS (kept-before (us ++ cs) ds l), c.few us), h.few (us ++ cs) l);
      }

  pub commands-sized : {cs : List Part} {xs : List Command} → Several CommandIs cs xs → SizedCommands cs xs
  unfolding joined
  commands-sized is = several_all SizedCommands command-more (record { short = omega arith; many = omega arith; few = λ us k. tt }) is
