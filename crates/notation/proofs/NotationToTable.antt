-- What says a tree by the notation, the table's symbols stand for.
-- Assumes nothing.
use mathlib.Core.Path.{◌≡◌, refl}
use mathlib.Core.List.{List, [], ◌∷◌, ◌++◌, append_assoc, append-nil}
use mathlib.Core.Option.{some}
use Prim.Native.Nat.{ℕ}
use borrow.Author.Tests.{eq-eqb}
use Rattle.notation.specs.Tokens.{sign, START, KEEP, EACH, DO, ELSE, END, DOT, CLOSE, Name}
use Rattle.notation.specs.Notation.{Role, Part, plain, Mode, Kind, shared_name, row_name, tree', clause', command', and', or', not', for', Expr, RowItem, Item, Clause, Command, Tree, Level, factor_level, and_level, or_level, ExpressionIs, is_zero, is_one, is_star, is_name, is_not, is_parens, is_factor, is_and, is_term, is_or, Joined, last, RowItemIs, ItemIs, is_skip, is_set, is_for, CommandIs, is_command, ClauseIs, is_clause, Several, final, and_then, declared, TextIs, is_text, fixed_row, followed}
use Rattle.notation.specs.working.Table.{Sym, lit, whole, rows, clause, names, one_command, commands, factor, ands, ors, item, items, row_item, row_items, Val, Cont, Line, on, sum, lines, skips, find, Reads, done, over, takes}

abbrev before : Level → Mode → ℕ → List Sym → List Sym
before factor_level m d σ = factor m d ∷ σ
before and_level m d σ = factor m d ∷ ands m d ∷ σ
before or_level m d σ = sum m d σ

abbrev after : Level → Mode → ℕ → List Sym → List Sym
after factor_level m d σ = σ
after and_level m d σ = ands m d ∷ σ
after or_level m d σ = ors m d ∷ σ

-- What wants an expression, as what wants its pieces; and once the expression so far is read.
abbrev into : (l : Level) (m : Mode) (d : ℕ) (σ : List Sym) → (Expr → Cont σ Tree) → Cont (before l m d σ) Tree
into factor_level m d σ k = k
into and_level m d σ k = λ f a. k (a f)
into or_level m d σ k = λ f a o. k (o (a f))

abbrev onto : (l : Level) (m : Mode) (d : ℕ) (σ : List Sym) → (Expr → Cont σ Tree) → Expr → Cont (after l m d σ) Tree
onto factor_level m d σ k e = k e
onto and_level m d σ k e = λ a. k (a e)
onto or_level m d σ k e = λ o. k (o e)

expression : {m : Mode} {l : Level} {d : ℕ} {ps : List Part} {e : Expr} → ExpressionIs m l d ps e → (σ : List Sym) (k : Expr → Cont σ Tree) (rest : List Part) (x : Tree) →
    Reads (after l m d σ) (onto l m d σ k e) rest x → Reads (before l m d σ) (into l m d σ k) (ps ++ rest) x
unfolding find lines skips
expression is_zero σ k rest x D = takes _ refl D
expression is_one σ k rest x D = takes _ refl D
expression is_star σ k rest x D = takes _ refl D
expression (is_name w) σ k rest x D = takes _ refl D
expression (is_not i) σ k rest x D = takes _ refl (expression i σ (λ e. k (not' e)) rest x D)
expression (is_parens {d = d} i) σ k rest x D =
    rw append_assoc (takes _ refl (expression i (lit CLOSE ∷ σ) (λ e u. k e) (plain CLOSE ∷ rest) x (over refl (takes _ refl D))))
expression {m} (is_factor {d = d} i) σ k rest x D = expression i (ands m d ∷ σ) (λ e a. k (a e)) rest x D
expression {m} (is_and {d = d} {a = a} i j) σ k rest x D = rw append_assoc (expression i σ k _ x (takes _ refl (expression j (ands m d ∷ σ) (λ f g. k (g (and' a f))) rest x D)))
expression {m} (is_term {d = d} i) σ k rest x D = expression i (ors m d ∷ σ) (λ e o. k (o e)) rest x (over refl D)
expression {m} (is_or {d = d} {a = a} i j) σ k rest x D =
    rw append_assoc (expression i σ k _ x (takes _ refl (expression j (ors m d ∷ σ) (λ f o. k (o (or' a f))) rest x (over refl D))))

-- An expression by itself.
alone : {m : Mode} {d : ℕ} {ps : List Part} {e : Expr} → ExpressionIs m or_level d ps e → (σ : List Sym) (k : Expr → Cont σ Tree) (rest : List Part) (x : Tree) →
    Reads σ (k e) rest x → Reads (sum m d σ) (λ f a o. k (o (a f))) (ps ++ rest) x
unfolding skips
alone i σ k rest x D = expression i σ k rest x (over refl D)

row-item-is : {ps : List Part} {y : RowItem} → RowItemIs ps y → (σ : List Sym) (k : RowItem → Cont σ Tree) (rest : List Part) (x : Tree) → Reads σ (k y) rest x → Reads (row_item ∷ σ) k (ps ++ rest) x
unfolding find lines
row-item-is is_skip σ k rest x D = takes _ refl D
row-item-is (is_set w i) σ k rest x D = takes _ refl (takes _ refl (alone i σ (λ e. k (RowItem.set' w e)) rest x D))

row-items_are : {ps : List Part} {ys : List RowItem} → Joined RowItemIs ps ys → (σ : List Sym) (k : List RowItem → Cont σ Tree) (rest : List Part) (x : Tree) →
    Reads σ (k ys) rest x → Reads (row_item ∷ row_items ∷ σ) (λ y ys. k (y ∷ ys)) (ps ++ rest) x
unfolding find lines skips
row-items_are (last i) σ k rest x D = row-item-is i (row_items ∷ σ) _ rest x (over refl D)
row-items_are (followed {a = a} i is) σ k rest x D = rw append_assoc (row-item-is i (row_items ∷ σ) _ _ x (takes _ refl (row-items_are is σ (λ ys. k (a ∷ ys)) rest x D)))

item-is : {ps : List Part} {y : Item} → ItemIs ps y → (σ : List Sym) (k : Item → Cont σ Tree) (rest : List Part) (x : Tree) → Reads σ (k y) rest x → Reads (item ∷ σ) k (ps ++ rest) x
unfolding find lines
item-is is_skip σ k rest x D = takes _ refl D
item-is (is_set w i) σ k rest x D = takes _ refl (takes _ refl (alone i σ (λ e. k (Item.set' w e)) rest x D))
item-is (is_for {e = e} {xs = xs} i is js) σ k rest x D =
    simp append_assoc (takes _ refl (alone i (lit DO ∷ row_item ∷ row_items ∷ lit ELSE ∷ row_item ∷ row_items ∷ lit END ∷ σ) (λ e _ y ys _ z zs _. k (for' e (y ∷ ys) (z ∷ zs))) _ x
    (takes _ refl (row-items_are is (lit ELSE ∷ row_item ∷ row_items ∷ lit END ∷ σ) (λ ys _ z zs _. k (for' e ys (z ∷ zs))) _ x
    (takes _ refl (row-items_are js (lit END ∷ σ) (λ zs _. k (for' e xs zs)) _ x (takes _ refl D)))))))

items_are_lem : {ps : List Part} {ys : List Item} → Joined ItemIs ps ys → (σ : List Sym) (k : List Item → Cont σ Tree) (rest : List Part) (x : Tree) →
    Reads σ (k ys) rest x → Reads (item ∷ items ∷ σ) (λ y ys. k (y ∷ ys)) (ps ++ rest) x
unfolding find lines skips
items_are_lem (last i) σ k rest x D = item-is i (items ∷ σ) _ rest x (over refl D)
items_are_lem (followed {a = a} i is) σ k rest x D = rw append_assoc (item-is i (items ∷ σ) _ _ x (takes _ refl (items_are_lem is σ (λ ys. k (a ∷ ys)) rest x D)))

command-is : {ps : List Part} {y : Command} → CommandIs ps y → (σ : List Sym) (k : Command → Cont σ Tree) (rest : List Part) (x : Tree) → Reads σ (k y) rest x → Reads (one_command ∷ σ) k (ps ++ rest) x
unfolding find lines
command-is (is_command {e = e} {xs = xs} w i is js) σ k rest x D =
    simp append_assoc (takes _ refl (takes _ refl (takes _ refl (alone i (lit DO ∷ item ∷ items ∷ lit ELSE ∷ item ∷ items ∷ lit DOT ∷ σ) (λ e _ y ys _ z zs _. k (command' w e (y ∷ ys) (z ∷ zs))) _ x
    (takes _ refl (items_are_lem is (lit ELSE ∷ item ∷ items ∷ lit DOT ∷ σ) (λ ys _ z zs _. k (command' w e ys (z ∷ zs))) _ x
    (takes _ refl (items_are_lem js (lit DOT ∷ σ) (λ zs _. k (command' w e xs zs)) _ x (takes _ refl D)))))))))

command-more : {ps : List Part} {y : Command} → CommandIs ps y → (σ : List Sym) (k : List Command → Cont σ Tree) (rest : List Part) (x : Tree) →
    Reads (commands ∷ σ) (λ ys. k (y ∷ ys)) rest x → Reads (commands ∷ σ) k (ps ++ rest) x
unfolding find lines
command-more (is_command {e = e} {xs = xs} w i is js) σ k rest x D =
    simp append_assoc (takes _ refl (takes _ refl
    (takes _ refl (alone i (lit DO ∷ item ∷ items ∷ lit ELSE ∷ item ∷ items ∷ lit DOT ∷ commands ∷ σ)
    (λ e _ y ys _ z zs _ cs. k (command' w e (y ∷ ys) (z ∷ zs) ∷ cs)) _ x
    (takes _ refl (items_are_lem is (lit ELSE ∷ item ∷ items ∷ lit DOT ∷ commands ∷ σ) (λ ys _ z zs _ cs. k (command' w e ys (z ∷ zs) ∷ cs)) _ x
    (takes _ refl (items_are_lem js (lit DOT ∷ commands ∷ σ) (λ zs _ cs. k (command' w e xs zs ∷ cs)) _ x (takes _ refl D)))))))))

commands-more : {ps : List Part} {ys : List Command} → Several CommandIs ps ys → (k : List Command → Tree) → Reads (commands ∷ []) k ps (k ys)
unfolding skips
commands-more (final i) k = rw append-nil at (command-more i [] k [] _ (over refl done))
commands-more (and_then {a = a} i is) k = command-more i [] k _ _ (commands-more is (λ ys. k (a ∷ ys)))

commands_are : {ps : List Part} {ys : List Command} → Several CommandIs ps ys → (k : List Command → Tree) → Reads (one_command ∷ commands ∷ []) (λ y ys. k (y ∷ ys)) ps (k ys)
unfolding skips
commands_are (final i) k = rw append-nil at (command-is i (commands ∷ []) (λ y ys. k (y ∷ ys)) [] _ (over refl done))
commands_are (and_then {a = a} i is) k = command-is i (commands ∷ []) (λ y ys. k (y ∷ ys)) _ _ (commands-more is (λ ys. k (a ∷ ys)))

pub at_sign : {n : Sym} (k : ℕ) (r : Role) (α : List Sym) (f : Cont α (Val n)) (ls : List (Line n)) → find (on k r α f ∷ ls) (sign k) ≡ some (record { role = r; next = α; act = f })
unfolding find
at_sign k r α f ls = rw (eq-eqb k k refl)

clause-is : {j : ℕ} {ps : List Part} {y : Clause} → ClauseIs j ps y → (σ : List Sym) (k : Clause → Cont σ Tree) (rest : List Part) (x : Tree)
    → Reads σ (k y) rest x → Reads (clause j ∷ σ) k (ps ++ rest) x
unfolding find lines
clause-is {j} (is_clause {a = a} i i') σ k rest x D =
    simp append_assoc (takes _ (at_sign {n = clause j} j _ _ _ []) (alone i (lit EACH ∷ sum fixed_row 0 (lit DOT ∷ σ)) (λ e _ f a o _. k (clause' e (o (a f)))) _ x
    (takes _ refl (alone i' (lit DOT ∷ σ) (λ e _. k (clause' a e)) _ x (takes _ refl D)))))

names_are : (s : Kind) (ws : List Name) (σ : List Sym) (k : List Name → Cont σ Tree) (rest : List Part) (x : Tree) → Reads σ (k ws) rest x → Reads (names s ∷ σ) k (declared s ws ++ rest) x
unfolding find lines skips
names_are s [] σ k rest x D = over refl D
names_are s (w ∷ ws) σ k rest x D = takes _ refl (names_are s ws σ (λ ws. k (w ∷ ws)) rest x D)

pub text-is : {ps : List Part} {y : Tree} → TextIs ps y → Reads (whole ∷ []) (λ x. x) ps y
unfolding find lines skips
text-is (is_text {s = s} {k = k} ws vs i j is) =
    takes _ refl (names_are shared_name ws (lit DOT ∷ rows ∷ clause START ∷ clause KEEP ∷ one_command ∷ commands ∷ []) (λ ws _ vs s k c cs. tree' ws vs s k (c ∷ cs)) _ _
    (takes _ refl (takes _ refl (names_are row_name vs (lit DOT ∷ clause START ∷ clause KEEP ∷ one_command ∷ commands ∷ []) (λ vs _ s k c cs. tree' ws vs s k (c ∷ cs)) _ _
    (takes _ refl (clause-is i (clause KEEP ∷ one_command ∷ commands ∷ []) (λ s k c cs. tree' ws vs s k (c ∷ cs)) _ _
    (clause-is j (one_command ∷ commands ∷ []) (λ k c cs. tree' ws vs s k (c ∷ cs)) _ _ (commands_are is (λ cs. tree' ws vs s k cs)))))))))
