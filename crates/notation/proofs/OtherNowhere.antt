-- A token that the notation uses nowhere stands in no text, so that it is refused wherever it stands.
-- Assumes nothing.
use mathlib.Core.Path.{◌≡◌, refl}
use mathlib.Core.Bool.{Bool, false}
use mathlib.Core.List.{List, [], ◌∷◌, ◌++◌}
use mathlib.Core.Option.{some}
use Prim.Native.Nat.{ℕ}
use native.Mathlib.Omega.{arith}
use lib.Dec.{eqb}
use Rattle.notation.specs.Tokens.{Token, sign, name, Name, OTHER, Lexeme, at}
use Rattle.notation.specs.Notation.{Kind, Role, Part, part, Mode, Level, Expr, ExpressionIs, is_zero, is_one, is_star, is_name, is_not, is_parens, is_factor, is_and, is_term, is_or, Joined, last, followed, RowItem, RowItemIs, ItemIs, is_skip, is_set, is_for, Item, CommandIs, is_command, Command, ClauseIs, is_clause, Clause, Several, final, and_then, declared, shared_name, row_name, Tree, TextIs, is_text}
use Rattle.notation.specs.Regular.{Every}
use Rattle.notation.specs.Texts.{Spells, spells_none, spells, Viable, at_token}
use Rattle.notation.specs.Promises.{OtherNowhere}
use Rattle.notation.proofs.Members.{joined}
use Rattle.notation.proofs.Parts.{parted}

-- It is another token.
abbrev is_other : Token → Bool
is_other (sign k) = eqb k OTHER
is_other (name n) = false

abbrev Used : Part → Type 0
Used (part r t) = is_other t ≡ false

record AllUsed (ps : List Part) : Type 0 where
  all : Every Used ps

none : AllUsed []
none = record { all = tt }

more : {r : Role} {t : Token} {ps : List Part} → is_other t ≡ false → AllUsed ps → AllUsed (part r t ∷ ps)
more h a = record { all = (h, a.all) }

both : {ps qs : List Part} → AllUsed ps → AllUsed qs → AllUsed (ps ++ qs)
both {ps} {qs} a b = record { all = joined Used ps qs a.all b.all }

expression_used : {m : Mode} {l : Level} {d : ℕ} {ps : List Part} {e : Expr} → ExpressionIs m l d ps e → AllUsed ps
expression_used is_zero = more refl none
expression_used is_one = more refl none
expression_used is_star = more refl none
expression_used (is_name w) = more refl none
expression_used (is_not x) = more refl (expression_used x)
expression_used (is_parens x) = more refl (both (expression_used x) (more refl none))
expression_used (is_factor x) = expression_used x
expression_used (is_and x y) = both (expression_used x) (more refl (expression_used y))
expression_used (is_term x) = expression_used x
expression_used (is_or x y) = both (expression_used x) (more refl (expression_used y))

joined_used : {A : Type 0} {One : List Part → A → Type 0} {ps : List Part} {l : List A} → ((qs : List Part) (a : A) → One qs a → AllUsed qs) → Joined One ps l → AllUsed ps
joined_used one (last o) = one _ _ o
joined_used one (followed o rest) = both (one _ _ o) (more refl (joined_used one rest))

row-item_used : {ps : List Part} {x : RowItem} → RowItemIs ps x → AllUsed ps
row-item_used is_skip = more refl none
row-item_used (is_set w e) = more refl (more refl (expression_used e))

item_used : {ps : List Part} {x : Item} → ItemIs ps x → AllUsed ps
item_used is_skip = more refl none
item_used (is_set w e) = more refl (more refl (expression_used e))
item_used (is_for c y n) = more refl (both (expression_used c) (more refl (both (joined_used (λ qs a. row-item_used) y) (more refl (both (joined_used (λ qs a. row-item_used) n) (more refl none))))))

command_used : {ps : List Part} {x : Command} → CommandIs ps x → AllUsed ps
command_used (is_command w c y n) =
    more refl (more refl (more refl (both (expression_used c) (more refl (both (joined_used (λ qs a. item_used) y) (more refl (both (joined_used (λ qs a. item_used) n) (more refl none))))))))

clause_used : {k : ℕ} {ps : List Part} {x : Clause} → eqb k OTHER ≡ false → ClauseIs k ps x → AllUsed ps
clause_used h (is_clause a b) = more h (both (expression_used a) (more refl (both (expression_used b) (more refl none))))

several_used : {ps : List Part} {xs : List Command} → Several CommandIs ps xs → AllUsed ps
several_used (final o) = command_used o
several_used (and_then o rest) = both (command_used o) (several_used rest)

declared_used : (k : Kind) (ws : List Name) → AllUsed (declared k ws)
declared_used k [] = none
declared_used k (w ∷ ws) = more refl (declared_used k ws)

text_used : {ps : List Part} {x : Tree} → TextIs ps x → AllUsed ps
text_used (is_text ws vs s k cs) =
    more refl (both (declared_used shared_name ws) (more refl (more refl (both (declared_used row_name vs)
    (more refl (both (clause_used refl s) (both (clause_used refl k) (several_used cs))))))))

-- The last of the lexemes is the token of a part.
last_used : (us : List Lexeme) (i : ℕ) (t : Token) {ps : List Part} → Spells (us ++ at i (some t) ∷ []) ps → Every Used ps → is_other t ≡ false
last_used [] i t (spells j r u spells_none) h = h.0
last_used (u ∷ us) i t (spells j r v s) h = last_used us i t s h.1

pub other-nowhere : OtherNowhere
other-nowhere len us i ts f = at_token us i (sign OTHER) ts f no
  where
    no : Viable (us ++ at i (some (sign OTHER)) ∷ []) → ⊥
    no v =
        let e = last_used us i (sign OTHER) v.spelt (parted Used v.parts v.begins.rest (text_used v.begins.form).all).0 in
        let z : ◌≡◌ {A = ℕ} 0 1 = cc in absurd (omega arith)
