-- Each answer is the kind that the definition gives a byte that passed the tests so far.
use mathlib.Core.Path.{◌≡◌, sym, ◌∙◌}
use mathlib.Core.Bool.{false}
use native.Mathlib.Omega.{arith}
use borrow.Author.Tests.{ne_eqb}
use Rattle.notation.specs.Bytes.{letter}
use Rattle.lexer.specs.working.Pieces.{byte_piece}
use Rattle.lexer.proofs.Spelling.{letter_is}
use Rattle.lexer.proofs.pieces.byte_kind.Goals as goal
use Rattle.lexer.proofs.pieces.byte_kind.Goals.{Else-is_ascii_alphabetic}

no-letter : (c : Else-is_ascii_alphabetic) → letter c.args.b ≡ false
no-letter c = sym (letter_is c.args.b) ∙ sym c.is_ascii_alphabetic.ensures.value ∙ c.if-is_ascii_alphabetic.false

pub returns-then-is_ascii_alphabetic : goal.returns-then-is_ascii_alphabetic
unfolding byte_piece
returns-then-is_ascii_alphabetic c = λ s e. rw (sym (letter_is c.args.b) ∙ sym c.is_ascii_alphabetic.ensures.value ∙ c.if-is_ascii_alphabetic.true)

pub returns-in-48 : goal.returns-in-48
unfolding byte_piece
returns-in-48 c = λ s e. rw (no-letter (goal.at.returns-in-48 c).Else-is_ascii_alphabetic, c.in-48.is)

pub returns-in-49 : goal.returns-in-49
unfolding byte_piece
returns-in-49 c = λ s e. rw (no-letter (goal.at.returns-in-49 c).Else-is_ascii_alphabetic, c.in-49.is)

pub returns-in_default : goal.returns-in_default
unfolding byte_piece
returns-in_default c = λ s e.
    let zero : c.args.b ≡ 48 → ⊥ = omega arith in
    let one : c.args.b ≡ 49 → ⊥ = omega arith in
    rw (no-letter (goal.at.returns-in_default c).Else-is_ascii_alphabetic, ne_eqb _ _ zero, ne_eqb _ _ one)
