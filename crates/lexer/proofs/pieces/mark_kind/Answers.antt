-- Each arm gives the kind that the definition gives its byte.
use native.Mathlib.Omega.{arith}
use borrow.Author.Tests.{eq-eqb, ne_eqb}
use Rattle.lexer.specs.working.Pieces.{mark_piece}
use Rattle.lexer.proofs.pieces.mark_kind.Goals as goal

pub returns-then-next-eq61 : goal.returns-then-next-eq61
unfolding mark_piece
returns-then-next-eq61 c = λ s. rw (c.in-58.is, eq-eqb _ _ c.if-next-eq61.true)

pub returns-in-46 : goal.returns-in-46
unfolding mark_piece
returns-in-46 c = λ s. rw c.in-46.is

pub returns-in-59 : goal.returns-in-59
unfolding mark_piece
returns-in-59 c = λ s. rw c.in-59.is

pub returns-in-40 : goal.returns-in-40
unfolding mark_piece
returns-in-40 c = λ s. rw c.in-40.is

pub returns-in-41 : goal.returns-in-41
unfolding mark_piece
returns-in-41 c = λ s. rw c.in-41.is

pub returns-in-42 : goal.returns-in-42
unfolding mark_piece
returns-in-42 c = λ s. rw c.in-42.is

pub returns-in-61 : goal.returns-in-61
unfolding mark_piece
returns-in-61 c = λ s. rw c.in-61.is

pub returns-else-next-eq61 : goal.returns-else-next-eq61
unfolding mark_piece
returns-else-next-eq61 c = λ s. rw (c.in-58.is, ne_eqb _ _ c.if-next-eq61.false)

pub returns-in_default : goal.returns-in_default
unfolding mark_piece
returns-in_default c = λ s.
    simp (
      ne_eqb c.args.b 58 (omega arith),
      ne_eqb c.args.b 46 (omega arith),
      ne_eqb c.args.b 59 (omega arith),
      ne_eqb c.args.b 40 (omega arith),
      ne_eqb c.args.b 41 (omega arith),
      ne_eqb c.args.b 42 (omega arith),
      ne_eqb c.args.b 61 (omega arith),
    )
