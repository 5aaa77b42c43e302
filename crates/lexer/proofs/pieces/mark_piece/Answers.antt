-- Only the sign of two bytes ends one byte further on.
use borrow.Author.Tests.{eq-eqb, ne_eqb}
use Rattle.lexer.specs.declared.pieces.Kind.TheVariants.{Assign}
use Rattle.lexer.proofs.KindNumbers.{kind_told, is_kind, no_kind}
use Rattle.lexer.proofs.pieces.mark_piece.Goals as goal

pub returns-then-eq : goal.returns-then-eq
returns-then-eq c =
    let k = c.mark_kind-kind.result in
    rw (kind_told k, eq-eqb _ _ (is_kind k Assign c.eq.ensures c.if-eq.true)) at (c.mark_kind-kind.ensures c.args.s)

pub returns-else-eq : goal.returns-else-eq
returns-else-eq c =
    let k = c.mark_kind-kind.result in
    rw (kind_told k, ne_eqb _ _ (no_kind k Assign c.eq.ensures c.if-eq.false)) at (c.mark_kind-kind.ensures c.args.s)
