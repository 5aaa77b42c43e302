-- `commands` meets its contract: what the loop has still to read gives what all of it gave.
use native.Mathlib.Omega.{arith}
use Rattle.lexer.specs.declared.pieces.Kind.TheVariants.{Command}
use Rattle.lexer.proofs.KindNumbers.{other_kind, same_kinds}
use Rattle.statements.proofs.StoredCode.{passed}
use Rattle.reader.proofs.CommandLists.{going_none, going_bad, going-stop, going_less, going_more}
use Rattle.reader.proofs.commands.commands.Goals as goal

pub each-init : goal.each-init
each-init c = going_none _ _ _ _ c.requires.0 c.requires.1

pub returns-in_err-command : goal.returns-in_err-command
returns-in_err-command c =
    rw (passed c.from_residual.result c.from_residual.ensures.1)
    (going_bad _ _ _ _ _ _ _ c.each.invariant _ _ c.in_err-command.ensures)

pub returns-then-ne : goal.returns-then-ne
returns-then-ne c =
    going-stop _ _ _ _ _ _ _ c.each.invariant _ _ _ c.in_ok-command.ensures (other_kind c.command.new.c.next.kind Command c.ne.ensures c.if-ne.true)

pub each-smaller : goal.each-smaller
each-smaller c =
    let z = going_less _ _ _ _ _ _ _ c.each.invariant _ _ _ c.in_ok-command.ensures in
    omega (arith, z.0, z.1)

pub each-preserved : goal.each-preserved
each-preserved c =
    going_more _ _ _ _ _ _ _ c.each.invariant _ _ _ c.in_ok-command.ensures (same_kinds c.command.new.c.next.kind Command c.ne.ensures c.if-ne.false)
