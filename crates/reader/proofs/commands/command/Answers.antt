-- `command` meets its contract: its title and its body are read, and its end and its number of stars stored.
use Prim.Native.Nat.{◌<◌}
use native.Mathlib.Omega.{arith}
use Rattle.statements.proofs.StoredCode.{passed}
use Rattle.reader.proofs.OneCommand.{title-refused, title-ready, title-few, body_refused, command-small}
use Rattle.reader.proofs.OneCommand.{command-says}
use Rattle.reader.proofs.commands.command.Goals as goal
use Rattle.reader.proofs.commands.command.Goals.{In_ok-title, In_ok-body}

-- There are few commands, and what is stored of one is small.
few : (c : In_ok-title) → c.args.l.now.commands < 16
few c =
    title-few c.requires.0 _ _ _ c.in_ok-title.ensures

small : (c : In_ok-body) → (c.body.new.c.emitted < 65536) × (c.body.new.c.stars < 65536)
small c =
    command-small c.requires.0 _ _ _ c.in_ok-title.ensures c.in_ok-body.ensures

pub returns-in_err-title : goal.returns-in_err-title
returns-in_err-title c =
    rw (passed c.from_residual.result c.from_residual.ensures.1)
    (title-refused c.requires.0 _ c.args.ops.now c.args.ends.now c.args.stars.now _ c.in_err-title.ensures)

pub body-requires : goal.body-requires
body-requires c =
    title-ready c.requires.0 _ _ _ c.in_ok-title.ensures

pub returns-in_err-body : goal.returns-in_err-body
returns-in_err-body c =
    rw (passed c.from_residual-in_err-body.result c.from_residual-in_err-body.ensures.1)
    (body_refused c.requires.0 _ _ _ c.in_ok-title.ensures c.args.ends.now c.args.stars.now c.in_err-body.ensures)

pub overflow_cast-ends : goal.overflow_cast-ends
overflow_cast-ends c =
    omega (arith, (small (goal.at.overflow_cast-ends c).In_ok-body).0)

pub bounds-ends-k : goal.bounds-ends-k
bounds-ends-k c =
    omega (arith, few (goal.at.bounds-ends-k c).In_ok-title)

pub bounds-stars-k : goal.bounds-stars-k
bounds-stars-k c =
    omega (arith, few (goal.at.bounds-stars-k c).In_ok-title)

pub returns : goal.returns
returns c =
    command-says c.requires.0 _ _ _ c.in_ok-title.ensures c.in_ok-body.ensures c.args.ends.now c.args.stars.now
