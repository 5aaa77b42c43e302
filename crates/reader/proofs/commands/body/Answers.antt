-- `body` meets its contract: `if`, and then a test and its two branches, each followed by its sign and its code word.
use mathlib.Core.Bool.{false}
use native.Mathlib.Omega.{arith}
use Rattle.statements.specs.working.Cursors.{Ready, was_refused}
use Rattle.statements.proofs.Moves.{ready-less}
use Rattle.statements.proofs.StoredCode.{wrote_none, passed, said_ok}
use Rattle.statements.proofs.TwoBranches.{test_bad, test_room, first_bad, yes-ready, done_bad, mid_room, second_bad, no-ready}
use Rattle.statements.proofs.TwoBranches.{rest_bad, rest_room, tested-says}
use Rattle.reader.proofs.Bodies.{body_bad, body-ready, body-says}
use Rattle.reader.proofs.commands.body.Goals as goal
use Rattle.reader.proofs.commands.body.Goals.{In_ok-expect}

-- A reader may be called past the sign.
ready : (c : In_ok-expect) → Ready c.args.text.now c.args.l 3 c.expect.new.self
ready c =
    body-ready _ c.args.names.now _ _ c.requires _ c.in_ok-expect.ensures.says

pub returns-in_err-expect : goal.returns-in_err-expect
returns-in_err-expect c =
    rw (passed c.from_residual.result c.from_residual.ensures.1)
    (was_refused (body_bad _ _ _ _ c.requires _ c.in_err-expect.ensures.says) wrote_none)

pub or_level-requires : goal.or_level-requires
or_level-requires c =
    (omega arith, ready-less (ready (goal.at.or_level-requires c).In_ok-expect) (omega arith))

pub returns-in_err-or_level : goal.returns-in_err-or_level
returns-in_err-or_level c =
    rw (passed c.from_residual-in_err-or_level.result c.from_residual-in_err-or_level.ensures.1)
    (body-says _ _ _ _ c.requires _ c.in_ok-expect.ensures.says _ _ _
    (test_bad _ _ _ false 18 c.in_err-or_level.ensures))

pub mark-requires : goal.mark-requires
mark-requires c =
    test_room _ _ _ false 18 (omega arith) (ready (goal.at.mark-requires c).In_ok-expect)
    (said_ok c.in_ok-or_level.ensures)

pub returns-in_err-mark : goal.returns-in_err-mark
returns-in_err-mark c =
    rw (passed c.from_residual-in_err-mark.result c.from_residual-in_err-mark.ensures.1)
    (body-says _ _ _ _ c.requires _ c.in_ok-expect.ensures.says _ _ _
    (first_bad _ _ _ false 18 (omega arith) (ready (goal.at.returns-in_err-mark c).In_ok-expect) (said_ok c.in_ok-or_level.ensures) _ _ c.in_err-mark.ensures.says))

pub items-requires : goal.items-requires
items-requires c =
    yes-ready _ _ _ false 18 (omega arith) (ready (goal.at.items-requires c).In_ok-expect)
    (said_ok c.in_ok-or_level.ensures) _ _ c.in_ok-mark.ensures.says

pub returns-in_err-items : goal.returns-in_err-items
returns-in_err-items c =
    rw (passed c.from_residual-in_err-items.result c.from_residual-in_err-items.ensures.1)
    (body-says _ _ _ _ c.requires _ c.in_ok-expect.ensures.says _ _ _
    (done_bad _ _ _ false 18 (omega arith) (ready (goal.at.returns-in_err-items c).In_ok-expect) (said_ok c.in_ok-or_level.ensures) _ _ c.in_ok-mark.ensures.says c.in_err-items.ensures))

pub mark-requires-2 : goal.mark-requires-2
mark-requires-2 c =
    mid_room _ _ _ false 18 (omega arith) (ready (goal.at.mark-requires-2 c).In_ok-expect)
    (said_ok c.in_ok-or_level.ensures) _ _ c.in_ok-mark.ensures.says
    (said_ok c.in_ok-items.ensures)

pub returns-in_err-mark-2 : goal.returns-in_err-mark-2
returns-in_err-mark-2 c =
    rw (passed c.from_residual-in_err-mark-2.result c.from_residual-in_err-mark-2.ensures.1)
    (body-says _ _ _ _ c.requires _ c.in_ok-expect.ensures.says _ _ _
    (second_bad _ _ _ false 18 (omega arith) (ready (goal.at.returns-in_err-mark-2 c).In_ok-expect) (said_ok c.in_ok-or_level.ensures) _ _ c.in_ok-mark.ensures.says
    (said_ok c.in_ok-items.ensures) _ _ c.in_err-mark-2.ensures.says))

pub items-requires-2 : goal.items-requires-2
items-requires-2 c =
    no-ready _ _ _ false 18 (omega arith) (ready (goal.at.items-requires-2 c).In_ok-expect)
    (said_ok c.in_ok-or_level.ensures) _ _ c.in_ok-mark.ensures.says
    (said_ok c.in_ok-items.ensures) _ _ c.in_ok-mark-2.ensures.says

pub returns-in_err-items-2 : goal.returns-in_err-items-2
returns-in_err-items-2 c =
    rw (passed c.from_residual-in_err-items-2.result c.from_residual-in_err-items-2.ensures.1)
    (body-says _ _ _ _ c.requires _ c.in_ok-expect.ensures.says _ _ _
    (rest_bad _ _ _ false 18 (omega arith) (ready (goal.at.returns-in_err-items-2 c).In_ok-expect) (said_ok c.in_ok-or_level.ensures) _ _ c.in_ok-mark.ensures.says
    (said_ok c.in_ok-items.ensures) _ _ c.in_ok-mark-2.ensures.says c.in_err-items-2.ensures))

pub mark-requires-3 : goal.mark-requires-3
mark-requires-3 c =
    rest_room _ _ _ false 18 (omega arith) (ready (goal.at.mark-requires-3 c).In_ok-expect)
    (said_ok c.in_ok-or_level.ensures) _ _ c.in_ok-mark.ensures.says
    (said_ok c.in_ok-items.ensures) _ _ c.in_ok-mark-2.ensures.says
    (said_ok c.in_ok-items-2.ensures)

pub returns : goal.returns
returns c =
    body-says _ _ _ _ c.requires _ c.in_ok-expect.ensures.says _ _ _
    (tested-says _ _ _ false 18 (omega arith) (ready (goal.at.returns c).In_ok-expect)
    (said_ok c.in_ok-or_level.ensures) _ _ c.in_ok-mark.ensures.says
    (said_ok c.in_ok-items.ensures) _ _ c.in_ok-mark-2.ensures.says
    (said_ok c.in_ok-items-2.ensures) _ _ c.mark-3.ensures.says)
