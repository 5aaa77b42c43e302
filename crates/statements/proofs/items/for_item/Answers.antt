-- `for_item` meets its contract: its condition and its two branches, each followed by its sign and its code word.
use mathlib.Core.Bool.{true}
use native.Mathlib.Omega.{arith}
use Rattle.statements.proofs.Moves.{is-past, ready-less}
use Rattle.statements.proofs.StoredCode.{wrote_none, passed, said_ok, was_stopped}
use Rattle.statements.proofs.TwoBranches.{test_bad, first_bad, yes-ready, done_bad, mid_room, second_bad, no-ready}
use Rattle.statements.proofs.TwoBranches.{rest_bad, rest_room, tested-says}
use Rattle.statements.proofs.ItemForms.{for_full, for-ready, for-says}
use Rattle.statements.specs.working.Cursors.{Ready}
use Rattle.statements.proofs.items.for_item.Goals as goal
use Rattle.statements.proofs.items.for_item.Goals.{After-pass}

-- A reader may be called past `for`.
ready : (c : After-pass) → Ready c.args.text.now c.args.l 3 c.pass.new.self
ready c =
    for-ready _ c.args.names.now _ _ c.requires.0 c.requires.1 c.if-c-ge-MAX_ITEMS.false _ (is-past c.pass.ensures)

pub returns-then-c-ge-MAX_ITEMS : goal.returns-then-c-ge-MAX_ITEMS
returns-then-c-ge-MAX_ITEMS c =
    was_stopped c.at.ensures (for_full _ _ _ _ c.requires.0 c.requires.1 c.if-c-ge-MAX_ITEMS.true)
    wrote_none

pub or_level-requires : goal.or_level-requires
or_level-requires c =
    (omega arith, ready-less (ready (goal.at.or_level-requires c).After-pass) (omega arith))

pub returns-in_err-or_level : goal.returns-in_err-or_level
returns-in_err-or_level c =
    rw (passed c.from_residual.result c.from_residual.ensures.1)
    (for-says _ _ _ _ c.requires.0 c.requires.1 c.if-c-ge-MAX_ITEMS.false _ (is-past c.pass.ensures) _ _ _
    (test_bad _ _ _ true 10 c.in_err-or_level.ensures))

pub returns-in_err-mark : goal.returns-in_err-mark
returns-in_err-mark c =
    rw (passed c.from_residual-in_err-mark.result c.from_residual-in_err-mark.ensures.1)
    (for-says _ _ _ _ c.requires.0 c.requires.1 c.if-c-ge-MAX_ITEMS.false _ (is-past c.pass.ensures) _ _ _
    (first_bad _ _ _ true 10 (omega arith) (ready (goal.at.returns-in_err-mark c).After-pass) (said_ok c.in_ok-or_level.ensures) _ _ c.in_err-mark.ensures.says))

pub row_items-requires : goal.row_items-requires
row_items-requires c =
    yes-ready _ _ _ true 10 (omega arith) (ready (goal.at.row_items-requires c).After-pass)
    (said_ok c.in_ok-or_level.ensures) _ _ c.in_ok-mark.ensures.says

pub returns-in_err-row_items : goal.returns-in_err-row_items
returns-in_err-row_items c =
    rw (passed c.from_residual-in_err-row_items.result c.from_residual-in_err-row_items.ensures.1)
    (for-says _ _ _ _ c.requires.0 c.requires.1 c.if-c-ge-MAX_ITEMS.false _ (is-past c.pass.ensures) _ _ _
    (done_bad _ _ _ true 10 (omega arith) (ready (goal.at.returns-in_err-row_items c).After-pass) (said_ok c.in_ok-or_level.ensures) _ _ c.in_ok-mark.ensures.says c.in_err-row_items.ensures))

pub mark-requires-2 : goal.mark-requires-2
mark-requires-2 c =
    mid_room _ _ _ true 10 (omega arith) (ready (goal.at.mark-requires-2 c).After-pass)
    (said_ok c.in_ok-or_level.ensures) _ _ c.in_ok-mark.ensures.says
    (said_ok c.in_ok-row_items.ensures)

pub returns-in_err-mark-2 : goal.returns-in_err-mark-2
returns-in_err-mark-2 c =
    rw (passed c.from_residual-in_err-mark-2.result c.from_residual-in_err-mark-2.ensures.1)
    (for-says _ _ _ _ c.requires.0 c.requires.1 c.if-c-ge-MAX_ITEMS.false _ (is-past c.pass.ensures) _ _ _
    (second_bad _ _ _ true 10 (omega arith) (ready (goal.at.returns-in_err-mark-2 c).After-pass) (said_ok c.in_ok-or_level.ensures) _ _ c.in_ok-mark.ensures.says
    (said_ok c.in_ok-row_items.ensures) _ _ c.in_err-mark-2.ensures.says))

pub row_items-requires-2 : goal.row_items-requires-2
row_items-requires-2 c =
    no-ready _ _ _ true 10 (omega arith) (ready (goal.at.row_items-requires-2 c).After-pass)
    (said_ok c.in_ok-or_level.ensures) _ _ c.in_ok-mark.ensures.says
    (said_ok c.in_ok-row_items.ensures) _ _ c.in_ok-mark-2.ensures.says

pub returns-in_err-row_items-2 : goal.returns-in_err-row_items-2
returns-in_err-row_items-2 c =
    rw (passed c.from_residual-in_err-row_items-2.result c.from_residual-in_err-row_items-2.ensures.1)
    (for-says _ _ _ _ c.requires.0 c.requires.1 c.if-c-ge-MAX_ITEMS.false _ (is-past c.pass.ensures) _ _ _
    (rest_bad _ _ _ true 10 (omega arith) (ready (goal.at.returns-in_err-row_items-2 c).After-pass) (said_ok c.in_ok-or_level.ensures) _ _ c.in_ok-mark.ensures.says
    (said_ok c.in_ok-row_items.ensures) _ _ c.in_ok-mark-2.ensures.says c.in_err-row_items-2.ensures))

pub mark-requires-3 : goal.mark-requires-3
mark-requires-3 c =
    rest_room _ _ _ true 10 (omega arith) (ready (goal.at.mark-requires-3 c).After-pass)
    (said_ok c.in_ok-or_level.ensures) _ _ c.in_ok-mark.ensures.says
    (said_ok c.in_ok-row_items.ensures) _ _ c.in_ok-mark-2.ensures.says
    (said_ok c.in_ok-row_items-2.ensures)

pub returns : goal.returns
returns c =
    for-says _ _ _ _ c.requires.0 c.requires.1 c.if-c-ge-MAX_ITEMS.false _ (is-past c.pass.ensures) _ _ _
    (tested-says _ _ _ true 10 (omega arith) (ready (goal.at.returns c).After-pass)
    (said_ok c.in_ok-or_level.ensures) _ _ c.in_ok-mark.ensures.says
    (said_ok c.in_ok-row_items.ensures) _ _ c.in_ok-mark-2.ensures.says
    (said_ok c.in_ok-row_items-2.ensures) _ _ c.mark-3.ensures.says)
