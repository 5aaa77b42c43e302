-- `items` meets its contract: what the loop has still to read gives what all of it gave.
use mathlib.Core.Bool.{false}
use native.Mathlib.Omega.{arith}
use Rattle.lexer.specs.declared.pieces.Kind.TheVariants.{Semi}
use Rattle.lexer.proofs.KindNumbers.{is_kind, no_kind}
use Rattle.statements.specs.working.Cursors.{was_read}
use Rattle.statements.proofs.Moves.{is-past}
use Rattle.statements.proofs.StoredCode.{passed, said_ok}
use Rattle.statements.proofs.ItemLoops.{first_bad, rest-first, rest-stop, rest_bad, turn_none, turn_ready}
use Rattle.statements.proofs.ItemLoops.{turn_less, turn_more}
use Rattle.statements.proofs.ItemLists.{item_series}
use Rattle.statements.proofs.items.items.Goals as goal

pub returns-then-rows : goal.returns-then-rows
returns-then-rows c =
    rw c.if-rows.true c.row_items.ensures

pub returns-in_err-item : goal.returns-in_err-item
returns-in_err-item c =
    rw (c.if-rows.false, passed c.from_residual.result c.from_residual.ensures.1)
    (first_bad (item_series c.args.text.now c.args.names.now c.args.l false) c.in_err-item.ensures)

pub list-init : goal.list-init
list-init c =
    turn_none
    (said_ok c.in_ok-item.ensures) c.requires

pub item-requires-in-list : goal.item-requires-in-list
item-requires-in-list c =
    turn_ready c.list.invariant (is-past c.pass.ensures)

pub returns-in_err-item-2 : goal.returns-in_err-item-2
returns-in_err-item-2 c =
    rw (c.if-rows.false, passed c.from_residual-in_err-item-2.result c.from_residual-in_err-item-2.ensures.1)
    (rest_bad
    (c.list.invariant.back _ _ _
    (rest-first
    (said_ok c.in_ok-item.ensures)))
    (is_kind c.list.c.next.kind Semi c.eq.ensures c.list-test.true) (is-past c.pass.ensures)
    c.in_err-item-2.ensures)

pub list-smaller : goal.list-smaller
list-smaller c =
    let k = turn_less c.list.invariant (is-past c.pass.ensures)
    (said_ok c.in_ok-item-2.ensures) in
    omega (arith, k.0, k.1, k.2)

pub list-preserved : goal.list-preserved
list-preserved c =
    turn_more c.list.invariant (is-past c.pass.ensures) (is_kind c.list.c.next.kind Semi c.eq.ensures c.list-test.true)
    (said_ok c.in_ok-item-2.ensures)

pub returns : goal.returns
returns c =
    rw c.if-rows.false (was_read
    (rest-stop
    (c.list.invariant.back _ _ _
    (rest-first
    (said_ok c.in_ok-item.ensures)))
    (no_kind c.list.c.next.kind Semi c.eq.ensures c.list-test.false)))
