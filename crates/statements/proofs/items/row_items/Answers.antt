-- `row_items` meets its contract: what the loop has still to read gives what all of it gave.
use mathlib.Core.Bool.{true}
use native.Mathlib.Omega.{arith}
use Rattle.lexer.specs.declared.pieces.Kind.TheVariants.{Semi}
use Rattle.lexer.proofs.KindNumbers.{is_kind, no_kind}
use Rattle.statements.specs.working.Cursors.{was_read}
use Rattle.statements.proofs.Moves.{is-past}
use Rattle.statements.proofs.StoredCode.{passed, said_ok}
use Rattle.statements.proofs.ItemLoops.{first_bad, rest-first, rest-stop, rest_bad, turn_none, turn_ready}
use Rattle.statements.proofs.ItemLoops.{turn_less, turn_more}
use Rattle.statements.proofs.ItemLists.{item_series}
use Rattle.statements.proofs.items.row_items.Goals as goal

pub returns-in_err-row_item : goal.returns-in_err-row_item
returns-in_err-row_item c =
    rw (passed c.from_residual.result c.from_residual.ensures.1)
    (first_bad (item_series c.args.text.now c.args.names.now c.args.l true) c.in_err-row_item.ensures)

pub rows-init : goal.rows-init
rows-init c =
    turn_none
    (said_ok c.in_ok-row_item.ensures) c.requires

pub row_item-requires-in-rows : goal.row_item-requires-in-rows
row_item-requires-in-rows c =
    turn_ready c.rows.invariant (is-past c.pass.ensures)

pub returns-in_err-row_item-2 : goal.returns-in_err-row_item-2
returns-in_err-row_item-2 c =
    rw (passed c.from_residual-in_err-row_item-2.result c.from_residual-in_err-row_item-2.ensures.1)
    (rest_bad
    (c.rows.invariant.back _ _ _
    (rest-first
    (said_ok c.in_ok-row_item.ensures)))
    (is_kind c.rows.c.next.kind Semi c.eq.ensures c.rows-test.true) (is-past c.pass.ensures)
    c.in_err-row_item-2.ensures)

pub rows-smaller : goal.rows-smaller
rows-smaller c =
    let k = turn_less c.rows.invariant (is-past c.pass.ensures)
    (said_ok c.in_ok-row_item-2.ensures) in
    omega (arith, k.0, k.1, k.2)

pub rows-preserved : goal.rows-preserved
rows-preserved c =
    turn_more c.rows.invariant (is-past c.pass.ensures) (is_kind c.rows.c.next.kind Semi c.eq.ensures c.rows-test.true)
    (said_ok c.in_ok-row_item-2.ensures)

pub returns : goal.returns
returns c =
    was_read
    (rest-stop
    (c.rows.invariant.back _ _ _
    (rest-first
    (said_ok c.in_ok-row_item.ensures)))
    (no_kind c.rows.c.next.kind Semi c.eq.ensures c.rows-test.false))
