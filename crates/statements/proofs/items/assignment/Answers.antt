-- `assignment` meets its contract: the name is looked up and counted, `:=` asked for, and the expression's code followed by the store.
use mathlib.Core.Path.{refl, sym, ◌∙◌}
use native.Mathlib.Omega.{arith}
use Prim.Native.Nat.{◌<◌}
use Rattle.lexer.proofs.Lookup.{some_name, no_name}
use Rattle.statements.proofs.StoredCode.{wrote_none, passed, said_ok, was_stopped}
use Rattle.statements.proofs.Moves.{is-past, ready-less}
use Rattle.statements.proofs.Sequences.{done_room}
use Rattle.statements.proofs.ItemForms.{assign-unknown, assign_full, assign_bad, value-ready, value_bad, target-ordered, target-few, assign-says}
use Rattle.statements.specs.working.Cursors.{Ready, was_refused}
use Rattle.statements.proofs.items.assignment.Goals as goal
use Rattle.statements.proofs.items.assignment.Goals.{In-Some, In_ok-expect}

-- A reader may be called past the sign.
ready : (c : In_ok-expect) → Ready c.args.text.now c.args.l 1 c.expect.new.self
ready c =
    let s = some_name (sym c.find_name.ensures ∙ c.in-Some.is) in
    value-ready _ c.args.names.now _ _ c.requires.0 c.args.rows _ _ _ c.first_target-from.ensures
    c.visible-to.ensures s.0 s.1 c.if-c-ge-MAX_ITEMS.false _ (is-past c.pass.ensures)
    _ c.in_ok-expect.ensures.says

-- The name's number is small.
few : (c : In-Some) → c.in-Some.i < 12
few c =
    let s = some_name (sym c.find_name.ensures ∙ c.in-Some.is) in
    target-few _ c.args.names.now _ _ c.requires.0 c.args.rows _ _ _ c.first_target-from.ensures
    c.visible-to.ensures s.0
    c.requires.0.names s.1

pub returns-in_default : goal.returns-in_default
returns-in_default c =
    was_stopped c.at.ensures
    (assign-unknown _ c.args.names.now _ _ c.requires.0 c.args.rows _ _ _ c.first_target-from.ensures
    c.visible-to.ensures refl
    (no_name _ _ _ _ _ (target-ordered c.args.rows c.args.l.shared c.args.l.row _ _ c.first_target-from.ensures c.visible-to.ensures) (sym c.find_name.ensures ∙ c.in_default.is)))
    wrote_none

pub returns-then-c-ge-MAX_ITEMS : goal.returns-then-c-ge-MAX_ITEMS
returns-then-c-ge-MAX_ITEMS c =
    let s = some_name (sym c.find_name.ensures ∙ c.in-Some.is) in
    was_stopped c.at-then-c-ge-MAX_ITEMS.ensures
    (assign_full _ c.args.names.now _ _ c.requires.0 c.args.rows _ _ _ c.first_target-from.ensures
    c.visible-to.ensures s.0
    s.1 c.if-c-ge-MAX_ITEMS.true)
    wrote_none

pub returns-in_err-expect : goal.returns-in_err-expect
returns-in_err-expect c =
    let s = some_name (sym c.find_name.ensures ∙ c.in-Some.is) in
    rw (passed c.from_residual.result c.from_residual.ensures.1)
    (was_refused
    (assign_bad _ c.args.names.now _ _ c.requires.0 c.args.rows _ _ _ c.first_target-from.ensures
    c.visible-to.ensures s.0
    s.1 c.if-c-ge-MAX_ITEMS.false _ (is-past c.pass.ensures) _ c.in_err-expect.ensures.says)
    wrote_none)

pub or_level-requires : goal.or_level-requires
or_level-requires c =
    (omega arith, ready-less (ready (goal.at.or_level-requires c).In_ok-expect) (omega arith))

pub returns-in_err-or_level : goal.returns-in_err-or_level
returns-in_err-or_level c =
    let s = some_name (sym c.find_name.ensures ∙ c.in-Some.is) in
    rw (passed c.from_residual-in_err-or_level.result c.from_residual-in_err-or_level.ensures.1)
    (value_bad _ c.args.names.now _ _ c.requires.0 c.args.rows _ _ _ c.first_target-from.ensures
    c.visible-to.ensures s.0
    s.1 c.if-c-ge-MAX_ITEMS.false _ (is-past c.pass.ensures) _ c.in_ok-expect.ensures.says
    c.in_err-or_level.ensures)

pub overflow_cast-i : goal.overflow_cast-i
overflow_cast-i c =
    omega (arith, few (goal.at.overflow_cast-i c).In-Some)

pub overflow_add-i : goal.overflow_add-i
overflow_add-i c =
    omega (arith, few (goal.at.overflow_add-i c).In-Some)

pub emit-requires : goal.emit-requires
emit-requires c =
    done_room 0 (ready (goal.at.emit-requires c).In_ok-expect) (said_ok c.in_ok-or_level.ensures)

pub returns : goal.returns
returns c =
    let s = some_name (sym c.find_name.ensures ∙ c.in-Some.is) in
    assign-says _ c.args.names.now _ _ c.requires.0 c.args.rows _ _ _ c.first_target-from.ensures
    c.visible-to.ensures s.0
    s.1 c.if-c-ge-MAX_ITEMS.false _ (is-past c.pass.ensures) _ c.in_ok-expect.ensures.says
    (said_ok c.in_ok-or_level.ensures) c.emit.ensures
