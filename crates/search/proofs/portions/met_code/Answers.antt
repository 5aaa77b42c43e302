-- `met_code` meets its contract: the call is refused where a table has no room or there is no such state, and else the entry tells.
use mathlib.Core.Path.{ap, ◌∙◌}
use Rattle.std.proofs.lemmas.Result.{err_from_is_err_and}
use Rattle.std.specs.Prelude.{Err}
use Rattle.refusals.specs.Reasons.{reason_of}
use Rattle.conditions.specs.declared.outcome.Declined.TheVariants.{Refused}
use Rattle.sheets.specs.working.FlatSystem.{system_in}
use Rattle.search.proofs.PausesHeld.{unasked, no-state, entry-told}
use Rattle.search.proofs.portions.met_code.Goals as goal

pub returns-in_err-table_room : goal.returns-in_err-table_room
returns-in_err-table_room c =
    let p = err_from_is_err_and c.from_residual.result c.from_residual.ensures.1 in
    rw (p.1, p.2) (unasked (system_in c.args.table.now.ops.now c.args.table.now.plan) _ c.power-states.ensures _ _ _ c.in_err-table_room.ensures)

pub returns-then-states-state : goal.returns-then-states-state
unfolding reason_of
returns-then-states-state c =
    ap (λ x. Err (Refused x)) c.at.ensures ∙ (no-state (system_in c.args.table.now.ops.now c.args.table.now.plan) _ c.power-states.ensures _ _ _ c.in_ok-table_room.ensures c.if-states-state.true)

pub returns : goal.returns
returns c =
    entry-told (system_in c.args.table.now.ops.now c.args.table.now.plan) _ c.power-states.ensures _ _ _ c.in_ok-table_room.ensures c.if-states-state.false
