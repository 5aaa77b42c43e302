-- `open_code` meets its contract: the call is refused where a table has no room, and else the start states are taken in.
use Rattle.std.proofs.lemmas.Result.{err_from_is_err_and}
use Rattle.sheets.specs.working.FlatSystem.{system_in}
use Rattle.exploration.specs.working.Found.{transitions_of}
use Rattle.exploration.specs.working.Pauses.{opened}
use Rattle.pauses.specs.working.Pausing.{open_for, held_by}
use Rattle.search.specs.Answers.{wording_of}
use Rattle.search.proofs.PausesHeld.{told-refused, told_due, open_held}
use Rattle.search.proofs.portions.open_code.Goals as goal

pub returns-in_err-table_room : goal.returns-in_err-table_room
unfolding open_for wording_of
returns-in_err-table_room c =
    let M = system_in c.args.table.now.ops.now c.args.table.now.plan in
    let p = err_from_is_err_and c.from_residual.result c.from_residual.ensures.1 in
    rw (p.1, p.2) (told-refused M _ c.power-states.ensures _ _ (held_by (opened (transitions_of M)) _ _) c.in_err-table_room.ensures)

pub returns : goal.returns
unfolding open_for wording_of
returns c =
    let M = system_in c.args.table.now.ops.now c.args.table.now.plan in
    rw (c.from.ensures)
    (told_due M _ c.power-states.ensures _ _ (held_by (opened (transitions_of M)) _ _) c.in_ok-table_room.ensures
    (open_held c.args.table.now.ops.now c.args.table.now.plan _ _ c.begin-reach.ensures.began _ _ c.begin-reach.ensures.head_value))
