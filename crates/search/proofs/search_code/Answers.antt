-- `search_code` meets its contract: the call is refused where a buffer has no room.
use Rattle.std.proofs.lemmas.Result.{err_from_is_err_and}
use Rattle.evaluation.proofs.Powers.{pow_small}
use Rattle.sheets.specs.working.FlatSystem.{system_in}
use Rattle.verdicts.specs.working.Searching.{found_by, search_for}
use Rattle.search.proofs.SearchesLeft.{room_missing, room_there}
use Rattle.search.proofs.search_code.Goals as goal

pub search_room-requires : goal.search_room-requires
search_room-requires c =
    pow_small c.args.table.now.plan.bits c.power-states.result c.args.table.now.sound.few_bits c.power-states.ensures

pub returns-in_err-search_room : goal.returns-in_err-search_room
unfolding search_for
returns-in_err-search_room c =
    let M = system_in c.args.table.now.ops.now c.args.table.now.plan in
    let p = err_from_is_err_and c.from_residual.result c.from_residual.ensures.1 in
    rw (p.1, p.2) (room_missing M (found_by M _ _ _) _ c.power-states.ensures _ _ _ c.in_err-search_room.ensures)

pub returns : goal.returns
unfolding search_for
returns c =
    let M = system_in c.args.table.now.ops.now c.args.table.now.plan in
    room_there M (found_by M _ _ _) _ c.power-states.ensures _ _ _ c.in_ok-search_room.ensures c.search_roomy.ensures
