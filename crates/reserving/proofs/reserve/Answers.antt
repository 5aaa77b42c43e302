-- `reserve` meets its contract: the text's refusal, or what the plan of its model tells.
use Rattle.std.proofs.Common.{refl}
use Rattle.std.proofs.lemmas.Result.{err_from_is_err_and}
use Rattle.acceptance.proofs.TestTexts.{table_read, table_refused}
use Rattle.reserving.proofs.ReserveTexts.{was_read_lem, was_refused_lem}
use Rattle.reserving.proofs.reserve.Goals as goal

pub returns-in_err-table : goal.returns-in_err-table
returns-in_err-table c =
    let p = err_from_is_err_and c.from_residual.result c.from_residual.ensures.1 in
    rw (p.1, p.2) (was_refused_lem _ (table_refused _ c.read_table.ensures _ c.in_err-table.was) _ refl)

pub returns : goal.returns
returns c =
    was_read_lem _ (table_read _ c.read_table.ensures _ c.in_ok-table.was) _ refl _ c.needs_of.ensures
