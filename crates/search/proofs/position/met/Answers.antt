-- `met` meets its contract: the text's refusal, or what the table of parents says.
use Rattle.std.proofs.Common.{refl}
use Rattle.std.proofs.lemmas.Result.{err_from_is_err_and}
use Rattle.acceptance.proofs.TestTexts.{table_read, table_refused}
use Rattle.search.proofs.PausesHeld.{met-read, met-refused}
use Rattle.search.proofs.position.met.Goals as goal

pub returns-in_err-table : goal.returns-in_err-table
returns-in_err-table c =
    let p = err_from_is_err_and c.from_residual.result c.from_residual.ensures.1 in
    rw (p.1, p.2) (met-refused _ (table_refused _ c.read_table.ensures _ c.in_err-table.was) refl _ _ _)

pub returns : goal.returns
returns c =
    met-read _ (table_read _ c.read_table.ensures _ c.in_ok-table.was) refl _ _ _ c.met_code.ensures
