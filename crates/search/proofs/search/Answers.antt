-- `search` meets its contract: the text's refusal, or what is left over the flat form that was read.
use Rattle.std.proofs.Common.{refl}
use Rattle.std.proofs.lemmas.Result.{err_from_is_err_and}
use Rattle.acceptance.proofs.TestTexts.{table_read, table_refused}
use Rattle.search.proofs.SearchTexts.{search-read, search-refused}
use Rattle.search.proofs.search.Goals as goal

pub returns-in_err-table-clause-value : goal.returns-in_err-table-clause-value
returns-in_err-table-clause-value c =
    let p = err_from_is_err_and c.from_residual.result c.from_residual.ensures.1 in
    rw (p.1, p.2) (search-refused _ (table_refused _ c.read_table.ensures _ c.in_err-table.was) refl _ _ _).0

pub returns-in_err-table-clause-left : goal.returns-in_err-table-clause-left
returns-in_err-table-clause-left c = (search-refused _ (table_refused _ c.read_table.ensures _ c.in_err-table.was) refl _ _ _).1

pub returns-clause-value : goal.returns-clause-value
returns-clause-value c = (search-read _ (table_read _ c.read_table.ensures _ c.in_ok-table.was) refl _ _ _ c.search_code.ensures).0

pub returns-clause-left : goal.returns-clause-left
returns-clause-left c = (search-read _ (table_read _ c.read_table.ensures _ c.in_ok-table.was) refl _ _ _ c.search_code.ensures).1
