-- `test` meets its contract: the text's refusal, or the outcome over the flat form that was read.
use Rattle.std.proofs.Common.{refl}
use Rattle.std.proofs.lemmas.Result.{err_from_is_err_and}
use Rattle.acceptance.proofs.TestTexts.{table_read, table_refused, test_read, test-refused}
use Rattle.acceptance.proofs.test.Goals as goal

pub returns-in_err-table-clause-value : goal.returns-in_err-table-clause-value
returns-in_err-table-clause-value c =
    let p = err_from_is_err_and c.from_residual.result c.from_residual.ensures.1 in
    rw (p.1, p.2) (test-refused _ (table_refused _ c.read_table.ensures _ c.in_err-table.was) _ refl _)

pub returns-clause-value : goal.returns-clause-value
returns-clause-value c =
    test_read _ (table_read _ c.read_table.ensures _ c.in_ok-table.was) _ refl _ _ c.test_sheet.ensures
