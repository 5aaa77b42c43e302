-- `open` meets its contract: the text's refusal, or what is left over the flat form that was read.
use Rattle.std.proofs.Common.{refl}
use Rattle.std.proofs.lemmas.Result.{err_from_is_err_and}
use Rattle.acceptance.proofs.TestTexts.{table_read, table_refused}
use Rattle.pauses.specs.working.Pausing.{open_of, open_for, flat_of}
use Rattle.search.specs.Answers.{wording_of}
use Rattle.search.proofs.PausesHeld.{held_read, held_refused}
use Rattle.search.proofs.position.open.Goals as goal

pub returns-in_err-table-clause-result_value : goal.returns-in_err-table-clause-result_value
unfolding open_of wording_of
returns-in_err-table-clause-result_value c =
    let p = err_from_is_err_and c.from_residual.result c.from_residual.ensures.1 in
    rw (p.1, p.2) (held_refused _ (table_refused _ c.read_table.ensures _ c.in_err-table.was) refl (open_for (flat_of c.args.text.now)) _ _).0

pub returns-in_err-table-clause-left : goal.returns-in_err-table-clause-left
unfolding open_of
returns-in_err-table-clause-left c = (held_refused _ (table_refused _ c.read_table.ensures _ c.in_err-table.was) refl (open_for (flat_of c.args.text.now)) _ _).1

pub returns-clause-result_value : goal.returns-clause-result_value
unfolding open_of
returns-clause-result_value c = (held_read _ (table_read _ c.read_table.ensures _ c.in_ok-table.was) refl open_for _ _ c.open_code.ensures).0

pub returns-clause-left : goal.returns-clause-left
unfolding open_of
returns-clause-left c = (held_read _ (table_read _ c.read_table.ensures _ c.in_ok-table.was) refl open_for _ _ c.open_code.ensures).1
