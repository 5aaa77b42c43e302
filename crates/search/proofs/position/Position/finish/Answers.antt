-- `finish` meets its contract: the text's refusal, or what is left over the flat form that was read.
use Rattle.std.proofs.Common.{refl}
use Rattle.std.proofs.lemmas.Result.{err_from_is_err_and}
use Rattle.acceptance.proofs.TestTexts.{table_read, table_refused}
use Rattle.pauses.specs.working.Pausing.{finish_of, finish_for, flat_of}
use Rattle.search.specs.Answers.{pause_for}
use Rattle.search.proofs.PausesHeld.{left_read, left_refused}
use Rattle.search.proofs.position.Position.finish.Goals as goal

pub returns-in_err-table-clause-value : goal.returns-in_err-table-clause-value
unfolding finish_of
returns-in_err-table-clause-value c =
    let p = err_from_is_err_and c.from_residual.result c.from_residual.ensures.1 in
    rw (p.1, p.2) (left_refused _ (table_refused _ c.read_table.ensures _ c.in_err-table.was) refl (finish_for (flat_of c.args.text.now) (pause_for c.args.self)) _ _ _).0

pub returns-in_err-table-clause-left : goal.returns-in_err-table-clause-left
unfolding finish_of
returns-in_err-table-clause-left c = (left_refused _ (table_refused _ c.read_table.ensures _ c.in_err-table.was) refl (finish_for (flat_of c.args.text.now) (pause_for c.args.self)) _ _ _).1

pub returns-clause-value : goal.returns-clause-value
unfolding finish_of
returns-clause-value c = (left_read _ (table_read _ c.read_table.ensures _ c.in_ok-table.was) refl (λ M. finish_for M (pause_for c.args.self)) _ _ _ (rw c.from.ensures at c.finish_code.ensures)).0

pub returns-clause-left : goal.returns-clause-left
unfolding finish_of
returns-clause-left c = (left_read _ (table_read _ c.read_table.ensures _ c.in_ok-table.was) refl (λ M. finish_for M (pause_for c.args.self)) _ _ _ (rw c.from.ensures at c.finish_code.ensures)).1
