-- `portion` meets its contract: the text's refusal, or what is left over the flat form that was read.
use Rattle.std.proofs.Common.{refl}
use Rattle.std.proofs.lemmas.Result.{err_from_is_err_and}
use Rattle.acceptance.proofs.TestTexts.{table_read, table_refused}
use Rattle.pauses.specs.working.Pausing.{portion_of, portion_for, flat_of}
use Rattle.search.specs.Answers.{wording_of, pause_for}
use Rattle.search.proofs.PausesHeld.{held_read, held_refused}
use Rattle.search.proofs.position.Position.portion.Goals as goal

pub returns-in_err-table-clause-result_value : goal.returns-in_err-table-clause-result_value
unfolding portion_of wording_of
returns-in_err-table-clause-result_value c =
    let p = err_from_is_err_and c.from_residual.result c.from_residual.ensures.1 in
    rw (p.1, p.2) (held_refused _ (table_refused _ c.read_table.ensures _ c.in_err-table.was) refl (portion_for (flat_of c.args.text.now) (pause_for c.args.self) c.args.states) _ _).0

pub returns-in_err-table-clause-left : goal.returns-in_err-table-clause-left
unfolding portion_of
returns-in_err-table-clause-left c = (held_refused _ (table_refused _ c.read_table.ensures _ c.in_err-table.was) refl (portion_for (flat_of c.args.text.now) (pause_for c.args.self) c.args.states) _ _).1

pub returns-clause-result_value : goal.returns-clause-result_value
unfolding portion_of
returns-clause-result_value c = (held_read _ (table_read _ c.read_table.ensures _ c.in_ok-table.was) refl (λ M. portion_for M (pause_for c.args.self) c.args.states) _ _ (rw c.from.ensures at c.portion_code.ensures)).0

pub returns-clause-left : goal.returns-clause-left
unfolding portion_of
returns-clause-left c = (held_read _ (table_read _ c.read_table.ensures _ c.in_ok-table.was) refl (λ M. portion_for M (pause_for c.args.self) c.args.states) _ _ (rw c.from.ensures at c.portion_code.ensures)).1
