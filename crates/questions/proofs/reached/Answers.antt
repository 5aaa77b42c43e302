-- `reached` meets its contract: the text's refusal, or what the sheet is asked.
use mathlib.Core.Path.{refl, sym, ap, ◌∙◌}
use Rattle.std.specs.Prelude.{Err}
use Rattle.std.proofs.lemmas.Result.{err_from_is_err_and}
use Rattle.acceptance.proofs.TestTexts.{table_refused}
use Rattle.questions.proofs.ReachedTexts.{reached_refused}
use Rattle.questions.proofs.reached.Goals as goal

pub returns-in_err-table-clause-value : goal.returns-in_err-table-clause-value
returns-in_err-table-clause-value c =
    let p = err_from_is_err_and c.from_residual.result c.from_residual.ensures.1 in
    p.1 ∙ ap Err p.2 ∙ sym (reached_refused _ _ _ (table_refused _ c.in_err-table.ensures _ refl))
