-- `search_showing` meets its contract: portions and finishing leave what a search in one go leaves.
use native.Mathlib.Omega.{arith}
use mathlib.Core.Path.{sym, ap, ◌∙◌}
use Rattle.std.proofs.lemmas.Result.{err_from_is_err_and}
use Rattle.search.specs.Answers.{wording_of}
use Rattle.report.proofs.Portions.{opened_underway, refused-searched, finished-searched}
use Rattle.report.proofs.progress.search_showing.Goals as goal

pub search_on-position-requires : goal.search_on-position-requires
search_on-position-requires g c =
    opened_underway c.args.text.now c.args.first.now c.args.second.now _
    (ap wording_of (sym c.in_ok-start.was) ∙ c.«open».ensures.result_value) c.«open».ensures.left (omega arith) (omega arith)

pub returns : goal.returns
returns g c =
    finished-searched _ _ _ _ c.search_on-position.ensures _ (omega arith) _ c.finish.ensures.value c.finish.ensures.left

pub returns-in_err-start : goal.returns-in_err-start
returns-in_err-start g c =
    let p = err_from_is_err_and c.from_residual.result c.from_residual.ensures.1 in
    rw (p.1, p.2)
    (refused-searched c.args.text.now c.args.first.now c.args.second.now c.args.sheet.now _
    (ap wording_of (sym c.in_err-start.was) ∙ c.«open».ensures.result_value) (omega arith) (omega arith) (omega arith))
