-- `nutseason_search` asks for a number of bounded answers, as every answer of a search is.
use mathlib.Core.Path.{sym, subst}
use Rattle.verdicts.specs.Answers.{Searched, wording_of}
use Rattle.pauses.specs.Promises.{FinishBounded}
use Rattle.workbench.proofs.Told.{search_bounded}
use Rattle.workbench.proofs.nutseason_search.Goals as goal

pub finding_number-requires : goal.finding_number-requires
finding_number-requires c =
    subst (λ (f : Searched). FinishBounded (wording_of f)) (sym c.search.ensures.value) (search_bounded _ _ _ _)
