-- `nutseason_test` meets its contract: the number of the test's answer.
use mathlib.Core.Path.{sym, subst}
use Rattle.conditions.specs.Outcomes.{Tested, wording_of}
use Rattle.acceptance.specs.Promises.{Bounded}
use Rattle.acceptance.proofs.Places.{answers_bounded}
use Rattle.loader.proofs.nutseason_test.Goals as goal

pub tested_number-requires : goal.tested_number-requires
tested_number-requires c = subst (λ (t : Tested). Bounded (wording_of t)) (sym c.test.ensures.value) (answers_bounded _ _)
