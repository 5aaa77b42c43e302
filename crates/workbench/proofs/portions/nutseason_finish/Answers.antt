-- `nutseason_finish` meets its contract: its numbers are bounded, and it goes on from the position of the number.
use mathlib.Core.Path.{sym, subst}
use Rattle.verdicts.specs.Answers.{Searched, wording_of}
use Rattle.pauses.specs.Promises.{FinishBounded}
use Rattle.pauses.proofs.AnyCalls.{pauses_bounded}
use Rattle.search.specs.Answers.{pause_for}
use Rattle.workbench.proofs.PositionsTold.{finish-same}
use Rattle.workbench.proofs.portions.nutseason_finish.Goals as goal

pub finding_number-requires : goal.finding_number-requires
finding_number-requires c =
    subst (λ (f : Searched). FinishBounded (wording_of f)) (sym c.finish.ensures.value)
    (pauses_bounded c.args.text.now (pause_for c.position_at-from.result) 0 c.args.first.now c.args.second.now c.args.sheet.now).finished

pub returns-clause-left : goal.returns-clause-left
returns-clause-left c = finish-same _ _ _ _ _ _ c.position_at-from.ensures c.finish.ensures.left
