-- `nutseason_portion` meets its contract: its numbers are bounded, and it goes on from the position of the number.
use mathlib.Core.Path.{sym, subst}
use mathlib.Core.List.{[]}
use Rattle.pauses.specs.Promises.{Bounded}
use Rattle.pauses.proofs.AnyCalls.{pauses_bounded}
use Rattle.search.specs.Answers.{pause_for}
use Rattle.workbench.proofs.PositionsTold.{portion-same}
use Rattle.workbench.proofs.portions.nutseason_portion.Goals as goal

pub paused_number-requires : goal.paused_number-requires
paused_number-requires c =
    subst Bounded (sym c.portion.ensures.result_value)
    (pauses_bounded c.args.text.now (pause_for c.position_at-from.result) c.args.states c.args.first.now c.args.second.now []).portion

pub returns-clause-left : goal.returns-clause-left
returns-clause-left c = portion-same _ _ _ _ _ _ c.position_at-from.ensures c.portion.ensures.left
