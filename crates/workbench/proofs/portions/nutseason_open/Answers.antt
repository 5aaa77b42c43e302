-- `nutseason_open` asks for a number of bounded answers, as every opening is.
use mathlib.Core.Path.{sym, subst}
use mathlib.Core.List.{[]}
use Rattle.pauses.specs.Promises.{Bounded}
use Rattle.pauses.proofs.AnyCalls.{pauses_bounded}
use Rattle.pauses.specs.working.Pausing.{nothing_left}
use Rattle.workbench.proofs.portions.nutseason_open.Goals as goal

pub paused_number-requires : goal.paused_number-requires
paused_number-requires c =
    subst Bounded (sym c.open.ensures.result_value) (pauses_bounded _ nothing_left 0 _ _ []).opened
