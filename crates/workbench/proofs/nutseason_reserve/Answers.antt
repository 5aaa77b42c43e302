-- `nutseason_reserve` asks for a number of bounded answers, as every reservation is.
use mathlib.Core.Path.{sym, subst}
use Rattle.reserving.specs.Answers.{Reserved, wording_of}
use Rattle.reserving.specs.Promises.{Bounded}
use Rattle.reserving.proofs.Reserved.{reservations_bounded}
use Rattle.workbench.proofs.nutseason_reserve.Goals as goal

pub reservation_number-requires : goal.reservation_number-requires
reservation_number-requires c =
    subst (λ (f : Reserved). Bounded (wording_of f)) (sym c.reserve.ensures) (reservations_bounded _)
