-- What is told in place of an answer is worded as the test's answer that it tells.
-- Assumes nothing.
use mathlib.Core.Path.{◌≡◌, refl}
use Rattle.std.specs.Prelude.{Ok, Err}
use Rattle.conditions.specs.Outcomes.{Tested, wording_of, declined, wording_of_declined}

pub wording_declined : (t : Tested) → wording_of_declined (declined t) ≡ wording_of t
unfolding wording_of_declined
wording_declined (Ok o) = refl
wording_declined (Err r) = refl
