-- What opening a player and moving it may answer, and what these answers are called.
-- Assumes nothing.
use Rattle.std.specs.Prelude.{Result, Ok, Err}
use Rattle.conditions.specs.Outcomes as T
use Rattle.conditions.specs.declared.outcome.Declined.{Declined}
use Rattle.player.specs.declared.record.Player.{Player}
use Rattle.player.specs.declared.record.Answer.{Answer}
use Rattle.player.specs.declared.record.Answer.TheVariants as A

-- What a move may answer: it moved; it is at an end; the record is not one of this trace; or what the test says, where there is no trace that passes.
pub data Wording : Type 0 where
  moved at_end foreign : Wording
  told : T.Wording → Wording

-- What each answer stands for.
unfoldable pub wording_of : Result Answer Declined → Wording
wording_of (Ok A.Moved) = moved
wording_of (Ok A.AtEnd) = at_end
wording_of (Ok A.Foreign) = foreign
wording_of (Err d) = told (T.wording_of_declined d)

-- What opening may answer: a record; or what the test says, and no record.
pub data Opening : Type 0 where
  opened : Player → Opening
  unopened : T.Wording → Opening

-- What each answer stands for.
unfoldable pub opening_for : Result Player Declined → Opening
opening_for (Ok p) = opened p
opening_for (Err d) = unopened (T.wording_of_declined d)
