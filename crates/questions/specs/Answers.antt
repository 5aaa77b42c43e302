-- What the replies to a question about a state are called.
-- Assumes nothing.
use Rattle.std.specs.Prelude.{Bool, true, false, Result, Ok, Err}
use Rattle.conditions.specs.Outcomes as O
use Rattle.conditions.specs.declared.outcome.Declined.{Declined}

-- What may be replied: yes, no, or in their place what the test says: its answer, or a refusal.
pub data Wording : Type 0 where
  yes : Wording
  no : Wording
  told : O.Wording → Wording

-- What each reply stands for.
unfoldable pub wording_of : Result Bool Declined → Wording
wording_of (Ok true) = yes
wording_of (Ok false) = no
wording_of (Err d) = told (O.wording_of_declined d)
