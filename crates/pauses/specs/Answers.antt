-- What the answers of a search in portions are called.
-- Assumes nothing.
use Rattle.std.specs.Prelude.{ℕ}
use Rattle.exploration.specs.Pause.{Pause}

-- What opening a search and a portion of it may answer: the position; or a refusal's number with its place.
pub data Wording : Type 0 where
  paused : Pause → Wording
  returned : ℕ → ℕ → Wording
