-- What the answers of the reader are called.
-- Assumes nothing.
use Rattle.std.specs.Prelude.{ℕ, Result, Ok, Err}
use Rattle.refusals.specs.declared.Refusal.{Refusal}
use Rattle.refusals.specs.Reasons.{number_of}
use Rattle.reader.specs.declared.Code.{Code}

-- What the reader may answer: a model, by its counts of shared names, row names and commands, or a refusal's number with its place.
pub data Wording : Type 0 where
  model : ℕ → ℕ → ℕ → Wording
  returned : ℕ → ℕ → Wording

-- What each answer stands for. The counts of a model stand in its code.
unfoldable pub wording_of : Result Code Refusal → Wording
wording_of (Ok c) = model c.shared c.row c.commands
wording_of (Err r) = returned (number_of r.reason) r.place
