-- What the answers of a reservation are called.
-- Assumes nothing.
use Rattle.std.specs.Prelude.{ℕ, Result, Ok, Err}
use Rattle.refusals.specs.declared.Refusal.{Refusal}
use Rattle.refusals.specs.Reasons.{number_of}
use Rattle.reserving.specs.declared.Reservation.{Reservation}

-- What may be answered: the entries of one table, the bytes of the sheet buffer and the most trials; or a refusal's number with its place.
pub data Wording : Type 0 where
  reserved : ℕ → ℕ → ℕ → Wording
  returned : ℕ → ℕ → Wording

-- A reservation, or a refusal.
abbrev pub Reserved : Type 0
Reserved = Result Reservation Refusal

-- What each answer stands for.
unfoldable pub wording_of : Reserved → Wording
wording_of (Ok r) = reserved r.entries r.bytes r.trials
wording_of (Err r) = returned (number_of r.reason) r.place
