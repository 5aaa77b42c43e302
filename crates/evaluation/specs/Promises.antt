-- What is promised of a model's code, each promise a type that a theorem of proofs/ inhabits.
-- Assumes nothing.
use Rattle.std.specs.Prelude.{◌≡◌, List, ◌++◌, ℕ, ◌+◌, ◌/◌, ◌%◌, ◌^◌, ◌<◌, ◌≤◌, length}
use Rattle.notation.specs.Model.{Model}
use Rattle.notation.specs.Layout.{layout_of}
use Rattle.notation.specs.Regular.{Regular}
use Rattle.meaning.specs.OneRow.{state_count, starts, breaks, next}
use Rattle.evaluation.specs.working.Ends.{row_of, fills, pick_of}
use Rattle.evaluation.specs.working.Batches.{after_of, cells_at}
use Rattle.evaluation.specs.working.CodeSystem.{starts_in, breaks_in, next_in, Parted}

-- The code and the ends of its segments give the model's table of one row: its start states, the states that violate `keep`, and its steps.
pub record Computes (m : Model) (ops ends : List ℕ) : Type 0 where
  pub parted : Parted (length m.commands) ends
  pub starts : (s : ℕ) → s < state_count m → starts_in ops ends s ≡ starts m s
  pub breaks : (s : ℕ) → s < state_count m → breaks_in ops ends s ≡ breaks m s
  pub next : (s k w : ℕ) → s < state_count m → k < length m.commands → next_in ops ends (m.shared_names + m.row_names) s k w ≡ next m s k w

-- Of the 64 results that are computed at once, the one picked for a word is what the machine computes with that word alone.
abbrev pub LanesAgree : Type 0
LanesAgree =
    (os : List ℕ) (s n w : ℕ) (rows : List ℕ) → n ≤ 16 → s < 2 ^ n → length rows ≡ 16
    → pick_of (fills (row_of (cells_at os s n (w / 64)) n) 16 rows) (w % 64) ≡ after_of os s n w

-- The flat form of every model that a text says does so, whatever follows it in its arrays.
abbrev pub FlatComputes : Type 0
FlatComputes = (m : Model) → Regular m → (more_code more_ends : List ℕ) → Computes m ((layout_of m).code ++ more_code) ((layout_of m).ends ++ more_ends)
