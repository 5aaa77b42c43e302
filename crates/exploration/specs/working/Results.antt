-- The search's result, and what makes a result right.
-- Assumes nothing.
use Rattle.std.specs.Prelude.{ℕ, ◌-◌, ◌<◌, ◌≡◌, Bool, true, false, ◌↔◌, List, map, length, get_or, ltb}
use Rattle.exploration.specs.working.Transitions.{Transitions}
use Rattle.exploration.specs.working.Exploring.{Progress, broke, through, search}
use Rattle.exploration.specs.working.Runs.{Run, final, Valid, First, run_to}

-- A breaking run, or the map of the states met.
pub data Result : Type 0 where
  first_run : Run → Result
  reached : List Bool → Result

abbrev pub result_of : Transitions → Progress → Result
result_of M (broke x) = first_run (run_to M x.parent M.size (get_or x.queue (length x.queue - 1) 0))
result_of M (through x) = reached (map (ltb 0) x.parent)

unfoldable pub result : Transitions → Result
result M = result_of M (search M)

-- A run ends in the state t.
pub record Reached (M : Transitions) (t : ℕ) : Type 0 where
  pub run : Run
  pub valid : Valid M run
  pub ends : final M run ≡ t

-- The map holds exactly the states that a run reaches, and none of them breaks.
pub record AllReached (M : Transitions) (b : List Bool) : Type 0 where
  pub sized : length b ≡ M.size
  pub exact : (t : ℕ) → t < M.size → (get_or b t false ≡ true) ↔ Reached M t
  pub keeps : (r : Run) → Valid M r → M.breaks (final M r) ≡ false

abbrev pub Right : Transitions → Result → Type 0
Right M (first_run r) = First M r
Right M (reached b) = AllReached M b
