-- The verdict that the search finds, the transitions of a system, and when transitions are those of a model's table of one row.
-- Assumes nothing.
use Rattle.std.specs.Prelude.{◌≡◌, Bool, true, false, ◌||◌, List, [], ◌∷◌, ℕ, ◌^◌, ◌<◌, length}
use Rattle.notation.specs.Model.{Model}
use Rattle.meaning.specs.Meaning.{command_at}
use Rattle.meaning.specs.OneRow.{state_count, word_count, starts, breaks, next}
use Rattle.sheets.specs.Sheets.{System, size, map_length}
use Rattle.meaning.specs.Evidence.{Verdict, safe_by, void_by, unsafe_by}
use Rattle.exploration.specs.working.Transitions.{Transitions}
use Rattle.exploration.specs.working.Runs.{start_of, steps_of}
use Rattle.exploration.specs.working.Results.{Result, first_run, reached, result}
use Rattle.exploration.specs.working.Written.{map_from}

-- The verdict by a map: safe where it has a member, void where it has none.
abbrev pub map_verdict : Bool → List ℕ → Verdict
map_verdict true map = safe_by map
map_verdict false map = void_by map

-- Whether a bit is set.
unfoldable pub any_set : List Bool → Bool
any_set [] = false
any_set (x ∷ xs) = x || any_set xs

-- The verdict of a result.
unfoldable pub verdict_for : Transitions → Result → Verdict
verdict_for T (first_run r) = unsafe_by (start_of r) (steps_of T r)
verdict_for T (reached b) = map_verdict (any_set b) (map_from b 0 (map_length T.size))

-- The verdict that the search finds.
unfoldable pub found_in : Transitions → Verdict
found_in T = verdict_for T (result T)

-- What the search sees of a system.
abbrev pub transitions_of : System → Transitions
transitions_of M =
    record { size = size M; commands = M.commands; words = λ k. 2 ^ M.stars k; starts = M.starts; breaks = M.breaks; step = M.step }

-- The transitions agree with the model's table of one row on all numbers in range.
pub record Agrees (T : Transitions) (m : Model) : Type 0 where
  pub size : T.size ≡ state_count m
  pub commands : T.commands ≡ length m.commands
  pub words : (k : ℕ) → k < length m.commands → T.words k ≡ word_count (command_at m k)
  pub starts : (s : ℕ) → s < state_count m → T.starts s ≡ starts m s
  pub breaks : (s : ℕ) → s < state_count m → T.breaks s ≡ breaks m s
  pub step : (s k w : ℕ) → s < state_count m → k < length m.commands → T.step s k w ≡ next m s k w
