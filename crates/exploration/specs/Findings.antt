-- What the search finds of a model: its first breaking run, the map of exactly the states that runs reach, or that it is void.
-- Assumes nothing.
use Rattle.std.specs.Prelude.{◌≡◌, ◌↔◌, true, List, ℕ, ◌<◌, ◌≤◌, length, replicate}
use Rattle.notation.specs.Model.{Model}
use Rattle.notation.specs.Regular.{Every}
use Rattle.meaning.specs.Meaning.{State, Move, IsRun, Breaks, last, Safe, Unsafe, CanStart}
use Rattle.meaning.specs.OneRow.{One, state_number, state_count, TraceStep, last_of}
use Rattle.meaning.specs.Evidence.{in_map, StepFits, ConditionD, ConditionE, TracePasses, IsVoid, Verdict, safe_by, void_by, unsafe_by}
use Rattle.sheets.specs.Sheets.{map_length}
use Rattle.sheets.specs.SheetTexts.{AreBytes, IsMap}
use Rattle.exploration.specs.Order.{RunBefore}

-- Some run of the table of one row leads to the state numbered t.
abbrev pub Reaches : Model → ℕ → Type 0
Reaches m t = (s : State One) × (xs : List (Move One)) × IsRun m s xs × (state_number (last s xs) ≡ t)

-- So does the run that begins at the state numbered s and goes by the steps xs.
pub record TraceTo (m : Model) (s : ℕ) (xs : List TraceStep) (t : ℕ) : Type 0 where
  pub start_fits : s < state_count m
  pub steps_fit : Every (StepFits m) xs
  pub starts : ConditionD m s
  pub steps : ConditionE m s xs
  pub ends : last_of s xs ≡ t

-- The map has exactly those states. Its numbers are bytes.
pub record ExactMap (m : Model) (map : List ℕ) : Type 0 where
  pub fits : IsMap (state_count m) map
  pub bytes : AreBytes map
  pub exact : (t : ℕ) → t < state_count m → (in_map map t ≡ true) ↔ Reaches m t

-- The trace is a run to a state that violates `keep`, and no other such run comes before it.
pub record FirstBreak (m : Model) (s : ℕ) (xs : List TraceStep) : Type 0 where
  pub breaks : TracePasses m s xs
  pub first : (t : ℕ) (ys : List TraceStep) → TracePasses m t ys → ¬ (RunBefore t ys s xs)
  pub shortest : (q : State One) (ys : List (Move One)) → IsRun m q ys → Breaks m (last q ys) → length xs ≤ length ys

-- The map without members.
abbrev pub empty_map : Model → List ℕ
empty_map m = replicate (map_length (state_count m)) 0

-- What the search finds. Safe, and the map of the states reached: where there is a start state and no run goes wrong.
-- Void, and the empty map: where there is no start state. Unsafe, and the first run that goes wrong: where one does.
abbrev pub Finds : Model → Verdict → Type 0
Finds m (safe_by map) = Safe m One × ExactMap m map × CanStart m One
Finds m (void_by map) = IsVoid m × (map ≡ empty_map m)
Finds m (unsafe_by s xs) = Unsafe m One × FirstBreak m s xs

-- It finds one thing only.
abbrev pub FindsOnce : Type 0
FindsOnce = (m : Model) (x y : Verdict) → Finds m x → Finds m y → x ≡ y
