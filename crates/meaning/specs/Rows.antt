-- What one row tells of many: promises about single steps and single sheets, from which the claim is put together.
-- Assumes nothing.
use Rattle.std.specs.Prelude.{◌≡◌, ◌⊎◌, List, ℕ, ◌<◌, length}
use Rattle.notation.specs.Model.{Model}
use Rattle.notation.specs.Regular.{Regular}
use Rattle.meaning.specs.Meaning.{Row, State, Choice, Move, step, command_at, Fits, IsRun, last, Safe, Unsafe, CanStart}
use Rattle.meaning.specs.OneRow.{One, spread_word, word_count, TraceStep}
use Rattle.meaning.specs.Evidence.{MapPasses, TracePasses, TraceHolds, IsVoid, safe_by, void_by, Passes}

-- The state of one row that is left where all rows but row i are taken away.
abbrev pub only : {I : Type 0} → I → State I → State One
only i s = record { shared = s.shared; rows = λ o. s.rows i }

-- Whatever the stars of a step come out as, what it does to one of the n rows is what some choice word does to that row alone.
abbrev pub Projection : Type 0
Projection =
    (m : Model) → Regular m → (k : ℕ) → k < length m.commands → (n : ℕ) (i : Row n) (c : Choice (Row n))
    → (w : ℕ)
    × (w < word_count (command_at m k))
    × ((s : State (Row n)) → only i (step (command_at m k) c s) ≡ step (command_at m k) (spread_word One w) (only i s))

-- Every state that a run reaches has exactly one bit for every name of the model, in each row.
abbrev pub RunsFit : Type 0
RunsFit = (m : Model) (n : ℕ) (s : State (Row n)) (xs : List (Move (Row n))) → IsRun m s xs → Fits m (last s xs)

-- Where a map passes, tables of every size are safe.
abbrev pub MapsHold : Type 0
MapsHold = (m : Model) → Regular m → (bytes : List ℕ) → MapPasses m bytes → (n : ℕ) → 0 < n → Safe m (Row n)

-- Where a trace passes, its copy is a run over tables of every size.
abbrev pub TracesHold : Type 0
TracesHold = (m : Model) (s : ℕ) (xs : List TraceStep) → TracePasses m s xs → (n : ℕ) → 0 < n → TraceHolds m (Row n) s xs

-- No model has a map that passes and a trace that passes.
abbrev pub OneKind : Type 0
OneKind = (m : Model) → Regular m → (bytes : List ℕ) (s : ℕ) (xs : List TraceStep) → MapPasses m bytes → TracePasses m s xs → ⊥

-- Tables of two sizes can go wrong only together.
abbrev pub Together : Type 0
Together = (m : Model) (n₁ n₂ : ℕ) → 0 < n₁ → 0 < n₂ → Unsafe m (Row n₁) → Unsafe m (Row n₂)

-- A void model has no start state in tables of any size.
abbrev pub VoidEverywhere : Type 0
VoidEverywhere = (m : Model) → IsVoid m → (n : ℕ) → 0 < n → ¬ (CanStart m (Row n))

-- A model that is not void has one in tables of every size.
abbrev pub StartsEverywhere : Type 0
StartsEverywhere = (m : Model) → ¬ (IsVoid m) → (n : ℕ) → 0 < n → CanStart m (Row n)

-- A map that passes shows one of the two: that the model is safe, or that it is void.
abbrev pub SafeOrVoid : Type 0
SafeOrVoid = (m : Model) (map : List ℕ) → MapPasses m map → Passes m (safe_by map) ⊎ Passes m (void_by map)
