-- The order of runs of a table of one row, which are given by the number of their first state and their steps.
-- Assumes nothing.
use Rattle.std.specs.Prelude.{◌≡◌, ◌⊎◌, List, [], ◌∷◌, ℕ, ◌<◌, length}
use Rattle.meaning.specs.OneRow.{TraceStep}

-- Of two steps, the one of the lower command comes first, and of two steps of one command the one with the lower word.
abbrev pub StepBefore : TraceStep → TraceStep → Type 0
StepBefore x y = (x.command < y.command) ⊎ ((x.command ≡ y.command) × (x.word < y.word))

-- Two lists of steps are compared at the first place where they differ.
abbrev pub StepsBefore : List TraceStep → List TraceStep → Type 0
StepsBefore [] ys = ⊥
StepsBefore (x ∷ xs) [] = ⊥
StepsBefore (x ∷ xs) (y ∷ ys) = StepBefore x y ⊎ ((x.command ≡ y.command) × (x.word ≡ y.word) × StepsBefore xs ys)

-- The run from s by xs comes before the run from t by ys: it is shorter, or as long with a lower first state, or with the same one and its steps come first.
abbrev pub RunBefore : ℕ → List TraceStep → ℕ → List TraceStep → Type 0
RunBefore s xs t ys = (length xs < length ys) ⊎ ((length xs ≡ length ys) × ((s < t) ⊎ ((s ≡ t) × StepsBefore xs ys)))
