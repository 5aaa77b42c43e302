-- The conditions A to F, and whether a model is void, as computations on numbers.
-- Assumes nothing.
use Rattle.std.specs.Prelude.{◌≡◌, ◌↔◌, Bool, true, false, not, ◌&&◌, List, [], ◌∷◌, ℕ, zero, suc, ◌^◌, eqb, length}
use Rattle.notation.specs.Model.{Model, stars}
use Rattle.notation.specs.Regular.{Every}
use Rattle.meaning.specs.Meaning.{command_at}
use Rattle.meaning.specs.OneRow.{state_count, starts, breaks, next, TraceStep, last_of}
use Rattle.meaning.specs.Evidence.{in_map, ConditionA, ConditionB, ConditionC, ConditionD, ConditionE, ConditionF, StepFits, IsVoid}

-- The test holds of every number below n.
unfoldable pub every : ℕ → (ℕ → Bool) → Bool
every zero f = true
every (suc n) f = every n f && f n

-- The second is true, or need not be.
unfoldable pub implies : Bool → Bool → Bool
implies true b = b
implies false b = true

-- Whether no state is a start state.
unfoldable pub test_void : ℕ → (ℕ → Bool) → Bool
test_void states starts = every states λ s. not (starts s)

-- Whether A holds: all start states are members.
unfoldable pub test_a : ℕ → (ℕ → Bool) → List ℕ → Bool
test_a states starts map = every states λ s. implies (starts s) (in_map map s)

-- Whether B holds: no member breaks.
unfoldable pub test_b : ℕ → (ℕ → Bool) → List ℕ → Bool
test_b states breaks map = every states λ s. implies (in_map map s) (not (breaks s))

-- Whether the words below w of the command k lead from s to members.
unfoldable pub words_stay : (ℕ → ℕ → ℕ → ℕ) → List ℕ → ℕ → ℕ → ℕ → Bool
words_stay step map s k w = every w λ x. in_map map (step s k x)

-- Whether all commands under all words lead from s to members.
unfoldable pub closed_at : ℕ → (ℕ → ℕ) → (ℕ → ℕ → ℕ → ℕ) → List ℕ → ℕ → Bool
closed_at commands stars step map s = every commands λ k. words_stay step map s k (2 ^ stars k)

-- Whether C holds: they do so from all members.
unfoldable pub test_c : ℕ → ℕ → (ℕ → ℕ) → (ℕ → ℕ → ℕ → ℕ) → List ℕ → Bool
test_c states commands stars step map = every states λ s. implies (in_map map s) (closed_at commands stars step map s)

-- Whether E holds of the steps from s on: each leads where its command leads.
unfoldable pub test_e : (ℕ → ℕ → ℕ → ℕ) → ℕ → List TraceStep → Bool
test_e step s [] = true
test_e step s (x ∷ xs) = eqb x.after (step s x.command x.word) && test_e step x.after xs

-- Each of them, and the computation of a start and of a break for D and F, is true where its condition holds, and nowhere else; E where the numbers of the steps are in range.
pub record TestsTell (m : Model) : Type 0 where
  pub tells_void : (test_void (state_count m) (starts m) ≡ true) ↔ IsVoid m
  pub tells_a : (bytes : List ℕ) → (test_a (state_count m) (starts m) bytes ≡ true) ↔ ConditionA m bytes
  pub tells_b : (bytes : List ℕ) → (test_b (state_count m) (breaks m) bytes ≡ true) ↔ ConditionB m bytes
  pub tells_c : (bytes : List ℕ) → (test_c (state_count m) (length m.commands) (λ k. length (stars (command_at m k))) (next m) bytes ≡ true) ↔ ConditionC m bytes
  pub tells_d : (s : ℕ) → (starts m s ≡ true) ↔ ConditionD m s
  pub tells_e : (s : ℕ) (xs : List TraceStep) → Every (StepFits m) xs → (test_e (next m) s xs ≡ true) ↔ ConditionE m s xs
  pub tells_f : (s : ℕ) (xs : List TraceStep) → (breaks m (last_of s xs) ≡ true) ↔ ConditionF m s xs

abbrev pub AllTestsTell : Type 0
AllTestsTell = (m : Model) → TestsTell m
