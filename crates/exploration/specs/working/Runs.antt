-- Runs over transitions, and which of two comes first.
-- Assumes nothing.
use Rattle.std.specs.Prelude.{ℕ, suc, zero, ◌+◌, ◌-◌, ◌<◌, ◌≡◌, true, false, cond, List, [], ◌∷◌, ◌++◌, get_or, eqb, ◌⊎◌, Option, None, Some}
use Rattle.meaning.specs.OneRow.{TraceStep}
use Rattle.exploration.specs.working.Transitions.{Transitions, Move, moves}

pub data Run : Type 0 where
  starts_at : ℕ → Run
  goes_on : Run → Move → Run

-- The state that a run ends in.
abbrev pub final : Transitions → Run → ℕ
final M (starts_at s) = s
final M (goes_on r m) = M.step (final M r) m.command m.word

abbrev pub MoveOf : Transitions → Move → Type 0
MoveOf M m = (m.command < M.commands) × (m.word < M.words m.command)

-- The runs of a system.
abbrev pub Valid : Transitions → Run → Type 0
Valid M (starts_at s) = (s < M.size) × (M.starts s ≡ true)
Valid M (goes_on r m) = Valid M r × MoveOf M m

abbrev pub MoveBefore : Move → Move → Type 0
MoveBefore a b = (a.command < b.command) ⊎ ((a.command ≡ b.command) × (a.word < b.word))

-- The order: a run that ends sooner when both are walked back step by step is the shorter one.
abbrev pub Before : Run → Run → Type 0
Before (starts_at s) (starts_at t) = s < t
Before (starts_at s) (goes_on r m) = Unit {0}
Before (goes_on q l) (starts_at t) = ⊥
Before (goes_on q l) (goes_on r m) = Before q r ⊎ ((q ≡ r) × MoveBefore l m)

-- The first breaking run.
pub record First (M : Transitions) (r : Run) : Type 0 where
  pub valid : Valid M r
  pub breaking : M.breaks (final M r) ≡ true
  pub first : (y : Run) → Valid M y → Before y r → M.breaks (final M y) ≡ false

-- The number of steps.
abbrev pub steps : Run → ℕ
steps (starts_at s) = 0
steps (goes_on r m) = suc (steps r)

-- The first of the moves ms that leads from s to t.
unfoldable pub first_move : Transitions → ℕ → ℕ → List Move → Move
first_move M s t [] = record { command = 0; word = 0 }
first_move M s t (m ∷ ms) = cond (eqb (M.step s m.command m.word) t) m (first_move M s t ms)

-- The same, where there may be none.
unfoldable pub move_to : Transitions → ℕ → ℕ → List Move → Option Move
move_to M s t [] = None
move_to M s t (m ∷ ms) = cond (eqb (M.step s m.command m.word) t) (Some m) (move_to M s t ms)

-- The run to t that a table of parents records, n steps at most: back from t to the state that is its own parent.
unfoldable pub run_to : Transitions → List ℕ → ℕ → ℕ → Run
run_to M p zero t = starts_at t
run_to M p (suc n) t = cond (eqb (get_or p t 0) (t + 1)) (starts_at t) (goes_on (run_to M p n (get_or p t 0 - 1)) (first_move M (get_or p t 0 - 1) t (moves M)))

-- A table of parents records a run.
abbrev pub Traced : Transitions → List ℕ → Run → Type 0
Traced M p (starts_at s) = get_or p s 0 ≡ s + 1
Traced M p (goes_on y m) =
    Traced M p y
    × (get_or p (final M (goes_on y m)) 0 ≡ final M y + 1)
    × (final M y ≡ final M (goes_on y m) → ⊥)
    × (first_move M (final M y) (final M (goes_on y m)) (moves M) ≡ m)

-- The state where a run starts.
abbrev pub start_of : Run → ℕ
start_of (starts_at s) = s
start_of (goes_on r m) = start_of r

-- A move with the state after it.
abbrev pub step_of : Move → ℕ → TraceStep
step_of k t = record { command = k.command; word = k.word; after = t }

-- The steps of a run, each with the state after it.
unfoldable pub steps_of : Transitions → Run → List TraceStep
steps_of T (starts_at s) = []
steps_of T (goes_on r k) = steps_of T r ++ (step_of k (final T (goes_on r k)) ∷ [])
