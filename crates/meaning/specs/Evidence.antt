-- Evidence: what a sheet holds, when it passes for a model, and what is claimed of the tables of a model for which a sheet passes.
-- Assumes nothing.
use Rattle.std.specs.Prelude.{◌≡◌, ◌↔◌, Bool, true, List, map, ℕ, ◌/◌, ◌%◌, ◌≤◌, ◌<◌, length, get_or}
use Rattle.notation.specs.Model.{Model}
use Rattle.notation.specs.Regular.{Every}
use Rattle.notation.specs.Texts.{TextSays}
use Rattle.meaning.specs.Bits.{bit}
use Rattle.meaning.specs.Meaning.{Row, command_at, IsStart, Breaks, AreSteps, IsRun, last, Safe, Unsafe, CanStart}
use Rattle.meaning.specs.OneRow.{One, spread, state_count, word_count, next, TraceStep, spread_step}

-- What a sheet holds: the bytes of a map, or the first state of a trace and its steps.
pub data Sheet : Type 0 where
  safe : List ℕ → Sheet
  trace : ℕ → List TraceStep → Sheet

-- Whether state s is a member of the map: eight states to a byte, the lowest bit first.
unfoldable pub in_map : List ℕ → ℕ → Bool
in_map bytes s = bit (get_or bytes (s / 8) 0) (s % 8)

-- A: the map has all start states of one row.
abbrev pub ConditionA : Model → List ℕ → Type 0
ConditionA m bytes = (s : ℕ) → s < state_count m → IsStart m (spread m One s) → in_map bytes s ≡ true

-- B: no member violates `keep`, whether or not a run leads to it.
abbrev pub ConditionB : Model → List ℕ → Type 0
ConditionB m bytes = (s : ℕ) → s < state_count m → in_map bytes s ≡ true → ¬ (Breaks m (spread m One s))

-- C: from a member, every command under every choice word leads to a member.
abbrev pub ConditionC : Model → List ℕ → Type 0
ConditionC m bytes =
    (s k w : ℕ) → s < state_count m → k < length m.commands → w < word_count (command_at m k) → in_map bytes s ≡ true →
    in_map bytes (next m s k w) ≡ true

-- A map passes.
pub record MapPasses (m : Model) (bytes : List ℕ) : Type 0 where
  pub starts : ConditionA m bytes
  pub keeps : ConditionB m bytes
  pub closed : ConditionC m bytes

-- D: the trace begins at a start state of one row.
abbrev pub ConditionD : Model → ℕ → Type 0
ConditionD m s = IsStart m (spread m One s)

-- E: each step is a step of its command under its word, and leads to the state that the trace gives.
abbrev pub ConditionE : Model → ℕ → List TraceStep → Type 0
ConditionE m s xs = AreSteps m (spread m One s) (map (spread_step m One) xs)

-- F: the last state violates `keep`.
abbrev pub ConditionF : Model → ℕ → List TraceStep → Type 0
ConditionF m s xs = Breaks m (last (spread m One s) (map (spread_step m One) xs))

-- The numbers of a step are in range: a command below `commands`, a word below the command's number of words, a state below `states`.
pub record InRange (states commands : ℕ) (words : ℕ → ℕ) (x : TraceStep) : Type 0 where
  pub command : x.command < commands
  pub word : x.word < words x.command
  pub after : x.after < states

-- For a model: a word has no bits beyond its command's stars.
abbrev pub StepFits : Model → TraceStep → Type 0
StepFits m x = InRange (state_count m) (length m.commands) (λ k. word_count (command_at m k)) x

-- A trace passes. Its numbers are in range, or else its sheet is refused.
pub record TracePasses (m : Model) (s : ℕ) (xs : List TraceStep) : Type 0 where
  pub start_fits : s < state_count m
  pub steps_fit : Every (StepFits m) xs
  pub starts : ConditionD m s
  pub steps : ConditionE m s xs
  pub breaks : ConditionF m s xs

-- The trace over the rows I, its row and its words copied in every row, is a run to a state that violates `keep`.
pub record TraceHolds (m : Model) (I : Type 0) (s : ℕ) (xs : List TraceStep) : Type 0 where
  pub run : IsRun m (spread m I s) (map (spread_step m I) xs)
  pub breaks : Breaks m (last (spread m I s) (map (spread_step m I) xs))

-- Void: no state of one row satisfies `start`.
abbrev pub IsVoid : Model → Type 0
IsVoid m = ¬ (CanStart m One)

-- A verdict on a model with its evidence: safe by a map, void by a map, or unsafe by a trace.
pub data Verdict : Type 0 where
  safe_by : List ℕ → Verdict
  void_by : List ℕ → Verdict
  unsafe_by : ℕ → List TraceStep → Verdict

-- The evidence as a sheet.
abbrev pub evidence_of : Verdict → Sheet
evidence_of (safe_by map) = safe map
evidence_of (void_by map) = safe map
evidence_of (unsafe_by s xs) = trace s xs

-- The verdict without its evidence.
pub data Kind : Type 0 where
  safely voidly unsafely : Kind

abbrev pub kind_of : Verdict → Kind
kind_of (safe_by map) = safely
kind_of (void_by map) = voidly
kind_of (unsafe_by s xs) = unsafely

-- A sheet passes, and with which verdict: a map shows that the model is safe where one row has a start state, and that it is void where it has none.
abbrev pub Passes : Model → Verdict → Type 0
Passes m (safe_by map) = MapPasses m map × CanStart m One
Passes m (void_by map) = MapPasses m map × IsVoid m
Passes m (unsafe_by s xs) = TracePasses m s xs

-- What a verdict says of a table with the rows I. Safe: it has a start state, and no run there goes wrong. Void: it has no start state,
-- and so no run there goes wrong. Unsafe: the copy of the trace is a run there that does.
abbrev pub Holds : Model → Type 0 → Verdict → Type 0
Holds m I (safe_by map) = CanStart m I × Safe m I
Holds m I (void_by map) = (¬ (CanStart m I)) × Safe m I
Holds m I (unsafe_by s xs) = TraceHolds m I s xs

-- What is promised of two tables at once, of n₁ and of n₂ rows, where a sheet passes with a verdict: what it says holds of both,
-- one of them can go wrong, or can start, only if the other can, and no sheet passes for the model with a verdict of another kind.
pub record Promise (m : Model) (x : Verdict) (n₁ n₂ : ℕ) : Type 0 where
  pub here : Holds m (Row n₁) x
  pub there : Holds m (Row n₂) x
  pub alike : Unsafe m (Row n₁) ↔ Unsafe m (Row n₂)
  pub start_alike : CanStart m (Row n₁) ↔ CanStart m (Row n₂)
  pub agree : (y : Verdict) → Passes m y → kind_of y ≡ kind_of x

-- The promise for every model that a text says, every sheet that passes for it, and all pairs of tables that have at least so many rows.
abbrev pub ClaimFrom : ℕ → Type 0
ClaimFrom least = (text : List ℕ) (m : Model) → TextSays text m → (x : Verdict) → Passes m x → (n₁ n₂ : ℕ) → least ≤ n₁ → least ≤ n₂ → Promise m x n₁ n₂

-- THE CLAIM: it is kept from one row up.
abbrev pub Claim : Type 0
Claim = ClaimFrom 1

-- And not from none up.
abbrev pub NotFromZero : Type 0
NotFromZero = ¬ (ClaimFrom 0)
