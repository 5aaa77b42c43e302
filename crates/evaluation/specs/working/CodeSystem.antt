-- The table of one row as it is computed from a model's flat form, which stands in arrays.
-- Assumes nothing.
use Rattle.std.specs.Prelude.{◌≡◌, Bool, not, ◌&&◌, List, ℕ, zero, suc, ◌+◌, ◌<◌, ◌≤◌, eqb, get_or}
use Rattle.std.proofs.Math.Seq.{slice}
use Rattle.evaluation.specs.working.CodeMachine.{value_of}
use Rattle.evaluation.specs.working.Batches.{after_of}
use Rattle.evaluation.specs.declared.plan.Plan.{Plan}

-- Where segment i of the code begins: at 0, or where the segment before it ends.
unfoldable pub begin_of : List ℕ → ℕ → ℕ
begin_of ends zero = 0
begin_of ends (suc i) = get_or ends i 0

-- The code words of segment i.
unfoldable pub segment_of : List ℕ → List ℕ → ℕ → List ℕ
segment_of ops ends i = slice (begin_of ends i) (get_or ends i 0) ops

-- Whether the expression whose code is segment i holds in the state s.
unfoldable pub holds_in : List ℕ → List ℕ → ℕ → ℕ → Bool
holds_in ops ends i s = eqb (value_of (segment_of ops ends i) 0 s) 1

-- Whether both expressions of a clause hold, whose code is the segments i and i + 1.
unfoldable pub clause_in : List ℕ → List ℕ → ℕ → ℕ → Bool
clause_in ops ends i s = holds_in ops ends i s && holds_in ops ends (i + 1) s

-- Whether s is a start state, and whether it violates `keep`.
unfoldable pub starts_in : List ℕ → List ℕ → ℕ → Bool
starts_in ops ends s = clause_in ops ends 0 s

unfoldable pub breaks_in : List ℕ → List ℕ → ℕ → Bool
breaks_in ops ends s = not (clause_in ops ends 2 s)

-- The state of n bits after command k under the word w.
unfoldable pub next_in : List ℕ → List ℕ → ℕ → ℕ → ℕ → ℕ → ℕ
next_in ops ends n s k w = after_of (segment_of ops ends (4 + k)) s n w

-- The segments of a model with so many commands follow each other within the array of code words.
pub record Parted (commands : ℕ) (ends : List ℕ) : Type 0 where
  pub rising : (i : ℕ) → i < 4 + commands → begin_of ends i ≤ get_or ends i 0
  pub short : (i : ℕ) → i < 4 + commands → get_or ends i 0 ≤ 2048

-- How many stars command k has, where a list holds the counts.
unfoldable pub stars_in : List ℕ → ℕ → ℕ
stars_in stars k = get_or stars k 0

-- A plan within the limits: at most 12 bits, at least one for each name, at most 16 commands of at most 8 stars, and segments that follow each other.
pub record Sound (plan : Plan) : Type 0 where
  pub few_bits : plan.bits ≤ 12
  pub named : plan.shared + plan.row ≤ plan.bits
  pub few_commands : plan.commands ≤ 16
  pub few_stars : (k : ℕ) → k < plan.commands → get_or plan.stars k 0 ≤ 8
  pub parted : Parted plan.commands plan.ends

-- Segment i of code with these ends stands from `from` on up to `to`, within the array of code words.
pub record Bounds (ends : List ℕ) (i from to : ℕ) : Type 0 where
  pub begins : from ≡ begin_of ends i
  pub stops : to ≡ get_or ends i 0
  pub rising : from ≤ to
  pub short : to ≤ 2048
