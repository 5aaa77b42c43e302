-- How a sheet is read: demand by demand, the first that is not met being the refusal; and what is known of a sheet that was not refused.
-- Assumes nothing.
use Rattle.std.specs.Prelude.{◌≡◌, Bool, true, false, List, [], ◌∷◌, ℕ, zero, suc, ◌+◌, ◌-◌, ◌/◌, ◌^◌, ◌<◌, eqb, leb, ltb, length, get_or, take, drop}
use Rattle.meaning.specs.OneRow.{TraceStep}
use Rattle.meaning.specs.Evidence.{Sheet, safe, trace}
use Rattle.evaluation.specs.declared.plan.Plan.{Plan}
use Rattle.evaluation.specs.working.CodeSystem.{stars_in}
use Rattle.sheets.specs.Sheets.{System, map_length}
use Rattle.sheets.specs.SheetTexts.{longest, two_at, is_record, same_counts, unused_clear, step_in, step_fits}

-- What comes of reading a sheet: a refusal's number and place, or its contents.
pub data Reading : Type 0 where
  refused : ℕ → ℕ → Reading
  holds : Sheet → Reading

-- One demand: where the test fails, the sheet is refused with this number at this place.
unfoldable pub demand : Bool → ℕ → ℕ → (Unit {0} → Reading) → Reading
demand true n p rest = rest tt
demand false n p rest = refused n p

-- The first reading where the test holds, the second where it fails.
unfoldable pub either : Bool → (Unit {0} → Reading) → (Unit {0} → Reading) → Reading
either true a b = a tt
either false a b = b tt

-- The payload of n bytes at p.
unfoldable pub map_in : List ℕ → ℕ → ℕ → List ℕ
map_in b p n = take n (drop p b)

-- From the record of a map at p on: nothing follows it.
unfoldable pub map_at : ℕ → List ℕ → ℕ → Reading
map_at states b p =
    demand (unused_clear states (get_or b (p + 6) 0)) 9 p λ _.
    demand (eqb (length b) (p + 6 + map_length states)) 9 (p + 6 + map_length states) λ _.
    holds (safe (map_in b (p + 6) (map_length states)))

-- The steps that n records from p on give.
unfoldable pub steps_in : List ℕ → ℕ → ℕ → List TraceStep
steps_in b p zero = []
steps_in b p (suc n) = step_in b (p + 6) ∷ steps_in b (p + 10) n

-- n records of steps from p on are demanded, and then the rest.
unfoldable pub steps_at : ℕ → ℕ → (ℕ → ℕ) → List ℕ → ℕ → ℕ → Reading → Reading
steps_at states commands stars b p zero rest = rest
steps_at states commands stars b p (suc n) rest =
    demand (is_record b p 4 4) 9 p λ _.
    demand (step_fits states commands stars (step_in b (p + 6))) 10 p λ _.
    steps_at states commands stars b (p + 10) n rest

-- How many records of ten bytes are begun from p on.
unfoldable pub step_count : List ℕ → ℕ → ℕ
step_count b p = (length b + 9 - p) / 10

-- From the record of a start state at p on: steps follow up to the end.
unfoldable pub trace_at : ℕ → ℕ → (ℕ → ℕ) → List ℕ → ℕ → Reading
trace_at states commands stars b p =
    demand (ltb (two_at b (p + 6)) states) 10 p λ _.
    steps_at states commands stars b (p + 8) (step_count b (p + 8)) (holds (trace (two_at b (p + 6)) (steps_in b (p + 8) (step_count b (p + 8)))))

-- From the second record on, at p: a map or a start state.
unfoldable pub body_at : ℕ → ℕ → (ℕ → ℕ) → List ℕ → ℕ → Reading
body_at states commands stars b p =
    either (is_record b p 2 (map_length states)) (λ _. map_at states b p) λ _.
    either (is_record b p 3 2) (λ _. trace_at states commands stars b p) λ _.
    refused 9 p

-- The whole sheet for states of so many bits, a header of this kind with these counts, and commands with so many stars: not too long, the header, the rest.
unfoldable pub sheet_in : ℕ → ℕ → List ℕ → ℕ → (ℕ → ℕ) → List ℕ → Reading
sheet_in bits kind counts commands stars b =
    demand (leb (length b) longest) 9 longest λ _.
    demand (is_record b 0 kind (length counts)) 9 0 λ _.
    demand (same_counts counts b 6) 10 0 λ _.
    body_at (2 ^ bits) commands stars b (6 + length counts)

-- For a system.
abbrev pub sheet_of : System → List ℕ → Reading
sheet_of M b = sheet_in M.bits M.kind M.counts M.commands M.stars b

-- For the flat form of a model.
abbrev pub counts_in : Plan → List ℕ
counts_in plan = plan.shared ∷ plan.row ∷ plan.commands ∷ []

abbrev pub sheet_by : Plan → List ℕ → Reading
sheet_by plan b = sheet_in plan.bits 1 (counts_in plan) plan.commands (stars_in plan.stars) b

-- n records of steps stand from p on, whole and in range.
unfoldable pub StepsStand : ℕ → ℕ → (ℕ → ℕ) → List ℕ → ℕ → ℕ → Type 0
StepsStand states commands stars b p zero = Unit {0}
StepsStand states commands stars b p (suc n) =
    (is_record b p 4 4 ≡ true) × (step_fits states commands stars (step_in b (p + 6)) ≡ true) × StepsStand states commands stars b (p + 10) n

-- A trace stands from p on, up to the end.
pub record TraceStands (states commands : ℕ) (stars : ℕ → ℕ) (b : List ℕ) (p : ℕ) : Type 0 where
  pub head : is_record b p 3 2 ≡ true
  pub start : two_at b (p + 6) < states
  pub steps : StepsStand states commands stars b (p + 8) (step_count b (p + 8))

-- A map stands from p on, up to the end.
pub record MapStands (states : ℕ) (b : List ℕ) (p : ℕ) : Type 0 where
  pub head : is_record b p 2 (map_length states) ≡ true
  pub clear : unused_clear states (get_or b (p + 6) 0) ≡ true
  pub end : length b ≡ p + 6 + map_length states
