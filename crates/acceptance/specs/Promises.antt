-- What is promised of the test, each promise a type that a theorem of proofs/ inhabits.
-- Assumes nothing.
use Rattle.std.specs.Prelude.{◌≡◌, ◌↔◌, ◌⊎◌, List, ℕ, ◌≤◌}
use Rattle.notation.specs.Model.{Model}
use Rattle.notation.specs.Texts.{TextSays, TextRefused}
use Rattle.notation.specs.Case.{Recased}
use Rattle.meaning.specs.Meaning.{CanStart}
use Rattle.meaning.specs.OneRow.{One, TraceStep}
use Rattle.meaning.specs.Evidence.{safe, trace, safe_by, void_by, unsafe_by, IsVoid, Passes, Promise, ConditionA, ConditionB, ConditionC, ConditionD, ConditionE, ConditionF}
use Rattle.sheets.specs.Sheets.{system_of}
use Rattle.conditions.specs.Outcomes.{Wording, words, letter, returned, wording_of}
use Rattle.sheets.specs.SheetTexts.{longest, AreBytes, SheetSays, SheetRefused}
use Rattle.acceptance.specs.working.Test.{test_of}

-- What the test answers for a text and a sheet.
abbrev pub answer_to : List ℕ → List ℕ → Wording
answer_to text b = wording_of (test_of text b)

module _ (m : Model) (b : List ℕ) where
  -- The bytes say a map of which this holds.
  abbrev pub MapThat : (List ℕ → Type 0) → Type 0
  MapThat P = (map : List ℕ) × SheetSays (system_of m) b (safe map) × P map

  -- The bytes say a trace of which this holds.
  abbrev pub TraceThat : (ℕ → List TraceStep → Type 0) → Type 0
  TraceThat P = (s : ℕ) × (xs : List TraceStep) × SheetSays (system_of m) b (trace s xs) × P s xs

  -- Each answer for the model and the bytes, and exactly where it is given.
  pub record TestMeans (answer : Wording) : Type 0 where
    pub refusal : (n p : ℕ) → (answer ≡ returned n p) ↔ SheetRefused (system_of m) b n p
    pub safe_holds : (answer ≡ words "safe holds") ↔ MapThat λ map. ConditionA m map × ConditionB m map × ConditionC m map × CanStart m One
    pub void : (answer ≡ words "void") ↔ MapThat λ map. ConditionA m map × ConditionB m map × ConditionC m map × IsVoid m
    pub fails_a : (answer ≡ letter "A") ↔ MapThat λ map. ¬ (ConditionA m map)
    pub fails_b : (answer ≡ letter "B") ↔ MapThat λ map. ConditionA m map × ¬ (ConditionB m map)
    pub fails_c : (answer ≡ letter "C") ↔ MapThat λ map. ConditionA m map × ConditionB m map × ¬ (ConditionC m map)
    pub trace_holds : (answer ≡ words "trace holds") ↔ TraceThat λ s xs. ConditionD m s × ConditionE m s xs × ConditionF m s xs
    pub fails_d : (answer ≡ letter "D") ↔ TraceThat λ s xs. ¬ (ConditionD m s)
    pub fails_e : (answer ≡ letter "E") ↔ TraceThat λ s xs. ConditionD m s × ¬ (ConditionE m s xs)
    pub fails_f : (answer ≡ letter "F") ↔ TraceThat λ s xs. ConditionD m s × ConditionE m s xs × ¬ (ConditionF m s xs)

  -- Each of the three answers that let a sheet pass is given exactly where it passes with that verdict.
  pub record PassMeans (answer : Wording) : Type 0 where
    pub safe_sheet : (answer ≡ words "safe holds") ↔ MapThat λ map. Passes m (safe_by map)
    pub void_sheet : (answer ≡ words "void") ↔ MapThat λ map. Passes m (void_by map)
    pub trace_sheet : (answer ≡ words "trace holds") ↔ TraceThat λ s xs. Passes m (unsafe_by s xs)

-- Both for every text that says a model, and all bytes.
abbrev pub TestTells : Type 0
TestTells = (text : List ℕ) (m : Model) → TextSays text m → (b : List ℕ) → AreBytes b → TestMeans m b (answer_to text b)

abbrev pub PassTells : Type 0
PassTells = (text : List ℕ) (m : Model) → TextSays text m → (b : List ℕ) → AreBytes b → PassMeans m b (answer_to text b)

-- A text that says no model gets its own first refusal, whatever the bytes are.
abbrev pub TextComesFirst : Type 0
TextComesFirst = (text : List ℕ) (n i : ℕ) → TextRefused text n i → (b : List ℕ) → answer_to text b ≡ returned n i

-- The case of letters inside names changes no answer.
abbrev pub TestedWithoutCase : Type 0
TestedWithoutCase = (text other : List ℕ) → Recased text other → (b : List ℕ) → answer_to text b ≡ answer_to other b

-- The numbers in an answer: a refusal has a number from 1 to 10, and its place is no further than the longest sheet reaches.
abbrev pub Bounded : Wording → Type 0
Bounded (words s) = Unit {0}
Bounded (letter s) = Unit {0}
Bounded (returned n p) = (1 ≤ n) × (n ≤ 10) × (p ≤ longest)

abbrev pub AnswersBounded : Type 0
AnswersBounded = (text b : List ℕ) → Bounded (answer_to text b)

-- The answer is one of the three that let a sheet pass.
abbrev pub LetsPass : Wording → Type 0
LetsPass answer = (answer ≡ words "safe holds") ⊎ ((answer ≡ words "void") ⊎ (answer ≡ words "trace holds"))

-- The claim, said of the test: each answer is given exactly where it is due; where it is one of the three that let a sheet pass, what it says
-- holds of both tables; and for no text of the model and no bytes is it another of the three.
pub record TestPromise (text : List ℕ) (m : Model) (b : List ℕ) (n₁ n₂ : ℕ) : Type 0 where
  pub means : TestMeans m b (answer_to text b)
  pub safe_sheet : answer_to text b ≡ words "safe holds" → MapThat m b λ map. Promise m (safe_by map) n₁ n₂
  pub void_sheet : answer_to text b ≡ words "void" → MapThat m b λ map. Promise m (void_by map) n₁ n₂
  pub trace_sheet : answer_to text b ≡ words "trace holds" → TraceThat m b λ s xs. Promise m (unsafe_by s xs) n₁ n₂
  pub one_kind : (other c : List ℕ) → TextSays other m → AreBytes c → LetsPass (answer_to text b) → LetsPass (answer_to other c) → answer_to other c ≡ answer_to text b

-- For every text, the model that it says, all bytes, and all pairs of tables of one row or more. Whatever `test` is handed are bytes: its contract says so.
abbrev pub ClaimOfTest : Type 0
ClaimOfTest =
    (text : List ℕ) (m : Model) → TextSays text m → (b : List ℕ) → AreBytes b → (n₁ n₂ : ℕ) → 1 ≤ n₁ → 1 ≤ n₂ → TestPromise text m b n₁ n₂
