-- What is promised of questions about states, each promise a type that a theorem of proofs/ inhabits.
-- Assumes nothing.
use Rattle.std.specs.Prelude.{◌≡◌, ◌↔◌, ◌⊎◌, true, false, List, ℕ, ◌<◌, ◌≤◌, take}
use Rattle.std.proofs.Math.Option.{Option}
use Rattle.notation.specs.Model.{Model}
use Rattle.notation.specs.Texts.{TextSays, TextRefused}
use Rattle.notation.specs.Case.{Recased}
use Rattle.meaning.specs.OneRow.{state_count}
use Rattle.meaning.specs.Evidence.{safe, in_map}
use Rattle.sheets.specs.Sheets.{system_of}
use Rattle.sheets.specs.SheetTexts.{AreBytes, SheetSays}
use Rattle.conditions.specs.Outcomes as O
use Rattle.acceptance.specs.Promises as T
use Rattle.exploration.specs.Findings.{Reaches}
use Rattle.verdicts.specs.Answers.{verdict}
use Rattle.verdicts.specs.Left.{Left}
use Rattle.verdicts.specs.Promises.{answer_of}
use Rattle.verdicts.specs.working.Searching.{search_of}
use Rattle.questions.specs.Answers.{Wording, yes, no, told, wording_of}
use Rattle.questions.specs.working.Asking.{reached_of}

-- The reply for a text, a sheet and the number of a state, in words.
abbrev pub reply_to : List ℕ → List ℕ → ℕ → Wording
reply_to text b t = wording_of (reached_of text b t)

-- The test's answer is one of the two that let a map pass.
abbrev pub LetsMapPass : O.Wording → Type 0
LetsMapPass answer = (answer ≡ O.words "safe holds") ⊎ (answer ≡ O.words "void")

-- What is replied after the test's answer. Where that lets a map pass: yes exactly for its members, no exactly for the other states, and 10 for a number
-- that no state has. Any other answer is told, whatever the number.
pub record ReachedMeans (m : Model) (b : List ℕ) (t : ℕ) (answer : O.Wording) (reply : Wording) : Type 0 where
  pub member : LetsMapPass answer → (map : List ℕ) → SheetSays (system_of m) b (safe map) → t < state_count m → (reply ≡ yes) ↔ (in_map map t ≡ true)
  pub no_member : LetsMapPass answer → (map : List ℕ) → SheetSays (system_of m) b (safe map) → t < state_count m → (reply ≡ no) ↔ (in_map map t ≡ false)
  pub no_state : LetsMapPass answer → state_count m ≤ t → reply ≡ told (O.returned 10 0)
  pub no_map : ¬ (LetsMapPass answer) → reply ≡ told answer

-- For every text that says a model, all bytes, and every number.
abbrev pub ReachedTells : Type 0
ReachedTells =
    (text : List ℕ) (m : Model) → TextSays text m → (b : List ℕ) → AreBytes b → (t : ℕ) → ReachedMeans m b t (T.answer_to text b) (reply_to text b t)

-- A text that says no model gets its own first refusal, whatever the bytes and the number are.
abbrev pub RefusalTells : Type 0
RefusalTells = (text : List ℕ) (n i : ℕ) → TextRefused text n i → (b : List ℕ) (t : ℕ) → reply_to text b t ≡ told (O.returned n i)

-- No means that no run of the table of one row leads to the state, whoever wrote the sheet: a map that passes has every state that runs reach.
abbrev pub NoMeansNever : Type 0
NoMeansNever = (text : List ℕ) (m : Model) → TextSays text m → (b : List ℕ) → AreBytes b → (t : ℕ) → reply_to text b t ≡ no → ¬ (Reaches m t)

-- The search gave a map of so many bytes: its verdict is safe or void.
abbrev pub GaveMap : Left → ℕ → Option ℕ → Type 0
GaveMap left n k = (answer_of left ≡ verdict "safe" n k) ⊎ (answer_of left ≡ verdict "void" n k)

-- Of such a sheet, the front of the search's buffer, yes tells of runs too: it is the reply exactly for the states that runs reach, and no for the others.
abbrev pub YesMeansReached : Type 0
YesMeansReached =
    (text : List ℕ) (m : Model) → TextSays text m → (first second sheet : List ℕ) (n : ℕ) (k : Option ℕ) → GaveMap (search_of text first second sheet) n k
    → (t : ℕ) → t < state_count m
    → ((reply_to text (take n (search_of text first second sheet).sheet) t ≡ yes) ↔ Reaches m t)
    × ((reply_to text (take n (search_of text first second sheet).sheet) t ≡ no) ↔ (¬ (Reaches m t)))

-- The case of letters inside names changes no reply.
abbrev pub AskedWithoutCase : Type 0
AskedWithoutCase = (text other : List ℕ) → Recased text other → (b : List ℕ) (t : ℕ) → reply_to text b t ≡ reply_to other b t

-- The numbers in a reply: those of the test's answers.
abbrev pub Bounded : Wording → Type 0
Bounded yes = Unit {0}
Bounded no = Unit {0}
Bounded (told answer) = T.Bounded answer

abbrev pub RepliesBounded : Type 0
RepliesBounded = (text b : List ℕ) (t : ℕ) → Bounded (reply_to text b t)
