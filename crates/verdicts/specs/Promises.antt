-- What is promised of the search, of the sheets that it writes, and of sheets and tables in the whole claim.
-- Assumes nothing.
use Rattle.std.specs.Prelude.{◌≡◌, ◌↔◌, true, List, ℕ, ◌+◌, ◌*◌, ◌≤◌, length, take}
use Rattle.std.proofs.Math.Option.{Option, some, get_or}
use Prim.Native.String.{String}
use Rattle.std.proofs.lemmas.List.Edits.{sets}
use Rattle.notation.specs.Model.{Model}
use Rattle.notation.specs.Texts.{longest_text, TextSays, TextRefused}
use Rattle.notation.specs.Case.{Recased}
use Rattle.meaning.specs.Meaning.{Safe, Unsafe, CanStart}
use Rattle.meaning.specs.OneRow.{One, state_count}
use Rattle.sheets.specs.Sheets.{system_of, sheet_room, sheet_bytes}
use Rattle.sheets.specs.SheetTexts.{AreBytes}
use Rattle.conditions.specs.Outcomes.{words}
use Rattle.acceptance.specs.Promises.{answer_to, TestPromise}
use Rattle.meaning.specs.Evidence.{IsVoid, Verdict, evidence_of}
use Rattle.exploration.specs.Findings.{Finds}
use Rattle.exploration.specs.Trials.{most_trials, trials_of}
use Rattle.exploration.specs.working.Trials.{trial_count}
use Rattle.exploration.specs.working.Found.{transitions_of}
use Rattle.verdicts.specs.Answers.{Wording, verdict, returned, wording_of}
use Rattle.verdicts.specs.Left.{Left, Leaves, zeroed}
use Rattle.verdicts.specs.working.Searching.{roomy, search_of}

-- The two lent tables have an entry for each state, and the lent sheet buffer has room for the longest sheet: ten bytes for each state and seven more.
abbrev pub Room : Model → List ℕ → List ℕ → List ℕ → Type 0
Room m first second sheet = (state_count m ≤ length first) × (state_count m ≤ length second) × (sheet_room (system_of m) ≤ length sheet)

-- The computed test of the room says just that.
abbrev pub RoomTells : Type 0
RoomTells = (m : Model) (first second sheet : List ℕ) → (roomy (system_of m) first second sheet ≡ true) ↔ Room m first second sheet

-- Contents of which `Leaves` holds are all that the call left, in each of the three buffers.
abbrev pub LeavesTell : Type 0
LeavesTell =
    (L : Left) (first second sheet : List ℕ) → Leaves L first second sheet
    → ◌≡◌ {A = Left} (record { answer = L.answer; first = first; second = second; sheet = sheet }) L

-- The answer of a call, in words.
abbrev pub answer_of : Left → Wording
answer_of left = wording_of left.answer

-- The call has searched: it found what there is to find of the model, put the bytes of the sheet at the front of the buffer,
-- gave the verdict with their number and that of its trials, and left the tables cleared as far as there are states. All else in the buffers is as it was.
-- Where the verdict has a number of trials, it is that of the trials which the search made.
pub record SearchDone (m : Model) (first second sheet : List ℕ) (left : Left) : Type 0 where
  pub found : Verdict
  pub right : Finds m found
  pub fits : length (sheet_bytes (system_of m) (evidence_of found)) ≤ length sheet
  pub written : left.sheet ≡ sets sheet 0 (sheet_bytes (system_of m) (evidence_of found))
  pub safely : (answer_of left ≡ verdict "safe" (length (sheet_bytes (system_of m) (evidence_of found))) (trials_of m found)) ↔ (Safe m One × CanStart m One)
  pub voidly : (answer_of left ≡ verdict "void" (length (sheet_bytes (system_of m) (evidence_of found))) (trials_of m found)) ↔ IsVoid m
  pub unsafely : (answer_of left ≡ verdict "unsafe" (length (sheet_bytes (system_of m) (evidence_of found))) (trials_of m found)) ↔ Unsafe m One
  pub tried : (k : ℕ) → trials_of m found ≡ some k → trial_count (transitions_of (system_of m)) ≡ k
  pub first_cleared : left.first ≡ zeroed (state_count m) first
  pub second_cleared : left.second ≡ zeroed (state_count m) second

-- The call was refused with this number and place, and every buffer is as it was.
pub record SearchRefused (n p : ℕ) (first second sheet : List ℕ) (left : Left) : Type 0 where
  pub answered : answer_of left ≡ returned n p
  pub first_kept : left.first ≡ first
  pub second_kept : left.second ≡ second
  pub sheet_kept : left.sheet ≡ sheet

-- Where there is room the call has searched, and where there is none it was refused with 8.
pub record SearchMeans (m : Model) (first second sheet : List ℕ) (left : Left) : Type 0 where
  pub room_there : Room m first second sheet → SearchDone m first second sheet left
  pub room_missing : ¬ (Room m first second sheet) → SearchRefused 8 0 first second sheet left

-- For every text that says a model, and all lent buffers, whatever they hold.
abbrev pub SearchTells : Type 0
SearchTells =
    (text : List ℕ) (m : Model) → TextSays text m → (first second sheet : List ℕ) → SearchMeans m first second sheet (search_of text first second sheet)

-- A text that says no model gets its own first refusal, whatever the buffers are.
abbrev pub TextRefusedFirst : Type 0
TextRefusedFirst =
    (text : List ℕ) (n i : ℕ) → TextRefused text n i → (first second sheet : List ℕ) → SearchRefused n i first second sheet (search_of text first second sheet)

-- The case of letters inside names changes neither the answer nor what is left in the lent buffers.
abbrev pub SearchedWithoutCase : Type 0
SearchedWithoutCase = (text other : List ℕ) → Recased text other → (first second sheet : List ℕ) → search_of text first second sheet ≡ search_of other first second sheet

-- No search of a text's model tells more trials than there are at all its states.
abbrev pub TrialsBounded : Type 0
TrialsBounded =
    (text : List ℕ) (m : Model) → TextSays text m → (first second sheet : List ℕ) (s : String) (n k : ℕ)
    → answer_of (search_of text first second sheet) ≡ verdict s n (some k) → k ≤ most_trials m

-- The numbers in an answer: no sheet has more bytes than the largest model takes, and no search more trials; a refusal has a number from 1 to 8,
-- and its place is no further than the longest text reaches.
abbrev pub Bounded : Wording → Type 0
Bounded (verdict s n t) = (n ≤ 7 + 10 * 4096) × (get_or t 0 ≤ 4096 * (16 * 256))
Bounded (returned n p) = (1 ≤ n) × (n ≤ 8) × (p ≤ longest_text)

abbrev pub AnswersBounded : Type 0
AnswersBounded = (text first second sheet : List ℕ) → Bounded (answer_of (search_of text first second sheet))

-- The front of the sheet buffer, as long as the answer says, passes the test for the same text: as a map after safe and after void, as a trace after unsafe.
pub record FrontPasses (text : List ℕ) (left : Left) : Type 0 where
  pub after_safe : (n : ℕ) (t : Option ℕ) → answer_of left ≡ verdict "safe" n t → answer_to text (take n left.sheet) ≡ words "safe holds"
  pub after_void : (n : ℕ) (t : Option ℕ) → answer_of left ≡ verdict "void" n t → answer_to text (take n left.sheet) ≡ words "void"
  pub after_unsafe : (n : ℕ) (t : Option ℕ) → answer_of left ≡ verdict "unsafe" n t → answer_to text (take n left.sheet) ≡ words "trace holds"

-- For every text and all lent buffers, whatever they hold.
abbrev pub SheetsPass : Type 0
SheetsPass = (text first second sheet : List ℕ) → FrontPasses text (search_of text first second sheet)

-- All that is claimed of a text, its model, the bytes of a sheet, and tables of n₁ and of n₂ rows: the test keeps its promise, each answer exactly where it is due,
-- and with all lent buffers that have room the search finds a sheet that the test lets pass.
pub record WholePromise (text : List ℕ) (m : Model) (b : List ℕ) (n₁ n₂ : ℕ) : Type 0 where
  pub tested : TestPromise text m b n₁ n₂
  pub searched : (first second sheet : List ℕ) → Room m first second sheet → SearchDone m first second sheet (search_of text first second sheet)
  pub written : (first second sheet : List ℕ) → FrontPasses text (search_of text first second sheet)

-- THE WHOLE CLAIM: for every text, the model that it says, all bytes, and all pairs of tables of one row or more.
-- What `test` is handed are bytes, and so is what `search` leaves in the sheet buffer: their contracts say so.
abbrev pub WholeClaim : Type 0
WholeClaim =
    (text : List ℕ) (m : Model) → TextSays text m → (b : List ℕ) → AreBytes b → (n₁ n₂ : ℕ) → 1 ≤ n₁ → 1 ≤ n₂ → WholePromise text m b n₁ n₂
