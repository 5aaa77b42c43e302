-- What is promised of a reservation, each promise a type that a theorem of proofs/ inhabits.
-- Assumes nothing.
use Rattle.std.specs.Prelude.{◌≡◌, List, ℕ, ◌+◌, ◌*◌, ◌<◌, ◌≤◌, length}
use Rattle.std.proofs.Math.Option.{some}
use Prim.Native.String.{String}
use Rattle.notation.specs.Model.{Model}
use Rattle.notation.specs.Texts.{longest_text, TextSays, TextRefused}
use Rattle.notation.specs.Case.{Recased}
use Rattle.meaning.specs.OneRow.{state_count}
use Rattle.sheets.specs.Sheets.{system_of}
use Rattle.exploration.specs.Trials.{most_trials}
use Rattle.exploration.specs.working.Trials.{trial_count}
use Rattle.exploration.specs.working.Found.{transitions_of}
use Rattle.verdicts.specs.Answers as S
use Rattle.verdicts.specs.Promises.{answer_of, SearchRefused}
use Rattle.verdicts.specs.working.Searching.{search_of}
use Rattle.reserving.specs.Answers.{Wording, reserved, returned, wording_of}
use Rattle.reserving.specs.working.Reserving.{reserve_of}

-- The answer for a text, in words.
abbrev pub answer_for : List ℕ → Wording
answer_for text = wording_of (reserve_of text)

-- For a text that says a model: an entry for each state, ten bytes for each state and seven more, and every command with every word at every state.
abbrev pub ReserveTells : Type 0
ReserveTells = (text : List ℕ) (m : Model) → TextSays text m → answer_for text ≡ reserved (state_count m) (7 + 10 * state_count m) (most_trials m)

-- For a text that says none: its first refusal.
abbrev pub RefusalTells : Type 0
RefusalTells = (text : List ℕ) (n i : ℕ) → TextRefused text n i → answer_for text ≡ returned n i

-- So many entries and bytes are just enough for every search of the text: with as many none is refused, with fewer of any each is refused with 8.
-- And no search makes more trials than so many, whether or not it ends at a break.
pub record JustEnough (text : List ℕ) (entries bytes trials : ℕ) : Type 0 where
  pub enough : (first second sheet : List ℕ) → entries ≤ length first → entries ≤ length second → bytes ≤ length sheet
      → (n p : ℕ) → ¬ (answer_of (search_of text first second sheet) ≡ S.returned n p)
  pub first_short : (first second sheet : List ℕ) → length first < entries → SearchRefused 8 0 first second sheet (search_of text first second sheet)
  pub second_short : (first second sheet : List ℕ) → length second < entries → SearchRefused 8 0 first second sheet (search_of text first second sheet)
  pub sheet_short : (first second sheet : List ℕ) → length sheet < bytes → SearchRefused 8 0 first second sheet (search_of text first second sheet)
  pub most : (first second sheet : List ℕ) (v : String) (n k : ℕ)
      → answer_of (search_of text first second sheet) ≡ S.verdict v n (some k) → k ≤ trials
  pub made : (m : Model) → TextSays text m → trial_count (transitions_of (system_of m)) ≤ trials

abbrev pub ReservesJustEnough : Type 0
ReservesJustEnough = (text : List ℕ) (entries bytes trials : ℕ) → answer_for text ≡ reserved entries bytes trials → JustEnough text entries bytes trials

-- The case of letters inside names changes no answer.
abbrev pub ReservedWithoutCase : Type 0
ReservedWithoutCase = (text other : List ℕ) → Recased text other → answer_for text ≡ answer_for other

-- The numbers in an answer: no model has more than 4096 states, 16 commands and 256 words of a command.
abbrev pub Bounded : Wording → Type 0
Bounded (reserved entries bytes trials) = (entries ≤ 4096) × (bytes ≤ 7 + 10 * 4096) × (trials ≤ 4096 * (16 * 256))
Bounded (returned n p) = (1 ≤ n) × (n ≤ 7) × (p ≤ longest_text)

abbrev pub ReservationsBounded : Type 0
ReservationsBounded = (text : List ℕ) → Bounded (answer_for text)
