-- What is promised of bursts, each promise a type that a theorem of proofs/ inhabits.
-- Assumes nothing.
use Rattle.std.specs.Prelude.{◌≡◌, List, ℕ, ◌<◌, ◌≤◌, length}
use Rattle.notation.specs.Model.{Model}
use Rattle.notation.specs.Texts.{TextSays, TextRefused}
use Rattle.notation.specs.Case.{Recased}
use Rattle.notation.specs.Regular.{Every, sum_over}
use Rattle.meaning.specs.Bits.{first}
use Rattle.meaning.specs.OneRow.{TraceStep}
use Rattle.sheets.specs.SheetTexts.{AreBytes}
use Rattle.conditions.specs.Outcomes as O
use Rattle.acceptance.specs.Promises as T
use Rattle.acceptance.specs.Promises.{answer_to, TraceThat}
use Rattle.traces.specs.Passed.{TracePassed}
use Rattle.windows.specs.Bursts.{commands_of, occurs, occurs_from, last_stretch, burst, counts_of}
use Rattle.windows.specs.Questions.{with_steps, refusal_of, Wording, steps, told, wording_of, answer_for}
use Rattle.windows.specs.Questions as Q
use Rattle.windows.specs.working.Surveying.{survey_of}
use Rattle.windows.specs.declared.record.Step.{Step}
use Rattle.windows.specs.declared.record.Question.{Question}

-- What is answered to a question about a text and a sheet, with a list lent.
abbrev pub answer_of : Question → List ℕ → List ℕ → List Step → Wording
answer_of q text b list = wording_of (survey_of q text b list).reply.answer

-- How often each command occurs, by the reply.
abbrev pub counts_after : Question → List ℕ → List ℕ → List Step → List ℕ
counts_after q text b list = (survey_of q text b list).reply.counts

-- What the list holds afterwards.
abbrev pub list_after : Question → List ℕ → List ℕ → List Step → List Step
list_after q text b list = (survey_of q text b list).list

-- A question on a trace of a model. Its first refusal leaves the list; without one the list has the steps at its front, and the answer is that for their commands.
pub record OnTrace (m : Model) (xs : List TraceStep) (q : Question) (list : List Step) (answer : Wording) (counts : List ℕ) (after : List Step) : Type 0 where
  pub refused : (n : ℕ) → refusal_of q (length m.commands) (length list) (length xs) ≡ n → 1 ≤ n → (answer ≡ Q.refused n) × (after ≡ list)
  pub answered : refusal_of q (length m.commands) (length list) (length xs) ≡ 0
      → (answer ≡ answer_for q (commands_of xs)) × (counts ≡ counts_of (commands_of xs)) × (after ≡ with_steps list xs)

-- A question after the test's answer: on the trace that passes; else that answer, and the list stays.
pub record SurveyMeans (m : Model) (b : List ℕ) (q : Question) (list : List Step) (tested : O.Wording) (answer : Wording) (counts : List ℕ) (after : List Step) : Type 0 where
  pub on_trace : TracePassed tested → TraceThat m b λ s xs. OnTrace m xs q list answer counts after
  pub no_trace : ¬ (TracePassed tested) → (answer ≡ told tested) × (after ≡ list)

-- For every text that says a model, all bytes, every question and every list.
abbrev pub SurveysTell : Type 0
SurveysTell =
    (text : List ℕ) (m : Model) → TextSays text m → (b : List ℕ) → AreBytes b → (q : Question) (list : List Step)
    → SurveyMeans m b q list (answer_to text b) (answer_of q text b list) (counts_after q text b list) (list_after q text b list)

-- A text that says no model: its own first refusal, whatever the bytes are, and the list stays.
abbrev pub RefusalTells : Type 0
RefusalTells =
    (text : List ℕ) (n i : ℕ) → TextRefused text n i → (b : List ℕ) (q : Question) (list : List Step)
    → (answer_of q text b list ≡ told (O.returned n i)) × (list_after q text b list ≡ list)

-- A burst in steps with these commands: it is reached at its place, where a stretch begins; no stretch has more, and every earlier one has fewer.
pub record IsBurst (k w : ℕ) (xs : List ℕ) (most place : ℕ) : Type 0 where
  pub begins : (1 ≤ place) × (place ≤ last_stretch w xs)
  pub reached : occurs_from k w xs place ≡ most
  pub no_more : (p : ℕ) → 1 ≤ p → p ≤ last_stretch w xs → occurs_from k w xs p ≤ most
  pub fewer : (p : ℕ) → 1 ≤ p → p < place → occurs_from k w xs p < most

-- What is given is such a burst, and no other pair of numbers is one.
pub record BurstMeans (k w : ℕ) (xs : List ℕ) : Type 0 where
  pub is : IsBurst k w xs (burst k w xs).most (burst k w xs).place
  pub only : (most place : ℕ) → IsBurst k w xs most place → (most ≡ (burst k w xs).most) × (place ≡ (burst k w xs).place)

abbrev pub BurstsTell : Type 0
BurstsTell = (k w : ℕ) (xs : List ℕ) → BurstMeans k w xs

-- Where the stretch is at least as long as the trace, the most is the command's count, from place 1.
abbrev pub WholeTells : Type 0
WholeTells = (k w : ℕ) (xs : List ℕ) → length xs ≤ w → ((burst k w xs).most ≡ occurs k xs) × ((burst k w xs).place ≡ 1)

-- The counts of n commands add up to the number of steps, where no step has another command.
abbrev pub CountsAddUp : Type 0
CountsAddUp = (n : ℕ) (xs : List ℕ) → Every (λ x. x < n) xs → sum_over (λ k. occurs k xs) (first n (λ k. k)) ≡ length xs

-- So it is for every trace that passes: the counts that are given, and those of the model's commands alone, add up to the steps that the sheet says.
pub record SheetAddsUp (m : Model) (xs : List TraceStep) (counts : List ℕ) : Type 0 where
  pub given : sum_over (λ k. k) counts ≡ length xs
  pub of_model : sum_over (λ k. occurs k (commands_of xs)) (first (length m.commands) (λ k. k)) ≡ length xs

abbrev pub SheetsAddUp : Type 0
SheetsAddUp =
    (text : List ℕ) (m : Model) → TextSays text m → (b : List ℕ) → AreBytes b → TracePassed (answer_to text b)
    → TraceThat m b λ s xs. SheetAddsUp m xs (counts_of (commands_of xs))

-- The case of letters inside names changes nothing.
abbrev pub SurveyedWithoutCase : Type 0
SurveyedWithoutCase =
    (text other : List ℕ) → Recased text other → (b : List ℕ) (q : Question) (list : List Step) → survey_of q text b list ≡ survey_of q other b list

-- The numbers in an answer: at most 6,551 steps, a burst of no more, from a place among them or 1; a refusal of a question has a number from 1 to 16; and those of the test's answers.
abbrev pub Bounded : Wording → Type 0
Bounded (steps n) = n ≤ 6551
Bounded (Q.burst most place) = (most ≤ 6551) × (1 ≤ place) × (place ≤ 6551)
Bounded (Q.refused n) = (1 ≤ n) × (n ≤ 16)
Bounded (told tested) = T.Bounded tested

abbrev pub SurveysBounded : Type 0
SurveysBounded = (text b : List ℕ) (q : Question) (list : List Step) → Bounded (answer_of q text b list)
