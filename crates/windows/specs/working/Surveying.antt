-- What is answered to a question about a text and the bytes of a sheet, and what a lent list holds afterwards.
-- Assumes nothing.
use Rattle.std.specs.Prelude.{cond, List, ℕ, zero, suc, ◌+◌, ◌*◌, eqb, length, get_or, set, take, replicate, Option, Some, None, Result, Ok, Err}
use Rattle.notation.specs.Texts.{model_of}
use Rattle.notation.specs.working.Machine as N
use Rattle.notation.specs.working.Answer.{answer}
use Rattle.sheets.specs.Sheets.{system_of, header_length}
use Rattle.sheets.specs.SheetTexts.{two_at}
use Rattle.refusals.specs.declared.Reason.{Reason}
use Rattle.refusals.specs.Reasons.{reason_of}
use Rattle.refusals.specs.Reasons as R
use Rattle.conditions.specs.Outcomes.{Tested, declined}
use Rattle.conditions.specs.declared.outcome.Declined.TheVariants.{Refused}
use Rattle.conditions.specs.working.Judging.{outcome_of}
use Rattle.traces.specs.working.Passing.{trace_passed, last_place}
use Rattle.meaning.specs.Bits.{first}
use Rattle.windows.specs.Bursts.{counts_of}
use Rattle.windows.specs.Questions.{refusal_of}
use Rattle.windows.specs.working.Sliding.{commands_in, tally_of, fresh}
use Rattle.windows.specs.declared.record.Step.{Step}
use Rattle.windows.specs.declared.record.Question.{Question}
use Rattle.windows.specs.declared.record.Question.TheVariants as Q
use Rattle.windows.specs.declared.record.Answer.{Answer}
use Rattle.windows.specs.declared.record.Answer.TheVariants as A
use Rattle.windows.specs.declared.record.Unanswered.{Unanswered}
use Rattle.windows.specs.declared.record.Unanswered.TheVariants as U
use Rattle.windows.specs.declared.record.Tally.{Tally}
use Rattle.windows.specs.declared.record.Begun.{Begun}
use Rattle.windows.specs.declared.record.Reply.{Reply}

-- In a sheet with a trace, behind a header of h bytes: step i, from 0, as a record of the list.
unfoldable pub step_at : ℕ → List ℕ → ℕ → Step
step_at h b i = record { command = get_or b (h + 8 + 10 * i + 6) 0; word = get_or b (h + 8 + 10 * i + 7) 0; after = two_at b (h + 8 + 10 * i + 8) }

-- The commands of its first n steps.
abbrev pub commands_at : ℕ → List ℕ → ℕ → List ℕ
commands_at h b n = first n (λ i. (step_at h b i).command)

-- A list with f 0, f 1 and so on at its first n places.
unfoldable pub filled : (ℕ → Step) → List Step → ℕ → List Step
filled f l zero = l
filled f l (suc i) = set (filled f l i) i (f i)

-- The reason that the number of a question's refusal tells; none where it is 0.
unfoldable pub reason_for : ℕ → Option Reason
reason_for n = cond (eqb n 0) None (Some (reason_of n))

-- The tally to begin with, which has seen nothing yet. Only of a burst it will tell anything.
unfoldable pub tally_for : Question → Tally
tally_for Q.Steps = fresh 0 1
tally_for (Q.Counts room) = fresh 0 1
tally_for (Q.Burst k w) = fresh k w

-- Where n steps are counted.
abbrev pub going : Question → ℕ → List ℕ → Begun
going q n counts = record { steps = n; counts = counts; from = tally_for q }

-- A question on a sheet with a trace that passes, behind a header of h bytes; and where the test answers this.
unfoldable pub begin_in : ℕ → Question → ℕ → List ℕ → ℕ → Result Begun Unanswered
begin_in h q commands b places =
    let n = last_place h b in
    let r = refusal_of q commands places n in
    cond (eqb r 0) (Ok (going q n (counts_of (commands_at h b n)))) (Err (U.Refused (reason_of r)))

unfoldable pub begin_after : Tested → ℕ → Question → ℕ → List ℕ → ℕ → Result Begun Unanswered
begin_after o h q commands b places = cond (trace_passed o) (begin_in h q commands b places) (Err (U.Declined (declined o)))

-- For a text that was read or refused: over the system of its model.
unfoldable pub begin_for : N.Outcome → Question → List ℕ → ℕ → Result Begun Unanswered
begin_for (N.read x) q b places = let M = system_of (model_of x) in begin_after (outcome_of M b) (header_length M) q M.commands b places
begin_for (N.refused n i) q b places = Err (U.Declined (Refused (R.refusal_of n i)))

unfoldable pub begin_of : Question → List ℕ → List ℕ → ℕ → Result Begun Unanswered
begin_of q text b places = begin_for (answer text) q b places

-- The answer where n steps are counted: so many there are, or the burst that the tally tells.
unfoldable pub answered_by : Question → ℕ → Tally → Answer
answered_by Q.Steps n t = A.Steps n
answered_by (Q.Counts room) n t = A.Steps n
answered_by (Q.Burst k w) n t = A.Burst t.most t.place

-- What the list holds afterwards, and the reply.
pub record Survey : Type 0 where
  pub list : List Step
  pub reply : Reply

-- Where steps are counted, the list is filled behind a header of h bytes; else it stays.
unfoldable pub survey_in : ℕ → Question → Result Begun Unanswered → List ℕ → List Step → Survey
survey_in h q (Ok begun) b list =
    let full = filled (step_at h b) list begun.steps in
    let t = tally_of begun.from.command begun.from.width (commands_in (take begun.steps full)) in
    record { list = full; reply = record { answer = Ok (answered_by q begun.steps t); counts = begun.counts } }
survey_in h q (Err e) b list = record { list = list; reply = record { answer = Err e; counts = replicate 16 0 } }

-- How long a header is: that of the text's model. Where the text is refused, nothing is read behind it.
abbrev pub header_of : N.Outcome → ℕ
header_of (N.read x) = header_length (system_of (model_of x))
header_of (N.refused n i) = 0

-- A question on a text and a sheet. What comes of it on every input is said by `SurveysTell` and `RefusalTells`, which are proved of it.
unfoldable pub survey_of : Question → List ℕ → List ℕ → List Step → Survey
survey_of q text b list = survey_in (header_of (answer text)) q (begin_of q text b (length list)) b list

-- A list with a place for every step that a sheet can have, as a caller has it that lends none.
abbrev pub blank : Step
blank = record { command = 0; word = 0; after = 0 }

unfoldable pub blanks : List Step
blanks = replicate 6551 blank
