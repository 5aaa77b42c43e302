-- What may be asked of the steps of a trace, what is answered, and why a question is refused.
-- Assumes nothing.
use Rattle.std.specs.Prelude.{cond, List, map, ℕ, eqb, leb, ltb, length, Result, Ok, Err}
use Rattle.std.proofs.lemmas.List.Edits.{sets}
use Rattle.meaning.specs.OneRow.{TraceStep}
use Rattle.refusals.specs.Reasons.{number_of}
use Rattle.conditions.specs.Outcomes as T
use Rattle.windows.specs.Bursts as B
use Rattle.windows.specs.declared.record.Step.{Step}
use Rattle.windows.specs.declared.record.Question.{Question}
use Rattle.windows.specs.declared.record.Question.TheVariants as Q
use Rattle.windows.specs.declared.record.Answer.{Answer}
use Rattle.windows.specs.declared.record.Answer.TheVariants as A
use Rattle.windows.specs.declared.record.Unanswered.{Unanswered}
use Rattle.windows.specs.declared.record.Unanswered.TheVariants as U

-- A step of a trace as a record of the list.
abbrev pub record_of : TraceStep → Step
record_of x = record { command = x.command; word = x.word; after = x.after }

-- A list with a trace's steps at its front, all else as before.
abbrev pub with_steps : List Step → List TraceStep → List Step
with_steps list xs = sets list 0 (map record_of xs)

-- The number of what is wrong with a question by itself, where there are so many commands; 0 where nothing is.
-- 8 for fewer than 16 counts; 10 for a command that is not there, before 16 for a width out of range.
unfoldable pub fault_of : Question → ℕ → ℕ
fault_of Q.Steps commands = 0
fault_of (Q.Counts room) commands = cond (ltb room 16) 8 0
fault_of (Q.Burst k w) commands = cond (leb commands k) 10 (cond (eqb w 0) 16 (cond (ltb 4095 w) 16 0))

-- The number of a question's first refusal, where the list has so many places and the trace so many steps: before all else 8, for a list without a place for every step.
unfoldable pub refusal_of : Question → ℕ → ℕ → ℕ → ℕ
refusal_of q commands places steps = cond (ltb places steps) 8 (fault_of q commands)

-- What may be answered: how many steps there are; the most in a burst, and its place; the number of a question's refusal, whose place is always 0; or what the test says,
-- where there is no trace that passes.
pub data Wording : Type 0 where
  steps : ℕ → Wording
  burst : ℕ → ℕ → Wording
  refused : ℕ → Wording
  told : T.Wording → Wording

-- What each answer stands for.
unfoldable pub wording_of : Result Answer Unanswered → Wording
wording_of (Ok (A.Steps n)) = steps n
wording_of (Ok (A.Burst most place)) = burst most place
wording_of (Err (U.Refused r)) = refused (number_of r)
wording_of (Err (U.Declined d)) = told (T.wording_of_declined d)

-- The answer to a question that is not refused, for steps with these commands.
unfoldable pub answer_for : Question → List ℕ → Wording
answer_for Q.Steps xs = steps (length xs)
answer_for (Q.Counts room) xs = steps (length xs)
answer_for (Q.Burst k w) xs = burst (B.burst k w xs).most (B.burst k w xs).place
