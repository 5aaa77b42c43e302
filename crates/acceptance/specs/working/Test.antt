-- The test's outcome for a text and the bytes of a sheet.
-- Assumes nothing.
use Rattle.std.specs.Prelude.{◌≡◌, List, ℕ, ◌+◌, Result, Ok, Err}
use Rattle.notation.specs.Texts.{model_of}
use Rattle.notation.specs.working.Machine as N
use Rattle.notation.specs.working.Answer.{answer}
use Rattle.evaluation.specs.declared.plan.Plan.{Plan}
use Rattle.evaluation.specs.declared.one_row.OneRow.{OneRow}
use Rattle.reader.specs.declared.Code.{Code}
use Rattle.reader.specs.Read.{reading_of, read_code}
use Rattle.refusals.specs.declared.Refusal.{Refusal}
use Rattle.refusals.specs.Reasons.{refusal_of}
use Rattle.sheets.specs.Sheets.{system_of}
use Rattle.conditions.specs.Outcomes.{Tested}
use Rattle.conditions.specs.working.Judging.{outcome_of}

-- The outcome for a text that was read or refused, and a sheet.
unfoldable pub test_in : N.Outcome → List ℕ → Tested
test_in (N.read x) sheet = outcome_of (system_of (model_of x)) sheet
test_in (N.refused n p) sheet = Err (refusal_of n p)

-- The outcome for a text and a sheet. What it is on every input is said by `TestTells` and `TextComesFirst`, which are proved of it.
unfoldable pub test_of : List ℕ → List ℕ → Tested
test_of text sheet = test_in (answer text) sheet

-- The plan of code that was read.
abbrev pub plan_of : Code → Plan
plan_of c =
    record { ends = c.ends; stars = c.stars; shared = c.shared; row = c.row; commands = c.commands; bits = c.shared + c.row }

-- The plan of code that was read, or the refusal.
abbrev pub plan_in : Result Code Refusal → Result Plan Refusal
plan_in (Ok c) = Ok (plan_of c)
plan_in (Err r) = Err r

-- What a text was read into: its plan beside its code words, or its refusal beside zeros.
pub record ReadInto (text : List ℕ) (told : Result Plan Refusal) (ops : List ℕ) : Type 0 where
  pub planned : told ≡ plan_in (reading_of text)
  pub coded : ops ≡ (read_code text).ops

-- The table of one row that a text was read into, or its refusal.
abbrev pub TableOf : List ℕ → Result OneRow Refusal → Type 0
TableOf text (Ok t) = ReadInto text (Ok t.plan) t.ops.now
TableOf text (Err r) = Err r ≡ plan_in (reading_of text)
