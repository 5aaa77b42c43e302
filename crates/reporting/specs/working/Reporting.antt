-- The report of a text as a computation.
-- Assumes nothing.
use Rattle.std.specs.Prelude.{◌≡◌, List, ℕ, ◌≤◌, length}
use Rattle.notation.specs.Model.{Model}
use Rattle.notation.specs.Texts.{model_of}
use Rattle.notation.specs.working.Machine.{Outcome, read, refused}
use Rattle.notation.specs.working.Answer.{answer}
use Rattle.sheets.specs.Sheets.{system_of}
use Rattle.meaning.specs.Evidence.{Verdict}
use Rattle.exploration.specs.working.Found.{found_in, transitions_of}
use Rattle.verdicts.specs.Answers as V
use Rattle.verdicts.specs.working.Searching.{search_of}
use Rattle.lines.specs.Lines.{refusal_line}
use Rattle.reporting.specs.Reports.{report_lines}

-- What is found of a model.
abbrev pub found_for : Model → Verdict
found_for m = found_in (transitions_of (system_of m))

-- The report of a text that was read or refused.
unfoldable pub report_in : List ℕ → Outcome → List ℕ
report_in text (read x) = report_lines text x (found_for (model_of x))
report_in text (refused n p) = refusal_line n p

-- The report of a text. What it is on every input is said by `ReportTells`, which is proved of it.
abbrev pub report_of : List ℕ → List ℕ
report_of text = report_in text (answer text)

-- An answer and the bytes of a sheet buffer that a search of the text left, in one go, over buffers with room for every search.
pub record Searched (text : List ℕ) (found : V.Searched) (sheet : List ℕ) : Type 0 where
  pub first : List ℕ
  pub second : List ℕ
  pub before : List ℕ
  pub first_long : 4096 ≤ length first
  pub second_long : 4096 ≤ length second
  pub sheet_long : 40967 ≤ length before
  pub answered : found ≡ (search_of text first second before).answer
  pub written : sheet ≡ (search_of text first second before).sheet
