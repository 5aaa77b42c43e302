-- What is promised of reports, each promise a type that a theorem of proofs/ inhabits.
-- Assumes nothing.
use Rattle.std.specs.Prelude.{◌≡◌, List, ℕ, ◌≤◌, length}
use Rattle.notation.specs.Notation.{Tree}
use Rattle.notation.specs.Texts.{TextSaysTree, TextRefused, model_of}
use Rattle.meaning.specs.Evidence.{Verdict}
use Rattle.exploration.specs.Findings.{Finds}
use Rattle.lines.specs.Lines.{refusal_line}
use Rattle.reporting.specs.Reports.{report_lines, longest_report}
use Rattle.reporting.specs.working.Reporting.{report_of}

-- There is something to find of the model of every tree that a text says, and the text's report has its lines;
-- the report of a text that is refused is the line of its first refusal.
pub record Tells (text : List ℕ) : Type 0 where
  pub some : (x : Tree) → TextSaysTree text x → (v : Verdict) × Finds (model_of x) v
  pub finds : (x : Tree) (v : Verdict) → TextSaysTree text x → Finds (model_of x) v → report_of text ≡ report_lines text x v
  pub refuses : (n i : ℕ) → TextRefused text n i → report_of text ≡ refusal_line n i

abbrev pub ReportTells : Type 0
ReportTells = (text : List ℕ) → Tells text

-- There is room for every report.
abbrev pub ReportsFit : Type 0
ReportsFit = (text : List ℕ) → length (report_of text) ≤ longest_report
