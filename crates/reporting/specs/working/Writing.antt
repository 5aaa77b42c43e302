-- The report over the flat form of a model and the bytes of a sheet, as the code writes it.
-- Assumes nothing.
use Rattle.std.specs.Prelude.{List, ◌++◌, ℕ, ◌+◌, ◌-◌, ◌/◌, ◌^◌, ◌≤◌, length}
use Rattle.notation.specs.Regular.{Every}
use Rattle.meaning.specs.OneRow.{TraceStep}
use Rattle.reader.specs.declared.Code.{Code}
use Rattle.sheets.specs.SheetTexts.{two_at}
use Rattle.sheets.specs.working.SheetReading.{map_in, steps_in}
use Rattle.names.specs.working.Arrays.{name_in, Named}
use Rattle.counting.specs.CountLines.{count_lines}
use Rattle.counting.specs.working.Counting.{Countable}
use Rattle.reporting.specs.Reports.{counts_line, safe_line, void_line, unsafe_line, start_line, step_line, step_lines}

-- The line of a step, where the commands' names begin with name `base`.
abbrev pub record_line : List ℕ → List ℕ → ℕ → ℕ → TraceStep → List ℕ
record_line text names base number x = step_line number (name_in text names (base + x.command)) x.word x.after

-- Where the records behind a sheet's header begin.
abbrev pub header_end : ℕ
header_end = 9

-- The start state, how many steps there are, and the steps that the bytes of a trace say.
abbrev pub start_in : List ℕ → ℕ
start_in sheet = two_at sheet (header_end + 6)

abbrev pub steps_of : List ℕ → ℕ
steps_of sheet = (length sheet - (header_end + 8)) / 10

abbrev pub trace_steps : List ℕ → List TraceStep
trace_steps sheet = steps_in sheet (header_end + 8) (steps_of sheet)

-- Their lines, where the commands' names begin with name `base`.
abbrev pub steps_shown : List ℕ → List ℕ → ℕ → List ℕ → List ℕ
steps_shown text names base sheet = step_lines (λ k. name_in text names (base + k)) 1 (trace_steps sheet)

-- The run that the bytes of a trace say.
abbrev pub run_lines : List ℕ → List ℕ → ℕ → List ℕ → List ℕ
run_lines text names base sheet = unsafe_line (steps_of sheet) ++ (start_line (start_in sheet) ++ steps_shown text names base sheet)

-- A start state stands there, and the command of each step has a name.
pub record Shown (text names : List ℕ) (base : ℕ) (sheet : List ℕ) : Type 0 where
  pub long : header_end + 8 ≤ length sheet
  pub few : base ≤ 28
  pub named : Every (λ (x : TraceStep). Named text names (base + x.command)) (trace_steps sheet)

-- The line of the counts.
abbrev pub counts : Code → List ℕ
counts c = counts_line c.shared c.row c.commands

-- The run with the names of the flat form.
abbrev pub run_of : List ℕ → List ℕ → Code → List ℕ
run_of text sheet c = run_lines text c.names (c.shared + c.row) sheet

-- Where the payload of a sheet's map begins, and how many bytes it has: all that follow.
abbrev pub payload_start : ℕ
payload_start = header_end + 6

abbrev pub payload_length : List ℕ → ℕ
payload_length sheet = length sheet - payload_start

-- The lines of that map.
abbrev pub map_lines : Code → List ℕ → List ℕ
map_lines c sheet = count_lines (2 ^ (c.shared + c.row)) (2 ^ c.shared) (map_in sheet payload_start (payload_length sheet))

-- What they ask of the flat form and the sheet.
pub record MapShown (c : Code) (sheet : List ℕ) : Type 0 where
  pub long : payload_start ≤ length sheet
  pub map : Countable (c.shared + c.row) c.shared (map_in sheet payload_start (payload_length sheet))

-- The report of a safe model, whose map stands in the sheet.
abbrev pub safe_report : Code → List ℕ → List ℕ
safe_report c sheet = counts c ++ (safe_line ++ map_lines c sheet)

-- The report of a void model.
abbrev pub void_report : Code → List ℕ
void_report c = counts c ++ void_line

-- The report of an unsafe model, whose trace is the sheet.
abbrev pub trace_report : List ℕ → Code → List ℕ → List ℕ
trace_report text c sheet = counts c ++ run_of text sheet c

-- What it asks of the names and the sheet.
abbrev pub Printable : List ℕ → Code → List ℕ → Type 0
Printable text c sheet = Shown text c.names (c.shared + c.row) sheet
