-- The lines of a report: the counts of a model, the verdict, and how many states its map has or its first breaking run.
-- Assumes nothing.
use Rattle.std.specs.Prelude.{List, [], ◌∷◌, ◌++◌, ℕ, ◌+◌, length}
use Rattle.notation.specs.Bytes.{bytes}
use Rattle.notation.specs.Tokens.{Word}
use Rattle.notation.specs.Notation.{Tree}
use Rattle.notation.specs.Model.{Model}
use Rattle.notation.specs.Texts.{model_of}
use Rattle.meaning.specs.OneRow.{state_count, TraceStep}
use Rattle.meaning.specs.Evidence.{Verdict, safe_by, void_by, unsafe_by}
use Rattle.lines.specs.Lines.{decimal_of, line}
use Rattle.names.specs.Names.{command_name}
use Rattle.counting.specs.Counts.{setting_count}
use Rattle.counting.specs.CountLines.{count_lines}

-- How many shared names, row names and commands the model has.
abbrev pub counts_line : ℕ → ℕ → ℕ → List ℕ
counts_line shared row commands = line (bytes "model" ∷ decimal_of shared ∷ decimal_of row ∷ decimal_of commands ∷ [])

-- The verdict where no run goes wrong.
abbrev pub safe_line : List ℕ
safe_line = line (bytes "safe" ∷ [])

-- The verdict where none can begin.
abbrev pub void_line : List ℕ
void_line = line (bytes "void" ∷ [])

-- The verdict where one does, with the number of its steps.
abbrev pub unsafe_line : ℕ → List ℕ
unsafe_line steps = line (bytes "unsafe" ∷ decimal_of steps ∷ [])

-- The state where the run starts.
abbrev pub start_line : ℕ → List ℕ
start_line s = line (bytes "start" ∷ decimal_of s ∷ [])

-- A step of the run: its number, the name of its command, its choice word, and the state after it.
abbrev pub step_line : ℕ → Word → ℕ → ℕ → List ℕ
step_line number called chosen after = line (bytes "step" ∷ decimal_of number ∷ called ∷ decimal_of chosen ∷ decimal_of after ∷ [])

-- Steps from some number on, where the commands have these names.
unfoldable pub step_lines : (ℕ → Word) → ℕ → List TraceStep → List ℕ
step_lines called number [] = []
step_lines called number (x ∷ xs) = step_line number (called x.command) x.word x.after ++ step_lines called (number + 1) xs

-- The lines of a verdict on a model: after `safe` follow the counts of the map, after `unsafe` the run, its steps numbered from 1.
unfoldable pub verdict_lines : Model → (ℕ → Word) → Verdict → List ℕ
verdict_lines m called (safe_by map) = safe_line ++ count_lines (state_count m) (setting_count m) map
verdict_lines m called (void_by map) = void_line
verdict_lines m called (unsafe_by s xs) = unsafe_line (length xs) ++ (start_line s ++ step_lines called 1 xs)

-- THE REPORT of the model of a text that says the tree, where this is found.
unfoldable pub report_lines : List ℕ → Tree → Verdict → List ℕ
report_lines text x v =
    counts_line (model_of x).shared_names (model_of x).row_names (length (model_of x).commands) ++ verdict_lines (model_of x) (command_name text x) v

-- A bound on the length of a report: 37 bytes for the first three lines, and 36 for each of 4,095 steps.
abbrev pub longest_report : ℕ
longest_report = 147457
