-- All that is written of a text, a sheet and a width, as a computation over the answers to questions.
-- Assumes nothing.
use Rattle.std.specs.Prelude.{cond, List, [], ℕ, ◌+◌, ◌<◌, ◌≤◌, eqb, ltb, length, get_or}
use Rattle.notation.specs.Tokens.{Word}
use Rattle.notation.specs.Texts.{model_of}
use Rattle.notation.specs.working.Machine as N
use Rattle.notation.specs.working.Answer.{answer}
use Rattle.reader.specs.declared.Code.{Code}
use Rattle.windows.specs.Questions.{Wording, steps, burst, refused, told}
use Rattle.windows.specs.Promises.{answer_of, counts_after}
use Rattle.windows.specs.working.Surveying.{blanks}
use Rattle.windows.specs.declared.record.Question.TheVariants.{Steps, Burst}
use Rattle.lines.specs.Lines.{refusal_line}
use Rattle.wording.specs.Lines.{spelt}
use Rattle.names.specs.Names.{command_name}
use Rattle.names.specs.working.Arrays.{name_in, Named}
use Rattle.bursts.specs.Lines.{burst_line, lines_from}

-- The line of a command that has this name and occurs so often. Only an answer with a burst has one.
unfoldable pub line_for : Word → ℕ → Wording → List ℕ
line_for called count (steps n) = []
line_for called count (burst most place) = burst_line called count most place
line_for called count (refused n) = []
line_for called count (told tested) = []

-- The line of command k, where the commands have these names and these counts.
abbrev pub answer_line : (ℕ → Word) → List ℕ → List ℕ → List ℕ → ℕ → ℕ → List ℕ
answer_line called counts text b w k = line_for (called k) (get_or counts k 0) (answer_of (Burst k w) text b blanks)

-- The names of n commands stand in the text behind the others of the flat form, and none is longer than 16 bytes.
pub record Listed (text : List ℕ) (code : Code) (n : ℕ) : Type 0 where
  pub few_names : code.shared + code.row ≤ 12
  pub few : n ≤ 16
  pub named : (k : ℕ) → k < n → Named text code.names (code.shared + code.row + k)
  pub short : (k : ℕ) → k < n → length (name_in text code.names (code.shared + code.row + k)) ≤ 16

-- Their lines, where the commands have these counts.
abbrev pub table_in : List ℕ → Code → List ℕ → List ℕ → ℕ → List ℕ
table_in text code counts b w = lines_from (answer_line (λ k. name_in text code.names (code.shared + code.row + k)) counts text b w) 0 (length counts)

-- The names of the commands, and how many there are, where a text was read as a tree. Where it was refused there is none.
unfoldable pub called_in : List ℕ → N.Outcome → ℕ → Word
called_in text (N.read x) k = command_name text x k
called_in text (N.refused n i) k = []

unfoldable pub commands_in : N.Outcome → ℕ
commands_in (N.read x) = length (model_of x).commands
commands_in (N.refused n i) = 0

-- The lines of all commands.
abbrev pub table_of : List ℕ → List ℕ → ℕ → List ℕ
table_of text b w = lines_from (answer_line (called_in text (answer text)) (counts_after Steps text b blanks) text b w) 0 (commands_in (answer text))

-- A width out of range is refused, with the number 16 and place 0.
unfoldable pub with_width : ℕ → List ℕ → List ℕ
with_width w lines = cond (eqb w 0) (refusal_line 16 0) (cond (ltb 4095 w) (refusal_line 16 0) lines)

-- The lines, where there are steps to count; where no trace passes, what the test says.
unfoldable pub after_test : Wording → List ℕ → List ℕ
after_test (steps n) lines = lines
after_test (burst most place) lines = lines
after_test (refused n) lines = refusal_line n 0
after_test (told tested) lines = spelt tested

-- All that is written. What it is on every input is said by `BurstsTell` and `RefusalTells`, which are proved of it.
unfoldable pub bursts_of : List ℕ → List ℕ → ℕ → List ℕ
bursts_of text b w = after_test (answer_of Steps text b blanks) (with_width w (table_of text b w))
