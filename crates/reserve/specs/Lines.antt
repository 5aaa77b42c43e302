-- The lines that a reservation is written as.
-- Assumes nothing.
use Rattle.std.specs.Prelude.{List, ◌++◌, ℕ}
use Rattle.notation.specs.Bytes.{bytes}
use Rattle.lines.specs.Lines.{number_line, refusal_line}
use Rattle.reserving.specs.Answers.{Wording, reserved, returned}

-- The entries of one table, the bytes of the sheet buffer, and the most trials.
unfoldable pub needs_lines : ℕ → ℕ → ℕ → List ℕ
needs_lines entries size trials = number_line (bytes "entries") entries ++ number_line (bytes "bytes") size ++ number_line (bytes "trials") trials

-- Those, or the line of the refusal.
unfoldable pub lines_of : Wording → List ℕ
lines_of (reserved entries size trials) = needs_lines entries size trials
lines_of (returned n p) = refusal_line n p
