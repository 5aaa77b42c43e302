-- The lines of a trace's commands: how often each occurs, and where it occurs most often in so many steps on end.
-- Assumes nothing.
use Rattle.std.specs.Prelude.{List, [], ◌∷◌, ◌++◌, ℕ, zero, suc, ◌+◌}
use Rattle.notation.specs.Tokens.{Word}
use Rattle.notation.specs.Notation.{Tree}
use Rattle.windows.specs.Bursts.{occurs, burst}
use Rattle.lines.specs.Lines.{decimal_of, line}
use Rattle.names.specs.Names.{command_name}

-- A command's name, how often the command occurs, the most times in a stretch, and the number of the step where the first such stretch begins.
abbrev pub burst_line : Word → ℕ → ℕ → ℕ → List ℕ
burst_line called count most place = line (called ∷ decimal_of count ∷ decimal_of most ∷ decimal_of place ∷ [])

-- The line of command k of a tree that a text says, for stretches of w steps of steps with these commands.
abbrev pub command_line : List ℕ → Tree → ℕ → List ℕ → ℕ → List ℕ
command_line text x w xs k = burst_line (command_name text x k) (occurs k xs) (burst k w xs).most (burst k w xs).place

-- The lines of n commands from command k on.
unfoldable pub lines_from : (ℕ → List ℕ) → ℕ → ℕ → List ℕ
lines_from line_of k zero = []
lines_from line_of k (suc n) = line_of k ++ lines_from line_of (k + 1) n
