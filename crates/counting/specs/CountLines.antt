-- The lines that tell how many members a map has.
-- Assumes nothing.
use Rattle.std.specs.Prelude.{List, [], ◌∷◌, ◌++◌, ℕ}
use Rattle.notation.specs.Bytes.{bytes}
use Rattle.lines.specs.Lines.{decimal_of, line, number_line}
use Rattle.exploration.specs.Members.{member_count}
use Rattle.counting.specs.Counts.{count_at, settings_in}

-- How many there are in all.
abbrev pub states_line : ℕ → List ℕ
states_line n = number_line (bytes "states") n

-- How many have a setting.
abbrev pub setting_line : ℕ → ℕ → List ℕ
setting_line j n = line (bytes "at" ∷ decimal_of j ∷ decimal_of n ∷ [])

-- A line for each setting of a list, with these counts.
unfoldable pub setting_lines : (ℕ → ℕ) → List ℕ → List ℕ
setting_lines count [] = []
setting_lines count (j ∷ js) = setting_line j (count j) ++ setting_lines count js

-- The lines of a map: all its members, and those with each setting that occurs.
unfoldable pub count_lines : ℕ → ℕ → List ℕ → List ℕ
count_lines states settings map = states_line (member_count states map) ++ setting_lines (count_at states settings map) (settings_in states settings map)
