-- The counts as the code makes and writes them.
-- Assumes nothing.
use Rattle.std.specs.Prelude.{List, ℕ, ◌^◌, ◌≤◌, ltb, get_or}
use Rattle.meaning.specs.Bits.{first}
use Rattle.sheets.specs.SheetTexts.{AreBytes, IsMap}
use Rattle.exploration.specs.Members.{below}
use Rattle.counting.specs.CountLines.{setting_lines}

-- A table of 256 counts.
unfoldable pub table : (ℕ → ℕ) → List ℕ
table count = first 256 count

-- The lines of the settings that occur, from a table of the counts of so many.
abbrev pub table_lines : List ℕ → ℕ → List ℕ
table_lines counts settings = setting_lines (λ j. get_or counts j 0) (below settings (λ j. ltb 0 (get_or counts j 0)))

-- The bytes are a map of states of so many bits, and the shared names are among those bits.
pub record Countable (bits shared : ℕ) (payload : List ℕ) : Type 0 where
  pub few_bits : bits ≤ 12
  pub few_shared : shared ≤ 8
  pub map : IsMap (2 ^ bits) payload
  pub bytes : AreBytes payload
