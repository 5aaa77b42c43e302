-- Numbers by their binary digits.
-- Assumes nothing.
use Rattle.std.specs.Prelude.{ℕ, ◌+◌, ◌*◌, ◌/◌, ◌%◌, ◌^◌}

-- Digit j of s, 0 or 1, the lowest being digit 0.
abbrev pub digit : ℕ → ℕ → ℕ
digit s j = s / 2 ^ j % 2

-- s with v as its digit j.
unfoldable pub put : ℕ → ℕ → ℕ → ℕ
put s j v = (s / 2 ^ j / 2 * 2 + v) * 2 ^ j + s % 2 ^ j
