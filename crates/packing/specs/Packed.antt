-- Two numbers in one: a byte, and what stands above it.
-- Assumes nothing.
use Rattle.std.specs.Prelude.{ℕ, ◌+◌, ◌-◌, ◌*◌, ◌^◌, get_or}
use Prim.Native.String.{String}
use Rattle.notation.specs.Bytes.{bytes}

abbrev pub packed : ℕ → ℕ → ℕ
packed low above = low + 256 * above

-- The most that has room above the byte in a number of 64 bits.
abbrev pub most_above : ℕ
most_above = 2 ^ 56 - 1

-- The first letter of a word.
abbrev pub initial : String → ℕ
initial s = get_or (bytes s) 0 0
