-- The numbers that stand for answers.
-- Assumes nothing.
use Rattle.std.specs.Prelude.{cond, ℕ, ◌+◌, ◌*◌, ◌/◌, ◌%◌, eqb}
use Rattle.reader.specs.Answers as R
use Rattle.packing.specs.Packed.{packed}

-- A model: an `m`, and above it the counts of shared names, row names and commands, a byte each.
abbrev pub model_number : ℕ → ℕ → ℕ → ℕ
model_number shared row commands = packed 109 (shared + 256 * row + 65536 * commands)

-- An answer of the reader: a model, or a refusal's number with its place above.
unfoldable pub read_number : R.Wording → ℕ
read_number (R.model shared row commands) = model_number shared row commands
read_number (R.returned n i) = packed n i

-- The answer of the reader that a number stands for.
abbrev pub reading_for : ℕ → R.Wording
reading_for x =
    let low = x % 256 in
    let above = x / 256 in
    cond (eqb low 109) (R.model (above % 256) (above / 256 % 256) (above / 65536)) (R.returned low above)
