-- Where a run of 64 words begins, and the state numbers that it leaves.
-- Assumes nothing.
use Rattle.std.specs.Prelude.{ℕ, zero, suc, ◌+◌, ◌*◌, ◌/◌, ◌%◌, ◌^◌, List, get_or, set, replicate}
use Rattle.std.specs.Int.Bits.{bit_and}
use Rattle.meaning.specs.working.Digits.{digit}
use Rattle.evaluation.specs.working.Cells.{ones}

-- The list c with its first n elements made f 0, f 1, ..
unfoldable pub fills : (ℕ → ℕ) → ℕ → List ℕ → List ℕ
fills f zero c = c
fills f (suc i) c = set (fills f i c) i (f i)

-- The sum f 0 + 2 * f 1 + 4 * f 2 + ..
unfoldable pub sum_of : (ℕ → ℕ) → ℕ → ℕ
sum_of f zero = 0
sum_of f (suc i) = f i * 2 ^ i + sum_of f i

-- The first n bits of s, each in every lane of its cell, and the mask on.
abbrev pub start_cells : ℕ → ℕ → List ℕ
start_cells n s = fills (λ i. digit s i * ones) n (set (replicate 128 0) 96 ones)

-- The number whose bits are bit l of the first n cells.
abbrev pub lane_of : List ℕ → ℕ → ℕ → ℕ
lane_of c n l = sum_of (λ i. digit (get_or c i 0) l) n

-- Bits 0, 16, 32 and 48, each where it stands.
abbrev pub fours : ℕ
fours = 0x0001_0001_0001_0001

-- Four lanes' numbers in fields of 16 bits: the lanes r, r + 16, r + 32 and r + 48.
abbrev pub row_of : List ℕ → ℕ → ℕ → ℕ
row_of c n r = sum_of (λ i. bit_and (get_or c i 0 / 2 ^ r) fours) n

-- Lane l's number from all 16 rows.
abbrev pub pick_of : List ℕ → ℕ → ℕ
pick_of rows l = get_or rows (l % 16) 0 / 2 ^ (l / 16 * 16) % 65536
