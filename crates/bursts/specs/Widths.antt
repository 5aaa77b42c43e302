-- A width as the digits of a decimal number.
-- Assumes nothing.
use Rattle.std.specs.Prelude.{Bool, true, false, cond, List, [], ◌∷◌, ℕ, ◌+◌, ◌-◌, ◌*◌, min, ltb, Option, Some, None}

-- Whether every byte is a digit.
unfoldable pub all_digits : List ℕ → Bool
all_digits [] = true
all_digits (b ∷ bs) = cond (ltb b 48) false (cond (ltb 57 b) false (all_digits bs))

-- The number that digits say behind those that say n.
unfoldable pub number_from : ℕ → List ℕ → ℕ
number_from n [] = n
number_from n (b ∷ bs) = number_from (n * 10 + (b - 48)) bs

-- All numbers above 4,095 are refused alike, so 4,096 stands for every one of them.
abbrev pub capped : ℕ → ℕ
capped n = min n 4096

-- The width that bytes say: at least one digit and nothing else.
unfoldable pub width_in : List ℕ → Option ℕ
width_in [] = None
width_in (b ∷ bs) = cond (all_digits (b ∷ bs)) (Some (capped (number_from 0 (b ∷ bs)))) None
