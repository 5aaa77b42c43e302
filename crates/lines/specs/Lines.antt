-- Lines of words, and numbers as words.
-- Assumes nothing.
use Rattle.std.specs.Prelude.{cond, List, [], ◌∷◌, ◌++◌, ℕ, zero, suc, ◌+◌, ◌/◌, ◌%◌, ltb}
use Rattle.notation.specs.Bytes.{bytes}

-- The decimal digits of n, the most significant first: at most k more than one.
unfoldable pub digits_up_to : ℕ → ℕ → List ℕ
digits_up_to zero n = (48 + n % 10) ∷ []
digits_up_to (suc k) n = cond (ltb n 10) ((48 + n) ∷ []) (digits_up_to k (n / 10) ++ ((48 + n % 10) ∷ []))

-- A number that fits 64 bits has at most 20.
abbrev pub decimal_of : ℕ → List ℕ
decimal_of n = digits_up_to 19 n

-- A space and a word behind it.
abbrev pub word : List ℕ → List ℕ
word w = 32 ∷ w

-- What follows the first word of a line: the other words, each behind a space, and a newline.
unfoldable pub others : List (List ℕ) → List ℕ
others [] = 10 ∷ []
others (w ∷ ws) = word w ++ others ws

-- A line: words parted by spaces, ended by a newline.
unfoldable pub line : List (List ℕ) → List ℕ
line [] = 10 ∷ []
line (w ∷ ws) = w ++ others ws

-- A line of a word and a number.
abbrev pub number_line : List ℕ → ℕ → List ℕ
number_line title n = line (title ∷ decimal_of n ∷ [])

-- The line of a refusal: its number and its place.
abbrev pub refusal_line : ℕ → ℕ → List ℕ
refusal_line n p = line (bytes "refused" ∷ decimal_of n ∷ decimal_of p ∷ [])
