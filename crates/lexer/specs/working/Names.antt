-- The declared names, as the code keeps them: name i begins at entry i of an array, and entry 28 + i is its length.
-- Assumes nothing.
use Rattle.std.specs.Prelude as C
use Rattle.std.specs.Prelude.{Bool, cond, List, [], ◌∷◌, ◌≡◌, ℕ, zero, suc, ◌+◌, ◌-◌, ◌≤◌, ◌<◌, ltb, length, get_or}
use Rattle.notation.specs.Bytes.{between, lower_case, in_lower_case, same_word}
use Rattle.notation.specs.Tokens.{Word}

-- The n bytes from place a on.
unfoldable pub window : List ℕ → ℕ → ℕ → Word
window text a zero = []
window text a (suc n) = get_or text a 0 ∷ window text (suc a) n

-- The byte in upper case.
abbrev pub upper_case : ℕ → ℕ
upper_case b = cond (between 97 122 b) (b - 32) b

-- A word stands from s to e, and its last byte, which is not 0, is this in lower and in upper case.
pub record Ending (text : List ℕ) (s e lower upper : ℕ) : Type 0 where
  pub filled : s < e
  pub inside : e ≤ length text
  pub some : 0 < get_or text (e - 1) 0
  pub in_lower : lower ≡ lower_case (get_or text (e - 1) 0)
  pub in_upper : upper ≡ upper_case (get_or text (e - 1) 0)

-- Whether the first k bytes from b on are those from a on but for case.
unfoldable pub same_first : List ℕ → ℕ → ℕ → ℕ → Bool
same_first text a b k = same_word (in_lower_case (window text b k)) (in_lower_case (window text a k))

-- How many of the first k bytes from b on are left to compare with those from a on: eight fewer where the last eight are the same as written.
unfoldable pub left_to_compare : List ℕ → ℕ → ℕ → ℕ → ℕ
left_to_compare text a b k = cond (ltb k 8) k (cond (same_word (window text (b + (k - 8)) 8) (window text (a + (k - 8)) 8)) (k - 8) k)

-- The word of name i, and those of the n names from i on.
unfoldable pub word_at : List ℕ → List ℕ → ℕ → Word
word_at text names i = in_lower_case (window text (get_or names i 0) (get_or names (28 + i) 0))

unfoldable pub words_in : List ℕ → List ℕ → ℕ → ℕ → List Word
words_in text names i zero = []
words_in text names i (suc n) = word_at text names i ∷ words_in text names (suc i) n

-- A name that was looked for among those before `to`: its place is `to` where it is none of them.
abbrev pub name_found : ℕ → ℕ → C.Option ℕ
name_found to i = cond (ltb i to) (C.Some i) C.None
