-- Where the reader's array has a name of the text.
-- Assumes nothing.
use Rattle.std.specs.Prelude.{List, ℕ, ◌+◌, ◌<◌, ◌≤◌, length, get_or, take, drop}
use Rattle.notation.specs.Tokens.{Word}

-- The bytes of name i in the text.
abbrev pub name_in : List ℕ → List ℕ → ℕ → Word
name_in text names i = take (get_or names (28 + i) 0) (drop (get_or names i 0) text)

-- There is a name i, and it lies in the text.
pub record Named (text names : List ℕ) (i : ℕ) : Type 0 where
  pub index : i < 28
  pub inside : get_or names i 0 + get_or names (28 + i) 0 ≤ length text
