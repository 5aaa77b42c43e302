-- The members of a map: which they are, and how many.
-- Assumes nothing.
use Rattle.std.specs.Prelude.{Bool, cond, List, [], ◌∷◌, ◌++◌, ℕ, zero, suc, length}
use Rattle.meaning.specs.Evidence.{in_map}

-- The numbers below n that pass a test, ascending.
unfoldable pub below : ℕ → (ℕ → Bool) → List ℕ
below zero test = []
below (suc n) test = below n test ++ cond (test n) (n ∷ []) []

-- The members of a map of so many states.
abbrev pub members : ℕ → List ℕ → List ℕ
members states map = below states (in_map map)

-- How many there are.
abbrev pub member_count : ℕ → List ℕ → ℕ
member_count states map = length (members states map)
