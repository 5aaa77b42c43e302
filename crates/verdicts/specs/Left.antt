-- What a call of the search leaves: its answer, and the contents of the three lent buffers.
-- Assumes nothing.
use Rattle.std.specs.Prelude.{◌≡◌, List, ◌++◌, ℕ, drop, replicate}
use Rattle.verdicts.specs.Answers.{Searched}

pub record Left : Type 0 where
  pub answer : Searched
  pub first : List ℕ
  pub second : List ℕ
  pub sheet : List ℕ

-- The buffers hold just what the call left there.
abbrev pub Leaves : Left → List ℕ → List ℕ → List ℕ → Type 0
Leaves L first second sheet = (first ≡ L.first) × (second ≡ L.second) × (sheet ≡ L.sheet)

-- The first n entries made 0.
abbrev pub zeroed : ℕ → List ℕ → List ℕ
zeroed n l = replicate n 0 ++ drop n l
