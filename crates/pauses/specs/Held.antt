-- What a call of a search in portions leaves: its answer, and the contents of the two lent tables.
-- Assumes nothing.
use Rattle.std.specs.Prelude.{◌≡◌, List, ℕ}
use Rattle.pauses.specs.Answers.{Wording}

pub record Held : Type 0 where
  pub answer : Wording
  pub first : List ℕ
  pub second : List ℕ

-- The tables hold just what the call left there.
abbrev pub Holding : Held → List ℕ → List ℕ → Type 0
Holding H first second = (first ≡ H.first) × (second ≡ H.second)
