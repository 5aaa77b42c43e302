-- The position of a search that is not finished.
-- Assumes nothing.
use Rattle.std.specs.Prelude.{Bool, ℕ}

-- How many states were expanded, that is tried with every command and every choice word, and how many were met;
-- whether the last state met violates `keep`, which ends the search; and how many trials were made.
pub record Pause : Type 0 where
  pub expanded : ℕ
  pub met : ℕ
  pub broke : Bool
  pub trials : ℕ
