-- Bytes put into a buffer from some place on.
-- Assumes nothing.
use Rattle.std.specs.Prelude.{◌≡◌, List, ℕ, ◌+◌, length}
use Rattle.std.proofs.lemmas.List.Edits.{sets}

-- Afterwards the bytes stand there, all else is as it was, and `end` is the place behind them.
pub record Puts (before : List ℕ) (at : ℕ) (bytes after : List ℕ) (end : ℕ) : Type 0 where
  pub stored : after ≡ sets before at bytes
  pub ends : end ≡ at + length bytes
