-- A finite transition system: what the search sees of a model.
-- Assumes nothing.
use Rattle.std.specs.Prelude.{ℕ, suc, zero, ◌+◌, ◌<◌, Bool, List, [], ◌∷◌, ◌++◌}

pub record Transitions : Type 0 where
  pub size : ℕ
  pub commands : ℕ
  pub words : ℕ → ℕ
  pub starts : ℕ → Bool
  pub breaks : ℕ → Bool
  pub step : ℕ → ℕ → ℕ → ℕ

-- A step stays among the states.
pub record Lawful (M : Transitions) : Type 0 where
  pub step-below : (s c w : ℕ) → s < M.size → c < M.commands → w < M.words c → M.step s c w < M.size

-- One step's choice: a command's number and a choice word.
pub record Move : Type 0 where
  pub command : ℕ
  pub word : ℕ

abbrev pub move_of : ℕ → ℕ → Move
move_of c w = record { command = c; word = w }

-- The choice words of one command from w on, n of them, in order.
unfoldable pub words_from : ℕ → ℕ → ℕ → List Move
words_from c w zero = []
words_from c w (suc n) = record { command = c; word = w } ∷ words_from c (w + 1) n

-- The moves of the commands from c on, n of them, in order.
unfoldable pub moves_from : Transitions → ℕ → ℕ → List Move
moves_from M c zero = []
moves_from M c (suc n) = words_from c 0 (M.words c) ++ moves_from M (c + 1) n

-- Every move in order.
abbrev pub moves : Transitions → List Move
moves M = moves_from M 0 M.commands
