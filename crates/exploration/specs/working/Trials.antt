-- The trials of the search, in the order in which it makes them.
-- Assumes nothing.
use Rattle.std.specs.Prelude.{ℕ, suc, zero, ◌+◌, cond, length, get_or, ltb}
use mathlib.Core.List.{List, [], ◌∷◌, ◌++◌, map, flat_map}
use Rattle.exploration.specs.working.Transitions.{Transitions, Move, moves}
use Rattle.exploration.specs.working.Exploring.{Seen, Progress, broke, through, meet, try_moves, take_in, unseen}

-- A trial: a move, which is one command with one choice word, tried at one state.
pub record Trial : Type 0 where
  pub state : ℕ
  pub move : Move

abbrev pub trial_of : ℕ → Move → Trial
trial_of s k = record { state = s; move = k }

-- What is tried after a part of the search: nothing where that stopped at a break.
abbrev pub afterwards : Progress → (Seen → List Trial) → List Trial
afterwards (broke x) f = []
afterwards (through x) f = f x

-- With the moves ms at s: each is tried, and then the next, unless it led to a break.
unfoldable pub trials_with : Transitions → ℕ → List Move → Seen → List Trial
trials_with M s [] x = []
trials_with M s (m ∷ ms) x = trial_of s m ∷ afterwards (meet M s (M.step s m.command m.word) x) (trials_with M s ms)

-- At the states of the queue from place `head` on, n places at most.
unfoldable pub trials_from : Transitions → ℕ → ℕ → Seen → List Trial
trials_from M zero head x = []
trials_from M (suc n) head x =
    cond (ltb head (length x.queue))
    (trials_with M (get_or x.queue head 0) (moves M) x ++ afterwards (try_moves M (get_or x.queue head 0) (moves M) x) (trials_from M n (head + 1)))
    []

-- Of the whole search. No command is tried to take in the start states.
unfoldable pub trials : Transitions → List Trial
trials M = afterwards (take_in M M.size 0 (unseen M)) (trials_from M M.size 0)

-- How many there are.
abbrev pub trial_count : Transitions → ℕ
trial_count M = length (trials M)

-- Every move at each state of a list.
abbrev pub every_trial : Transitions → List ℕ → List Trial
every_trial M states = flat_map (λ s. map (trial_of s) (moves M)) states

-- The choice words of the commands from c on, n of them, where command k has `words k`.
unfoldable pub words_of : (ℕ → ℕ) → ℕ → ℕ → ℕ
words_of words c zero = 0
words_of words c (suc n) = words c + words_of words (c + 1) n
