-- The breadth-first search as a function: a fold over start states, then over the queue and the moves, left at the first break.
-- Assumes nothing.
use Rattle.std.specs.Prelude.{ℕ, suc, zero, ◌+◌, Bool, true, false, cond, List, [], ◌∷◌, ◌++◌, length, get_or, set, replicate, ltb, eqb}
use Rattle.exploration.specs.working.Transitions.{Transitions, Move, moves}

-- The states met, in the order met; and of each state its parent's number plus 1, 0 where it is not met, its own number plus 1 where it is a start state.
pub record Seen : Type 0 where
  pub queue : List ℕ
  pub parent : List ℕ

-- Stopped at a break, the state at the queue's end; or gone through.
pub data Progress : Type 0 where
  broke : Seen → Progress
  through : Seen → Progress

abbrev pub and_then : Progress → (Seen → Progress) → Progress
and_then (broke x) f = broke x
and_then (through x) f = f x

-- What a flag says of how it went.
abbrev pub progress : Bool → Seen → Progress
progress true x = broke x
progress false x = through x

abbrev pub push : Seen → ℕ → ℕ → Seen
push x s t = record { queue = x.queue ++ (t ∷ []); parent = set x.parent t (s + 1) }

-- The state t is met from s: nothing new, or t goes into the queue, and stops the search where it breaks.
abbrev pub meet : Transitions → ℕ → ℕ → Seen → Progress
meet M s t x = cond (eqb (get_or x.parent t 0) 0) (progress (M.breaks t) (push x s t)) (through x)

-- The moves ms from s.
unfoldable pub try_moves : Transitions → ℕ → List Move → Seen → Progress
try_moves M s [] x = through x
try_moves M s (m ∷ ms) x = and_then (meet M s (M.step s m.command m.word) x) (try_moves M s ms)

-- The queue from place `head` on, n places at most.
unfoldable pub explore : Transitions → ℕ → ℕ → Seen → Progress
explore M zero head x = through x
explore M (suc n) head x = cond (ltb head (length x.queue)) (and_then (try_moves M (get_or x.queue head 0) (moves M) x) (explore M n (head + 1))) (through x)

-- The place behind one that is gone through; where that stopped at a break, the place itself.
abbrev pub place_after : Progress → ℕ → (Seen → ℕ) → ℕ
place_after (broke x) head f = head
place_after (through x) head f = f x

-- How far the queue is gone through then: up to the place of the first state that is not gone through whole.
unfoldable pub place_from : Transitions → ℕ → ℕ → Seen → ℕ
place_from M zero head x = head
place_from M (suc n) head x =
    cond (ltb head (length x.queue)) (place_after (try_moves M (get_or x.queue head 0) (moves M) x) head (place_from M n (head + 1))) head

-- The start states from s on, n numbers at most.
unfoldable pub take_in : Transitions → ℕ → ℕ → Seen → Progress
take_in M zero s x = through x
take_in M (suc n) s x = and_then (cond (M.starts s) (meet M s s x) (through x)) (take_in M n (s + 1))

-- Nothing is met yet.
abbrev pub unseen : Transitions → Seen
unseen M = record { queue = []; parent = replicate M.size 0 }

-- The start states, from nothing.
abbrev pub begun : Transitions → Progress
begun M = take_in M M.size 0 (unseen M)

-- The whole search.
unfoldable pub search : Transitions → Progress
search M = and_then (begun M) (explore M M.size 0)
