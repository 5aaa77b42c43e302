-- The lent tables and what they hold of the search.
-- Assumes nothing.
use Rattle.std.specs.Prelude.{ℕ, suc, zero, ◌<◌, ◌≤◌, ◌≡◌, Bool, List, [], ◌∷◌, length, get_or, take, drop}
use Rattle.exploration.specs.working.Transitions.{Transitions}
use Rattle.exploration.specs.working.Exploring.{Seen, progress, meet, take_in, begun, explore, place_from, search}
use Rattle.exploration.specs.working.Trials.{trials_from, trial_count}

-- What the tables say: the first n entries of one are the queue, the first `size` of the other the parents.
abbrev pub seen : Transitions → List ℕ → ℕ → List ℕ → Seen
seen M q n p = record { queue = take n q; parent = take M.size p }

-- How many entries are not 0.
unfoldable pub marked : List ℕ → ℕ
marked [] = 0
marked (zero ∷ l) = marked l
marked (suc v ∷ l) = suc (marked l)

-- Tables with room, whose queue has as many places as states are met.
pub record Ready (M : Transitions) (q : List ℕ) (n : ℕ) (p : List ℕ) : Type 0 where
  pub queue-room : M.size ≤ length q
  pub parent-room : M.size ≤ length p
  pub counted : n ≡ marked (take M.size p)
  pub below : (i : ℕ) → i < n → get_or q i 0 < M.size

-- Tables that are ready and as long as they were, where at least n₀ states were met: places that the queue does not have, and parents from `size` on, are unchanged.
pub record Kept (M : Transitions) (q₀ : List ℕ) (n₀ : ℕ) (p₀ q : List ℕ) (n : ℕ) (p : List ℕ) : Type 0 where
  pub ready : Ready M q n p
  pub few : n ≤ M.size
  pub more : n₀ ≤ n
  pub queue-rest : drop n q ≡ drop n q₀
  pub parent-rest : drop M.size p ≡ drop M.size p₀
  pub queue-length : length q ≡ length q₀
  pub parent-length : length p ≡ length p₀

-- After at most `most` states of the queue were gone through, from place `from` up to `head`, where the tables held (q₀, n₀, p₀); `made` trials were made.
pub record Explored (M : Transitions) (from most : ℕ) (q₀ : List ℕ) (n₀ : ℕ) (p₀ q : List ℕ) (n : ℕ) (p : List ℕ) (found : Bool) (head made : ℕ) : Type 0 where
  pub kept : Kept M q₀ n₀ p₀ q n p
  pub what : progress found (seen M q n p) ≡ explore M most from (seen M q₀ n₀ p₀)
  pub place : head ≡ place_from M most from (seen M q₀ n₀ p₀)
  pub tried : made ≡ length (trials_from M most from (seen M q₀ n₀ p₀))

-- After t was met from s.
pub record Meets (M : Transitions) (s t : ℕ) (q₀ : List ℕ) (n₀ : ℕ) (p₀ q : List ℕ) (n : ℕ) (p : List ℕ) (found : Bool) : Type 0 where
  pub kept : Kept M q₀ n₀ p₀ q n p
  pub what : progress found (seen M q n p) ≡ meet M s t (seen M q₀ n₀ p₀)

-- After the start states were taken in.
pub record Took (M : Transitions) (q₀ p₀ q : List ℕ) (n : ℕ) (p : List ℕ) (found : Bool) : Type 0 where
  pub kept : Kept M q₀ 0 p₀ q n p
  pub what : progress found (seen M q n p) ≡ take_in M M.size 0 (seen M q₀ 0 p₀)

-- After the same, on tables that held anything before.
pub record Began (M : Transitions) (q₀ p₀ q : List ℕ) (n : ℕ) (p : List ℕ) (found : Bool) : Type 0 where
  pub kept : Kept M q₀ 0 p₀ q n p
  pub what : progress found (seen M q n p) ≡ begun M

-- After the whole search, on tables that held anything before; it made `made` trials.
pub record Ran (M : Transitions) (q₀ p₀ q : List ℕ) (n : ℕ) (p : List ℕ) (found : Bool) (made : ℕ) : Type 0 where
  pub kept : Kept M q₀ 0 p₀ q n p
  pub what : progress found (seen M q n p) ≡ search M
  pub tried : made ≡ trial_count M
