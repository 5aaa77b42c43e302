-- The order of runs and of moves.
-- Assumes nothing.
use Prim.Native.Nat.{ℕ, suc, zero, ◌+◌, ◌<◌, ◌≤◌}
use mathlib.Core.Path.{◌≡◌, refl, sym, ap, ◌∙◌}
use mathlib.Core.Logic.{◌⊎◌, inl, inr, ⊎_elim}
use mathlib.Core.List.Memᴰ
use mathlib.Core.List.{List, [], ◌∷◌, ◌++◌, Memᴰ}
use native.Mathlib.Omega.{arith}
use native.Mathlib.Decide.{dec_lt}
use Rattle.exploration.specs.working.Transitions.{Transitions, Move, words_from, moves_from}
use Rattle.exploration.specs.working.Runs.{Run, starts_at, goes_on, MoveBefore, Before, steps}

pub lt_or_ge : (a b : ℕ) → (a < b) ⊎ (b ≤ a)
lt_or_ge a b = elim (dec_lt a b) [ yes h ↦ inl h | no h ↦ inr (omega arith) ]

-- Moves.

pub move_irrefl : (a : Move) → MoveBefore a a → ⊥
move_irrefl a (inl h) = omega arith
move_irrefl a (inr h) = omega arith

pub move_trans : (a b c : Move) → MoveBefore a b → MoveBefore b c → MoveBefore a c
move_trans a b c (inl h) (inl k) = inl (omega arith)
move_trans a b c (inl h) (inr k) = inl (omega arith)
move_trans a b c (inr h) (inl k) = inl (omega arith)
move_trans a b c (inr h) (inr k) = inr (omega arith)

-- Runs.

pub before_trans : (a b c : Run) → Before a b → Before b c → Before a c
before_trans (starts_at s) (starts_at t) (starts_at u) p q = omega arith
before_trans (starts_at s) (starts_at t) (goes_on r m) p q = tt
before_trans (starts_at s) (goes_on r m) (starts_at u) p q = absurd q
before_trans (starts_at s) (goes_on r m) (goes_on v n) p q = tt
before_trans (goes_on r m) (starts_at t) c p q = absurd p
before_trans (goes_on r m) (goes_on v n) (starts_at u) p q = absurd q
before_trans (goes_on r m) (goes_on v n) (goes_on x l) (inl p) (inl q) = inl (before_trans r v x p q)
before_trans (goes_on r m) (goes_on v n) (goes_on x l) (inl p) (inr q) = inl (rw q.0 at p)
before_trans (goes_on r m) (goes_on v n) (goes_on x l) (inr p) (inl q) = inl (rw p.0 q)
before_trans (goes_on r m) (goes_on v n) (goes_on x l) (inr p) (inr q) = inr (p.0 ∙ q.0, move_trans m n l p.1 q.1)

pub before_irrefl : (a : Run) → Before a a → ⊥
before_irrefl (starts_at s) p = omega arith
before_irrefl (goes_on r m) (inl p) = before_irrefl r p
before_irrefl (goes_on r m) (inr p) = move_irrefl m p.1

pub before_then : (r : Run) (m : Move) → Before r (goes_on r m)
before_then (starts_at s) m = tt
before_then (goes_on r l) m = inl (before_then r l)

-- Shorter is before.
pub shorter : (a b : Run) → steps a < steps b → Before a b
shorter (starts_at s) (starts_at t) h = omega arith
shorter (starts_at s) (goes_on r m) h = tt
shorter (goes_on q l) (starts_at t) h = omega arith
shorter (goes_on q l) (goes_on r m) h = inl (shorter q r (omega arith))

-- At most.

abbrev pub AtMost : Run → Run → Type 0
AtMost a b = Before a b ⊎ (a ≡ b)

pub at-most_trans : (a b c : Run) → AtMost a b → AtMost b c → AtMost a c
at-most_trans a b c (inl p) (inl q) = inl (before_trans a b c p q)
at-most_trans a b c (inl p) (inr q) = inl (rw q at p)
at-most_trans a b c (inr p) (inl q) = inl (rw p q)
at-most_trans a b c (inr p) (inr q) = inr (p ∙ q)

pub at-most-before : (a b c : Run) → AtMost a b → Before b c → Before a c
at-most-before a b c (inl p) q = before_trans a b c p q
at-most-before a b c (inr p) q = rw p q

pub at-most_then : (a b : Run) (m : Move) → AtMost a b → AtMost (goes_on a m) (goes_on b m)
at-most_then a b m (inl p) = inl (inl p)
at-most_then a b m (inr p) = inr (ap (λ (x : Run). goes_on x m) p)

-- The list of moves: what is in it, and in which order.

pub words_mem : (c w n : ℕ) (x : Move) → Memᴰ x (words_from c w n) → (x.command ≡ c) × (w ≤ x.word) × (x.word < w + n)
unfolding words_from
words_mem c w zero x h = absurd (Memᴰ.not-nil h)
words_mem c w (suc n) x h =
    ⊎_elim
    (λ e. (ap (λ (m : Move). m.command) e, omega (arith, ap (λ (m : Move). m.word) e), omega (arith, ap (λ (m : Move). m.word) e)))
    (λ k. let i = words_mem c (w + 1) n x k in (i.0, omega arith, omega arith))
    (Memᴰ.cases_cons h)

pub words-has : (c w n : ℕ) (x : Move) → x.command ≡ c → w ≤ x.word → x.word < w + n → Memᴰ x (words_from c w n)
unfolding words_from
words-has c w zero x e a b = absurd (omega arith)
words-has c w (suc n) x e a b =
    ⊎_elim
    (λ (h : w < x.word). Memᴰ.tail (words-has c (w + 1) n x e (omega arith) (omega arith)))
    (λ (h : x.word ≤ w). let f : x.word ≡ w = omega arith in Memᴰ.head (λ i. record { command = e i; word = f i }))
    (lt_or_ge w x.word)

pub moves_mem : (M : Transitions) (c n : ℕ) (x : Move) → Memᴰ x (moves_from M c n) → (c ≤ x.command) × (x.command < c + n) × (x.word < M.words x.command)
unfolding moves_from
moves_mem M c zero x h = absurd (Memᴰ.not-nil h)
moves_mem M c (suc n) x h =
    ⊎_elim
    (λ k. let i = words_mem c 0 (M.words c) x k in (omega arith, omega arith, rw i.0 (omega arith)))
    (λ k. let i = moves_mem M (c + 1) n x k in (omega arith, omega arith, i.2))
    (Memᴰ.append_cases (words_from c 0 (M.words c)) h)

pub moves-has : (M : Transitions) (c n : ℕ) (x : Move) → c ≤ x.command → x.command < c + n → x.word < M.words x.command → Memᴰ x (moves_from M c n)
unfolding moves_from
moves-has M c zero x a b w = absurd (omega arith)
moves-has M c (suc n) x a b w =
    ⊎_elim
    (λ (h : c < x.command). Memᴰ.append_right (words_from c 0 (M.words c)) (moves-has M (c + 1) n x (omega arith) (omega arith) w))
    (λ (h : x.command ≤ c). let e : x.command ≡ c = omega arith in Memᴰ.append_left (moves_from M (c + 1) n) (words-has c 0 (M.words c) x e (omega arith) (omega (arith, rw e at w))))
    (lt_or_ge c x.command)

abbrev pub Ascending : List Move → Type 0
Ascending [] = Unit {0}
Ascending (m ∷ l) = ((x : Move) → Memᴰ x l → MoveBefore m x) × Ascending l

ascending-append : (a b : List Move) → Ascending a → Ascending b → ((x y : Move) → Memᴰ x a → Memᴰ y b → MoveBefore x y) → Ascending (a ++ b)
ascending-append [] b p q h = q
ascending-append (m ∷ a) b p q h = (
  λ x k. ⊎_elim (λ i. p.0 x i) (λ j. h m x (Memᴰ.head refl) j) (Memᴰ.append_cases a k),
  ascending-append a b p.1 q (λ x y i j. h x y (Memᴰ.tail i) j),
)

words-ascending : (c w n : ℕ) → Ascending (words_from c w n)
unfolding words_from
words-ascending c w zero = tt
words-ascending c w (suc n) = (λ x k. let i = words_mem c (w + 1) n x k in inr (sym i.0, omega arith), words-ascending c (w + 1) n)

pub moves-ascending : (M : Transitions) (c n : ℕ) → Ascending (moves_from M c n)
unfolding moves_from
moves-ascending M c zero = tt
moves-ascending M c (suc n) =
    ascending-append (words_from c 0 (M.words c)) (moves_from M (c + 1) n) (words-ascending c 0 (M.words c)) (moves-ascending M (c + 1) n)
    (λ x y i j. inl (omega (arith, (words_mem c 0 (M.words c) x i).0, (moves_mem M (c + 1) n y j).0)))

-- Of the moves around one, those before it stand left of it.
pub ascending_left : (a : List Move) (m : Move) (b : List Move) → Ascending (a ++ m ∷ b) → (x : Move) → Memᴰ x a → MoveBefore x m
ascending_left [] m b p x h = absurd (Memᴰ.not-nil h)
ascending_left (n ∷ a) m b p x h = ⊎_elim (λ e. rw e (p.0 m (Memᴰ.append_right a (Memᴰ.head refl)))) (λ k. ascending_left a m b p.1 x k) (Memᴰ.cases_cons h)

pub ascending-found : (a : List Move) (m : Move) (b : List Move) → Ascending (a ++ m ∷ b) → (x : Move) → Memᴰ x (a ++ m ∷ b) → MoveBefore x m → Memᴰ x a
ascending-found [] m b p x h l = ⊎_elim (λ e. absurd (move_irrefl m (rw e at l))) (λ k. absurd (move_irrefl m (move_trans m x m (p.0 x k) l))) (Memᴰ.cases_cons h)
ascending-found (n ∷ a) m b p x h l = ⊎_elim (λ e. Memᴰ.head e) (λ k. Memᴰ.tail (ascending-found a m b p.1 x k l)) (Memᴰ.cases_cons h)
