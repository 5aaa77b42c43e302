-- The trials of a search that meets no break: every move at each state of the queue.
-- Assumes nothing.
use Prim.Native.Nat.{ℕ, suc, zero, ◌+◌, ◌<◌, ◌≤◌}
use mathlib.Core.Path.{◌≡◌, refl, sym, ap, ◌∙◌, subst}
use mathlib.Core.Bool.{Bool, true, false, cond}
use mathlib.Core.List.{List, [], ◌∷◌, ◌++◌, map, flat_map, append_assoc, append-nil}
use native.Mathlib.Omega.{arith}
use native.Mathlib.Numerals.{add-one}
use lib.Dec.{eqb, ltb}
use lib.ListN.{length, get_or, drop, length-append, length-map, drop_of_length-le, get_or-append}
use lib.Seq.{drop-cons}
use borrow.Author.Tests.{ltb-true, ltb-false}
use Rattle.exploration.specs.Promises.{TrialsListed}
use Rattle.exploration.specs.working.Transitions.{Transitions, Lawful, Move, moves}
use Rattle.exploration.specs.working.Exploring.{Seen, Progress, broke, through, and_then, progress, push, meet, try_moves, explore, take_in, search, unseen}
use Rattle.exploration.specs.working.Runs.{final}
use Rattle.exploration.specs.working.Pauses.{seen_in}
use Rattle.exploration.specs.working.Tables.{marked}
use Rattle.exploration.specs.working.Trials.{trial_of, afterwards, trials_with, trials_from, trials, every_trial}
use Rattle.exploration.proofs.Laws.{marked_le}
use Rattle.exploration.proofs.First.{Closed, Searched, searched}

-- Where the search goes on, it has put something behind the queue.
abbrev Extends : Seen → Progress → Type 0
Extends x (broke y) = Unit {0}
Extends x (through y) = (r : List ℕ) × (y.queue ≡ x.queue ++ r)

extends_none : (x : Seen) → Extends x (through x)
extends_none x = ([], sym (append-nil x.queue))

extends_more : (x y : Seen) (r : List ℕ) → y.queue ≡ x.queue ++ r → (o : Progress) → Extends y o → Extends x o
extends_more x y r e (broke z) h = tt
extends_more x y r e (through z) (q, f) = (r ++ q, f ∙ ap (λ l. l ++ q) e ∙ append_assoc x.queue r q)

extends_then : (x : Seen) (o : Progress) (f : Seen → Progress) → Extends x o → ((y : Seen) → Extends y (f y)) → Extends x (and_then o f)
extends_then x (broke y) f h g = tt
extends_then x (through y) f (r, e) g = extends_more x y r e (f y) (g y)

extends_meet : (M : Transitions) (s t : ℕ) (x : Seen) → Extends x (meet M s t x)
extends_meet M s t x = go (eqb (get_or x.parent t 0) 0) (M.breaks t)
  where
    go : (b c : Bool) → Extends x (cond b (progress c (push x s t)) (through x))
    go true true = tt
    go true false = (t ∷ [], refl)
    go false c = extends_none x

extends_try : (M : Transitions) (s : ℕ) (ms : List Move) (x : Seen) → Extends x (try_moves M s ms x)
unfolding try_moves
extends_try M s [] x = extends_none x
extends_try M s (m ∷ ms) x =
    let t = M.step s m.command m.word in
    extends_then x (meet M s t x) (try_moves M s ms) (extends_meet M s t x) (extends_try M s ms)

extends_explore : (M : Transitions) (n head : ℕ) (x : Seen) → Extends x (explore M n head x)
unfolding explore
extends_explore M zero head x = extends_none x
extends_explore M (suc n) head x =
    let s = get_or x.queue head 0 in
    go (and_then (try_moves M s (moves M) x) (explore M n (head + 1))) (ltb head (length x.queue))
    (extends_then x (try_moves M s (moves M) x) (explore M n (head + 1)) (extends_try M s (moves M) x) (extends_explore M n (head + 1)))
  where
    go : (o : Progress) (b : Bool) → Extends x o → Extends x (cond b o (through x))
    go o true h = h
    go o false h = extends_none x

-- A search that stopped did not go on.
abbrev stopped : Progress → ℕ
stopped (broke x) = 1
stopped (through x) = 0

pub not_both_lem : {A : Type 0} (x y : Seen) → broke x ≡ through y → A
not_both_lem x y e = let z : ◌≡◌ {A = ℕ} 1 0 = ap stopped e in absurd (omega arith)

-- At one state.
pub all-tried : (M : Transitions) (s : ℕ) (ms : List Move) (x y : Seen) → try_moves M s ms x ≡ through y → trials_with M s ms x ≡ map (trial_of s) ms
unfolding try_moves trials_with
all-tried M s [] x y e = refl
all-tried M s (m ∷ ms) x y e = ap (λ l. trial_of s m ∷ l) (go (λ z f. all-tried M s ms z y f) (meet M s (M.step s m.command m.word) x) e)
  where
    go : ((z : Seen) → try_moves M s ms z ≡ through y → trials_with M s ms z ≡ map (trial_of s) ms)
        → (o : Progress) → and_then o (try_moves M s ms) ≡ through y → afterwards o (trials_with M s ms) ≡ map (trial_of s) ms
    go back (broke z) f = not_both_lem z y f
    go back (through z) f = back z f

-- From a place of the queue on.
none_left : (M : Transitions) (head : ℕ) (x y : Seen) → through x ≡ through y → length y.queue ≤ head → [] ≡ every_trial M (drop head y.queue)
unfolding flat_map
none_left M head x y e h = sym (ap (every_trial M) (drop_of_length-le y.queue h))

module _ (M : Transitions) (y : Seen) where
  one_more : (head : ℕ) (x z : Seen) (o : Progress) → o ≡ through z → head < length x.queue → Extends x o → (w : Progress) → w ≡ through y → Extends z w
      → trials_with M (get_or x.queue head 0) (moves M) x ≡ map (trial_of (get_or x.queue head 0)) (moves M)
      → every_trial M (drop head y.queue) ≡ trials_with M (get_or x.queue head 0) (moves M) x ++ every_trial M (drop (head + 1) y.queue)
  unfolding flat_map
  one_more head x z o e h E w f F tried =
      let s = get_or x.queue head 0 in
      let (r, q) = subst (Extends x) f (extends_more x z (subst (Extends x) e E).0 (subst (Extends x) e E).1 w F) in
      let at : get_or y.queue head 0 ≡ s = ap (λ l. get_or l head 0) q ∙ get_or-append x.queue r 0 head h in
      let l : head < length y.queue = omega (arith, ap length q, length-append x.queue r) in
      ap (every_trial M) (drop-cons y.queue head 0 l)
      ∙ ap (λ k. map (trial_of k) (moves M) ++ every_trial M (drop (suc head) y.queue)) at
      ∙ ap (λ k. map (trial_of s) (moves M) ++ every_trial M (drop k y.queue)) (sym (add-one head))
      ∙ ap (λ k. k ++ every_trial M (drop (head + 1) y.queue)) (sym tried)

  -- So it is from the next place on.
  abbrev Next : ℕ → ℕ → Type 0
  Next n head = (z : Seen) → explore M n (head + 1) z ≡ through y → trials_from M n (head + 1) z ≡ every_trial M (drop (head + 1) y.queue)

  from_place_lem : (n head : ℕ) (x : Seen) → explore M n head x ≡ through y → length y.queue ≤ head + n → trials_from M n head x ≡ every_trial M (drop head y.queue)
  unfolding explore trials_from
  from_place_lem zero head x e h = none_left M head x y e (omega arith)
  from_place_lem (suc n) head x e h = go (λ z f. from_place_lem n (head + 1) z f (omega arith)) (ltb head (length x.queue)) refl e
    where
      s : ℕ
      s = get_or x.queue head 0

      on : Next n head → (o : Progress) → try_moves M s (moves M) x ≡ o → head < length x.queue → and_then o (explore M n (head + 1)) ≡ through y
          → trials_with M s (moves M) x ++ afterwards o (trials_from M n (head + 1)) ≡ every_trial M (drop head y.queue)
      on back (broke z) t l f = not_both_lem z y f
      on back (through z) t l f =
          ap (λ k. trials_with M s (moves M) x ++ k) (back z f)
          ∙ sym
          (one_more head x z (try_moves M s (moves M) x) t l (extends_try M s (moves M) x) (explore M n (head + 1) z) f (extends_explore M n (head + 1) z)
          (all-tried M s (moves M) x z t))

      go : Next n head → (b : Bool) → ltb head (length x.queue) ≡ b
          → cond b (and_then (try_moves M s (moves M) x) (explore M n (head + 1))) (through x) ≡ through y
          → cond b (trials_with M s (moves M) x ++ afterwards (try_moves M s (moves M) x) (trials_from M n (head + 1))) [] ≡ every_trial M (drop head y.queue)
      go back true t f = on back (try_moves M s (moves M) x) refl (ltb-true head (length x.queue) t) f
      go back false t f =
          none_left M head x y f (omega (arith, ltb-false head (length x.queue) t, ap (λ o. length (seen_in o).queue) f))

-- The whole search.
pub queue-marked : (M : Transitions) (x : Seen) → Closed M x → length x.queue ≡ marked x.parent
queue-marked M x C = omega (arith, ap length C.good.queue-is, length-map C.runs (final M), C.good.counted)

queue-short : (M : Transitions) (x : Seen) → Closed M x → length x.queue ≤ M.size
queue-short M x C = omega (arith, queue-marked M x C, marked_le x.parent, C.good.sized)

pub closed : (M : Transitions) → Lawful M → (x : Seen) → search M ≡ through x → Closed M x
closed M law x e = subst (Searched M) e (searched M law)

pub trials-listed : TrialsListed
unfolding search trials
trials-listed M law y e = go (take_in M M.size 0 (unseen M)) e
  where
    short : length y.queue ≤ M.size
    short = queue-short M y (closed M law y e)

    go : (o : Progress) → and_then o (explore M M.size 0) ≡ through y → afterwards o (trials_from M M.size 0) ≡ every_trial M y.queue
    go (broke z) f = not_both_lem z y f
    go (through z) f = from_place_lem M y M.size 0 z f (omega (arith, short))
