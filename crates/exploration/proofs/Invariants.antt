-- What holds before anything is met, and is kept whenever a state is met, holds wherever the search stands.
-- Assumes nothing.
use Prim.Native.Nat.{ℕ, suc, zero, ◌+◌, ◌<◌, ◌≤◌}
use mathlib.Core.Path.{◌≡◌, refl, sym, ap, ◌∙◌, subst}
use mathlib.Core.Bool.{Bool, true, false, cond}
use mathlib.Core.Logic.{⊎_elim}
use mathlib.Core.List.{List, [], ◌∷◌, ◌++◌, Memᴰ}
use native.Mathlib.Omega.{arith}
use lib.Dec.{eqb, ltb}
use lib.ListN.{length, get_or, length-set, length-append, length-replicate, get_or-append}
use lib.Seq.{get_or-append_seam}
use borrow.Author.Tests.{eqb-true, ltb-true}
use Rattle.exploration.specs.working.Transitions.{Transitions, Lawful, Move, moves}
use Rattle.exploration.specs.working.Runs.{MoveOf}
use Rattle.exploration.specs.working.Exploring.{Seen, Progress, broke, through, and_then, progress, push, meet, try_moves, explore, take_in, unseen, begun}
use Rattle.exploration.specs.working.Tables.{marked}
use Rattle.exploration.specs.working.Pauses.{Stand, seen_in, gone_on, further, after}
use Rattle.exploration.proofs.Laws.{marked-set, marked_none}
use Rattle.exploration.proofs.Order.{lt_or_ge, moves_mem}
use Rattle.exploration.proofs.Portions.{seen-told}

-- The queue has as many states as are marked, and they are states.
pub record Fit (M : Transitions) (x : Seen) : Type 0 where
  pub sized : length x.parent ≡ M.size
  pub counted : length x.queue ≡ marked x.parent
  pub below : (i : ℕ) → i < length x.queue → get_or x.queue i 0 < M.size

-- What holds at every place of a list, and of one more element.
pub snoc_each : (P : ℕ → Type 0) (l : List ℕ) (t : ℕ) → ((i : ℕ) → i < length l → P (get_or l i 0)) → P t → (i : ℕ) → i < length (l ++ t ∷ []) → P (get_or (l ++ t ∷ []) i 0)
snoc_each P l t old new i h =
    ⊎_elim
    (λ (k : i < length l). subst P (sym (get_or-append l (t ∷ []) 0 i k)) (old i k))
    (λ (k : length l ≤ i).
    let e : i ≡ length l = omega (arith, length-append l (t ∷ [])) in
    subst P (sym (ap (λ (j : ℕ). get_or (l ++ t ∷ []) j 0) e ∙ get_or-append_seam l t [] 0)) new)
    (lt_or_ge i (length l))

fit_push : (M : Transitions) (x : Seen) (s t : ℕ) → Fit M x → t < M.size → get_or x.parent t 0 ≡ 0 → Fit M (push x s t)
fit_push M x s t F h new =
    record {
      sized = length-set x.parent t (s + 1) ∙ F.sized;
      counted = omega (arith, length-append x.queue (t ∷ []), F.counted, marked-set x.parent t (s + 1) (omega (arith, F.sized, h)) new (omega arith));
      below = snoc_each (λ (u : ℕ). u < M.size) x.queue t F.below h;
    }

-- How t comes to be met from s: it is a start state, or a move leads to it from a state of the queue.
pub data Source (M : Transitions) (x : Seen) (s t : ℕ) : Type 0 where
  starting : s ≡ t → M.starts t ≡ true → Source M x s t
  moving : (i : ℕ) → i < length x.queue → get_or x.queue i 0 ≡ s → (m : Move) → MoveOf M m → M.step s m.command m.word ≡ t → Source M x s t

module _ (M : Transitions) (law : Lawful M) (P : Seen → Type 0)
    (more : (x : Seen) (s t : ℕ) → Fit M x → P x → t < M.size → get_or x.parent t 0 ≡ 0 → Source M x s t → P (push x s t))
  where
    pub record Has (x : Seen) : Type 0 where
      pub fit : Fit M x
      pub has : P x

    has_push : (x : Seen) (s t : ℕ) → Has x → t < M.size → get_or x.parent t 0 ≡ 0 → Source M x s t → Has (push x s t)
    has_push x s t H h new src = record { fit = fit_push M x s t H.fit h new; has = more x s t H.fit H.has h new src }

    -- The state s stands at a place of the queue.
    record At (head s : ℕ) (x : Seen) : Type 0 where
      all : Has x
      within : head < length x.queue
      here : get_or x.queue head 0 ≡ s

    at_push : (head s : ℕ) (x : Seen) (t : ℕ) → At head s x → t < M.size → get_or x.parent t 0 ≡ 0 → Source M x s t → At head s (push x s t)
    at_push head s x t A h new src =
        record {
          all = has_push x s t A.all h new src;
          within = omega (arith, length-append x.queue (t ∷ []), A.within);
          here = get_or-append x.queue (t ∷ []) 0 head A.within ∙ A.here;
        }

    -- A state met: what holds of what is met, and of that with one state more, holds then.
    met : (Q : Seen → Type 0) (x : Seen) (s t : ℕ) → Q x → (get_or x.parent t 0 ≡ 0 → Q (push x s t)) → Q (seen_in (meet M s t x))
    met Q x s t old new = go (eqb (get_or x.parent t 0) 0) refl
      where
        go : (b : Bool) → eqb (get_or x.parent t 0) 0 ≡ b → Q (seen_in (cond b (progress (M.breaks t) (push x s t)) (through x)))
        go true e = subst Q (sym (seen-told (M.breaks t) (push x s t))) (new (eqb-true (get_or x.parent t 0) 0 e))
        go false e = old

    at_try : (head s : ℕ) (ms : List Move) → ((m : Move) → Memᴰ m ms → MoveOf M m) → (x : Seen) → At head s x → At head s (seen_in (try_moves M s ms x))
    unfolding try_moves
    at_try head s [] all x A = A
    at_try head s (m ∷ ms) all x A =
        let t = M.step s m.command m.word in
        let v = all m (Memᴰ.head refl) in
        let b : s < M.size = subst (λ (u : ℕ). u < M.size) A.here (A.all.fit.below head A.within) in
        go (λ y. at_try head s ms (λ k h. all k (Memᴰ.tail h)) y) (meet M s t x)
        (met (At head s) x s t A (λ new. at_push head s x t A (law.step-below s m.command m.word b v.0 v.1) new (moving head A.within A.here m v refl)))
      where
        go : ((y : Seen) → At head s y → At head s (seen_in (try_moves M s ms y))) → (o : Progress) → At head s (seen_in o) → At head s (seen_in (and_then o (try_moves M s ms)))
        go rec (broke y) B = B
        go rec (through y) B = rec y B

    a_move : (m : Move) → Memᴰ m (moves M) → MoveOf M m
    a_move m h = let i = moves_mem M 0 M.commands m h in (omega (arith, i.1), i.2)

    has_then : (o : Progress) (f : Seen → Progress) → Has (seen_in o) → ((y : Seen) → Has y → Has (seen_in (f y))) → Has (seen_in (and_then o f))
    has_then (broke y) f H g = H
    has_then (through y) f H g = g y H

    has_turn : (head : ℕ) (x : Seen) → Has x → (f : Seen → Progress) → ((y : Seen) → Has y → Has (seen_in (f y)))
        → (b : Bool) → ltb head (length x.queue) ≡ b → Has (seen_in (cond b (and_then (try_moves M (get_or x.queue head 0) (moves M) x) f) (through x)))
    has_turn head x H f rec true e =
        has_then (try_moves M (get_or x.queue head 0) (moves M) x) f
        (at_try head (get_or x.queue head 0) (moves M) a_move x (record { all = H; within = ltb-true head (length x.queue) e; here = refl })).all rec
    has_turn head x H f rec false e = H

    pub has-explore : (n head : ℕ) (x : Seen) → Has x → Has (seen_in (explore M n head x))
    unfolding explore
    has-explore zero head x H = H
    has-explore (suc n) head x H = has_turn head x H (explore M n (head + 1)) (λ y K. has-explore n (head + 1) y K) (ltb head (length x.queue)) refl

    has-start : (s : ℕ) (x : Seen) → s < M.size → Has x → (b : Bool) → M.starts s ≡ b → Has (seen_in (cond b (meet M s s x) (through x)))
    has-start s x h H true e = met Has x s s H (λ new. has_push x s s H h new (starting refl e))
    has-start s x h H false e = H

    has-take : (n s : ℕ) (x : Seen) → s + n ≤ M.size → Has x → Has (seen_in (take_in M n s x))
    unfolding take_in
    has-take zero s x h H = H
    has-take (suc n) s x h H =
        has_then (cond (M.starts s) (meet M s s x) (through x)) (take_in M n (s + 1)) (has-start s x (omega arith) H (M.starts s) refl)
        (λ y K. has-take n (s + 1) y (omega arith) K)

    fit_none : Fit M (unseen M)
    fit_none = record { sized = length-replicate M.size 0; counted = sym (marked_none M.size); below = λ i h. absurd (omega arith) }

    pub has-further : (n : ℕ) (s : Stand) → Has (seen_in s.went) → Has (seen_in (further M n s).went)
    unfolding further
    has-further n s H = go s.went H
      where
        go : (o : Progress) → Has (seen_in o) → Has (seen_in (gone_on M n o s.expanded s.trials).went)
        go (broke y) K = K
        go (through y) K = has-explore n s.expanded y K

    pub has-after : P (unseen M) → (n : ℕ) → Has (seen_in (after M n).went)
    has-after p n =
        has-further n (record { went = begun M; expanded = 0; trials = 0 })
        (has-take M.size 0 (unseen M) (omega arith) (record { fit = fit_none; has = p }))
