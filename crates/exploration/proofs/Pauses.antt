-- Where a search stands in a pause: it is judged to be intact, what is met stays met and is reached by runs, and without a break it is just what the start states and the states expanded lead to.
-- Assumes nothing.
use Prim.Native.Nat.{ℕ, suc, zero, ◌+◌, ◌*◌, ◌<◌, ◌≤◌}
use mathlib.Core.Path.{◌≡◌, refl, sym, ap, ◌∙◌, subst}
use mathlib.Core.Bool.{Bool, true, false, cond}
use mathlib.Core.Logic.{◌⊎◌, inl, inr, ⊎_elim}
use mathlib.Core.List.Memᴰ
use mathlib.Core.List.{List, [], ◌∷◌, ◌++◌}
use native.Mathlib.Omega.{arith}
use native.Mathlib.Nat.{suc-mul, zero-mul, mul-le-mul}
use native.Mathlib.Numerals.{add-one}
use native.Mathlib.Decide.{ℕ_discrete}
use lib.Dec.{ltb, eqb}
use lib.ListN.{length, get_or, take, length-append, get_or-replicate, get_or-append, get_or-map}
use lib.Seq.{length-take-le, get_or-take, get_or-set_same, get_or-set_other, get_or-append_seam}
use borrow.Author.Tests.{le-leb, eq-eqb, lt-ltb, ltb-true}
use Rattle.notation.proofs.Booleans.{and_join}
use Rattle.exploration.specs.working.Transitions.{Transitions, Lawful, Move, moves}
use Rattle.exploration.specs.working.Runs.{Run, starts_at, goes_on, final, MoveOf, Valid, Before, steps, run_to}
use Rattle.exploration.specs.working.Exploring.{Seen, Progress, broke, through, and_then, progress, push, meet, try_moves, explore, place_after, place_from, take_in, unseen}
use Rattle.exploration.specs.working.Trials.{Trial, afterwards, trials_with, trials_from}
use Rattle.exploration.specs.working.Tables.{seen, marked, Ready, Explored}
use Rattle.exploration.specs.working.Results.{Reached}
use Rattle.exploration.specs.Pause.{Pause}
use Rattle.exploration.specs.working.Pauses.{Stand, seen_in, gone_on, further, after, Holds, all_states, intact}
use Rattle.exploration.proofs.Order.{lt_or_ge, before_trans, before_then, AtMost, moves-has}
use Rattle.exploration.proofs.First.{at, Good, Covered, Upto, Between, Ended, Tries, Takes, tries_all, next-head, taken, starting, queue-begun, queue-length, here-is, covered_step, traced-met, run-to}
use Rattle.exploration.proofs.Laws.{marked_le, count_le}
use Rattle.exploration.proofs.Portions.{seen-told, left_count}
use Rattle.exploration.proofs.Invariants as I
use Rattle.exploration.proofs.TrialCounts.{few_with}

-- How many states are expanded, and how many trials are made.

module _ (M : Transitions) where
  pub grown : (ms : List Move) (s : ℕ) (x : Seen) → length x.queue ≤ length (seen_in (try_moves M s ms x)).queue
  unfolding try_moves
  grown [] s x = omega arith
  grown (m ∷ ms) s x =
      let t = M.step s m.command m.word in
      go (λ y. grown ms s y) (meet M s t x) (one t (eqb (get_or x.parent t 0) 0))
    where
      one : (t : ℕ) (b : Bool) → length x.queue ≤ length (seen_in (cond b (progress (M.breaks t) (push x s t)) (through x))).queue
      one t true = subst (λ (y : Seen). length x.queue ≤ length y.queue) (sym (seen-told (M.breaks t) (push x s t))) (omega (arith, length-append x.queue (t ∷ [])))
      one t false = omega arith

      go : ((y : Seen) → length y.queue ≤ length (seen_in (try_moves M s ms y)).queue) → (o : Progress) → length x.queue ≤ length (seen_in o).queue
          → length x.queue ≤ length (seen_in (and_then o (try_moves M s ms))).queue
      go rec (broke y) h = h
      go rec (through y) h = omega (arith, h, rec y)

  -- No more states are gone through than are met.
  pub place-met : (n head : ℕ) (x : Seen) → head ≤ length x.queue → place_from M n head x ≤ length (seen_in (explore M n head x)).queue
  unfolding explore place_from
  place-met zero head x h = h
  place-met (suc n) head x h = go (λ y. place-met n (head + 1) y) (ltb head (length x.queue)) refl
    where
      tried : ((y : Seen) → head + 1 ≤ length y.queue → place_from M n (head + 1) y ≤ length (seen_in (explore M n (head + 1) y)).queue)
          → head < length x.queue → (o : Progress) → length x.queue ≤ length (seen_in o).queue
          → place_after o head (place_from M n (head + 1)) ≤ length (seen_in (and_then o (explore M n (head + 1)))).queue
      tried rec k (broke y) g = omega arith
      tried rec k (through y) g = rec y (omega arith)

      go : ((y : Seen) → head + 1 ≤ length y.queue → place_from M n (head + 1) y ≤ length (seen_in (explore M n (head + 1) y)).queue)
          → (b : Bool) → ltb head (length x.queue) ≡ b
          → cond b (place_after (try_moves M (get_or x.queue head 0) (moves M) x) head (place_from M n (head + 1))) head
          ≤ length (seen_in (cond b (and_then (try_moves M (get_or x.queue head 0) (moves M) x) (explore M n (head + 1))) (through x))).queue
      go rec true e = tried rec (ltb-true head (length x.queue) e) (try_moves M (get_or x.queue head 0) (moves M) x) (grown (moves M) (get_or x.queue head 0) x)
      go rec false e = h

  -- Every state gone through has its moves for trials, and the next one no more.
  abbrev each : ℕ
  each = length (moves M)

  next-mul : (n : ℕ) → (n + 1) * each ≡ n * each + each
  next-mul n = ap (λ (k : ℕ). k * each) (add-one n) ∙ suc-mul n each

  pub trials-place : (n head : ℕ) (x : Seen) → length (trials_from M n head x) + head * each ≤ (place_from M n head x + 1) * each
  unfolding trials_from place_from
  trials-place zero head x = omega (arith, next-mul head)
  trials-place (suc n) head x = go (λ y. trials-place n (head + 1) y) (ltb head (length x.queue))
    where
      tried : ((y : Seen) → length (trials_from M n (head + 1) y) + (head + 1) * each ≤ (place_from M n (head + 1) y + 1) * each)
          → (here : List Trial) → length here ≤ each → (o : Progress)
          → length (here ++ afterwards o (trials_from M n (head + 1))) + head * each ≤ (place_after o head (place_from M n (head + 1)) + 1) * each
      tried rec here h (broke y) = omega (arith, length-append here [], h, next-mul head)
      tried rec here h (through y) = omega (arith, length-append here (trials_from M n (head + 1) y), h, next-mul head, rec y)

      go : ((y : Seen) → length (trials_from M n (head + 1) y) + (head + 1) * each ≤ (place_from M n (head + 1) y + 1) * each)
          → (b : Bool)
          → length (cond b (trials_with M (get_or x.queue head 0) (moves M) x ++ afterwards (try_moves M (get_or x.queue head 0) (moves M) x) (trials_from M n (head + 1))) []) + head * each
          ≤ (cond b (place_after (try_moves M (get_or x.queue head 0) (moves M) x) head (place_from M n (head + 1))) head + 1) * each
      go rec true = tried rec (trials_with M (get_or x.queue head 0) (moves M) x) (few_with M (get_or x.queue head 0) (moves M) x) (try_moves M (get_or x.queue head 0) (moves M) x)
      go rec false = omega (arith, next-mul head)

  pub expanded-met : (n : ℕ) → (after M n).expanded ≤ length (seen_in (after M n).went).queue
  unfolding further
  expanded-met n = go (take_in M M.size 0 (unseen M))
    where
      go : (o : Progress) → (gone_on M n o 0 0).expanded ≤ length (seen_in (gone_on M n o 0 0).went).queue
      go (broke y) = omega arith
      go (through y) = place-met n 0 y (omega arith)

  trials-expanded : (n : ℕ) → (after M n).trials ≤ ((after M n).expanded + 1) * each
  unfolding further
  trials-expanded n = go (take_in M M.size 0 (unseen M))
    where
      go : (o : Progress) → (gone_on M n o 0 0).trials ≤ ((gone_on M n o 0 0).expanded + 1) * each
      go (broke y) = omega arith
      go (through y) = omega (arith, trials-place n 0 y, zero-mul each)

-- Whether a state is marked as met.
abbrev pub Marked : ℕ → Seen → Type 0
Marked t x = get_or x.parent t 0 ≡ 0 → ⊥

module _ (M : Transitions) (law : Lawful M) where
  pub fit_after : (n : ℕ) → I.Fit M (seen_in (after M n).went)
  fit_after n = (I.has-after M law (λ x. Unit {0}) (λ x s t F u h new src. tt) tt n).fit

  -- A mark stays.

  mark_new : (x : Seen) (s t : ℕ) → I.Fit M x → t < M.size → Marked t (push x s t)
  mark_new x s t F h e = omega (arith, sym (get_or-set_same x.parent t (s + 1) 0 (omega (arith, F.sized, h))) ∙ e)

  mark-old : (u : ℕ) (x : Seen) (s t : ℕ) → I.Fit M x → Marked u x → t < M.size → Marked u (push x s t)
  mark-old u x s t F old h e =
      elim (ℕ_discrete u t) [
        | yes f ↦ mark_new x s t F h (ap (λ (v : ℕ). get_or (push x s t).parent v 0) (sym f) ∙ e)
        | no f ↦ old (sym (get_or-set_other x.parent t u (s + 1) 0 f) ∙ e)
      ]

  pub mark-stays : (u n : ℕ) (s : Stand) → I.Fit M (seen_in s.went) → Marked u (seen_in s.went) → Marked u (seen_in (further M n s).went)
  mark-stays u n s F old = (I.has-further M law (Marked u) (λ x s t G p h new src. mark-old u x s t G p h) n s (record { fit = F; has = old })).has

  -- The states marked are those of the queue, and runs reach them.

  pub record Listed (x : Seen) : Type 0 where
    pub queued : (t : ℕ) → t < M.size → Marked t x → (i : ℕ) × (i < length x.queue) × (get_or x.queue i 0 ≡ t)
    pub marks : (i : ℕ) → i < length x.queue → Marked (get_or x.queue i 0) x
    pub reached : (i : ℕ) → i < length x.queue → Reached M (get_or x.queue i 0)

  reach_new : (x : Seen) (s t : ℕ) → ((i : ℕ) → i < length x.queue → Reached M (get_or x.queue i 0)) → t < M.size → I.Source M x s t → Reached M t
  reach_new x s t old h (I.starting e st) = record { run = starts_at t; valid = (h, st); ends = refl }
  reach_new x s t old h (I.moving i k e m v f) =
      let r = old i k in
      record { run = goes_on r.run m; valid = (r.valid, v); ends = ap (λ (u : ℕ). M.step u m.command m.word) (r.ends ∙ e) ∙ f }

  listed-push : (x : Seen) (s t : ℕ) → I.Fit M x → Listed x → t < M.size → get_or x.parent t 0 ≡ 0 → I.Source M x s t → Listed (push x s t)
  listed-push x s t F L h new src =
      record {
        queued = λ u k mark.
            elim (ℕ_discrete u t) [
              | yes e ↦ (length x.queue, omega (arith, length-append x.queue (t ∷ [])), get_or-append_seam x.queue t [] 0 ∙ sym e)
              | no f ↦
                  let g = L.queued u k (λ e. mark (get_or-set_other x.parent t u (s + 1) 0 f ∙ e)) in
                  (g.0, omega (arith, length-append x.queue (t ∷ []), g.1), get_or-append x.queue (t ∷ []) 0 g.0 g.1 ∙ g.2)
            ];
        marks = I.snoc_each (λ (u : ℕ). Marked u (push x s t)) x.queue t (λ i k. mark-old (get_or x.queue i 0) x s t F (L.marks i k) h) (mark_new x s t F h);
        reached = I.snoc_each (Reached M) x.queue t L.reached (reach_new x s t L.reached h src);
      }

  pub listed-after : (n : ℕ) → Listed (seen_in (after M n).went)
  listed-after n = (I.has-after M law Listed listed-push none n).has
    where
      none : Listed (unseen M)
      none =
          record {
            queued = λ t h mark. absurd (mark (get_or-replicate M.size t 0 0 h));
            marks = λ i h. absurd (omega arith);
            reached = λ i h. absurd (omega arith);
          }

  -- Without a break, where the queue is gone through up to a place.

  abbrev Pausing : ℕ → Progress → Type 0
  Pausing head (broke y) = Ended M y
  Pausing head (through y) = Between M head y

  pausing_turn : (n head : ℕ) (x : Seen) → Between M head x → ((y : Seen) → Between M (head + 1) y → Pausing (place_from M n (head + 1) y) (explore M n (head + 1) y))
      → (b : Bool) → ltb head (length x.queue) ≡ b
      → Pausing (cond b (place_after (try_moves M (get_or x.queue head 0) (moves M) x) head (place_from M n (head + 1))) head)
      (cond b (and_then (try_moves M (get_or x.queue head 0) (moves M) x) (explore M n (head + 1))) (through x))
  pausing_turn n head x B rec false e = B
  pausing_turn n head x B rec true e =
      go (try_moves M (get_or x.queue head 0) (moves M) x)
      (tries_all M law head (get_or x.queue head 0) [] (moves M) refl x
      (record {
        runs = B.runs;
        good = B.good;
        frontier = B.frontier;
        within = omega (arith, ltb-true head (length x.queue) e, queue-length M B.runs x B.good);
        here = here-is M law n head x B;
      }))
    where
      go : (o : Progress) → Tries M head (get_or x.queue head 0) (moves M) o → Pausing (place_after o head (place_from M n (head + 1))) (and_then o (explore M n (head + 1)))
      go (broke y) T = T
      go (through y) T = rec y (next-head M head (get_or x.queue head 0) y T)

  pausing : (n head : ℕ) (x : Seen) → Between M head x → Pausing (place_from M n head x) (explore M n head x)
  unfolding explore place_from
  pausing zero head x B = B
  pausing (suc n) head x B = pausing_turn n head x B (λ y C. pausing n (head + 1) y C) (ltb head (length x.queue)) refl

  pausing_after : (n : ℕ) → Pausing (after M n).expanded (after M n).went
  unfolding further
  pausing_after n = go (take_in M M.size 0 (unseen M)) (taken M M.size 0 (unseen M) (omega arith) (starting M))
    where
      go : (o : Progress) → Takes M M.size o → Pausing (gone_on M n o 0 0).expanded (gone_on M n o 0 0).went
      go (broke y) T = T
      go (through y) T = pausing n 0 y (queue-begun M y T)

  pub between-after : (n : ℕ) (x : Seen) → (after M n).went ≡ through x → Between M (after M n).expanded x
  between-after n x e = subst (Pausing (after M n).expanded) e (pausing_after n)

  pub ended-after : (n : ℕ) (x : Seen) → (after M n).went ≡ broke x → Ended M x
  ended-after n x e = subst (Pausing (after M n).expanded) e (pausing_after n)

  -- No two of the queue's runs end in one state.
  pub recorded-same : (x : Seen) (ρ : List Run) → Good M ρ x → (i j : ℕ) → i < length ρ → j < length ρ → final M (at ρ i) ≡ final M (at ρ j) → at ρ i ≡ at ρ j
  recorded-same x ρ G i j h k e =
      let n = steps (at ρ i) + steps (at ρ j) in
      sym (run-to M x.parent (at ρ i) (G.traced i h) n (omega arith))
      ∙ ap (run_to M x.parent n) e
      ∙ run-to M x.parent (at ρ j) (G.traced j k) n (omega arith)

  -- A start state, or where a move leads from a state of the queue before a place.
  pub data Follows (x : Seen) (head t : ℕ) : Type 0 where
    from_start : M.starts t ≡ true → Follows x head t
    from_place : (i : ℕ) → i < head → (m : Move) → MoveOf M m → M.step (get_or x.queue i 0) m.command m.word ≡ t → Follows x head t

  module _ (head : ℕ) (x : Seen) (B : Between M head x) where
    pub place_is : (i : ℕ) → get_or x.queue i 0 ≡ final M (at B.runs i)
    place_is i = ap (λ (l : List ℕ). get_or l i 0) B.good.queue-is ∙ get_or-map (final M) B.runs i (starts_at 0)

    covered_marked : (j t : ℕ) → j < length B.runs → final M (at B.runs j) ≡ t → Marked t x
    covered_marked j t h e z = traced-met M x.parent (at B.runs j) (B.good.traced j h) (ap (λ (u : ℕ). get_or x.parent u 0) e ∙ z)

    pub follows_marked : (t : ℕ) → t < M.size → Follows x head t → Marked t x
    follows_marked t h (from_start s) = let c = B.frontier.starts t (h, s) in covered_marked c.0 t c.1 c.2
    follows_marked t h (from_place i k m v e) =
        let c = B.frontier.past i k m (moves-has M 0 M.commands m (omega arith) (omega (arith, v.0)) v.1) in
        covered_marked c.0 t c.1 (c.2 ∙ ap (λ (u : ℕ). M.step u m.command m.word) (sym (place_is i)) ∙ e)

    pub marked_follows : (t : ℕ) → t < M.size → Marked t x → Follows x head t
    marked_follows t h mark =
        let g = B.good.met t h mark in
        go (at B.runs g.0) (B.frontier.upto g.0 g.1) (B.good.valid g.0 g.1) g.2
      where
        go : (y : Run) → Upto B.runs head [] y → Valid M y → final M y ≡ t → Follows x head t
        go (starts_at s) u v e = from_start (subst (λ (r : ℕ). M.starts r ≡ true) e v.1)
        go (goes_on y m) u v e =
            ⊎_elim
            (λ k. from_place u.0 k m v.1 (ap (λ (r : ℕ). M.step r m.command m.word) (place_is u.0 ∙ ap (final M) (sym u.1)) ∙ e))
            (λ k. absurd (Memᴰ.not-nil k.1))
            u.2

    -- A run to a state of the queue that no run to that state comes before.

    reaches : (y : Run) → Valid M y → Covered M B.runs y ⊎ ((i : ℕ) → i < length B.runs → Before (at B.runs i) y)
    reaches (starts_at s) v = inl (B.frontier.starts s v)
    reaches (goes_on y l) v =
        ⊎_elim
        (λ (c : Covered M B.runs y).
        ⊎_elim
        (λ (k : c.0 < head).
        inl
        (covered_step M B.runs (at B.runs c.0) y l c.2 c.3
        (B.frontier.past c.0 k l (moves-has M 0 M.commands l (omega arith) (omega (arith, v.1.0)) v.1.1))))
        (λ (k : head ≤ c.0). inr (λ i h. later c.0 k c.1 c.3 (at B.runs i) (B.frontier.upto i h)))
        (lt_or_ge c.0 head))
        (λ b. inr (λ i h. before_trans (at B.runs i) y (goes_on y l) (b i h) (before_then y l)))
        (reaches y v.0)
      where
        later : (j : ℕ) → head ≤ j → j < length B.runs → AtMost (at B.runs j) y → (z : Run) → Upto B.runs head [] z → Before z (goes_on y l)
        later j k h a (starts_at s) u = tt
        later j k h a (goes_on z m) u =
            ⊎_elim
            (λ (n : u.0 < head).
            let b : Before (at B.runs u.0) (at B.runs j) = B.good.sorted u.0 j (omega arith) h in
            inl
            (rw u.1
            (⊎_elim (λ p. before_trans (at B.runs u.0) (at B.runs j) y b p) (λ p. subst (Before (at B.runs u.0)) p b) a)))
            (λ n. absurd (Memᴰ.not-nil n.1))
            u.2

    pub first_run_lem : (i : ℕ) → i < length B.runs → (y : Run) → Valid M y → final M y ≡ final M (at B.runs i) → AtMost (at B.runs i) y
    first_run_lem i h y v e =
        ⊎_elim
        (λ (c : Covered M B.runs y). subst (λ (r : Run). AtMost r y) (recorded-same x B.runs B.good c.0 i c.1 h (c.2 ∙ e)) c.3)
        (λ b. inl (b i h))
        (reaches y v)

-- What a pause holds is judged to be intact.

pub all-states : (size : ℕ) (l : List ℕ) (n : ℕ) → ((i : ℕ) → i < n → get_or l i 0 < size) → all_states size l n ≡ true
unfolding all_states
all-states size l zero h = refl
all-states size l (suc n) h =
    and_join (all_states size l n) (ltb (get_or l n 0) size) (all-states size l n (λ i k. h i (omega arith))) (lt-ltb (get_or l n 0) size (h n (omega arith)))

pub intact_held : (M : Transitions) (law : Lawful M) → M.size ≤ 4096 → length (moves M) ≤ 4096 → (n : ℕ) {p : Pause} {first second : List ℕ}
    → Holds M (after M n) p first second → intact M.size p first second ≡ true
unfolding intact
intact_held M law few moved n {p} {first} {second} H =
    let x = seen_in (after M n).went in
    let F = fit_after M law n in
    let m : length x.queue ≤ M.size = omega (arith, F.counted, marked_le x.parent, F.sized) in
    let e = expanded-met M n in
    let k : ((after M n).expanded + 1) * length (moves M) ≤ 4097 * 4096 = let a : (after M n).expanded + 1 ≤ 4097 = omega (arith, e, m, few) in mul-le-mul a moved in
    let t : (after M n).trials ≤ 33554432 = omega (arith, trials-expanded M n, k) in
    rw H.position
    (and_join _ _ (le-leb (after M n).trials 33554432 t)
    (and_join _ _ (le-leb (after M n).expanded (length x.queue) e)
    (and_join _ _ (eq-eqb (marked (take M.size second)) (length x.queue) (ap marked H.parents ∙ sym F.counted))
    (all-states M.size first (length x.queue)
    (λ i h.
    subst (λ (u : ℕ). u < M.size)
    (ap (λ (l : List ℕ). get_or l i 0) (sym H.queue) ∙ get_or-take (length x.queue) first i 0 h)
    (F.below i h))))))

-- How far a portion goes that was judged, and how many trials it makes.
module _ {M : Transitions} {from k : ℕ} {q₀ : List ℕ} {n₀ : ℕ} {p₀ q : List ℕ} {n : ℕ} {p : List ℕ} {found : Bool} {head made : ℕ}
    (E : Explored M from k q₀ n₀ p₀ q n p found head made) (R : Ready M q₀ n₀ p₀) (h : from ≤ n₀)
  where
    pub explored_within : head ≤ n
    explored_within =
        let l = length-take-le n₀ q₀ (omega (arith, count_le M q₀ n₀ p₀ R, R.queue-room)) in
        omega (arith, E.place, place-met M k from (seen M q₀ n₀ p₀) (omega (arith, l, h)), left_count M E.kept found E.what)

    pub explored_few : M.size ≤ 4096 → length (moves M) ≤ 4096 → made ≤ 33554432
    explored_few s m =
        let a : head + 1 ≤ 4097 = omega (arith, explored_within, E.kept.few, s) in
        let b : (head + 1) * length (moves M) ≤ 4097 * 4096 = mul-le-mul a m in
        let t = subst (λ (u : ℕ). length (trials_from M k from (seen M q₀ n₀ p₀)) + from * length (moves M) ≤ (u + 1) * length (moves M)) (sym E.place)
        (trials-place M k from (seen M q₀ n₀ p₀)) in
        omega (arith, E.tried, t, b)
