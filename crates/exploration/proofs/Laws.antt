-- What one turn of the search's loops does to the tables and to what they say.
-- Assumes nothing.
use Prim.Native.Nat.{ℕ, suc, zero, ◌+◌, ◌-◌, ◌<◌, ◌≤◌}
use mathlib.Core.Path.{◌≡◌, refl, sym, ap, ◌∙◌, fun_ext, subst}
use mathlib.Core.Bool.{Bool, true, false, cond}
use mathlib.Core.List.{List, [], ◌∷◌, ◌++◌}
use native.Mathlib.Omega.{arith}
use native.Mathlib.Numerals.{add-one}
use lib.ListN.{length, get_or, set, take, drop, length-set, length-append, length-drop, length-replicate, replicate}
use lib.Seq.{drop-drop, length-take-le, take-suc-set, take-set-lt, drop-set-lt, get_or-take, get_or-set_same, get_or-set_other, take_at, drop_at}
use borrow.Author.Count.{below_more}
use borrow.Author.Tests.{eq-eqb, ne_eqb, lt-ltb, le-ltb}
use Rattle.exploration.specs.working.Transitions.{Transitions, Move, move_of, words_from, moves_from, moves}
use Rattle.exploration.specs.working.Exploring.{Seen, Progress, broke, through, and_then, progress, meet, try_moves, take_in, explore, place_after, place_from, search}
use Rattle.exploration.specs.working.Trials.{Trial, trial_of, afterwards, trials_with, trials_from, trials}
use Rattle.exploration.specs.working.Runs.{move_to}
use Rattle.std.specs.Prelude.{Option, Some, None}
use Rattle.exploration.specs.working.Tables.{seen, marked, Ready, Kept, Explored, Meets, Took, Began, Ran}

-- Entries that are not 0.

pub marked-set : (l : List ℕ) (t v : ℕ) → t < length l → get_or l t 0 ≡ 0 → 0 < v → marked (set l t v) ≡ suc (marked l)
unfolding marked
marked-set [] t v h e p = omega arith
marked-set (zero ∷ l) zero zero h e p = omega arith
marked-set (zero ∷ l) zero (suc v) h e p = refl
marked-set (zero ∷ l) (suc t) v h e p = marked-set l t v (omega arith) e p
marked-set (suc u ∷ l) zero v h e p = omega arith
marked-set (suc u ∷ l) (suc t) v h e p = ap suc (marked-set l t v (omega arith) e p)

pub marked_le : (l : List ℕ) → marked l ≤ length l
unfolding marked
marked_le [] = omega arith
marked_le (zero ∷ l) = omega (arith, marked_le l)
marked_le (suc u ∷ l) = omega (arith, marked_le l)

pub marked_lt : (l : List ℕ) (t : ℕ) → t < length l → get_or l t 0 ≡ 0 → marked l < length l
marked_lt l t h e = omega (arith, marked-set l t 1 h e (omega arith), marked_le (set l t 1), length-set l t 1)

pub count_le : (M : Transitions) (q : List ℕ) (n : ℕ) (p : List ℕ) → Ready M q n p → n ≤ M.size
count_le M q n p R = omega (arith, R.counted, marked_le (take M.size p), length-take-le M.size p R.parent-room)

-- The frame: tables that are ready, as long as they were, and unchanged from `size` on.

pub kept_refl : (M : Transitions) (q : List ℕ) (n : ℕ) (p : List ℕ) → Ready M q n p → Kept M q n p q n p
kept_refl M q n p R = record { ready = R; few = count_le M q n p R; more = omega arith; queue-rest = refl; parent-rest = refl; queue-length = refl; parent-length = refl }

-- What is the same from a place on is the same from a later one on.
pub drop_later : (m n : ℕ) (l k : List ℕ) → m ≤ n → drop m l ≡ drop m k → drop n l ≡ drop n k
drop_later m n l k h e =
    let f : n ≡ m + (n - m) = omega arith in
    subst (λ (i : ℕ). drop i l ≡ drop i k) (sym f) (sym (drop-drop (n - m) m l) ∙ ap (drop (n - m)) e ∙ drop-drop (n - m) m k)

pub kept_trans : {M : Transitions} {q₀ : List ℕ} {n₀ : ℕ} {p₀ q₁ : List ℕ} {n₁ : ℕ} {p₁ q₂ : List ℕ} {n₂ : ℕ} {p₂ : List ℕ}
    → Kept M q₀ n₀ p₀ q₁ n₁ p₁ → Kept M q₁ n₁ p₁ q₂ n₂ p₂ → Kept M q₀ n₀ p₀ q₂ n₂ p₂
kept_trans {M} {q₀} {n₀} {p₀} {q₁} {n₁} {p₁} {q₂} {n₂} {p₂} a b =
    record {
      ready = b.ready;
      few = b.few;
      more = omega (arith, a.more, b.more);
      queue-rest = b.queue-rest ∙ drop_later n₁ n₂ q₁ q₀ b.more a.queue-rest;
      parent-rest = b.parent-rest ∙ a.parent-rest;
      queue-length = b.queue-length ∙ a.queue-length;
      parent-length = b.parent-length ∙ a.parent-length;
    }

-- A state met.

module _ (M : Transitions) (q : List ℕ) (n : ℕ) (p : List ℕ) (R : Ready M q n p) (s t : ℕ) (ht : t < M.size) where
  at-parent : get_or (take M.size p) t 0 ≡ get_or p t 0
  at-parent = get_or-take M.size p t 0 ht

  pub meet-old : (get_or p t 0 ≡ 0 → ⊥) → meet M s t (seen M q n p) ≡ through (seen M q n p)
  meet-old old = rw (at-parent, ne_eqb (get_or p t 0) 0 old)

  module _ (new : get_or p t 0 ≡ 0) where
    pub room : n < M.size
    room = omega (arith, R.counted, marked_lt (take M.size p) t (rw (length-take-le M.size p R.parent-room) ht) (at-parent ∙ new), length-take-le M.size p R.parent-room)

    queue_pushed : take (n + 1) (set q n t) ≡ take n q ++ (t ∷ [])
    queue_pushed = rw (add-one, take-suc-set q n t (omega (arith, room, R.queue-room)))

    parent_pushed : take M.size (set p t (s + 1)) ≡ set (take M.size p) t (s + 1)
    parent_pushed = take-set-lt M.size p t (s + 1) ht

    pub meet_new : meet M s t (seen M q n p) ≡ progress (M.breaks t) (seen M (set q n t) (n + 1) (set p t (s + 1)))
    meet_new = rw (at-parent, eq-eqb (get_or p t 0) 0 new, queue_pushed, parent_pushed)

    below_pushed : (i : ℕ) → i < n + 1 → get_or (set q n t) i 0 < M.size
    below_pushed = below_more (λ (i : ℕ). get_or (set q n t) i 0 < M.size) n (λ k h. rw (get_or-set_other q n k t 0 (omega arith)) (R.below k h))
        (rw (get_or-set_same q n t 0 (omega (arith, room, R.queue-room))) ht)

    pub kept_pushed : Kept M q n p (set q n t) (n + 1) (set p t (s + 1))
    kept_pushed =
        record {
          ready =
              record {
                queue-room = rw length-set R.queue-room;
                parent-room = rw length-set R.parent-room;
                counted = rw (parent_pushed, marked-set (take M.size p) t (s + 1) (rw (length-take-le M.size p R.parent-room) ht) (at-parent ∙ new) (omega arith), ← R.counted) (add-one n);
                below = below_pushed;
              };
          few = omega (arith, room);
          more = omega arith;
          queue-rest = drop-set-lt (n + 1) q n t (omega arith);
          parent-rest = drop-set-lt M.size p t (s + 1) ht;
          queue-length = length-set q n t;
          parent-length = length-set p t (s + 1);
        }

-- What the function `meet` promises.

pub meets_new : {M : Transitions} {q : List ℕ} {n : ℕ} {p : List ℕ} {s t : ℕ} {b : Bool} → Ready M q n p → t < M.size → get_or p t 0 ≡ 0 → b ≡ M.breaks t
    → Meets M s t q n p (set q n t) (n + 1) (set p t (s + 1)) b
meets_new {M} {q} {n} {p} {s} {t} {b} R ht new e =
    record { kept = kept_pushed M q n p R s t ht new; what = rw e (sym (meet_new M q n p R s t ht new)) }

-- Moves left to try.

pub words-next : (c w n : ℕ) → w < n → words_from c w (n - w) ≡ record { command = c; word = w } ∷ words_from c (w + 1) (n - (w + 1))
unfolding words_from
words-next c w n h = let e : n - w ≡ suc (n - (w + 1)) = omega arith in rw e

pub words_none : (c n : ℕ) → words_from c n (n - n) ≡ []
unfolding words_from
words_none c n = let e : n - n ≡ 0 = omega arith in rw e

pub moves_next : (M : Transitions) (c n : ℕ) → c < n → moves_from M c (n - c) ≡ words_from c 0 (M.words c) ++ moves_from M (c + 1) (n - (c + 1))
unfolding moves_from
moves_next M c n h = let e : n - c ≡ suc (n - (c + 1)) = omega arith in rw e

pub moves_none : (M : Transitions) (n : ℕ) → moves_from M n (n - n) ≡ []
unfolding moves_from
moves_none M n = let e : n - n ≡ 0 = omega arith in rw e

and_then_assoc : (o : Progress) (f g : Seen → Progress) → and_then (and_then o f) g ≡ and_then o (λ x. and_then (f x) g)
and_then_assoc (broke x) f g = refl
and_then_assoc (through x) f g = refl

try_moves-append : (M : Transitions) (s : ℕ) (a b : List Move) (x : Seen) → try_moves M s (a ++ b) x ≡ and_then (try_moves M s a x) (try_moves M s b)
unfolding try_moves
try_moves-append M s [] b x = refl
try_moves-append M s (m ∷ a) b x =
    let o : Progress = meet M s (M.step s m.command m.word) x in
    ap (and_then o) (fun_ext (λ y. try_moves-append M s a b y)) ∙ sym (and_then_assoc o (try_moves M s a) (try_moves M s b))

trials-append : (M : Transitions) (s : ℕ) (a b : List Move) (x : Seen) → trials_with M s (a ++ b) x ≡ trials_with M s a x ++ afterwards (try_moves M s a x) (trials_with M s b)
unfolding try_moves trials_with
trials-append M s [] b x = refl
trials-append M s (m ∷ a) b x = ap (λ l. trial_of s m ∷ l) (go (λ y. trials-append M s a b y) (meet M s (M.step s m.command m.word) x))
  where
    go : ((y : Seen) → trials_with M s (a ++ b) y ≡ trials_with M s a y ++ afterwards (try_moves M s a y) (trials_with M s b))
        → (o : Progress) → afterwards o (trials_with M s (a ++ b)) ≡ afterwards o (trials_with M s a) ++ afterwards (and_then o (try_moves M s a)) (trials_with M s b)
    go back (broke y) = refl
    go back (through y) = back y

-- What is left to try, ms, at the tables now gives what ms₀ gave at the tables then; with what is left, the trials are as many, counted from j₀ then and from j now.
pub record Tried (M : Transitions) (s : ℕ) (ms₀ : List Move) (q₀ : List ℕ) (n₀ : ℕ) (p₀ : List ℕ) (j₀ : ℕ) (ms : List Move) (q : List ℕ) (n : ℕ) (p : List ℕ) (j : ℕ) : Type 0 where
  pub kept : Kept M q₀ n₀ p₀ q n p
  pub same : try_moves M s ms (seen M q n p) ≡ try_moves M s ms₀ (seen M q₀ n₀ p₀)
  pub many : j + length (trials_with M s ms (seen M q n p)) ≡ j₀ + length (trials_with M s ms₀ (seen M q₀ n₀ p₀))

-- The moves ms₀ from the tables then broke, and left the tables as they are now, after so many trials.
pub record Broke (M : Transitions) (s : ℕ) (ms₀ : List Move) (q₀ : List ℕ) (n₀ : ℕ) (p₀ : List ℕ) (j₀ : ℕ) (q : List ℕ) (n : ℕ) (p : List ℕ) (j : ℕ) : Type 0 where
  pub kept : Kept M q₀ n₀ p₀ q n p
  pub same : broke (seen M q n p) ≡ try_moves M s ms₀ (seen M q₀ n₀ p₀)
  pub many : j ≡ j₀ + length (trials_with M s ms₀ (seen M q₀ n₀ p₀))

pub tried_refl : (M : Transitions) (s : ℕ) (ms : List Move) (q : List ℕ) (n : ℕ) (p : List ℕ) (j : ℕ) → Ready M q n p → Tried M s ms q n p j ms q n p j
tried_refl M s ms q n p j R = record { kept = kept_refl M q n p R; same = refl; many = refl }

module _ {M : Transitions} {s : ℕ} {ms₀ : List Move} {q₀ : List ℕ} {n₀ : ℕ} {p₀ : List ℕ} {j₀ : ℕ} (c w k : ℕ) {q : List ℕ} {n : ℕ} {p : List ℕ} {j : ℕ}
    (T : Tried M s ms₀ q₀ n₀ p₀ j₀ (words_from c w (k - w)) q n p j) (h : w < k) (t : ℕ) (e : t ≡ M.step s c w) (ht : t < M.size) where
  abbrev rest : List Move
  rest = words_from c (w + 1) (k - (w + 1))

  -- What the move does first.
  head-move : and_then (meet M s t (seen M q n p)) (try_moves M s rest) ≡ try_moves M s ms₀ (seen M q₀ n₀ p₀)
  unfolding try_moves
  head-move = rw (e, ← T.same, words-next c w k h)

  -- It is one trial.
  one_trial : length (trials_with M s (words_from c w (k - w)) (seen M q n p)) ≡ suc (length (afterwards (meet M s t (seen M q n p)) (trials_with M s rest)))
  unfolding trials_with
  one_trial = rw (e, words-next c w k h)

  head_trial : j + 1 + length (afterwards (meet M s t (seen M q n p)) (trials_with M s rest)) ≡ j₀ + length (trials_with M s ms₀ (seen M q₀ n₀ p₀))
  head_trial = omega (arith, one_trial, T.many)

  pub tried-old : (get_or p t 0 ≡ 0 → ⊥) → Tried M s ms₀ q₀ n₀ p₀ j₀ rest q n p (j + 1)
  tried-old old =
      record {
        kept = T.kept;
        same = rw (meet-old M q n p T.kept.ready s t ht old) at head-move;
        many = rw (meet-old M q n p T.kept.ready s t ht old) at head_trial;
      }

  module _ (new : get_or p t 0 ≡ 0) where
    kept_new : Kept M q₀ n₀ p₀ (set q n t) (n + 1) (set p t (s + 1))
    kept_new = kept_trans T.kept (kept_pushed M q n p T.kept.ready s t ht new)

    met_new : and_then (progress (M.breaks t) (seen M (set q n t) (n + 1) (set p t (s + 1)))) (try_moves M s rest) ≡ try_moves M s ms₀ (seen M q₀ n₀ p₀)
    met_new = rw (meet_new M q n p T.kept.ready s t ht new) at head-move

    trial_new : j + 1 + length (afterwards (progress (M.breaks t) (seen M (set q n t) (n + 1) (set p t (s + 1)))) (trials_with M s rest)) ≡ j₀ + length (trials_with M s ms₀ (seen M q₀ n₀ p₀))
    trial_new = rw (meet_new M q n p T.kept.ready s t ht new) at head_trial

    pub tried_new : M.breaks t ≡ false → Tried M s ms₀ q₀ n₀ p₀ j₀ rest (set q n t) (n + 1) (set p t (s + 1)) (j + 1)
    tried_new b = record { kept = kept_new; same = rw b at met_new; many = rw b at trial_new }

    pub tried-broke : M.breaks t ≡ true → Broke M s ms₀ q₀ n₀ p₀ j₀ (set q n t) (n + 1) (set p t (s + 1)) (j + 1)
    tried-broke b = let x = rw b at trial_new in record { kept = kept_new; same = rw b at met_new; many = omega (arith, x) }

-- The same by what `meet` promises.
module _ {M : Transitions} {s : ℕ} {ms₀ : List Move} {q₀ : List ℕ} {n₀ : ℕ} {p₀ : List ℕ} {j₀ : ℕ} (a b : List Move) {q₁ : List ℕ} {n₁ : ℕ} {p₁ : List ℕ} {j₁ : ℕ}
    (T : Tried M s ms₀ q₀ n₀ p₀ j₀ (a ++ b) q₁ n₁ p₁ j₁) where
  parted : and_then (try_moves M s a (seen M q₁ n₁ p₁)) (try_moves M s b) ≡ try_moves M s ms₀ (seen M q₀ n₀ p₀)
  parted = sym (try_moves-append M s a b (seen M q₁ n₁ p₁)) ∙ T.same

  trials-parted :
      j₁ + length (trials_with M s a (seen M q₁ n₁ p₁)) + length (afterwards (try_moves M s a (seen M q₁ n₁ p₁)) (trials_with M s b))
      ≡ j₀ + length (trials_with M s ms₀ (seen M q₀ n₀ p₀))
  trials-parted =
      let x = seen M q₁ n₁ p₁ in
      omega (
        arith,
        T.many,
        ap length (trials-append M s a b x),
        length-append (trials_with M s a x) (afterwards (try_moves M s a x) (trials_with M s b)),
      )

  -- The moves a were tried whole, in so many trials: b is left.
  pub tried-all : {q₂ : List ℕ} {n₂ : ℕ} {p₂ : List ℕ} {j : ℕ} → Tried M s a q₁ n₁ p₁ 0 [] q₂ n₂ p₂ j → Tried M s ms₀ q₀ n₀ p₀ j₀ b q₂ n₂ p₂ (j₁ + j)
  unfolding try_moves trials_with
  tried-all U =
      let x = rw (← U.same) at trials-parted in
      record { kept = kept_trans T.kept U.kept; same = rw (← U.same) at parted; many = omega (arith, x, U.many) }

  -- The moves a broke.
  pub broke-all : {q₂ : List ℕ} {n₂ : ℕ} {p₂ : List ℕ} {j : ℕ} → Broke M s a q₁ n₁ p₁ 0 q₂ n₂ p₂ j → Broke M s ms₀ q₀ n₀ p₀ j₀ q₂ n₂ p₂ (j₁ + j)
  broke-all U =
      let x = rw (← U.same) at trials-parted in
      record { kept = kept_trans T.kept U.kept; same = rw (← U.same) at parted; many = omega (arith, x, U.many) }

-- The queue.

pub explore-end : (M : Transitions) (f head : ℕ) (x : Seen) → length x.queue ≤ head → explore M f head x ≡ through x
unfolding explore
explore-end M zero head x h = refl
explore-end M (suc f) head x h = rw (le-ltb head (length x.queue) h)

pub trials-end : (M : Transitions) (f head : ℕ) (x : Seen) → length x.queue ≤ head → trials_from M f head x ≡ []
unfolding trials_from
trials-end M zero head x h = refl
trials-end M (suc f) head x h = rw (le-ltb head (length x.queue) h)

pub place_end : (M : Transitions) (f head : ℕ) (x : Seen) → length x.queue ≤ head → place_from M f head x ≡ head
unfolding place_from
place_end M zero head x h = refl
place_end M (suc f) head x h = rw (le-ltb head (length x.queue) h)

-- What is left of the queue, from `head` on, gives what all of it gave from `from` on; j trials were made since.
pub record Gone (M : Transitions) (from most : ℕ) (q₀ : List ℕ) (n₀ : ℕ) (p₀ : List ℕ) (head left : ℕ) (q : List ℕ) (n : ℕ) (p : List ℕ) (j : ℕ) : Type 0 where
  pub kept : Kept M q₀ n₀ p₀ q n p
  pub same : explore M left head (seen M q n p) ≡ explore M most from (seen M q₀ n₀ p₀)
  pub far : place_from M left head (seen M q n p) ≡ place_from M most from (seen M q₀ n₀ p₀)
  pub many : j + length (trials_from M left head (seen M q n p)) ≡ length (trials_from M most from (seen M q₀ n₀ p₀))

pub gone_refl : (M : Transitions) (from most : ℕ) (q : List ℕ) (n : ℕ) (p : List ℕ) → Ready M q n p → Gone M from most q n p from most q n p 0
gone_refl M from most q n p R = record { kept = kept_refl M q n p R; same = refl; far = refl; many = omega arith }

module _ {M : Transitions} {from most : ℕ} {q₀ : List ℕ} {n₀ : ℕ} {p₀ : List ℕ} {head left : ℕ} {q : List ℕ} {n : ℕ} {p : List ℕ} {j : ℕ}
    (G : Gone M from most q₀ n₀ p₀ head left q n p j)
  where
    queue-count : length (take n q) ≡ n
    queue-count = length-take-le n q (omega (arith, count_le M q n p G.kept.ready, G.kept.ready.queue-room))

    module _ (some : 0 < left) (h : head < n) where
      -- What the search does with the state at `head`.
      expanded : and_then (try_moves M (get_or q head 0) (moves M) (seen M q n p)) (explore M (left - 1) (head + 1)) ≡ explore M most from (seen M q₀ n₀ p₀)
      unfolding explore
      expanded =
          let e : left ≡ suc (left - 1) = omega arith in
          rw (queue-count, lt-ltb head n h, get_or-take n q head 0 h) at (subst (λ (k : ℕ). explore M k head (seen M q n p) ≡ explore M most from (seen M q₀ n₀ p₀)) e G.same)

      -- How far that goes.
      passed : place_after (try_moves M (get_or q head 0) (moves M) (seen M q n p)) head (place_from M (left - 1) (head + 1)) ≡ place_from M most from (seen M q₀ n₀ p₀)
      unfolding place_from
      passed =
          let e : left ≡ suc (left - 1) = omega arith in
          rw (queue-count, lt-ltb head n h, get_or-take n q head 0 h) at (subst (λ (k : ℕ). place_from M k head (seen M q n p) ≡ place_from M most from (seen M q₀ n₀ p₀)) e G.far)

      -- Its trials, and those that are left then.
      here : List Trial
      here = trials_with M (get_or q head 0) (moves M) (seen M q n p)

      there : List Trial
      there = afterwards (try_moves M (get_or q head 0) (moves M) (seen M q n p)) (trials_from M (left - 1) (head + 1))

      trials-expanded : j + length here + length there ≡ length (trials_from M most from (seen M q₀ n₀ p₀))
      unfolding trials_from here there
      trials-expanded =
          let e : left ≡ suc (left - 1) = omega arith in
          let x =
          rw (queue-count, lt-ltb head n h, get_or-take n q head 0 h) at
          (subst (λ (k : ℕ). j + length (trials_from M k head (seen M q n p)) ≡ length (trials_from M most from (seen M q₀ n₀ p₀))) e G.many) in
          omega (arith, x, length-append here there)

      pub gone_next : {q₁ : List ℕ} {n₁ : ℕ} {p₁ : List ℕ} {j₁ : ℕ} → Tried M (get_or q head 0) (moves M) q n p j [] q₁ n₁ p₁ j₁
          → Gone M from most q₀ n₀ p₀ (head + 1) (left - 1) q₁ n₁ p₁ j₁
      unfolding try_moves trials_with here there
      gone_next U =
          let x = rw (← U.same) at trials-expanded in
          record { kept = kept_trans G.kept U.kept; same = rw (← U.same) at expanded; far = rw (← U.same) at passed; many = omega (arith, x, U.many) }

      pub gone_broke : {q₁ : List ℕ} {n₁ : ℕ} {p₁ : List ℕ} {j₁ : ℕ} → Broke M (get_or q head 0) (moves M) q n p j q₁ n₁ p₁ j₁
          → Explored M from most q₀ n₀ p₀ q₁ n₁ p₁ true head j₁
      unfolding here there
      gone_broke U =
          let x = rw (← U.same) at trials-expanded in
          record { kept = kept_trans G.kept U.kept; what = rw (← U.same) at expanded; place = rw (← U.same) at passed; tried = omega (arith, x, U.many) }

    -- The queue is at its end, or no state is left to go through.
    pub gone_end : n ≤ head → Explored M from most q₀ n₀ p₀ q n p false head j
    gone_end h =
        record {
          kept = G.kept;
          what = sym (explore-end M left head (seen M q n p) (rw queue-count h)) ∙ G.same;
          place = sym (place_end M left head (seen M q n p) (rw queue-count h)) ∙ G.far;
          tried = omega (arith, G.many, ap length (trials-end M left head (seen M q n p) (rw queue-count h)));
        }

    pub gone_enough : left ≡ 0 → Explored M from most q₀ n₀ p₀ q n p false head j
    unfolding explore place_from trials_from
    gone_enough e = let x = rw e at G.many in record { kept = G.kept; what = rw e at G.same; place = rw e at G.far; tried = omega (arith, x) }

-- The loops' own steps.

pub words-start : {M : Transitions} {s : ℕ} (c n : ℕ) {q : List ℕ} {k : ℕ} {p : List ℕ} → Ready M q k p → Tried M s (words_from c 0 n) q k p 0 (words_from c 0 (n - 0)) q k p 0
words-start {M} {s} c n {q} {k} {p} R = let e : n - 0 ≡ n = omega arith in rw e (tried_refl M s (words_from c 0 n) q k p 0 R)

-- After the last word of a command, the next command.
pub command-done :
    {M : Transitions} {s : ℕ} {ms₀ : List Move} {q₀ : List ℕ} {n₀ : ℕ} {p₀ : List ℕ} {j₀ : ℕ} (c n k w : ℕ) {q₁ : List ℕ} {n₁ : ℕ} {p₁ : List ℕ} {j₁ : ℕ} {q₂ : List ℕ} {n₂ : ℕ} {p₂ : List ℕ}
    → k ≡ M.words c → c < n → w ≤ k → k ≤ w
    → Tried M s ms₀ q₀ n₀ p₀ j₀ (moves_from M c (n - c)) q₁ n₁ p₁ j₁ → Tried M s (words_from c 0 k) q₁ n₁ p₁ 0 (words_from c w (k - w)) q₂ n₂ p₂ w
    → Tried M s ms₀ q₀ n₀ p₀ j₀ (moves_from M (c + 1) (n - (c + 1))) q₂ n₂ p₂ (j₁ + k)
command-done {M} c n k w e h le ge T U =
    let f : w ≡ k = omega arith in
    tried-all (words_from c 0 k) (moves_from M (c + 1) (n - (c + 1))) (rw (moves_next M c n h, ← e) at T) (rw (f, words_none) at U)

pub command-broke :
    {M : Transitions} {s : ℕ} {ms₀ : List Move} {q₀ : List ℕ} {n₀ : ℕ} {p₀ : List ℕ} {j₀ : ℕ} (c n k : ℕ) {q₁ : List ℕ} {n₁ : ℕ} {p₁ : List ℕ} {j₁ : ℕ} {q₂ : List ℕ} {n₂ : ℕ} {p₂ : List ℕ} {j : ℕ}
    → k ≡ M.words c → c < n
    → Tried M s ms₀ q₀ n₀ p₀ j₀ (moves_from M c (n - c)) q₁ n₁ p₁ j₁ → Broke M s (words_from c 0 k) q₁ n₁ p₁ 0 q₂ n₂ p₂ j → Broke M s ms₀ q₀ n₀ p₀ j₀ q₂ n₂ p₂ (j₁ + j)
command-broke {M} c n k e h T U = broke-all (words_from c 0 (M.words c)) (moves_from M (c + 1) (n - (c + 1))) (rw (moves_next M c n h) at T) (rw e at U)

-- After the last command.
pub commands-done : {M : Transitions} {s : ℕ} {ms₀ : List Move} {q₀ : List ℕ} {n₀ : ℕ} {p₀ : List ℕ} {j₀ : ℕ} (c n : ℕ) {q : List ℕ} {k : ℕ} {p : List ℕ} {j : ℕ}
    → c ≤ n → n ≤ c → Tried M s ms₀ q₀ n₀ p₀ j₀ (moves_from M c (n - c)) q k p j → Tried M s ms₀ q₀ n₀ p₀ j₀ [] q k p j
commands-done {M} c n le ge T = let f : c ≡ n = omega arith in rw (f, moves_none) at T

-- The start states.

pub record Taking (M : Transitions) (q₀ p₀ : List ℕ) (s : ℕ) (q : List ℕ) (n : ℕ) (p : List ℕ) : Type 0 where
  pub kept : Kept M q₀ 0 p₀ q n p
  pub same : take_in M (M.size - s) s (seen M q n p) ≡ take_in M M.size 0 (seen M q₀ 0 p₀)

pub taking_refl : (M : Transitions) (q p : List ℕ) → Ready M q 0 p → Taking M q p 0 q 0 p
taking_refl M q p R = record { kept = kept_refl M q 0 p R; same = let e : M.size - 0 ≡ M.size = omega arith in ap (λ (f : ℕ). take_in M f 0 (seen M q 0 p)) e }

module _ {M : Transitions} {q₀ p₀ : List ℕ} {s : ℕ} {q : List ℕ} {n : ℕ} {p : List ℕ} (T : Taking M q₀ p₀ s q n p) where
  pub taking_end : M.size ≤ s → Took M q₀ p₀ q n p false
  unfolding take_in
  taking_end h = record { kept = T.kept; what = let e : M.size - s ≡ 0 = omega arith in rw e at T.same }

  module _ (h : s < M.size) where
    taking_one : and_then (cond (M.starts s) (meet M s s (seen M q n p)) (through (seen M q n p))) (take_in M (M.size - (s + 1)) (s + 1)) ≡ take_in M M.size 0 (seen M q₀ 0 p₀)
    unfolding take_in
    taking_one = let e : M.size - s ≡ suc (M.size - (s + 1)) = omega arith in rw e at T.same

    pub taking_skip : M.starts s ≡ false → Taking M q₀ p₀ (s + 1) q n p
    taking_skip f = record { kept = T.kept; same = rw f at taking_one }

    module _ {q₁ : List ℕ} {n₁ : ℕ} {p₁ : List ℕ} {b : Bool} (st : M.starts s ≡ true) (U : Meets M s s q n p q₁ n₁ p₁ b) where
      taking_met : and_then (progress b (seen M q₁ n₁ p₁)) (take_in M (M.size - (s + 1)) (s + 1)) ≡ take_in M M.size 0 (seen M q₀ 0 p₀)
      taking_met = rw (st, ← U.what) at taking_one

      pub taking_next : b ≡ false → Taking M q₀ p₀ (s + 1) q₁ n₁ p₁
      taking_next f = record { kept = kept_trans T.kept U.kept; same = rw f at taking_met }

      pub taking_broke : b ≡ true → Took M q₀ p₀ q₁ n₁ p₁ true
      taking_broke f = record { kept = kept_trans T.kept U.kept; what = rw f at taking_met }

-- The whole search.

pub marked_none : (n : ℕ) → marked (replicate n 0) ≡ 0
unfolding marked
marked_none zero = refl
marked_none (suc n) = marked_none n

module _ (M : Transitions) (q p₀ p : List ℕ) (e : p ≡ replicate M.size 0 ++ drop M.size p₀) (hq : M.size ≤ length q) (hp : M.size ≤ length p₀) where
  cleared_front : take M.size p ≡ replicate M.size 0
  cleared_front = ap (take M.size) e ∙ take_at (replicate M.size 0) (drop M.size p₀) M.size (length-replicate M.size 0)

  cleared_length : length p ≡ length p₀
  cleared_length = ap length e ∙ length-append (replicate M.size 0) (drop M.size p₀)
      ∙ ap (λ (k : ℕ). k + length (drop M.size p₀)) (length-replicate M.size 0) ∙ omega (arith, length-drop M.size p₀)

  pub cleared : Kept M q 0 p₀ q 0 p
  cleared =
      record {
        ready =
            record {
              queue-room = hq;
              parent-room = omega (arith, cleared_length);
              counted = sym (ap marked cleared_front ∙ marked_none M.size);
              below = λ i h. omega arith;
            };
        few = omega arith;
        more = omega arith;
        queue-rest = refl;
        parent-rest = ap (drop M.size) e ∙ drop_at (replicate M.size 0) (drop M.size p₀) M.size (length-replicate M.size 0);
        queue-length = refl;
        parent-length = cleared_length;
      }

  -- The start states taken into cleared tables.
  pub began : {q₁ : List ℕ} {n₁ : ℕ} {p₁ : List ℕ} {b : Bool} → Took M q p q₁ n₁ p₁ b → Began M q p₀ q₁ n₁ p₁ b
  began T = record { kept = kept_trans cleared T.kept; what = T.what ∙ ap (λ (l : List ℕ). take_in M M.size 0 (record { queue = []; parent = l })) cleared_front }

module _ {M : Transitions} {q₀ p₀ q₁ : List ℕ} {n₁ : ℕ} {p₁ : List ℕ} {b : Bool} (B : Began M q₀ p₀ q₁ n₁ p₁ b) where
  taken_in : and_then (progress b (seen M q₁ n₁ p₁)) (explore M M.size 0) ≡ search M
  unfolding search
  taken_in = ap (λ o. and_then o (explore M M.size 0)) B.what

  trials-taken : afterwards (progress b (seen M q₁ n₁ p₁)) (trials_from M M.size 0) ≡ trials M
  unfolding trials
  trials-taken = ap (λ o. afterwards o (trials_from M M.size 0)) B.what

  pub ran_broke : b ≡ true → Ran M q₀ p₀ q₁ n₁ p₁ b 0
  ran_broke f = record { kept = B.kept; what = rw f (rw f at taken_in); tried = ap length (rw f at trials-taken) }

  pub ran_on : b ≡ false → {q₂ : List ℕ} {n₂ : ℕ} {p₂ : List ℕ} {d : Bool} {head j : ℕ}
      → Explored M 0 M.size q₁ n₁ p₁ q₂ n₂ p₂ d head j → Ran M q₀ p₀ q₂ n₂ p₂ d j
  ran_on f E =
      record {
        kept = kept_trans B.kept E.kept;
        what = E.what ∙ (rw f at taken_in);
        tried = E.tried ∙ ap length (rw f at trials-taken);
      }

-- The first move from s to t.

module _ (M : Transitions) (s t : ℕ) {X : Option Move} where
  pub look_start : (c n k : ℕ) → k ≡ M.words c → c < n → move_to M s t (moves_from M c (n - c)) ≡ X → move_to M s t (words_from c 0 (k - 0) ++ moves_from M (c + 1) (n - (c + 1))) ≡ X
  look_start c n k e h x = let f : k - 0 ≡ k = omega arith in rw (f, e) (rw (moves_next M c n h) at x)

  pub look_next : (c w k : ℕ) (r : List Move) → w < k → (M.step s c w ≡ t → ⊥) → move_to M s t (words_from c w (k - w) ++ r) ≡ X → move_to M s t (words_from c (w + 1) (k - (w + 1)) ++ r) ≡ X
  unfolding move_to
  look_next c w k r h n x = rw (words-next c w k h, ne_eqb (M.step s c w) t n) at x

  pub look_found : (c w k : ℕ) (r : List Move) → w < k → M.step s c w ≡ t → move_to M s t (words_from c w (k - w) ++ r) ≡ X → Some (move_of c w) ≡ X
  unfolding move_to
  look_found c w k r h e x = rw (words-next c w k h, eq-eqb (M.step s c w) t e) at x

  pub look_end : (c w k : ℕ) (r : List Move) → w ≤ k → k ≤ w → move_to M s t (words_from c w (k - w) ++ r) ≡ X → move_to M s t r ≡ X
  look_end c w k r a b x = let f : w ≡ k = omega arith in rw (f, words_none) at x

  pub look_last : (c n : ℕ) → c ≤ n → n ≤ c → move_to M s t (moves_from M c (n - c)) ≡ X → None ≡ X
  unfolding move_to
  look_last c n a b x = let f : c ≡ n = omega arith in rw (f, moves_none) at x
