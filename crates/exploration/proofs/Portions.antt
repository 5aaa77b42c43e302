-- Portions one after the other are one portion, and tables hold where the search stands.
-- Assumes nothing.
use Prim.Native.Nat.{ℕ, suc, zero, ◌+◌, ◌<◌, ◌≤◌}
use mathlib.Core.Path.{◌≡◌, refl, sym, ap, ◌∙◌}
use mathlib.Core.Bool.{Bool, true, false}
use mathlib.Core.Logic.{⊎_elim}
use mathlib.Core.List.{List, ◌++◌}
use native.Mathlib.Omega.{arith}
use lib.Dec.{ltb, leb, eqb}
use lib.ListN.{length, get_or, take, drop, length-append, take-append-drop}
use lib.Seq.{length-take-le}
use borrow.Author.Tests.{ltb-true, ltb-false, leb-true, eqb-true}
use Rattle.notation.proofs.Booleans.{and_split}
use Rattle.exploration.specs.working.Transitions.{Transitions, moves}
use Rattle.exploration.specs.working.Exploring.{Seen, Progress, broke, through, and_then, progress, try_moves, explore, place_after, place_from}
use Rattle.exploration.specs.working.Trials.{Trial, afterwards, trials_with, trials_from}
use Rattle.exploration.specs.working.Tables.{seen, marked, Kept, Explored}
use Rattle.exploration.specs.Pause.{Pause}
use Rattle.exploration.specs.working.Pauses.{Stand, seen_in, broke_off, gone_on, further, stand_in, over, Holds, all_states, intact, Judged, GoneOn}
use Rattle.exploration.proofs.Laws.{kept_refl, explore-end, trials-end, place_end}
use Rattle.exploration.proofs.Order.{lt_or_ge}

-- A stand by its three parts.
pub stand-same : {o u : Progress} {e f j k : ℕ} → o ≡ u → e ≡ f → j ≡ k
    → ◌≡◌ {A = Stand} (record { went = o; expanded = e; trials = j }) (record { went = u; expanded = f; trials = k })
stand-same p q r = λ i. record { went = p i; expanded = q i; trials = r i }

module _ (M : Transitions) (k : ℕ) where
  -- From a place of the queue on.
  abbrev Joined : ℕ → ℕ → Seen → ℕ → Type 0
  Joined h head x made =
      gone_on M k (explore M h head x) (place_from M h head x) (made + length (trials_from M h head x)) ≡ gone_on M (h + k) (through x) head made

  joined_end : (h head : ℕ) (x : Seen) (made : ℕ) → length x.queue ≤ head → Joined h head x made
  joined_end h head x made l =
      rw (explore-end M h head x l, place_end M h head x l, trials-end M h head x l)
      (stand-same
      (explore-end M k head x l ∙ sym (explore-end M (h + k) head x l))
      (place_end M k head x l ∙ sym (place_end M (h + k) head x l))
      (omega (arith, ap length (trials-end M k head x l), ap length (trials-end M (h + k) head x l))))

  -- What a portion does with one state, whose moves went as o says after the trials `here`, and then with h more.
  abbrev went_then : ℕ → ℕ → Progress → Progress
  went_then n head o = and_then o (explore M n (head + 1))

  joined-one : (h head : ℕ) (o : Progress) (here : List Trial) (made : ℕ)
      → ((y : Seen) (j : ℕ) → Joined h (head + 1) y j)
      → gone_on M k (and_then o (explore M h (head + 1))) (place_after o head (place_from M h (head + 1))) (made + length (here ++ afterwards o (trials_from M h (head + 1))))
      ≡ record { went = and_then o (explore M (h + k) (head + 1)); expanded = place_after o head (place_from M (h + k) (head + 1)); trials = made + length (here ++ afterwards o (trials_from M (h + k) (head + 1))) }
  joined-one h head (broke y) here made rec = refl
  joined-one h head (through y) here made rec =
      let a : made + length (here ++ trials_from M h (head + 1) y) ≡ made + length here + length (trials_from M h (head + 1) y) = omega (arith, length-append here (trials_from M h (head + 1) y)) in
      ap (gone_on M k (explore M h (head + 1) y) (place_from M h (head + 1) y)) a
      ∙ rec y (made + length here)
      ∙ stand-same refl refl (omega (arith, length-append here (trials_from M (h + k) (head + 1) y)))

  joined_turn : (h head : ℕ) (x : Seen) (made : ℕ) → ltb head (length x.queue) ≡ true → ((y : Seen) (j : ℕ) → Joined h (head + 1) y j) → Joined (suc h) head x made
  unfolding explore place_from trials_from
  joined_turn h head x made e rec =
      let f : suc h + k ≡ suc (h + k) = omega arith in
      rw (f, e) (joined-one h head (try_moves M (get_or x.queue head 0) (moves M) x) (trials_with M (get_or x.queue head 0) (moves M) x) made rec)

  joined-either : (h head : ℕ) (x : Seen) (made : ℕ) → ((y : Seen) (j : ℕ) → Joined h (head + 1) y j) → (b : Bool) → ltb head (length x.queue) ≡ b → Joined (suc h) head x made
  joined-either h head x made rec true e = joined_turn h head x made e rec
  joined-either h head x made rec false e = joined_end (suc h) head x made (ltb-false head (length x.queue) e)

  joined_none : (head : ℕ) (x : Seen) (made : ℕ) → Joined zero head x made
  unfolding explore place_from trials_from
  joined_none head x made =
      let e : 0 + k ≡ k = omega arith in
      let f : made + 0 ≡ made = omega arith in
      ap (gone_on M k (through x) head) f ∙ ap (λ n. gone_on M n (through x) head made) (sym e)

  joined : (h head : ℕ) (x : Seen) (made : ℕ) → Joined h head x made
  joined zero head x made = joined_none head x made
  joined (suc h) head x made = joined-either h head x made (λ y j. joined h (head + 1) y j) (ltb head (length x.queue)) refl

-- Two portions are one of as many states.
pub further-further : (M : Transitions) (h k : ℕ) (s : Stand) → further M k (further M h s) ≡ further M (h + k) s
unfolding further
further-further M h k s = go s.went
  where
    go : (o : Progress) → gone_on M k (gone_on M h o s.expanded s.trials).went (gone_on M h o s.expanded s.trials).expanded (gone_on M h o s.expanded s.trials).trials ≡ gone_on M (h + k) o s.expanded s.trials
    go (broke x) = refl
    go (through x) = joined M k h s.expanded x s.trials

-- What the tables say is how it went.

told_same : (o : Progress) → progress (broke_off o) (seen_in o) ≡ o
told_same (broke x) = refl
told_same (through x) = refl

seen_same : {q r p s : List ℕ} → q ≡ r → p ≡ s → ◌≡◌ {A = Seen} (record { queue = q; parent = p }) (record { queue = r; parent = s })
seen_same e f = λ i. record { queue = e i; parent = f i }

pub holds-stand : {M : Transitions} {s : Stand} {p : Pause} {first second : List ℕ} → Holds M s p first second → stand_in M p first second ≡ s
holds-stand {M} {s} {p} {first} {second} H =
    ap (λ (u : Pause). stand_in M u first second) H.position
    ∙ stand-same (ap (progress (broke_off s.went)) (seen_same H.queue H.parents) ∙ told_same s.went) refl refl

flag_told : (b : Bool) (x : Seen) → broke_off (progress b x) ≡ b
flag_told true x = refl
flag_told false x = refl

pub seen-told : (b : Bool) (x : Seen) → seen_in (progress b x) ≡ x
seen-told true x = refl
seen-told false x = refl

-- Tables after a part of the search, by how it went.
module _ (M : Transitions) {q₀ : List ℕ} {n₀ : ℕ} {p₀ q : List ℕ} {n : ℕ} {p : List ℕ} (K : Kept M q₀ n₀ p₀ q n p) (b : Bool) {o : Progress} (e : progress b (seen M q n p) ≡ o) where
  pub left_flag : b ≡ broke_off o
  left_flag = sym (flag_told b (seen M q n p)) ∙ ap broke_off e

  left_seen : seen M q n p ≡ seen_in o
  left_seen = sym (seen-told b (seen M q n p)) ∙ ap seen_in e

  pub left_count : n ≡ length (seen_in o).queue
  left_count = sym (length-take-le n q (omega (arith, K.few, K.ready.queue-room))) ∙ ap (λ (x : Seen). length x.queue) left_seen

  pub left_queue : q ≡ over (seen_in o).queue q₀
  left_queue =
      sym (take-append-drop n q)
      ∙ ap (λ (l : List ℕ). take n q ++ l) K.queue-rest
      ∙ ap (λ (l : List ℕ). l ++ drop n q₀) (ap (λ (x : Seen). x.queue) left_seen)
      ∙ ap (λ (k : ℕ). (seen_in o).queue ++ drop k q₀) left_count

  pub left_parents : p ≡ over (seen_in o).parent p₀
  left_parents =
      let l : M.size ≡ length (seen_in o).parent = sym (length-take-le M.size p K.ready.parent-room) ∙ ap (λ (x : Seen). length x.parent) left_seen in
      sym (take-append-drop M.size p)
      ∙ ap (λ (l : List ℕ). take M.size p ++ l) K.parent-rest
      ∙ ap (λ (l : List ℕ). l ++ drop M.size p₀) (ap (λ (x : Seen). x.parent) left_seen)
      ∙ ap (λ (k : ℕ). (seen_in o).parent ++ drop k p₀) l

-- Tables that are judged to be intact are ready.

states-below : (size : ℕ) (l : List ℕ) (n : ℕ) → all_states size l n ≡ true → (i : ℕ) → i < n → get_or l i 0 < size
unfolding all_states
states-below size l zero e i h = absurd (omega arith)
states-below size l (suc n) e i h =
    let a = and_split (all_states size l n) (ltb (get_or l n 0) size) e in
    ⊎_elim
    (λ (k : i < n). states-below size l n a.0 i k)
    (λ (k : n ≤ i). let f : i ≡ n = omega arith in rw f (ltb-true (get_or l n 0) size a.1))
    (lt_or_ge i n)

pub judged : (M : Transitions) (p : Pause) (first second : List ℕ) → M.size ≤ length first → M.size ≤ length second → intact M.size p first second ≡ true → Judged M p first second
unfolding intact
judged M p first second hq hp e =
    let a = and_split (leb p.trials 33554432) _ e in
    let b = and_split (leb p.expanded p.met) _ a.1 in
    let c = and_split (eqb (marked (take M.size second)) p.met) _ b.1 in
    record {
      ready =
          record {
            queue-room = hq;
            parent-room = hp;
            counted = sym (eqb-true (marked (take M.size second)) p.met c.0);
            below = states-below M.size first p.met c.1;
          };
      few = leb-true p.trials 33554432 a.0;
      within = leb-true p.expanded p.met b.0;
    }

-- A search that has broken off stays as it is; any other goes on.
module _ {M : Transitions} {k : ℕ} {a : Pause} {q₀ p₀ : List ℕ} (J : Judged M a q₀ p₀) where
  pub gone_nowhere : a.broke ≡ true → GoneOn M k a q₀ p₀ a q₀ p₀
  unfolding further
  gone_nowhere e =
      record {
        kept = kept_refl M q₀ a.met p₀ J.ready;
        stand =
            let o = seen M q₀ a.met p₀ in
            ap (λ (b : Bool). record { went = progress b o; expanded = a.expanded; trials = a.trials }) e
            ∙ ap (λ (b : Bool). gone_on M k (progress b o) a.expanded a.trials) (sym e);
        within = J.within;
        few = omega (arith, J.few);
      }

  pub gone_further : a.broke ≡ false → {q : List ℕ} {n : ℕ} {p : List ℕ} {found : Bool} {head made : ℕ}
      → Explored M a.expanded k q₀ a.met p₀ q n p found head made → head ≤ n → made ≤ 33554432
      → GoneOn M k a q₀ p₀ (record { expanded = head; met = n; broke = found; trials = a.trials + made }) q p
  unfolding further
  gone_further e {q} {n} {p} {found} {head} {made} E h few =
      record {
        kept = E.kept;
        stand =
            stand-same E.what E.place (ap (λ (j : ℕ). a.trials + j) E.tried)
            ∙ ap (λ (b : Bool). gone_on M k (progress b (seen M q₀ a.met p₀)) a.expanded a.trials) (sym e);
        within = h;
        few = omega (arith, J.few, few);
      }
