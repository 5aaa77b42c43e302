-- How far portions go: no further than they should, up to the end of the queue or a break; and what is left behind the end.
-- Assumes nothing.
use Prim.Native.Nat.{ℕ, suc, zero, ◌+◌, ◌*◌, ◌<◌, ◌≤◌}
use mathlib.Core.Path.{◌≡◌, refl, sym, ap, ◌∙◌, subst}
use mathlib.Core.Bool.{Bool, true, false, cond}
use mathlib.Core.Logic.{◌⊎◌, inl, inr, ⊎_elim}
use mathlib.Core.List.{List}
use native.Mathlib.Omega.{arith}
use native.Mathlib.Nat.{mul-le-mul}
use lib.Dec.{ltb}
use lib.ListN.{length, get_or}
use lib.Seq.{length-take-le, get_or-take}
use borrow.Author.Tests.{ltb-false}
use Rattle.exploration.specs.Pause.{Pause}
use Rattle.exploration.specs.working.Transitions.{Transitions, Lawful, moves}
use Rattle.exploration.specs.working.Exploring.{Seen, Progress, broke, through, and_then, progress, try_moves, explore, place_after, place_from, take_in, unseen, search}
use Rattle.exploration.specs.working.Trials.{afterwards, trials_from, trials, trial_count}
use Rattle.exploration.specs.working.Tables.{seen, Ready}
use Rattle.exploration.specs.working.Pauses.{Stand, seen_in, broke_off, gone_on, further, opened, after, stand_in, Judged}
use Rattle.exploration.proofs.Laws.{marked_le, count_le, explore-end, trials-end, place_end}
use Rattle.exploration.proofs.Portions.{stand-same, further-further}
use Rattle.exploration.proofs.Invariants as I
use Rattle.exploration.proofs.Pauses.{grown, place-met, trials-place, fit_after}

-- A portion of no states, and one behind the end, change nothing.

pub further_none : (M : Transitions) (s : Stand) → further M 0 s ≡ s
unfolding further explore place_from trials_from
further_none M s = go s.went refl
  where
    go : (o : Progress) → s.went ≡ o → gone_on M 0 o s.expanded s.trials ≡ s
    go (broke x) e = stand-same (sym e) refl refl
    go (through x) e = stand-same (sym e) refl (omega arith)

pub further-ended : (M : Transitions) (k : ℕ) (s : Stand) → (broke_off s.went ≡ true) ⊎ (length (seen_in s.went).queue ≤ s.expanded) → further M k s ≡ s
unfolding further
further-ended M k s h = go s.went refl h
  where
    go : (o : Progress) → s.went ≡ o → (broke_off o ≡ true) ⊎ (length (seen_in o).queue ≤ s.expanded) → gone_on M k o s.expanded s.trials ≡ s
    go (broke x) e f = stand-same (sym e) refl refl
    go (through x) e (inl f) = let z : ◌≡◌ {A = ℕ} 0 1 = ap (λ (b : Bool). cond b 1 0) f in absurd (omega arith)
    go (through x) e (inr l) =
        stand-same (explore-end M k s.expanded x l ∙ sym e) (place_end M k s.expanded x l) (omega (arith, ap length (trials-end M k s.expanded x l)))

-- How far a portion goes.

-- Where it did not break, it went as far as it should, or to the end of the queue; and no further.
abbrev Far : ℕ → ℕ → ℕ → Progress → Type 0
Far n head place (broke y) = place ≤ head + n
Far n head place (through y) = (place ≡ head + n) ⊎ ((length y.queue ≤ place) × (place ≤ head + n))

far_next : (n head place : ℕ) (o : Progress) → Far n (head + 1) place o → Far (suc n) head place o
far_next n head place (broke y) h = omega arith
far_next n head place (through y) (inl h) = inl (omega arith)
far_next n head place (through y) (inr h) = inr (h.0, omega (arith, h.1))

module _ (M : Transitions) where
  far_turn : (n head : ℕ) (x : Seen) → ((y : Seen) → Far n (head + 1) (place_from M n (head + 1) y) (explore M n (head + 1) y)) → (b : Bool) → ltb head (length x.queue) ≡ b
      → Far (suc n) head (cond b (place_after (try_moves M (get_or x.queue head 0) (moves M) x) head (place_from M n (head + 1))) head)
      (cond b (and_then (try_moves M (get_or x.queue head 0) (moves M) x) (explore M n (head + 1))) (through x))
  far_turn n head x rec false e = inr (ltb-false head (length x.queue) e, omega arith)
  far_turn n head x rec true e = go (try_moves M (get_or x.queue head 0) (moves M) x)
    where
      go : (o : Progress) → Far (suc n) head (place_after o head (place_from M n (head + 1))) (and_then o (explore M n (head + 1)))
      go (broke y) = omega arith
      go (through y) = far_next n head (place_from M n (head + 1) y) (explore M n (head + 1) y) (rec y)

  far : (n head : ℕ) (x : Seen) → Far n head (place_from M n head x) (explore M n head x)
  unfolding explore place_from
  far zero head x = inl (omega arith)
  far (suc n) head x = far_turn n head x (λ y. far n (head + 1) y) (ltb head (length x.queue)) refl

  grown_turn : (n head : ℕ) (x : Seen) → ((y : Seen) → length y.queue ≤ length (seen_in (explore M n (head + 1) y)).queue) → (b : Bool)
      → length x.queue ≤ length (seen_in (cond b (and_then (try_moves M (get_or x.queue head 0) (moves M) x) (explore M n (head + 1))) (through x))).queue
  grown_turn n head x rec false = omega arith
  grown_turn n head x rec true = go (try_moves M (get_or x.queue head 0) (moves M) x) (grown M (moves M) (get_or x.queue head 0) x)
    where
      go : (o : Progress) → length x.queue ≤ length (seen_in o).queue → length x.queue ≤ length (seen_in (and_then o (explore M n (head + 1)))).queue
      go (broke y) h = h
      go (through y) h = omega (arith, h, rec y)

  grown-explore : (n head : ℕ) (x : Seen) → length x.queue ≤ length (seen_in (explore M n head x)).queue
  unfolding explore
  grown-explore zero head x = omega arith
  grown-explore (suc n) head x = grown_turn n head x (λ y. grown-explore n (head + 1) y) (ltb head (length x.queue))

  module _ (k : ℕ) (s : Stand) where
    -- A search that goes on has met no fewer states.
    pub grown-further : length (seen_in s.went).queue ≤ length (seen_in (further M k s).went).queue
    unfolding further
    grown-further = go s.went
      where
        go : (o : Progress) → length (seen_in o).queue ≤ length (seen_in (gone_on M k o s.expanded s.trials).went).queue
        go (broke x) = omega arith
        go (through x) = grown-explore k s.expanded x

    pub most-further : (further M k s).expanded ≤ s.expanded + k
    unfolding further
    most-further = go s.went
      where
        near : (o : Progress) (place : ℕ) → Far k s.expanded place o → place ≤ s.expanded + k
        near (broke y) place h = h
        near (through y) place (inl h) = omega arith
        near (through y) place (inr h) = h.1

        go : (o : Progress) → (gone_on M k o s.expanded s.trials).expanded ≤ s.expanded + k
        go (broke x) = omega arith
        go (through x) = near (explore M k s.expanded x) (place_from M k s.expanded x) (far k s.expanded x)

    pub least-further : ((broke_off (further M k s).went ≡ true) ⊎ (length (seen_in (further M k s).went).queue ≤ (further M k s).expanded)) ⊎ ((further M k s).expanded ≡ s.expanded + k)
    unfolding further
    least-further = go s.went
      where
        near : (o : Progress) (place : ℕ) → Far k s.expanded place o → ((broke_off o ≡ true) ⊎ (length (seen_in o).queue ≤ place)) ⊎ (place ≡ s.expanded + k)
        near (broke y) place h = inl (inl refl)
        near (through y) place (inl h) = inr h
        near (through y) place (inr h) = inl (inr h.0)

        go : (o : Progress)
            → ((broke_off (gone_on M k o s.expanded s.trials).went ≡ true) ⊎ (length (seen_in (gone_on M k o s.expanded s.trials).went).queue ≤ (gone_on M k o s.expanded s.trials).expanded))
            ⊎ ((gone_on M k o s.expanded s.trials).expanded ≡ s.expanded + k)
        go (broke x) = inl (inl refl)
        go (through x) = near (explore M k s.expanded x) (place_from M k s.expanded x) (far k s.expanded x)

-- As many states as there are end the search.
module _ (M : Transitions) (law : Lawful M) where
  pub met-few : (n : ℕ) → length (seen_in (after M n).went).queue ≤ M.size
  met-few n = let F = fit_after M law n in omega (arith, F.counted, marked_le (seen_in (after M n).went).parent, F.sized)

  all-ended : (broke_off (after M M.size).went ≡ true) ⊎ (length (seen_in (after M M.size).went).queue ≤ (after M M.size).expanded)
  all-ended =
      ⊎_elim (λ h. h) (λ (h : (after M M.size).expanded ≡ 0 + M.size). inr (omega (arith, h, met-few M.size))) (least-further M M.size (opened M))

  pub after-all : (n : ℕ) → after M (M.size + n) ≡ after M M.size
  after-all n = sym (further-further M M.size n (opened M)) ∙ further-ended M n (after M M.size) all-ended

  pub all-went : (after M M.size).went ≡ search M
  unfolding further search
  all-went = go (take_in M M.size 0 (unseen M))
    where
      go : (o : Progress) → (gone_on M M.size o 0 0).went ≡ and_then o (explore M M.size 0)
      go (broke x) = refl
      go (through x) = refl

  pub all-trials : (after M M.size).trials ≡ trial_count M
  unfolding further trials
  all-trials = go (take_in M M.size 0 (unseen M))
    where
      go : (o : Progress) → (gone_on M M.size o 0 0).trials ≡ length (afterwards o (trials_from M M.size 0))
      go (broke x) = refl
      go (through x) = omega arith

-- Tables that are ready are fit.
pub ready_fit : (M : Transitions) (q : List ℕ) (n : ℕ) (p : List ℕ) → Ready M q n p → I.Fit M (seen M q n p)
ready_fit M q n p R =
    let l = length-take-le n q (omega (arith, count_le M q n p R, R.queue-room)) in
    record {
      sized = length-take-le M.size p R.parent-room;
      counted = l ∙ R.counted;
      below = λ i h. let k : i < n = omega (arith, l, h) in subst (λ (u : ℕ). u < M.size) (sym (get_or-take n q i 0 k)) (R.below i k);
    }

-- What a portion from any judged position comes to.
pub record Reaching (M : Transitions) (s : Stand) : Type 0 where
  pub fit : I.Fit M (seen_in s.went)
  pub within : s.expanded ≤ length (seen_in s.went).queue
  pub met : length (seen_in s.went).queue ≤ M.size
  pub few : s.trials ≤ 67108864

pub reaching : (M : Transitions) → Lawful M → M.size ≤ 4096 → length (moves M) ≤ 4096 → (p : Pause) (first second : List ℕ) → Judged M p first second
    → (k : ℕ) → Reaching M (further M k (stand_in M p first second))
unfolding further
reaching M law size each p first second J k =
    let x = seen M first p.met second in
    let F = ready_fit M first p.met second J.ready in
    let l = length-take-le p.met first (omega (arith, count_le M first p.met second J.ready, J.ready.queue-room)) in
    go p.broke x F (omega (arith, l, J.within))
  where
    few : (x : Seen) → I.Fit M x → length x.queue ≤ M.size
    few x F = omega (arith, F.counted, marked_le x.parent, F.sized)

    go : (b : Bool) (x : Seen) → I.Fit M x → p.expanded ≤ length x.queue → Reaching M (gone_on M k (progress b x) p.expanded p.trials)
    go true x F h = record { fit = F; within = h; met = few x F; few = omega (arith, J.few) }
    go false x F h =
        let y = seen_in (explore M k p.expanded x) in
        let G = (I.has-explore M law (λ x. Unit {0}) (λ x s t F u h new src. tt) k p.expanded x (record { fit = F; has = tt })).fit in
        let w = place-met M k p.expanded x h in
        let a : place_from M k p.expanded x + 1 ≤ 4097 = omega (arith, w, few y G, size) in
        let b : (place_from M k p.expanded x + 1) * length (moves M) ≤ 4097 * 4096 = mul-le-mul a each in
        record { fit = G; within = w; met = few y G; few = omega (arith, J.few, trials-place M k p.expanded x, b) }
