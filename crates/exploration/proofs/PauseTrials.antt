-- How many trials were made up to a pause without a break: every move at each state expanded.
-- Assumes nothing.
use Prim.Native.Nat.{ℕ, suc, zero, ◌+◌, ◌*◌}
use mathlib.Core.Path.{◌≡◌, refl, ap, ◌∙◌}
use mathlib.Core.Bool.{Bool, true, false, cond}
use mathlib.Core.List.{[], ◌++◌}
use native.Mathlib.Omega.{arith}
use native.Mathlib.Nat.{suc-mul, zero-mul}
use native.Mathlib.Numerals.{add-one}
use lib.Dec.{ltb}
use lib.ListN.{length, get_or, length-append, length-map}
use Rattle.exploration.specs.working.Transitions.{Transitions, moves}
use Rattle.exploration.specs.working.Exploring.{Seen, Progress, broke, through, and_then, try_moves, begun, explore, place_after, place_from}
use Rattle.exploration.specs.working.Trials.{trial_of, afterwards, trials_with, trials_from}
use Rattle.exploration.specs.working.Pauses.{gone_on, further, after}
use Rattle.exploration.proofs.Trials.{not_both_lem, all-tried}

module _ (M : Transitions) (y : Seen) where
  -- From a place of the queue on: those of the states before it, and what is made then, are those of the states before the place where it ends.
  abbrev Tried : ℕ → ℕ → Seen → Type 0
  Tried n head x = explore M n head x ≡ through y → head * length (moves M) + length (trials_from M n head x) ≡ place_from M n head x * length (moves M)

  one-tried : (n head s : ℕ) (x : Seen) (o : Progress) → try_moves M s (moves M) x ≡ o → ((z : Seen) → Tried n (head + 1) z) → and_then o (explore M n (head + 1)) ≡ through y
      → head * length (moves M) + length (trials_with M s (moves M) x ++ afterwards o (trials_from M n (head + 1))) ≡ place_after o head (place_from M n (head + 1)) * length (moves M)
  one-tried n head s x (broke z) e rec f = not_both_lem z y f
  one-tried n head s x (through z) e rec f =
      let here : length (trials_with M s (moves M) x) ≡ length (moves M) = ap length (all-tried M s (moves M) x z e) ∙ length-map (moves M) (trial_of s) in
      let next : (head + 1) * length (moves M) ≡ head * length (moves M) + length (moves M) = ap (λ n. n * length (moves M)) (add-one head) ∙ suc-mul head (length (moves M)) in
      omega (arith, length-append (trials_with M s (moves M) x) (trials_from M n (head + 1) z), here, next, rec z f)

  tried-from : (n head : ℕ) (x : Seen) → Tried n head x
  unfolding explore place_from trials_from
  tried-from zero head x e = omega arith
  tried-from (suc n) head x e = go (λ z. tried-from n (head + 1) z) (ltb head (length x.queue)) e
    where
      s : ℕ
      s = get_or x.queue head 0

      go : ((z : Seen) → Tried n (head + 1) z) → (b : Bool) → cond b (and_then (try_moves M s (moves M) x) (explore M n (head + 1))) (through x) ≡ through y
          → head * length (moves M) + length (cond b (trials_with M s (moves M) x ++ afterwards (try_moves M s (moves M) x) (trials_from M n (head + 1))) [])
          ≡ cond b (place_after (try_moves M s (moves M) x) head (place_from M n (head + 1))) head * length (moves M)
      go rec true f = one-tried n head s x (try_moves M s (moves M) x) refl rec f
      go rec false f = omega arith

pub trials-after : (M : Transitions) (h : ℕ) (y : Seen) → (after M h).went ≡ through y → (after M h).trials ≡ (after M h).expanded * length (moves M)
unfolding further
trials-after M h y e = go (begun M) e
  where
    go : (o : Progress) → (gone_on M h o 0 0).went ≡ through y → (gone_on M h o 0 0).trials ≡ (gone_on M h o 0 0).expanded * length (moves M)
    go (broke x) f = not_both_lem x y f
    go (through x) f = omega (arith, zero-mul (length (moves M)), tried-from M y h 0 x f)
