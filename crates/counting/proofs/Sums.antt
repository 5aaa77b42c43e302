-- The counts of the settings that occur add up to the number of members.
-- Assumes nothing.
use mathlib.Core.Path.{◌≡◌, refl, sym, ap, ◌∙◌}
use mathlib.Core.Bool.{Bool, true, false, cond, ◌&&◌}
use mathlib.Core.List.{List, [], ◌∷◌}
use Prim.Native.Nat.{ℕ, zero, suc, ◌+◌, ◌%◌, ◌≤◌, ◌<◌}
use native.Mathlib.Omega.{arith}
use native.Mathlib.Nat.{mod-lt}
use lib.Dec.{eqb, ltb}
use borrow.Author.Tests.{lt-ltb, ltb-true, ltb-false, eqb-true, eqb-false}
use Rattle.notation.specs.Regular.{sum_over}
use Rattle.notation.proofs.Members.{sum-append}
use Rattle.meaning.specs.Evidence.{in_map}
use Rattle.exploration.specs.Members.{below, member_count}
use Rattle.counting.specs.Counts.{setting_of, count_at}
use Rattle.counting.specs.Promises.{CountsAddUp}
use Rattle.exploration.proofs.Members.{more}

-- The sum of the first n values.
unfoldable sum_up_to : (ℕ → ℕ) → ℕ → ℕ
sum_up_to f zero = 0
sum_up_to f (suc n) = sum_up_to f n + f n

-- Values that are 0 may be left out.
without_zeros : (f : ℕ → ℕ) (n : ℕ) → sum_over f (below n (λ j. ltb 0 (f j))) ≡ sum_up_to f n
unfolding below sum_over sum_up_to
without_zeros f zero = refl
without_zeros f (suc n) =
    let l = below n (λ j. ltb 0 (f j)) in
    let e = sum-append f l (cond (ltb 0 (f n)) (n ∷ []) []) in
    let g : sum_over f (cond (ltb 0 (f n)) (n ∷ []) []) ≡ f n = last (ltb 0 (f n)) refl in
    omega (arith, e, g, without_zeros f n)
  where
    last : (b : Bool) → ltb 0 (f n) ≡ b → sum_over f (cond b (n ∷ []) []) ≡ f n
    last true q = let z : f n + 0 ≡ f n = omega arith in z
    last false q = let z : f n ≤ 0 = ltb-false 0 (f n) q in omega (arith, z)

sum_alike : (f g : ℕ → ℕ) (n : ℕ) → ((j : ℕ) → f j ≡ g j) → sum_up_to f n ≡ sum_up_to g n
unfolding sum_up_to
sum_alike f g zero h = refl
sum_alike f g (suc n) h = let e = sum_alike f g n h in let d = h n in omega (arith, e, d)

sum_both : (f g : ℕ → ℕ) (n : ℕ) → sum_up_to (λ j. f j + g j) n ≡ sum_up_to f n + sum_up_to g n
unfolding sum_up_to
sum_both f g zero = refl
sum_both f g (suc n) = let e = sum_both f g n in omega (arith, e)

none_sum : (n : ℕ) → sum_up_to (λ j. 0) n ≡ 0
unfolding sum_up_to
none_sum zero = refl
none_sum (suc n) = let e = none_sum n in omega (arith, e)

-- One value is hit once.
hit_sum : (x n : ℕ) → sum_up_to (λ j. cond (eqb x j) 1 0) n ≡ cond (ltb x n) 1 0
unfolding sum_up_to
hit_sum x zero = last (ltb x 0) refl
  where
    last : (b : Bool) → ltb x 0 ≡ b → ◌≡◌ {A = ℕ} 0 (cond b 1 0)
    last true q = absurd (omega (arith, ltb-true x 0 q))
    last false q = refl
hit_sum x (suc n) =
    let e : cond (ltb x n) 1 0 + cond (eqb x n) 1 0 ≡ cond (ltb x (suc n)) 1 0 = go (ltb x n) (eqb x n) (ltb x (suc n)) refl refl refl in
    omega (arith, hit_sum x n, e)
  where
    go : (a b c : Bool) → ltb x n ≡ a → eqb x n ≡ b → ltb x (suc n) ≡ c → ◌≡◌ {A = ℕ} (cond a 1 0 + cond b 1 0) (cond c 1 0)
    go true true c p q r = absurd (omega (arith, ltb-true x n p, eqb-true x n q))
    go true false true p q r = refl
    go true false false p q r = absurd (omega (arith, ltb-true x n p, ltb-false x (suc n) r))
    go false true true p q r = refl
    go false true false p q r = absurd (omega (arith, eqb-true x n q, ltb-false x (suc n) r))
    go false false true p q r = absurd (eqb-false x n q (let z : x ≡ n = omega (arith, ltb-false x n p, ltb-true x (suc n) r) in z))
    go false false false p q r = refl

module _ (settings : ℕ) (pos : 0 < settings) (bytes : List ℕ) where
  -- A member is counted at its own setting and at no other.
  own : (b : Bool) (n : ℕ) → sum_up_to (λ j. cond (b && eqb (setting_of settings n) j) 1 0) settings ≡ cond b 1 0
  own true n = hit_sum (n % settings) settings ∙ ap (λ t. cond t 1 0) (lt-ltb (n % settings) settings (mod-lt n pos))
  own false n = none_sum settings

  by_settings : (states : ℕ) → sum_up_to (count_at states settings bytes) settings ≡ member_count states bytes
  unfolding below
  by_settings zero = none_sum settings
  by_settings (suc n) =
      let e : n + 1 ≡ suc n = omega arith in
      sum_alike (count_at (suc n) settings bytes) (λ j. count_at n settings bytes j + cond (in_map bytes n && eqb (setting_of settings n) j) 1 0) settings
      (λ j. ap (λ k. count_at k settings bytes j) (sym e) ∙ more (λ s. in_map bytes s && eqb (setting_of settings s) j) n)
      ∙ sum_both (count_at n settings bytes) (λ j. cond (in_map bytes n && eqb (setting_of settings n) j) 1 0) settings
      ∙ ap (λ k. k + sum_up_to (λ j. cond (in_map bytes n && eqb (setting_of settings n) j) 1 0) settings) (by_settings n)
      ∙ ap (λ k. member_count n bytes + k) (own (in_map bytes n) n)
      ∙ sym (more (in_map bytes) n) ∙ ap (λ k. member_count k bytes) e

pub counts-add-up : CountsAddUp
counts-add-up states settings bytes pos = without_zeros (count_at states settings bytes) settings ∙ by_settings settings pos bytes states
