-- How many numbers below a bound pass a test.
-- Assumes nothing.
use mathlib.Core.Path.{◌≡◌, refl, ap, ◌∙◌}
use mathlib.Core.Bool.{Bool, true, false, cond}
use mathlib.Core.List.{[], ◌∷◌, ◌++◌}
use Prim.Native.Nat.{ℕ, zero, suc, ◌+◌, ◌≤◌, ◌<◌}
use native.Mathlib.Omega.{arith}
use native.Mathlib.Numerals.{add-one}
use lib.ListN.{length, length-append}
use Rattle.exploration.specs.Members.{below}

one-length : (b : Bool) (n : ℕ) → length (cond b (n ∷ []) []) ≡ cond b 1 0
one-length true n = refl
one-length false n = refl

pub more : (test : ℕ → Bool) (n : ℕ) → length (below (n + 1) test) ≡ length (below n test) + cond (test n) 1 0
unfolding below
more test n =
    ap (λ k. length (below k test)) (add-one n) ∙ length-append (below n test) (cond (test n) (n ∷ []) [])
    ∙ ap (λ k. length (below n test) + k) (one-length (test n) n)

pub most : (test : ℕ → Bool) (n : ℕ) → length (below n test) ≤ n
unfolding below
most test zero = omega arith
most test (suc n) = go (test n) (most test n)
  where
    go : (b : Bool) → length (below n test) ≤ n → length (below n test ++ cond b (n ∷ []) []) ≤ suc n
    go true h = omega (arith, length-append (below n test) (n ∷ []))
    go false h = omega (arith, length-append (below n test) [])

-- Tests that agree below the bound.
pub alike : (f g : ℕ → Bool) (n : ℕ) → ((s : ℕ) → s < n → f s ≡ g s) → below n f ≡ below n g
unfolding below
alike f g zero h = refl
alike f g (suc n) h =
    ap (λ l. l ++ cond (f n) (n ∷ []) []) (alike f g n (λ s k. h s (omega arith))) ∙ ap (λ b. below n g ++ cond b (n ∷ []) []) (h n (omega arith))
