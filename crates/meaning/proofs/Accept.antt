-- The computed conditions are the conditions A to F.
-- Assumes nothing.
use mathlib.Core.Path.{◌≡◌, refl, sym, ap, ◌∙◌, subst}
use mathlib.Core.Logic.{◌↔◌, ◌⊎◌, inl, inr}
use mathlib.Core.Bool.{Bool, true, false, not, ◌&&◌, true≢false}
use mathlib.Core.List.{List, [], ◌∷◌}
use Prim.Native.Nat.{ℕ, zero, suc, ◌<◌}
use native.Mathlib.Nat.{not-suc-le-zero, le_of_suc-le-suc, eq-or-lt_of_le}
use native.Mathlib.Omega.{arith}
use lib.ListN.{length}
use borrow.Author.Tests.{eqb-true, eq-eqb}
use Rattle.notation.specs.Model.{Model, stars}
use Rattle.notation.specs.Regular.{Every}
use Rattle.meaning.specs.Meaning.{Breaks, CanStart, command_at}
use Rattle.meaning.specs.OneRow.{One, state_number, state_count, word_count, spread, starts, breaks, next, TraceStep, spread_step, last_of}
use Rattle.meaning.specs.Evidence.{in_map, ConditionA, ConditionB, ConditionC, ConditionE, ConditionF, StepFits, IsVoid}
use Rattle.meaning.specs.working.Conditions.{every, implies, test_void, test_a, test_b, words_stay, closed_at, test_c, test_e, AllTestsTell}
use Rattle.meaning.proofs.Number.{state_number_lt, state_number-spread, spread-state_number}
use Rattle.notation.proofs.Booleans.{and_split, and_join}
use Rattle.meaning.proofs.OneRow.{starts_tell, breaks_tell, next-tells, last-is}

pub below : (n : ℕ) (f : ℕ → Bool) → every n f ≡ true → (i : ℕ) → i < n → f i ≡ true
unfolding every
below zero f e i h = absurd (not-suc-le-zero h)
below (suc n) f e i h = go (below n f (and_split (every n f) (f n) e).0 i) (eq-or-lt_of_le (le_of_suc-le-suc h))
  where
    go : (i < n → f i ≡ true) → (i ≡ n) ⊎ (i < n) → f i ≡ true
    go lower (inl q) = rw q (and_split (every n f) (f n) e).1
    go lower (inr lt) = lower lt

pub all-below : (n : ℕ) (f : ℕ → Bool) → ((i : ℕ) → i < n → f i ≡ true) → every n f ≡ true
unfolding every
all-below zero f h = refl
all-below (suc n) f h = and_join (every n f) (f n) (all-below n f (λ i lt. h i (omega arith))) (h n (omega arith))

pub implied : (a b : Bool) → implies a b ≡ true → a ≡ true → b ≡ true
unfolding implies
implied true b e h = e
implied false b e h = cc

implying : (a b : Bool) → (a ≡ true → b ≡ true) → implies a b ≡ true
unfolding implies
implying true b h = h refl
implying false b h = refl

is-not : (a : Bool) → not a ≡ true → ¬ (a ≡ true)
is-not a e h = true≢false (let q : true ≡ false = rw h at (sym e) in q)

not_is : (a : Bool) → ¬ (a ≡ true) → not a ≡ true
not_is true h = absurd (h refl)
not_is false h = refl

-- Where not all are true, one is false.
one_below : (n : ℕ) (f : ℕ → Bool) → every n f ≡ false → (i : ℕ) × (i < n) × (f i ≡ false)
unfolding every
one_below zero f e = absurd (true≢false e)
one_below (suc n) f e = go (every n f) (f n) refl refl e (one_below n f)
  where
    go : (a b : Bool) → every n f ≡ a → f n ≡ b → a && b ≡ false → (every n f ≡ false → (i : ℕ) × (i < n) × (f i ≡ false))
        → (i : ℕ) × (i < suc n) × (f i ≡ false)
    go true true p q h lower = absurd (true≢false h)
    go true false p q h lower = (n, omega arith, q)
    go false b p q h lower = let (i, l, g) = lower p in (i, omega arith, g)

is_true : (a : Bool) → not a ≡ false → a ≡ true
is_true true e = refl
is_true false e = absurd (true≢false e)

module _ (m : Model) where
  pub tells-void : (test_void (state_count m) (starts m) ≡ true) ↔ IsVoid m
  unfolding test_void
  tells-void = (
    λ e q.
        let f = q.1.fits in
        let n = state_number q.0 in
        is-not (starts m n) (below (state_count m) _ e n (state_number_lt m q.0 f)) ((starts_tell m n).1 (rw (spread-state_number m q.0 f) q.1)),
    λ v. all-below _ _ λ s h. not_is (starts m s) λ g. v (spread m One s, (starts_tell m s).0 g),
  )

  pub can_start : test_void (state_count m) (starts m) ≡ false → CanStart m One
  unfolding test_void
  can_start e =
      let (s, l, g) = one_below (state_count m) (λ x. not (starts m x)) e in
      (spread m One s, (starts_tell m s).0 (is_true (starts m s) g))

  tells_A : (bytes : List ℕ) → (test_a (state_count m) (starts m) bytes ≡ true) ↔ ConditionA m bytes
  unfolding test_a
  tells_A bytes = (
    λ e s h g. implied (starts m s) (in_map bytes s) (below (state_count m) _ e s h) ((starts_tell m s).1 g),
    λ p. all-below _ _ λ s h. implying _ _ λ g. p s h ((starts_tell m s).0 g),
  )

  tells_B : (bytes : List ℕ) → (test_b (state_count m) (breaks m) bytes ≡ true) ↔ ConditionB m bytes
  unfolding test_b
  tells_B bytes = (
    λ e s h g b. is-not (breaks m s) (implied (in_map bytes s) (not (breaks m s)) (below (state_count m) _ e s h) g) ((breaks_tell m s).1 b),
    λ p. all-below _ _ λ s h. implying _ _ λ g. not_is (breaks m s) λ b. p s h g ((breaks_tell m s).0 b),
  )

  tells_C : (bytes : List ℕ) → (test_c (state_count m) (length m.commands) (λ k. length (stars (command_at m k))) (next m) bytes ≡ true) ↔ ConditionC m bytes
  unfolding test_c closed_at words_stay
  tells_C bytes = (
    λ e s k w hs hk hw g.
        below (word_count (command_at m k)) _
        (below (length m.commands) _ (implied (in_map bytes s) _ (below (state_count m) _ e s hs) g) k hk)
        w hw,
    λ p. all-below _ _ λ s h. implying _ _ λ g. all-below _ _ λ k hk. all-below _ _ λ w hw. p s k w h hk hw g,
  )

  steps-to : (s : ℕ) (xs : List TraceStep) → Every (StepFits m) xs → test_e (next m) s xs ≡ true → ConditionE m s xs
  unfolding test_e spread_step
  steps-to s [] f e = tt
  steps-to s (x ∷ xs) f e =
      let t = and_split _ _ e in
      (f.0.command, ap (spread m One) (eqb-true _ _ t.0) ∙ next-tells m s x.command x.word, steps-to x.after xs f.1 t.1)

  steps_of : (s : ℕ) (xs : List TraceStep) → Every (StepFits m) xs → ConditionE m s xs → test_e (next m) s xs ≡ true
  unfolding test_e spread_step next
  steps_of s [] f h = refl
  steps_of s (x ∷ xs) f h =
      and_join _ _ (eq-eqb _ _ (sym (state_number-spread m x.after f.0.after) ∙ ap state_number h.1)) (steps_of x.after xs f.1 h.2)

  tells_F : (s : ℕ) (xs : List TraceStep) → (breaks m (last_of s xs) ≡ true) ↔ ConditionF m s xs
  tells_F s xs = (
    λ e. subst (Breaks m) (sym (last-is m s xs)) ((breaks_tell m (last_of s xs)).0 e),
    λ b. (breaks_tell m (last_of s xs)).1 (subst (Breaks m) (last-is m s xs) b),
  )

pub all-tests_tell : AllTestsTell
all-tests_tell m =
    record {
      tells_void = tells-void m;
      tells_a = tells_A m;
      tells_b = tells_B m;
      tells_c = tells_C m;
      tells_d = starts_tell m;
      tells_e = λ s xs f. (steps-to m s xs f, steps_of m s xs f);
      tells_f = tells_F m;
    }
