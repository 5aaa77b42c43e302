-- Bursts: the first of the most is what it should be and the only one, a stretch as long as the trace has all of it, and counts add up to the steps.
-- Assumes nothing.
use mathlib.Core.Path.{◌≡◌, refl, sym, ap, ◌∙◌, subst}
use mathlib.Core.Bool.{Bool, true, false, cond}
use mathlib.Core.List.{List, [], ◌∷◌}
use Prim.Native.Nat.{ℕ, zero, suc, ◌+◌, ◌-◌, ◌<◌, ◌≤◌}
use native.Mathlib.Omega.{arith}
use lib.Dec.{ltb, eqb-zero-suc, eqb-suc-zero, eqb-suc-suc}
use lib.ListN.{length}
use borrow.Author.Tests.{ltb-true, ltb-false}
use Rattle.notation.specs.Regular.{Every, sum_over}
use Rattle.meaning.specs.Bits.{first}
use Rattle.meaning.proofs.Number.{first-same}
use Rattle.windows.specs.Bursts.{Burst, occurs, occurs_from, first_most, burst, counts_of}
use Rattle.windows.specs.Promises.{IsBurst, BurstsTell, WholeTells, CountsAddUp}
use Rattle.windows.specs.working.Sliding.{is_one}
use Rattle.windows.proofs.Occurrences.{occurs_cons, from_le, from-whole}

-- The first of the most of the values at the places 1 to n + 1.
record Highest (f : ℕ → ℕ) (n : ℕ) (b : Burst) : Type 0 where
  begins : (1 ≤ b.place) × (b.place ≤ n + 1)
  reached : f b.place ≡ b.most
  no_more : (p : ℕ) → 1 ≤ p → p ≤ n + 1 → f p ≤ b.most
  fewer : (p : ℕ) → 1 ≤ p → p < b.place → f p < b.most

-- One more place: it is the first of the most where it has more than all before, and else changes nothing.
module _ (f : ℕ → ℕ) (n : ℕ) (b : Burst) (h : Highest f n b) where
  among : (m : ℕ) → b.most ≤ m → f (n + 2) ≤ m → (p : ℕ) → 1 ≤ p → p ≤ suc n + 1 → (t : Bool) → ltb p (n + 2) ≡ t → f p ≤ m
  among m l k p one last true e = let before = ltb-true p (n + 2) e in omega (arith, h.no_more p one (omega arith))
  among m l k p one last false e =
      let at : n + 2 ≡ p = omega (arith, ltb-false p (n + 2) e) in
      subst (λ (q : ℕ). f q ≤ m) at k

  one_more : (t : Bool) → ltb b.most (f (n + 2)) ≡ t → Highest f (suc n) (cond t (record { most = f (n + 2); place = n + 2 }) b)
  one_more true e =
      let more = ltb-true b.most (f (n + 2)) e in
      record {
        begins = (omega arith, omega arith);
        reached = refl;
        no_more = λ p one last. among (f (n + 2)) (omega arith) (omega arith) p one last (ltb p (n + 2)) refl;
        fewer = λ p one before. let l = h.no_more p one (omega arith) in omega arith;
      }
  one_more false e =
      let less = ltb-false b.most (f (n + 2)) e in
      record {
        begins = (h.begins.0, omega arith);
        reached = h.reached;
        no_more = λ p one last. among b.most (omega arith) less p one last (ltb p (n + 2)) refl;
        fewer = h.fewer;
      }

-- What is given as the first of the most is that.
highest : (f : ℕ → ℕ) (n : ℕ) → Highest f n (first_most f n)
unfolding first_most
highest f zero =
    record {
      begins = (omega arith, omega arith);
      reached = refl;
      no_more = λ p one last. let at : 1 ≡ p = omega arith in subst (λ (q : ℕ). f q ≤ f 1) at (omega arith);
      fewer = λ p one before. absurd (omega arith);
    }
highest f (suc n) = one_more f n (first_most f n) (highest f n) (ltb (first_most f n).most (f (n + 2))) refl

is-burst : (k w : ℕ) (xs : List ℕ) → IsBurst k w xs (burst k w xs).most (burst k w xs).place
unfolding burst
is-burst k w xs =
    let h = highest (occurs_from k w xs) (length xs - w) in
    record { begins = h.begins; reached = h.reached; no_more = h.no_more; fewer = h.fewer }

-- Of two bursts in the same steps neither has more, and neither is before the other.
module _ (k w : ℕ) (xs : List ℕ) (m p n q : ℕ) (a : IsBurst k w xs m p) (b : IsBurst k w xs n q) where
  most_le : m ≤ n
  most_le = omega (arith, a.reached, b.no_more p a.begins.0 a.begins.1)

  place_le : n ≤ m → q ≤ p
  place_le l = by_test (ltb p q) refl
    where
      by_test : (t : Bool) → ltb p q ≡ t → q ≤ p
      by_test true e = absurd (omega (arith, a.reached, b.fewer p a.begins.0 (ltb-true p q e), most_le))
      by_test false e = ltb-false p q e

pub bursts_tell : BurstsTell
bursts_tell k w xs =
    record {
      is = is-burst k w xs;
      only = λ most place b.
          let a = is-burst k w xs in
          let l = most_le k w xs most place (burst k w xs).most (burst k w xs).place b a in
          let l' = most_le k w xs (burst k w xs).most (burst k w xs).place most place a b in
          let g = place_le k w xs most place (burst k w xs).most (burst k w xs).place b a l' in
          let g' = place_le k w xs (burst k w xs).most (burst k w xs).place most place a b l in
          (omega arith, omega arith);
    }

-- The most is no more than there are steps, and its place is one where a stretch begins.
pub burst-most_le : (k w : ℕ) (xs : List ℕ) → (burst k w xs).most ≤ length xs
burst-most_le k w xs = omega (arith, (is-burst k w xs).reached, from_le k w xs (burst k w xs).place)

pub burst-place_le : (k w : ℕ) (xs : List ℕ) → (1 ≤ (burst k w xs).place) × ((burst k w xs).place ≤ length xs - w + 1)
burst-place_le k w xs = (is-burst k w xs).begins

pub whole_tells : WholeTells
whole_tells k w xs h =
    let at : (burst k w xs).place ≡ 1 = omega (arith, burst-place_le k w xs) in
    (sym (is-burst k w xs).reached ∙ ap (occurs_from k w xs) at ∙ from-whole k w xs h, at)

-- The first n values of a function, added up.
abbrev sum_first : ℕ → (ℕ → ℕ) → ℕ
sum_first n f = sum_over (λ (c : ℕ). c) (first n f)

sum_none : (n : ℕ) → sum_first n (λ k. 0) ≡ 0
unfolding sum_over
sum_none zero = refl
sum_none (suc n) = omega (arith, sum_none n)

sum_both : (n : ℕ) (f g : ℕ → ℕ) → sum_first n (λ k. f k + g k) ≡ sum_first n f + sum_first n g
unfolding sum_over
sum_both zero f g = refl
sum_both (suc n) f g = let e = sum_both n (λ k. f (suc k)) (λ k. g (suc k)) in omega arith

-- A sum over values of a function is the sum of what is given of them.
sum_through : (f : ℕ → ℕ) (n : ℕ) (g : ℕ → ℕ) → sum_over f (first n g) ≡ sum_first n (λ k. f (g k))
unfolding sum_over
sum_through f zero g = refl
sum_through f (suc n) g = ap (λ (s : ℕ). f (g 0) + s) (sum_through f n (λ k. g (suc k)))

-- A step counts for one of the commands.
sum_one : (n x : ℕ) → x < n → sum_first n (λ k. is_one k x) ≡ 1
unfolding sum_over is_one
sum_one zero x h = absurd (omega arith)
sum_one (suc n) zero h = simp eqb-zero-suc (omega (arith, sum_none n))
sum_one (suc n) (suc x) h = simp (eqb-suc-zero, eqb-suc-suc) (omega (arith, sum_one n x (omega arith)))

-- So the counts of n commands add up to the steps, where no step has another command.
sum-counts : (n : ℕ) (xs : List ℕ) → Every (λ x. x < n) xs → sum_first n (λ k. occurs k xs) ≡ length xs
unfolding occurs
sum-counts n [] h = sum_none n
sum-counts n (x ∷ xs) h =
    let e : sum_first n (λ k. occurs k (x ∷ xs)) ≡ sum_first n (λ k. is_one k x + occurs k xs) = ap (sum_over (λ (c : ℕ). c)) (first-same n (λ k. occurs k (x ∷ xs)) (λ k. is_one k x + occurs k xs) (λ k l. occurs_cons k x xs)) in
    let f = sum_both n (λ k. is_one k x) (λ k. occurs k xs) in
    omega (arith, e, f, sum_one n x h.0, sum-counts n xs h.1)

pub counts-add-up : CountsAddUp
counts-add-up n xs h = sum_through (λ k. occurs k xs) n (λ k. k) ∙ sum-counts n xs h

-- The same for the counts of the commands 0 to 15.
pub counts-sum : (xs : List ℕ) → Every (λ x. x < 16) xs → sum_over (λ c. c) (counts_of xs) ≡ length xs
unfolding counts_of
counts-sum xs h = sum-counts 16 xs h
