-- The number of an answer of the test tells the answer, and fits.
-- Assumes nothing.
use mathlib.Core.Path.{◌≡◌, refl}
use mathlib.Core.Logic.{◌⊎◌, inl, inr}
use mathlib.Core.Bool.{false}
use Prim.Native.Nat.{ℕ, ◌%◌, ◌<◌, ◌≤◌}
use native.Mathlib.Omega.{arith}
use lib.Dec.{eqb}
use borrow.Author.Tests.{ne_eqb}
use Rattle.notation.specs.Bytes.{bytes}
use Rattle.refusals.specs.Reasons.{number_of}
use Rattle.conditions.specs.declared.outcome.Outcome.TheVariants as O
use Rattle.conditions.specs.declared.outcome.Declined.{Declined}
use Rattle.conditions.specs.declared.outcome.Declined.TheVariants as D
use Rattle.conditions.specs.Outcomes.{returned, Tested, wording_of, wording_of_declined}
use Rattle.std.specs.Prelude.{Ok, Err}
use Rattle.acceptance.specs.Promises.{Bounded}
use Rattle.packing.specs.Packed.{packed}
use Rattle.packing.specs.Outcomes.{test_number, wording_for}
use Rattle.packing.proofs.Packed.{low-back, above_back}

-- A number below all letters is that of a refusal.
pub refusal-told : (n p : ℕ) → n < 65 → wording_for (packed n p) ≡ returned n p
refusal-told n p h =
    rw (
      low-back n p (omega arith),
      above_back n p (omega arith),
      ne_eqb n 115 (omega arith),
      ne_eqb n 118 (omega arith),
      ne_eqb n 116 (omega arith),
      ne_eqb n 65 (omega arith),
      ne_eqb n 66 (omega arith),
      ne_eqb n 67 (omega arith),
      ne_eqb n 68 (omega arith),
      ne_eqb n 69 (omega arith),
      ne_eqb n 70 (omega arith),
    )

pub outcome_told : (t : Tested) → Bounded (wording_of t) → wording_for (test_number (wording_of t)) ≡ wording_of t
unfolding wording_of test_number bytes
outcome_told (Ok O.SafeHolds) b = refl
outcome_told (Ok O.Void) b = refl
outcome_told (Ok O.TraceHolds) b = refl
outcome_told (Ok O.FailsA) b = refl
outcome_told (Ok O.FailsB) b = refl
outcome_told (Ok O.FailsC) b = refl
outcome_told (Ok O.FailsD) b = refl
outcome_told (Ok O.FailsE) b = refl
outcome_told (Ok O.FailsF) b = refl
outcome_told (Err r) b = let h = b.1 in refusal-told (number_of r.reason) r.place (omega arith)

-- The lowest byte of an answer's number is a refusal's number, a capital or one of the letters from s to v.
lowest : (t : Tested) → Bounded (wording_of t) → (test_number (wording_of t) % 256 ≤ 70) ⊎ ((115 ≤ test_number (wording_of t) % 256) × (test_number (wording_of t) % 256 ≤ 118))
unfolding wording_of test_number bytes
lowest (Ok O.SafeHolds) b = inr (omega arith, omega arith)
lowest (Ok O.Void) b = inr (omega arith, omega arith)
lowest (Ok O.TraceHolds) b = inr (omega arith, omega arith)
lowest (Ok O.FailsA) b = inl (omega arith)
lowest (Ok O.FailsB) b = inl (omega arith)
lowest (Ok O.FailsC) b = inl (omega arith)
lowest (Ok O.FailsD) b = inl (omega arith)
lowest (Ok O.FailsE) b = inl (omega arith)
lowest (Ok O.FailsF) b = inl (omega arith)
lowest (Err r) b = let h = b.1 in inl (omega (arith, low-back (number_of r.reason) r.place (omega arith)))

differs : (x l : ℕ) → (x ≤ 70) ⊎ ((115 ≤ x) × (x ≤ 118)) → ((70 < l) × (l < 115)) ⊎ (118 < l) → eqb x l ≡ false
differs x l (inl h) (inl k) = ne_eqb x l (omega (arith, h, k.0))
differs x l (inl h) (inr k) = ne_eqb x l (omega (arith, h, k))
differs x l (inr h) (inl k) = ne_eqb x l (omega (arith, h.0, k.1))
differs x l (inr h) (inr k) = ne_eqb x l (omega (arith, h.1, k))

-- So it is none of the other small letters, which then can stand for other answers.
pub other-letter : (t : Tested) → Bounded (wording_of t) → (l : ℕ) → ((70 < l) × (l < 115)) ⊎ (118 < l) → eqb (test_number (wording_of t) % 256) l ≡ false
other-letter t b l h = differs (test_number (wording_of t) % 256) l (lowest t b) h

-- So it is of what is told in place of another answer.
pub declined_told : (d : Declined) → Bounded (wording_of_declined d) → wording_for (test_number (wording_of_declined d)) ≡ wording_of_declined d
unfolding wording_of_declined
declined_told (D.Tested o) b = outcome_told (Ok o) b
declined_told (D.Refused r) b = outcome_told (Err r) b

pub declined-letter : (d : Declined) → Bounded (wording_of_declined d) → (l : ℕ) → ((70 < l) × (l < 115)) ⊎ (118 < l)
    → eqb (test_number (wording_of_declined d) % 256) l ≡ false
unfolding wording_of_declined
declined-letter (D.Tested o) b l h = other-letter (Ok o) b l h
declined-letter (D.Refused r) b l h = other-letter (Err r) b l h
