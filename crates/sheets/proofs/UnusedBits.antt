-- Unused bits: a byte below 2^states has no bit from `states` up, and the other way round.
-- Assumes nothing.
use Rattle.sheets.specs.Promises.{UnusedTell}
use mathlib.Core.Path.{◌≡◌, refl, sym, subst}
use mathlib.Core.Bool.{Bool, true, false, ◌||◌}
use Prim.Native.Nat.{ℕ, zero, suc, ◌+◌, ◌-◌, ◌*◌, ◌/◌, ◌%◌, ◌^◌, ◌<◌, ◌≤◌}
use native.Mathlib.Omega.{arith}
use native.Mathlib.Nat.{div-lt_iff_lt-mul, pow-suc, lt_of_lt_of_le, div-eq_of_lt}
use lib.Pow.{pow_pos, pow_mono}
use lib.Dec.{leb, ltb}
use borrow.Author.Tests.{eqb-false, lt-ltb, ltb-true, lt-leb, leb-false}
use Rattle.meaning.specs.Bits.{bit}
use Rattle.sheets.specs.SheetTexts.{unused_clear}

low_bits : (n k : ℕ) → n < 2 ^ k → (j : ℕ) → k ≤ j → bit n j ≡ false
unfolding bit
low_bits n k h j l =
    let z : n / 2 ^ j ≡ 0 = div-eq_of_lt (lt_of_lt_of_le h (pow_mono l)) in
    rw z

one_lower : (n j : ℕ) → n < 2 ^ suc j → bit n j ≡ false → n < 2 ^ j
unfolding bit
one_lower n j h e =
    let p : n < 2 * 2 ^ j = omega (arith, pow-suc 2 j) in
    let q : n / 2 ^ j < 2 = (div-lt_iff_lt-mul (pow_pos j)).1 p in
    let r : n / 2 ^ j % 2 ≡ 1 → ⊥ = eqb-false _ _ e in
    let s : n / 2 ^ j < 1 = omega arith in
    let t : n < 1 * 2 ^ j = (div-lt_iff_lt-mul (pow_pos j)).0 s in
    omega arith

down : (d n k : ℕ) → n < 2 ^ (d + k) → ((j : ℕ) → k ≤ j → j < d + k → bit n j ≡ false) → n < 2 ^ k
down zero n k h f = let e : 0 + k ≡ k = omega arith in subst (λ (x : ℕ). n < 2 ^ x) e h
down (suc d) n k h f =
    let e : suc d + k ≡ suc (d + k) = omega arith in
    down d n k (one_lower n (d + k) (subst (λ (x : ℕ). n < 2 ^ x) e h) (f (d + k) (omega arith) (omega arith))) (λ j a c. f j a (omega arith))

pub unused_bits : UnusedTell
unfolding unused_clear
unused_bits states byte h = (to, of (leb 8 states) refl)
  where
    to : unused_clear states byte ≡ true → (j : ℕ) → states ≤ j → j < 8 → bit byte j ≡ false
    to e j a c = low_bits byte states (ltb-true _ _ (subst (λ (t : Bool). t || ltb byte (2 ^ states) ≡ true) (lt-leb 8 states (omega arith)) e)) j a

    few : states < 8 → ((j : ℕ) → states ≤ j → j < 8 → bit byte j ≡ false) → byte < 2 ^ states
    few l f =
        let e : (8 - states) + states ≡ 8 = omega arith in
        down (8 - states) byte states (subst (λ (x : ℕ). byte < 2 ^ x) (sym e) h) (λ j a c. f j a (omega arith))

    of : (t : Bool) → leb 8 states ≡ t → ((j : ℕ) → states ≤ j → j < 8 → bit byte j ≡ false) → unused_clear states byte ≡ true
    of true e f = rw e
    of false e f = rw e (lt-ltb _ _ (few (leb-false _ _ e) f))
