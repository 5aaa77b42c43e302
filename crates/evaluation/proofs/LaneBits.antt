-- What the operations on cells do in one lane.
-- Assumes nothing.
use Prim.Native.Nat.{ℕ, zero, suc, ◌+◌, ◌-◌, ◌*◌, ◌/◌, ◌%◌, ◌^◌, ◌<◌, min}
use mathlib.Core.Path.{◌≡◌, refl, sym, ap, ◌∙◌}
use mathlib.Core.Bool.{true}
use native.Mathlib.Omega.{arith}
use native.Mathlib.Nat.{mod-eq_of_lt}
use lib.Dec.{eqb}
use lib.Bits.{and_mask, xor_add_and, bit_and, bit_xor}
use lib.Pow.{shr-shr}
use borrow.Author.Tests.{eqb-true, ne_eqb}
use Rattle.std.proofs.lemmas.Nat.Bits.{bit_at_and, bit_at_xor, bit_at_ones, bit_at-zero}
use Rattle.meaning.specs.working.Digits.{digit}
use Rattle.evaluation.specs.working.Cells.{ones, star_of}
use Rattle.meaning.specs.working.Conditions.{every}
use Rattle.meaning.proofs.Accept.{below}

-- Two words have the same lanes, found by computing.
pub same_lanes : (x : ℕ) (f : ℕ → ℕ) → every 64 (λ l. eqb (digit x l) (f l)) ≡ true → (l : ℕ) → l < 64 → digit x l ≡ f l
same_lanes x f h l b = eqb-true (digit x l) (f l) (below 64 (λ i. eqb (digit x i) (f i)) h l b)

-- ---- constants

pub lane_ones : (l : ℕ) → l < 64 → digit ones l ≡ 1
lane_ones l h = bit_at_ones 64 l h

-- What the code writes as `!a`.
pub not_lanes : (a : ℕ) → a < 2 ^ 64 → ones - a ≡ bit_xor a ones
not_lanes a h =
    let whole : bit_and a ones ≡ a = and_mask a 64 ∙ mod-eq_of_lt h in
    omega (arith, xor_add_and a ones)

pub lane_not : (a l : ℕ) → l < 64 → digit (bit_xor a ones) l ≡ 1 - digit a l
lane_not a l h = bit_at_xor a ones l ∙ ap (λ (x : ℕ). (digit a l + x) % 2) (lane_ones l h) ∙ flip (digit a l) (omega arith)
  where
    flip : (x : ℕ) → x < 2 → (x + 1) % 2 ≡ 1 - x
    flip x h = omega arith

pub lane_zero : (l : ℕ) → l < 64 → digit 0 l ≡ 0
lane_zero l h = bit_at-zero l

-- 0 or all ones.
pub lane_all : (b l : ℕ) → b < 2 → l < 64 → digit (b * ones) l ≡ b
lane_all zero l h k = lane_zero l k
lane_all (suc zero) l h k = lane_ones l k
lane_all (suc (suc b)) l h k = absurd (omega arith)

-- Old where the mask is off, new where it is on.
pub lane_store_on : (o v m l : ℕ) → digit m l ≡ 1 → digit (bit_xor o (bit_and (bit_xor o v) m)) l ≡ digit v l
lane_store_on o v m l h =
    rw (bit_at_xor o (bit_and (bit_xor o v) m) l, bit_at_and (bit_xor o v) m l, bit_at_xor o v l, h) (go (digit o l) (digit v l) (omega arith) (omega arith))
  where
    go : (x y : ℕ) → x < 2 → y < 2 → (x + min ((x + y) % 2) 1) % 2 ≡ y
    go x y p q = omega arith

pub lane_store_off : (o v m l : ℕ) → digit m l ≡ 0 → digit (bit_xor o (bit_and (bit_xor o v) m)) l ≡ digit o l
lane_store_off o v m l h =
    rw (bit_at_xor o (bit_and (bit_xor o v) m) l, bit_at_and (bit_xor o v) m l, bit_at_xor o v l, h) (go (digit o l) (digit v l) (omega arith) (omega arith))
  where
    go : (x y : ℕ) → x < 2 → y < 2 → (x + min ((x + y) % 2) 0) % 2 ≡ x
    go x y p q = omega arith

-- ---- stars: lane l of star j is bit j of 64 * b + l

-- A bit of the lane's own number.
pub bit-low : (b l j : ℕ) → l < 64 → j < 6 → digit (64 * b + l) j ≡ digit l j
bit-low b l zero h k = omega arith
bit-low b l (suc zero) h k = omega arith
bit-low b l (suc (suc zero)) h k = omega arith
bit-low b l (suc (suc (suc zero))) h k = omega arith
bit-low b l (suc (suc (suc (suc zero)))) h k = omega arith
bit-low b l (suc (suc (suc (suc (suc zero))))) h k = omega arith
bit-low b l (suc (suc (suc (suc (suc (suc j)))))) h k = absurd (omega arith)

-- A bit of the batch's number.
pub bit_high : (b l j : ℕ) → l < 64 → digit (64 * b + l) (6 + j) ≡ digit b j
bit_high b l j h = ap (λ (x : ℕ). x % 2) (sym (shr-shr (64 * b + l) 6 j) ∙ ap (λ (x : ℕ). x / 2 ^ j) (over b l h))
  where
    over : (b l : ℕ) → l < 64 → (64 * b + l) / 64 ≡ b
    over b l h = omega arith

pub lane_star : (j b l : ℕ) → l < 64 → digit (star_of j b) l ≡ digit (64 * b + l) j
unfolding star_of every
lane_star zero b l h = same_lanes 0xaaaa_aaaa_aaaa_aaaa (λ i. digit i 0) refl l h ∙ sym (bit-low b l 0 h (omega arith))
lane_star (suc zero) b l h = same_lanes 0xcccc_cccc_cccc_cccc (λ i. digit i 1) refl l h ∙ sym (bit-low b l 1 h (omega arith))
lane_star (suc (suc zero)) b l h = same_lanes 0xf0f0_f0f0_f0f0_f0f0 (λ i. digit i 2) refl l h ∙ sym (bit-low b l 2 h (omega arith))
lane_star (suc (suc (suc zero))) b l h = same_lanes 0xff00_ff00_ff00_ff00 (λ i. digit i 3) refl l h ∙ sym (bit-low b l 3 h (omega arith))
lane_star (suc (suc (suc (suc zero)))) b l h = same_lanes 0xffff_0000_ffff_0000 (λ i. digit i 4) refl l h ∙ sym (bit-low b l 4 h (omega arith))
lane_star (suc (suc (suc (suc (suc zero))))) b l h = same_lanes 0xffff_ffff_0000_0000 (λ i. digit i 5) refl l h ∙ sym (bit-low b l 5 h (omega arith))
lane_star (suc (suc (suc (suc (suc (suc j)))))) b l h =
    let n = suc (suc (suc (suc (suc (suc j))))) in
    let e : n - 6 ≡ j = omega arith in
    let s : 6 + j ≡ n = omega arith in
    rw (ne_eqb n 0 (λ q. omega arith), ne_eqb n 1 (λ q. omega arith), ne_eqb n 2 (λ q. omega arith), ne_eqb n 3 (λ q. omega arith), ne_eqb n 4 (λ q. omega arith), ne_eqb n 5 (λ q. omega arith))
    (lane_all (digit b (n - 6)) l (omega arith) h ∙ ap (digit b) e ∙ sym (bit_high b l j h) ∙ ap (digit (64 * b + l)) s)
