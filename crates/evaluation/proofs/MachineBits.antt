-- The lowest bit of a word that the one-word machine makes, and a number with one bit made another.
-- Assumes nothing.
use Prim.Native.Nat.{ℕ, zero, suc, ◌+◌, ◌-◌, ◌*◌, ◌/◌, ◌%◌, ◌^◌, ◌<◌, ◌≤◌, min, max}
use mathlib.Core.Path.{◌≡◌, refl, sym, ap, ap₂, ◌∙◌}
use mathlib.Core.Logic.{◌⊎◌, inl, inr}
use native.Mathlib.Omega.{arith}
use native.Mathlib.Nat.{mod-eq_of_lt, one-mul, add-zero}
use native.Mathlib.Decide.{dec_lt}
use lib.Bits.{bit_and, bit_or, bit_xor, and_le_l, and_le_r, xor_step, xor_zero_r, differ}
use lib.Pow.{pow-lt, pow_pos}
use Rattle.std.specs.Int.{bit_not, w32}
use Rattle.std.proofs.lemmas.Nat.{or_lt}
use Rattle.std.proofs.lemmas.Nat.Bits.{bit_at_and, bit_at_or, bit_at_lowest, bit_at-zero, bit_at_clear_same, bit_at_clear_other, bit_at_cat_low, bit_at_cat_high, bit_at_above, same_from_bits_below}
use Rattle.meaning.specs.working.Digits.{digit, put}
use Rattle.meaning.proofs.PutBits.{put_lt, put_same, put-below, put_above}

pub and_lowest : (a b : ℕ) → bit_and a b % 2 ≡ (a % 2 + b % 2) / 2
and_lowest a b =
    sym (bit_at_lowest (bit_and a b)) ∙ bit_at_and a b 0 ∙ ap₂ min (bit_at_lowest a) (bit_at_lowest b) ∙ joined (a % 2) (b % 2) (omega arith) (omega arith)
  where
    joined : (x y : ℕ) → x < 2 → y < 2 → min x y ≡ (x + y) / 2
    joined x y h k = omega arith

pub or_lowest : (a b : ℕ) → bit_or a b % 2 ≡ (a % 2 + b % 2 + 1) / 2
or_lowest a b =
    sym (bit_at_lowest (bit_or a b)) ∙ bit_at_or a b 0 ∙ ap₂ max (bit_at_lowest a) (bit_at_lowest b) ∙ joined (a % 2) (b % 2) (omega arith) (omega arith)
  where
    joined : (x y : ℕ) → x < 2 → y < 2 → max x y ≡ (x + y + 1) / 2
    joined x y h k = omega arith

pub and_bit : (a b : ℕ) → b < 2 → bit_and a b ≡ (a % 2 + b % 2) / 2
and_bit a b h = sym (small (bit_and a b) b (and_le_r a b) h) ∙ and_lowest a b
  where
    small : (x b : ℕ) → x ≤ b → b < 2 → x % 2 ≡ x
    small x b h k = omega arith

pub xor_one : (a : ℕ) → bit_xor a 1 ≡ a / 2 * 2 + (1 - a % 2)
xor_one a = xor_step a 1 ∙ ap₂ (λ (x y : ℕ). x * 2 + y) (xor_zero_r (a / 2)) (flipped (a % 2) (omega arith))
  where
    flipped : (x : ℕ) → x < 2 → differ x 1 ≡ 1 - x
    flipped zero h = refl
    flipped (suc zero) h = refl
    flipped (suc (suc x)) h = absurd (omega arith)

-- Bit j cleared, and then v put there.
module _ (s j v : ℕ) (hs : s < 2 ^ 32) (hj : j < 32) (hv : v < 2) where
  abbrev mask : ℕ
  mask = 1 * 2 ^ j % 2 ^ 32

  abbrev moved : ℕ
  moved = v * 2 ^ j % 2 ^ 32

  exact : moved ≡ v * 2 ^ j
  exact = mod-eq_of_lt (below v hv)
    where
      below : (v : ℕ) → v < 2 → v * 2 ^ j < 2 ^ 32
      below zero h = omega arith
      below (suc zero) h = rw one-mul (pow-lt hj)
      below (suc (suc v)) h = absurd (omega arith)

  abbrev kept : ℕ
  kept = bit_and s (bit_not w32 mask)

  -- A bit of both.
  either : (i x y : ℕ) → digit kept i ≡ x → digit (v * 2 ^ j + 0) i ≡ y → digit (bit_or kept moved) i ≡ max x y
  either i x y p q = bit_at_or kept moved i ∙ ap₂ max p (ap (λ (n : ℕ). digit n i) (exact ∙ sym (add-zero (v * 2 ^ j))) ∙ q)

  max-none : (x : ℕ) → max x 0 ≡ x
  max-none x = omega arith

  none-max : (x : ℕ) → max 0 x ≡ x
  none-max x = omega arith

  same : (i : ℕ) → i < 32 → (i < j) ⊎ ((i ≡ j) ⊎ (j < i)) → digit (bit_or kept moved) i ≡ digit (put s j v) i
  same i h (inl b) =
      either i (digit s i) 0 (bit_at_clear_other w32 s j hj i h (λ e. omega arith)) (bit_at_cat_low v j 0 i b ∙ bit_at-zero i)
      ∙ max-none (digit s i) ∙ sym (put-below s j v i hv b)
  same i h (inr (inl e)) =
      ap (digit (bit_or kept moved)) e
      ∙ either j 0 v (bit_at_clear_same w32 s j hj) (bit_at_cat_high v j 0 j (pow_pos j) (omega arith) ∙ first j v hv)
      ∙ none-max v ∙ sym (put_same s j v hv) ∙ ap (digit (put s j v)) (sym e)
    where
      first : (j v : ℕ) → v < 2 → digit v (j - j) ≡ v
      first j v h = let z : j - j ≡ 0 = omega arith in rw z (bit_at_lowest v ∙ omega arith)
  same i h (inr (inr a)) =
      either i (digit s i) 0 (bit_at_clear_other w32 s j hj i h (λ e. omega arith)) (bit_at_cat_high v j 0 i (pow_pos j) (omega arith) ∙ bit_at_above v 1 (i - j) hv (omega arith))
      ∙ max-none (digit s i) ∙ sym (put_above s j v i hv a)

  order : (i : ℕ) → (i < j) ⊎ ((i ≡ j) ⊎ (j < i))
  order i = go (dec_lt i j) (dec_lt j i)
    where
      go : Dec (i < j) → Dec (j < i) → (i < j) ⊎ ((i ≡ j) ⊎ (j < i))
      go (yes a) b = inl a
      go (no a) (yes b) = inr (inr b)
      go (no a) (no b) = inr (inl (omega arith))

  pub put_bits : bit_or kept moved ≡ put s j v
  put_bits =
      same_from_bits_below 32 _ _ (or_lt 32 kept moved (let h = and_le_l s (bit_not w32 mask) in omega arith) (omega arith))
      (put_lt s j v hv 32 hj hs) (λ i h. same i h (order i))
