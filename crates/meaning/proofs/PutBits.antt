-- What `put` does to a number's bits.
-- Assumes nothing.
use Prim.Native.Nat.{ℕ, zero, suc, ◌+◌, ◌-◌, ◌*◌, ◌/◌, ◌%◌, ◌^◌, ◌<◌}
use mathlib.Core.Path.{◌≡◌, refl, sym, ap, ◌∙◌, subst}
use mathlib.Core.Bool.{cond}
use native.Mathlib.Nat.{mod-lt, add-mul, div-add-mod'}
use native.Mathlib.Omega.{arith}
use lib.Dec.{eqb}
use lib.Arith.{digits_lt}
use lib.Pow.{pow_pos, pow-add, shr_lt, shr-shr, high, low, field, mod-mod-pow}
use Rattle.meaning.specs.Bits.{bit}
use Rattle.meaning.specs.working.Digits.{digit, put}

-- The number above bit j is below 2 ^ d, where the whole is below 2 ^ (d + 1 + j).
above_lt : (s d j : ℕ) → s < 2 ^ (d + 1 + j) → s / 2 ^ j / 2 < 2 ^ d
above_lt s d j h = shr_lt d 1 (shr_lt (d + 1) j h)

pow_three : (d j : ℕ) → 2 ^ d * 2 * 2 ^ j ≡ 2 ^ (d + 1 + j)
pow_three d j = sym (pow-add 2 (d + 1) j ∙ ap (λ (x : ℕ). x * 2 ^ j) (pow-add 2 d 1))

module _ (s j v : ℕ) (hv : v < 2) where
  low_lt : s % 2 ^ j < 2 ^ j
  low_lt = mod-lt s (pow_pos j)

  pub put_lt' : (d : ℕ) → s < 2 ^ (d + 1 + j) → put s j v < 2 ^ (d + 1 + j)
  unfolding put
  put_lt' d h =
      subst (λ (x : ℕ). put s j v < x) (pow_three d j)
      (digits_lt (digits_lt (above_lt s d j h) hv) low_lt)

  pub put_lt : (k : ℕ) → j < k → s < 2 ^ k → put s j v < 2 ^ k
  put_lt k hj h =
      let e : k - 1 - j + 1 + j ≡ k = omega arith in
      subst (λ (x : ℕ). put s j v < 2 ^ x) e (put_lt' (k - 1 - j) (subst (λ (x : ℕ). s < 2 ^ x) (sym e) h))

  -- The bits from j up, and below j.
  pub put-high : put s j v / 2 ^ j ≡ s / 2 ^ j / 2 * 2 + v
  unfolding put
  put-high = high (s / 2 ^ j / 2 * 2 + v) j low_lt

  pub put_low : put s j v % 2 ^ j ≡ s % 2 ^ j
  unfolding put
  put_low = low (s / 2 ^ j / 2 * 2 + v) j low_lt

  pub put_same : digit (put s j v) j ≡ v
  put_same = rw put-high (omega arith)

-- A bit below j is one of the number's part below 2 ^ j.
bit-part : (n i a : ℕ) → digit n i ≡ n % 2 ^ (a + 1 + i) / 2 ^ i % 2
bit-part n i a = sym (ap (λ (x : ℕ). x % 2) (field n (a + 1) i) ∙ mod-mod-pow (n / 2 ^ i) a 1)

pub put-below : (s j v i : ℕ) → v < 2 → i < j → digit (put s j v) i ≡ digit s i
put-below s j v i hv h =
    let e : j - 1 - i + 1 + i ≡ j = omega arith in
    bit-part (put s j v) i (j - 1 - i)
    ∙ ap (λ (x : ℕ). put s j v % 2 ^ x / 2 ^ i % 2) e
    ∙ ap (λ (x : ℕ). x / 2 ^ i % 2) (put_low s j v hv)
    ∙ sym (bit-part s i (j - 1 - i) ∙ ap (λ (x : ℕ). s % 2 ^ x / 2 ^ i % 2) e)

-- A bit above j is one of the number above.
bit_above : (n j d : ℕ) → digit n (j + (1 + d)) ≡ n / 2 ^ j / 2 / 2 ^ d % 2
bit_above n j d = sym (ap (λ (x : ℕ). x % 2) (shr-shr (n / 2 ^ j) 1 d ∙ shr-shr n j (1 + d)))

pub put_above : (s j v i : ℕ) → v < 2 → j < i → digit (put s j v) i ≡ digit s i
put_above s j v i hv h =
    let e : j + (1 + (i - j - 1)) ≡ i = omega arith in
    let g : (s / 2 ^ j / 2 * 2 + v) / 2 ≡ s / 2 ^ j / 2 = omega arith in
    ap (digit (put s j v)) (sym e) ∙ bit_above (put s j v) j (i - j - 1)
    ∙ ap (λ (x : ℕ). x / 2 / 2 ^ (i - j - 1) % 2) (put-high s j v hv)
    ∙ ap (λ (x : ℕ). x / 2 ^ (i - j - 1) % 2) g
    ∙ sym (ap (digit s) (sym e) ∙ bit_above s j (i - j - 1))

-- What setting bit j adds to the number: v in place of the bit.
pub put-sum : (s j v : ℕ) → put s j v + digit s j * 2 ^ j ≡ s + v * 2 ^ j
unfolding put
put-sum s j v =
    let p = 2 ^ j in
    let h = s / p in
    let e : h / 2 * 2 + h % 2 ≡ h = omega arith in
    join (h / 2 * 2 * p) (v * p) (h % 2 * p) (s % p) s (put s j v)
    (ap (λ (x : ℕ). x + s % p) (add-mul (h / 2 * 2) v p))
    (sym (div-add-mod' s p) ∙ ap (λ (x : ℕ). x + s % p) (ap (λ (x : ℕ). x * p) (sym e) ∙ add-mul (h / 2 * 2) (h % 2) p))
  where
    join : (x new old r s t : ℕ) → t ≡ x + new + r → s ≡ x + old + r → t + old ≡ s + new
    join x new old r s t a b = omega arith

-- The truth of a bit, and its digit.
pub bit-digit : (s j : ℕ) → cond (bit s j) 1 0 ≡ digit s j
unfolding bit
bit-digit s j = go (digit s j) (omega arith)
  where
    go : (d : ℕ) → d < 2 → cond (eqb d 1) 1 0 ≡ d
    go zero h = refl
    go (suc zero) h = refl
    go (suc (suc d)) h = absurd (omega arith)
