-- The bits of a map put together to a byte, from the highest one down.
-- Assumes nothing.
use Prim.Native.Nat.{ℕ, suc, zero, ◌+◌, ◌-◌, ◌*◌, ◌^◌, ◌<◌, ◌≤◌}
use mathlib.Core.Path.{◌≡◌, refl, ◌∙◌}
use mathlib.Core.Bool.{Bool}
use mathlib.Core.List.{List}
use native.Mathlib.Omega.{arith}
use Rattle.std.proofs.Math.Nat.{pow-suc}
use Rattle.exploration.specs.working.Written.{bit_at, map_byte}

-- The number of k bits from bit s on, where the first is worth 1.
unfoldable pub bits_from : List Bool → ℕ → ℕ → ℕ
bits_from b s zero = 0
bits_from b s (suc k) = bit_at b s + 2 * bits_from b (s + 1) k

-- The bits of a byte from bit j on.
abbrev pub High : List Bool → ℕ → ℕ → ℕ → Type 0
High b i j byte = (byte ≡ bits_from b (8 * i + j) (8 - j)) × (byte < 2 ^ (8 - j))

module _ (b : List Bool) (i : ℕ) where
  pub no_bit : High b i 8 0
  unfolding bits_from
  no_bit = (refl, omega arith)

  pub one_bit : (j byte bit : ℕ) → 0 < j → j ≤ 8 → bit ≡ bit_at b (8 * i + (j - 1)) → bit ≤ 1 → High b i j byte → High b i (j - 1) (2 * byte + bit)
  unfolding bits_from
  one_bit j byte bit h k e l f =
      let n : 8 - (j - 1) ≡ suc (8 - j) = omega arith in
      let m : 8 * i + (j - 1) + 1 ≡ 8 * i + j = omega arith in
      rw (n, pow-suc 2 (8 - j), m, ← e, ← f.0) (omega arith, omega arith)

  pub all_bits : (j byte : ℕ) → j ≤ 0 → High b i j byte → byte ≡ map_byte b i
  unfolding bits_from
  all_bits zero byte h f =
      let s = 8 * i in
      let e0 : s + 0 ≡ s = omega arith in
      let e2 : s + 1 + 1 ≡ s + 2 = omega arith in
      let e3 : s + 2 + 1 ≡ s + 3 = omega arith in
      let e4 : s + 3 + 1 ≡ s + 4 = omega arith in
      let e5 : s + 4 + 1 ≡ s + 5 = omega arith in
      let e6 : s + 5 + 1 ≡ s + 6 = omega arith in
      let e7 : s + 6 + 1 ≡ s + 7 = omega arith in
      f.0 ∙ rw (e0, e2, e3, e4, e5, e6, e7) (omega arith)
  all_bits (suc j) byte h f = absurd (omega arith)
