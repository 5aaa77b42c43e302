-- The bytes of a map that is written from a list of bits: bit t of them is entry t of the list.
-- Assumes nothing.
use mathlib.Core.Path.{◌≡◌, refl, sym, ap, ◌∙◌, subst}
use mathlib.Core.Bool.{Bool, true, false, cond, true≢false}
use mathlib.Core.List.{List, [], ◌∷◌}
use mathlib.Core.Logic.{⊎_elim}
use Prim.Native.Nat.{ℕ, zero, suc, ◌+◌, ◌*◌, ◌/◌, ◌%◌, ◌^◌, ◌<◌, ◌≤◌}
use native.Mathlib.Omega.{arith}
use lib.ListN.{length, get_or, replicate, get_or-eq_default}
use Rattle.meaning.specs.Bits.{bit, first, number}
use Rattle.meaning.specs.Evidence.{in_map}
use Rattle.meaning.proofs.Number.{bit-number, number_lt, first-length, first-at}
use Rattle.sheets.specs.SheetTexts.{AreBytes, unused_clear}
use Rattle.sheets.proofs.UnusedBits.{unused_bits}
use Rattle.exploration.specs.working.Written.{bit_at, map_byte, map_from}
use Rattle.exploration.specs.working.Found.{any_set}
use Rattle.exploration.proofs.Order.{lt_or_ge}
use Rattle.exploration.proofs.Map.{map-length, byte-at}

sum_is : (a b c d e f g h : Bool)
    → cond a 1 0 + 2 * cond b 1 0 + 4 * cond c 1 0 + 8 * cond d 1 0 + 16 * cond e 1 0 + 32 * cond f 1 0 + 64 * cond g 1 0 + 128 * cond h 1 0
    ≡ number (a ∷ b ∷ c ∷ d ∷ e ∷ f ∷ g ∷ h ∷ [])
unfolding number
sum_is a b c d e f g h = omega arith

-- The eight entries that byte i holds.
eight : List Bool → ℕ → List Bool
eight b i = first 8 (λ j. get_or b (8 * i + j) false)

byte_is : (b : List Bool) (i : ℕ) → map_byte b i ≡ number (eight b i)
unfolding bit_at eight
byte_is b i =
    let e : 8 * i ≡ 8 * i + 0 = omega arith in
    sum_is _ _ _ _ _ _ _ _ ∙ ap (λ (x : ℕ). number (get_or b x false ∷ first 7 (λ j. get_or b (8 * i + suc j) false))) e

byte_lt : (b : List Bool) (i : ℕ) → map_byte b i < 256
unfolding eight
byte_lt b i =
    let h : number (eight b i) < 2 ^ length (eight b i) = number_lt (eight b i) in
    let l : length (eight b i) ≡ 8 = first-length 8 (λ j. get_or b (8 * i + j) false) in
    let k : number (eight b i) < 2 ^ 8 = subst (λ (n : ℕ). number (eight b i) < 2 ^ n) l h in
    subst (λ (n : ℕ). n < 256) (sym (byte_is b i)) k

byte_bit : (b : List Bool) (i j : ℕ) → j < 8 → bit (map_byte b i) j ≡ get_or b (8 * i + j) false
unfolding eight
byte_bit b i j h = ap (λ (n : ℕ). bit n j) (byte_is b i) ∙ bit-number (eight b i) j ∙ first-at 8 (λ x. get_or b (8 * i + x) false) false j h

module _ (b : List Bool) (n : ℕ) where
  pub map-bytes : AreBytes (map_from b 0 n)
  map-bytes i =
      ⊎_elim
      (λ (h : i < n). subst (λ (x : ℕ). x < 256) (sym (byte-at b n i h)) (byte_lt b i))
      (λ (h : n ≤ i).
      let e : get_or (map_from b 0 n) i 0 ≡ 0 = get_or-eq_default (map_from b 0 n) 0 {n = i} (omega (arith, map-length b 0 n)) in
      omega arith)
      (lt_or_ge i n)

  pub map-has : (t : ℕ) → t < 8 * n → in_map (map_from b 0 n) t ≡ get_or b t false
  unfolding in_map
  map-has t h =
      let l : t / 8 < n = omega arith in
      let k : t % 8 < 8 = omega arith in
      let e : 8 * (t / 8) + t % 8 ≡ t = omega arith in
      ap (λ (x : ℕ). bit x (t % 8)) (byte-at b n (t / 8) l) ∙ byte_bit b (t / 8) (t % 8) k ∙ ap (λ (x : ℕ). get_or b x false) e

  pub map-clear : 0 < n → unused_clear (length b) (get_or (map_from b 0 n) 0 0) ≡ true
  map-clear h =
      (unused_bits (length b) (get_or (map_from b 0 n) 0 0) (map-bytes 0)).1
      (λ j p q.
      let e : 8 * 0 + j ≡ j = omega arith in
      ap (λ (x : ℕ). bit x j) (byte-at b n 0 h) ∙ byte_bit b 0 j q ∙ ap (λ (x : ℕ). get_or b x false) e ∙ get_or-eq_default b false {n = j} p)

-- A list without an entry that is true makes the map without members.
none_byte : (b : List Bool) → ((t : ℕ) → get_or b t false ≡ false) → (i : ℕ) → map_byte b i ≡ 0
unfolding bit_at
none_byte b h i =
    rw (h (8 * i), h (8 * i + 1), h (8 * i + 2), h (8 * i + 3), h (8 * i + 4), h (8 * i + 5), h (8 * i + 6), h (8 * i + 7))

pub none_map : (b : List Bool) → ((t : ℕ) → get_or b t false ≡ false) → (i n : ℕ) → map_from b i n ≡ replicate n 0
unfolding map_from
none_map b h i zero = refl
none_map b h i (suc n) = λ t. none_byte b h i t ∷ none_map b h (i + 1) n t

-- An entry is true, or none is.
pub none_set : (b : List Bool) → any_set b ≡ false → (t : ℕ) → get_or b t false ≡ false
unfolding any_set
none_set [] e t = refl
none_set (true ∷ b) e t = cc
none_set (false ∷ b) e zero = refl
none_set (false ∷ b) e (suc t) = none_set b e t

pub one_set : (b : List Bool) → any_set b ≡ true → (t : ℕ) × (t < length b) × (get_or b t false ≡ true)
unfolding any_set
one_set [] e = absurd (true≢false (sym e))
one_set (true ∷ b) e = (0, omega arith, refl)
one_set (false ∷ b) e = let (t, l, h) = one_set b e in (suc t, omega arith, h)
