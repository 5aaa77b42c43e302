-- The bytes of the map of the states met.
-- Assumes nothing.
use Prim.Native.Nat.{ℕ, suc, zero, ◌+◌, ◌<◌, ◌≤◌}
use mathlib.Core.Path.{◌≡◌, refl, sym, ap, ◌∙◌}
use mathlib.Core.Bool.{Bool, false, cond}
use mathlib.Core.List.{List, map}
use native.Mathlib.Omega.{arith}
use native.Mathlib.Nat.{not-suc-le-zero, le_of_suc-le-suc}
use lib.ListN.{length, get_or, take, length-take, length-map, get_or-map, get_or-eq_default}
use lib.Seq.{get_or-take}
use lib.Dec.{ltb}
use Rattle.std.proofs.lemmas.List.{ext_get_or}
use Rattle.exploration.specs.working.Written.{bit_at, map_byte, map_from}

-- The bit of a state: whether it has an entry, and 0 where it is none.
module _ (m : ℕ) (p : List ℕ) (s : ℕ) where
  pub bit_within : s < m → bit_at (map (ltb 0) (take m p)) s ≡ cond (ltb 0 (get_or p s 0)) 1 0
  unfolding bit_at
  bit_within h = ap (λ (b : Bool). cond b 1 0) (get_or-map (ltb 0) (take m p) s 0 ∙ ap (ltb 0) (get_or-take m p s 0 h))

  pub bit_past : m ≤ s → bit_at (map (ltb 0) (take m p)) s ≡ 0
  unfolding bit_at
  bit_past h =
      ap (λ (b : Bool). cond b 1 0) (get_or-eq_default (map (ltb 0) (take m p)) false {n = s} (omega (arith, length-map (take m p) (ltb 0), length-take m p)))

pub map-length : (b : List Bool) (i n : ℕ) → length (map_from b i n) ≡ n
unfolding map_from
map-length b i zero = refl
map-length b i (suc n) = ap suc (map-length b (i + 1) n)

map_at_lem : (b : List Bool) (k n i : ℕ) → i < n → get_or (map_from b k n) i 0 ≡ map_byte b (k + i)
unfolding map_from
map_at_lem b k zero i h = absurd (not-suc-le-zero h)
map_at_lem b k (suc n) zero h = let e : k ≡ k + 0 = omega arith in ap (map_byte b) e
map_at_lem b k (suc n) (suc i) h =
    let e : k + 1 + i ≡ k + suc i = omega arith in
    map_at_lem b (k + 1) n i (le_of_suc-le-suc h) ∙ ap (map_byte b) e

module _ (b : List Bool) (n : ℕ) where
  pub byte-at : (i : ℕ) → i < n → get_or (map_from b 0 n) i 0 ≡ map_byte b i
  byte-at i h = let e : 0 + i ≡ i = omega arith in map_at_lem b 0 n i h ∙ ap (map_byte b) e

  -- Bytes that each are the map's are the map.
  pub each-byte : (v : List ℕ) → length v ≡ n → ((i : ℕ) → i < n → get_or v i 0 ≡ map_byte b i) → v ≡ map_from b 0 n
  each-byte v e f =
      ext_get_or 0 v (map_from b 0 n) (e ∙ sym (map-length b 0 n))
      (λ i h. let k : i < n = omega arith in f i k ∙ sym (byte-at i k))
