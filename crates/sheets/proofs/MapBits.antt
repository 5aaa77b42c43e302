-- The bits of a map: where they stand, and which of them no state uses.
-- Assumes nothing.
use mathlib.Core.Path.{◌≡◌, ap, ◌∙◌}
use mathlib.Core.Bool.{false}
use mathlib.Core.List.{List}
use Prim.Native.Nat.{ℕ, ◌+◌, ◌*◌, ◌/◌, ◌%◌, ◌^◌, ◌≤◌, ◌<◌}
use native.Mathlib.Omega.{arith}
use lib.ListN.{get_or, drop}
use lib.Seq.{get_or-take, get_or-drop}
use lib.Dec.{eqb}
use Rattle.meaning.specs.Bits.{bit}
use Rattle.meaning.specs.Evidence.{in_map}
use Rattle.sheets.specs.Sheets.{map_length}
use Rattle.sheets.specs.SheetTexts.{AreBytes, IsMap}
use Rattle.sheets.specs.working.SheetReading.{map_in}
use Rattle.sheets.proofs.UnusedBits.{unused_bits}

-- The bit that the code reads is that of the map.
pub bit_in_lem : (b : List ℕ) (p n s byte : ℕ) → s / 8 < n → byte ≡ get_or b (p + s / 8) 0 → eqb (byte / 2 ^ (s % 8) % 2) 1 ≡ in_map (map_in b p n) s
unfolding in_map map_in bit
bit_in_lem b p n s byte h e = rw (get_or-take n (drop p b) (s / 8) 0 h, get_or-drop p b (s / 8) 0, e)

-- Bit j of byte i is that of state 8 * i + j.
pub map-bit : (map : List ℕ) (i j : ℕ) → j < 8 → in_map map (8 * i + j) ≡ bit (get_or map i 0) j
unfolding in_map
map-bit map i j h =
    let e : (8 * i + j) / 8 ≡ i = omega arith in
    let f : (8 * i + j) % 8 ≡ j = omega arith in
    ap (λ (x : ℕ). bit (get_or map x 0) ((8 * i + j) % 8)) e ∙ ap (bit (get_or map i 0)) f

-- Only the first byte has bits that no state uses, and they are 0.
past : (states s : ℕ) → s < 8 * map_length states → states ≤ s → (s / 8 ≡ 0) × (states ≤ s % 8)
unfolding map_length
past states s h l =
    let e : s / 8 ≡ 0 = omega arith in
    (e, omega arith)

pub none_past : (states : ℕ) (map : List ℕ) → IsMap states map → AreBytes map → (s : ℕ) → states ≤ s → s < 8 * map_length states → in_map map s ≡ false
unfolding in_map
none_past states map M a s l h =
    let p = past states s h l in
    ap (λ (i : ℕ). bit (get_or map i 0) (s % 8)) p.0 ∙ (unused_bits states (get_or map 0 0) (a 0)).0 M.clear (s % 8) p.1 (omega arith)
