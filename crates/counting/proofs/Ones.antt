-- The members of a map are the one bits of its bytes.
-- Assumes nothing.
use mathlib.Core.Path.{◌≡◌, refl, sym, ap, ◌∙◌, subst}
use mathlib.Core.Bool.{cond}
use mathlib.Core.List.{List, [], ◌∷◌, ◌++◌}
use Prim.Native.Nat.{ℕ, zero, suc, ◌+◌, ◌-◌, ◌*◌, ◌/◌, ◌%◌, ◌^◌, ◌≤◌, ◌<◌}
use native.Mathlib.Omega.{arith}
use native.Mathlib.Nat.{div-one, div-eq_of_lt}
use native.Mathlib.Numerals.{add-one}
use lib.Dec.{eqb}
use lib.Pow.{shr-shr}
use lib.ListN.{length, get_or, take}
use lib.Seq.{take-suc, take-length, get_or-append-add}
use lib.Count.{ones, ones_step}
use Rattle.std.specs.List.{sum_by}
use Rattle.std.proofs.lemmas.List.Sums.{sum_by-cons}
use Rattle.notation.specs.Regular.{sum_over}
use Rattle.notation.proofs.Members.{sum-append}
use Rattle.meaning.specs.Bits.{bit}
use Rattle.meaning.proofs.Number.{low_bit}
use Rattle.meaning.specs.Evidence.{in_map, safe}
use Rattle.sheets.specs.Sheets.{System, little, record_bytes, header_bytes, map_bytes, sheet_bytes}
use Rattle.sheets.specs.SheetTexts.{AreBytes, IsMap}
use Rattle.sheets.proofs.MapBits.{map-bit, none_past}
use Rattle.sheets.proofs.SheetOpened.{eighths}
use Rattle.exploration.specs.Members.{below, member_count}
use Rattle.counting.specs.Counts.{ones_of}
use Rattle.counting.specs.Promises.{MembersAreOnes}
use Rattle.exploration.proofs.Members.{more}
use Rattle.counting.proofs.Below.{none_more}

-- The set bits of a number, from the lowest up.
digit : (n d : ℕ) → n / 2 ^ d % 2 ≡ cond (bit n d) 1 0
unfolding bit
digit n d =
    let q = n / 2 ^ d in
    let e : q % 2 ≡ cond (bit q 0) 1 0 = omega (arith, low_bit q) in
    e ∙ ap (λ k. cond (eqb (k % 2) 1) 1 0) (div-one q)

ones_below : (n d : ℕ) → ones n ≡ length (below d (bit n)) + ones (n / 2 ^ d)
unfolding below
ones_below n zero = let e : ones n ≡ ones (n / 1) = ap ones (sym (div-one n)) in omega (arith, e)
ones_below n (suc d) =
    let q = n / 2 ^ d in
    let e : d + 1 ≡ suc d = omega arith in
    let f : ones q ≡ cond (bit n d) 1 0 + ones (n / 2 ^ suc d) =
    ones_step q ∙ ap (λ r. r + ones (q / 2)) (digit n d) ∙ ap (λ k. cond (bit n d) 1 0 + ones k) (shr-shr n d 1 ∙ ap (λ k. n / 2 ^ k) e) in
    let g : length (below (suc d) (bit n)) ≡ length (below d (bit n)) + cond (bit n d) 1 0 = ap (λ k. length (below k (bit n))) (sym e) ∙ more (bit n) d in
    ones_below n d ∙ (let z : length (below d (bit n)) + ones q ≡ length (below (suc d) (bit n)) + ones (n / 2 ^ suc d) = omega (arith, f, g) in z)

-- Those of a byte are among its lowest eight.
byte_ones : (x : ℕ) → x < 256 → length (below 8 (bit x)) ≡ ones x
unfolding ones
byte_ones x h =
    let z : x / 2 ^ 8 ≡ 0 = div-eq_of_lt h in
    let e : length (below 8 (bit x)) + ones 0 ≡ length (below 8 (bit x)) = omega arith in
    sym (ones_below x 8 ∙ ap (λ k. length (below 8 (bit x)) + ones k) z ∙ e)

-- They are summed up byte by byte.
pub ones-summed : (l : List ℕ) → sum_by ones l ≡ ones_of l
unfolding sum_over
ones-summed [] = refl
ones-summed (x ∷ xs) = sum_by-cons ones x xs ∙ ap (λ k. ones x + k) (ones-summed xs)

ones-one : (x : ℕ) → ones_of (x ∷ []) ≡ ones x
unfolding sum_over
ones-one x = omega arith

-- One byte more.
ones-next : (l : List ℕ) (i : ℕ) → i < length l → ones_of (take (i + 1) l) ≡ ones_of (take i l) + ones (get_or l i 0)
ones-next l i h =
    ap (λ k. ones_of (take k l)) (add-one i) ∙ ap ones_of (take-suc l i 0 h) ∙ sum-append ones (take i l) (get_or l i 0 ∷ [])
    ∙ ap (λ k. ones_of (take i l) + k) (ones-one (get_or l i 0))

module _ (map : List ℕ) where
  part_byte : (i d : ℕ) → d ≤ 8 → member_count (8 * i + d) map ≡ member_count (8 * i) map + length (below d (bit (get_or map i 0)))
  unfolding below
  part_byte i zero h =
      let e : 8 * i + 0 ≡ 8 * i = omega arith in
      let f : member_count (8 * i) map + 0 ≡ member_count (8 * i) map = omega arith in
      ap (λ k. member_count k map) e ∙ sym f
  part_byte i (suc d) h =
      let b = get_or map i 0 in
      let e : 8 * i + suc d ≡ 8 * i + d + 1 = omega arith in
      let s : d + 1 ≡ suc d = omega arith in
      let f : member_count (8 * i + d + 1) map ≡ member_count (8 * i + d) map + cond (bit b d) 1 0 =
      more (in_map map) (8 * i + d) ∙ ap (λ t. member_count (8 * i + d) map + cond t 1 0) (map-bit map i d (omega arith)) in
      let g : length (below (suc d) (bit b)) ≡ length (below d (bit b)) + cond (bit b d) 1 0 = ap (λ k. length (below k (bit b))) (sym s) ∙ more (bit b) d in
      ap (λ k. member_count k map) e ∙ (let z : member_count (8 * i + d + 1) map ≡ member_count (8 * i) map + length (below (suc d) (bit b)) = omega (arith, f, g, part_byte i d (omega arith)) in z)

  whole-bytes : AreBytes map → (i : ℕ) → i ≤ length map → member_count (8 * i) map ≡ ones_of (take i map)
  unfolding below sum_over
  whole-bytes a zero h = refl
  whole-bytes a (suc i) h =
      let e : 8 * suc i ≡ 8 * i + 8 = omega arith in
      let s : i + 1 ≡ suc i = omega arith in
      let o : ones_of (take (suc i) map) ≡ ones_of (take i map) + ones (get_or map i 0) = ap (λ k. ones_of (take k map)) (sym s) ∙ ones-next map i (omega arith) in
      ap (λ k. member_count k map) e
      ∙ (let z : member_count (8 * i + 8) map ≡ ones_of (take (suc i) map) = omega (arith, part_byte i 8 (omega arith), byte_ones (get_or map i 0) (a i), whole-bytes a i (omega arith), o) in z)

-- The bytes have no members but states.
pub members-ones : (k : ℕ) (map : List ℕ) → IsMap (2 ^ k) map → AreBytes map → member_count (2 ^ k) map ≡ ones_of map
members-ones k map M a =
    let n = 8 * length map in
    let h : 2 ^ k ≤ n = omega (arith, eighths k, M.long) in
    let e : 2 ^ k + (n - 2 ^ k) ≡ n = omega arith in
    sym (none_more (in_map map) (2 ^ k) (n - 2 ^ k) (λ s l g. none_past (2 ^ k) map M a s l (omega (arith, M.long))))
    ∙ ap (λ j. member_count j map) e ∙ whole-bytes map a (length map) (omega arith) ∙ ap ones_of (take-length map)

-- The payload of a sheet that says a map.
payload_bytes : (M : System) (b map : List ℕ) → AreBytes b → b ≡ sheet_bytes M (safe map) → AreBytes map
unfolding sheet_bytes map_bytes record_bytes
payload_bytes M b map a e i =
    let head = little 4 (length map) ++ little 2 2 in
    let at = length (header_bytes M) + (length head + i) in
    let q : get_or b at 0 ≡ get_or map i 0 =
    ap (λ l. get_or l at 0) e ∙ get_or-append-add (header_bytes M) (head ++ map) (length head + i) 0 ∙ get_or-append-add head map i 0 in
    subst (λ k. k < 256) q (a at)

pub members_are_ones : MembersAreOnes
members_are_ones M b map a S = members-ones M.bits map S.fits (payload_bytes M b map a S.bytes)
