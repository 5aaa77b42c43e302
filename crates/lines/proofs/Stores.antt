-- Bytes stored one after another, from some place on.
-- Assumes nothing.
use mathlib.Core.Path.{◌≡◌, refl, sym, ap, ◌∙◌}
use mathlib.Core.List.{List, [], ◌∷◌, ◌++◌, append_assoc}
use Prim.Native.Nat.{ℕ, suc, ◌+◌, ◌-◌, ◌≤◌}
use native.Mathlib.Omega.{arith}
use borrow.Rule.Slice.PartMut.{put_mid}
use lib.ListN.{length, set, take, drop, length-append}
use lib.Seq.{sets, length-sets}
use Rattle.std.proofs.lemmas.Slice.{put_mid-paste}
use Rattle.std.proofs.lemmas.List.Edits.{paste_all, sets-eq}
use Rattle.lines.specs.Puts.{Puts}

-- A part of a buffer that is filled with bytes.
pub part_filled : (l v x : List ℕ) (at : ℕ) → at + length v ≤ length l → x ≡ v → put_mid at (at + length v - at) l x ≡ sets l at v
part_filled l v x at h e =
    let k : length v ≡ at + length v - at = omega arith in
    put_mid-paste at (at + length v - at) l x v (length v) e k refl
    ∙ paste_all l at v (length v) refl
    ∙ sym (append_assoc (take at l) v (drop (at + length v) l))
    ∙ sym (sets-eq v l at h)

-- Bytes and more bytes behind them.
pub sets-append : (l : List ℕ) (i : ℕ) (v w : List ℕ) → sets l i (v ++ w) ≡ sets (sets l i v) (i + length v) w
sets-append l i [] w = let e : i + 0 ≡ i = omega arith in sym (ap (λ k. sets l k w) e)
sets-append l i (x ∷ v) w =
    let e : suc i + length v ≡ i + suc (length v) = omega arith in
    sets-append (set l i x) (suc i) v w ∙ ap (λ k. sets (sets (set l i x) (suc i) v) k w) e

-- The buffer is as long as it was.
pub keeps : {l v x : List ℕ} {at r : ℕ} → Puts l at v x r → length x ≡ length l
keeps {l} {v} {x} {at} {r} P = ap length P.stored ∙ length-sets l at v

-- Nothing is put.
pub none : {l : List ℕ} {at : ℕ} → Puts l at [] l at
none {l} {at} = record { stored = refl; ends = omega arith }

-- More bytes behind those that were put.
pub behind : {l v w x y : List ℕ} {at r s : ℕ} → Puts l at v x r → Puts x r w y s → Puts l at (v ++ w) y s
behind {l} {v} {w} {x} {y} {at} {r} {s} P Q =
    record {
      stored =
          Q.stored ∙ ap (λ z. sets z r w) P.stored ∙ ap (λ k. sets (sets l at v) k w) P.ends ∙ sym (sets-append l at v w);
      ends = omega (arith, P.ends, Q.ends, length-append v w);
    }
