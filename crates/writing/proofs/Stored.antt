-- Parts of a buffer written one behind the other, and the bytes of a number that are stored there.
-- Assumes nothing.
use Prim.Native.Nat.{ℕ, suc, ◌+◌, ◌/◌, ◌%◌, ◌≤◌}
use mathlib.Core.Path.{◌≡◌, refl, sym, ap, ◌∙◌}
use mathlib.Core.List.{List, [], ◌∷◌, ◌++◌, append_assoc}
use native.Mathlib.Omega.{arith}
use lib.ListN.{length, set, take, drop}
use lib.Seq.{sets, sets-eq, length-sets}
use borrow.Rule.Slice.PartMut.{put_mid}
use Rattle.std.proofs.lemmas.Slice.{put_mid-paste}
use Rattle.std.proofs.lemmas.List.Edits.{paste_all}
use Rattle.sheets.specs.Sheets.{little}

sets-append : (l : List ℕ) (a : ℕ) (v w : List ℕ) → sets l a (v ++ w) ≡ sets (sets l a v) (a + length v) w
sets-append l a [] w = let e : a + 0 ≡ a = omega arith in sym (ap (λ k. sets l k w) e)
sets-append l a (x ∷ v) w =
    let e : suc a + length v ≡ a + suc (length v) = omega arith in
    sets-append (set l a x) (suc a) v w ∙ ap (λ k. sets (sets (set l a x) (suc a) v) k w) e

-- A part of k entries from a on, written whole.
pub part : (l : List ℕ) (a k : ℕ) (now v : List ℕ) → now ≡ v → length v ≡ k → a + k ≤ length l → put_mid a k l now ≡ sets l a v
part l a k now v s e h =
    put_mid-paste a k l now v k s refl (sym e) ∙ paste_all l a v k (sym e)
    ∙ sym (sets-eq v l a (omega arith) ∙ ap (λ n. take a l ++ v ++ drop (a + n) l) e ∙ append_assoc (take a l) v (drop (a + k) l))

-- The same, behind what stands from a up to it.
pub behind : (l m : List ℕ) (a b k : ℕ) (v now w : List ℕ) → m ≡ sets l a v → b ≡ a + length v → now ≡ w → length w ≡ k → b + k ≤ length l → put_mid b k m now ≡ sets l a (v ++ w)
behind l m a b k v now w s e t f h =
    let g : length m ≡ length l = ap length s ∙ length-sets l a v in
    part m b k now w t f (omega arith)
    ∙ ap (λ x. sets x b w) s ∙ ap (λ n. sets (sets l a v) n w) e ∙ sym (sets-append l a v w)

-- The four low bytes of a number.
pub four : (n : ℕ) → n % 256 ∷ n / 256 % 256 ∷ n / 65536 % 256 ∷ n / 16777216 % 256 ∷ [] ≡ little 4 n
unfolding little
four n =
    let e : n / 65536 ≡ n / 256 / 256 = omega arith in
    let f : n / 16777216 ≡ n / 256 / 256 / 256 = omega arith in
    rw (e, f)
