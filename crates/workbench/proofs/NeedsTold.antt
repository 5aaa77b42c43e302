-- The number and the list that stand for a reservation tell it, and what the code puts there.
-- Assumes nothing.
use mathlib.Core.Path.{◌≡◌, refl}
use mathlib.Core.List.{List, [], ◌∷◌}
use Prim.Native.Nat.{ℕ, ◌≤◌}
use native.Mathlib.Omega.{arith}
use lib.ListN.{length, get_or}
use lib.Seq.{sets}
use borrow.Author.Tests.{ne_eqb, le-ltb}
use Rattle.notation.specs.Bytes.{bytes}
use Rattle.packing.proofs.Packed.{low-back, above_back}
use Rattle.reserving.specs.Answers.{Wording, reserved, returned}
use Rattle.reserving.specs.Promises.{Bounded, answer_for}
use Rattle.reserving.proofs.Reserved.{reservations_bounded}
use Rattle.workbench.specs.Needs.{told_of, answer_in, NeedsTell}

-- The three numbers at the front of a list with room for them.
front : (e b t : ℕ) (l : List ℕ) → 3 ≤ length l
    → (get_or (sets l 0 (e ∷ b ∷ t ∷ [])) 0 0 ≡ e) × (get_or (sets l 0 (e ∷ b ∷ t ∷ [])) 1 0 ≡ b) × (get_or (sets l 0 (e ∷ b ∷ t ∷ [])) 2 0 ≡ t)
front e b t [] h = absurd (omega arith)
front e b t (x ∷ []) h = absurd (omega arith)
front e b t (x ∷ y ∷ []) h = absurd (omega arith)
front e b t (x ∷ y ∷ z ∷ l) h = (refl, refl, refl)

tells : (w : Wording) (needs : List ℕ) → Bounded w → 3 ≤ length needs → answer_in (told_of w needs) ≡ w
unfolding told_of bytes
tells (reserved e b t) needs B h =
    let f = front e b t needs h in
    rw (le-ltb (length needs) 3 h, f.0, f.1, f.2)
tells (returned n p) needs B h = let k = B.1 in rw (low-back n p (omega arith), above_back n p (omega arith), ne_eqb n 114 (omega arith))

pub needs_tell : NeedsTell
needs_tell text needs h = tells (answer_for text) needs (reservations_bounded text) h
