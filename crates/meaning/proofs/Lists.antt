-- What holds of every element of a list, and what holds of whichever of two is taken.
-- Assumes nothing.
use mathlib.Core.Bool.{Bool, true, false, cond}
use mathlib.Core.List.{List, [], ◌∷◌, ◌++◌}
use Prim.Native.Nat.{ℕ, zero, suc, ◌<◌}
use native.Mathlib.Nat.{not-suc-le-zero, le_of_suc-le-suc}
use lib.ListN.{length, get_or}
use Rattle.notation.specs.Regular.{Every}

module _ {A : Type 0} where
  pub every-at : (P : A → Type 0) (l : List A) (d : A) (k : ℕ) → Every P l → k < length l → P (get_or l k d)
  every-at P [] d k h lt = absurd (not-suc-le-zero lt)
  every-at P (x ∷ xs) d zero h lt = h.0
  every-at P (x ∷ xs) d (suc k) h lt = every-at P xs d k h.1 (le_of_suc-le-suc lt)

  pub left : (P : A → Type 0) (a b : List A) → Every P (a ++ b) → Every P a
  left P [] b h = tt
  left P (x ∷ a) b h = (h.0, left P a b h.1)

  pub right : (P : A → Type 0) (a b : List A) → Every P (a ++ b) → Every P b
  right P [] b h = h
  right P (x ∷ a) b h = right P a b h.1

  pub taken : (P : A → Type 0) (b : Bool) (x y : A) → P x → P y → P (cond b x y)
  taken P true x y h k = h
  taken P false x y h k = k
