-- The first values of a function: one more of them, and another function of each.
-- Assumes nothing.
use mathlib.Core.Path.{◌≡◌, refl, ap}
use mathlib.Core.List.{List, [], ◌∷◌, ◌++◌, map}
use Prim.Native.Nat.{ℕ, zero, suc}
use Rattle.meaning.specs.Bits.{first}

pub first_snoc : {A : Type 0} (k : ℕ) (f : ℕ → A) → first (suc k) f ≡ first k f ++ f k ∷ []
first_snoc zero f = refl
first_snoc (suc k) f = ap (λ (l : List _). f 0 ∷ l) (first_snoc k (λ j. f (suc j)))

pub map_first : {A B : Type 0} (g : A → B) (k : ℕ) (f : ℕ → A) → map g (first k f) ≡ first k (λ i. g (f i))
map_first g zero f = refl
map_first g (suc k) f = ap (λ (l : List _). g (f 0) ∷ l) (map_first g k (λ j. f (suc j)))
