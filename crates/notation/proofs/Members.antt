-- The elements of lists, of lists that are joined, what holds of every one of them, and sums over them.
-- Assumes nothing.
use mathlib.Core.Path.{◌≡◌, refl, sym, subst}
use mathlib.Core.Logic.{◌⊎◌, inl, inr, ⊎_elim}
use mathlib.Core.Bool.{Bool, true, ◌&&◌}
use mathlib.Core.List.{List, [], ◌∷◌, ◌++◌, flat_map}
use Prim.Native.Nat.{ℕ, ◌+◌}
use native.Mathlib.Omega.{arith}
use Rattle.notation.specs.Regular.{Every, Among, sum_over}
use Rattle.notation.proofs.Booleans.{and_split}

-- The test holds of every element.
unfoldable pub all_pass : {A : Type 0} → (A → Bool) → List A → Bool
all_pass f [] = true
all_pass f (x ∷ xs) = f x && all_pass f xs

module _ {A : Type 0} where
  pub every-among : (P : A → Type 0) (x : A) (l : List A) → Every P l → Among x l → P x
  every-among P x [] h i = absurd i
  every-among P x (y ∷ ys) h (inl e) = subst P (sym e) h.0
  every-among P x (y ∷ ys) h (inr i) = every-among P x ys h.1 i

  pub joined : (P : A → Type 0) (a b : List A) → Every P a → Every P b → Every P (a ++ b)
  joined P [] b h k = k
  joined P (x ∷ a) b h k = (h.0, joined P a b h.1 k)

  pub weaken : (P Q : A → Type 0) → ((x : A) → P x → Q x) → (l : List A) → Every P l → Every Q l
  weaken P Q f [] h = tt
  weaken P Q f (x ∷ xs) h = (f x h.0, weaken P Q f xs h.1)

  -- What a test says of every element.
  pub every-test : (f : A → Bool) (l : List A) → all_pass f l ≡ true → Every (λ (x : A). f x ≡ true) l
  unfolding all_pass
  every-test f [] h = tt
  every-test f (x ∷ xs) h = let s = and_split (f x) (all_pass f xs) h in (s.0, every-test f xs s.1)

  pub among_left : (t : A) (xs ys : List A) → Among t xs → Among t (xs ++ ys)
  among_left t [] ys h = absurd h
  among_left t (x ∷ xs) ys (inl e) = inl e
  among_left t (x ∷ xs) ys (inr h) = inr (among_left t xs ys h)

  pub among-right : (t : A) (xs ys : List A) → Among t ys → Among t (xs ++ ys)
  among-right t [] ys h = h
  among-right t (x ∷ xs) ys h = inr (among-right t xs ys h)

  pub among_split : (t : A) (xs ys : List A) → Among t (xs ++ ys) → Among t xs ⊎ Among t ys
  among_split t [] ys h = inr h
  among_split t (x ∷ xs) ys (inl e) = inl (inl e)
  among_split t (x ∷ xs) ys (inr h) = ⊎_elim (λ a. inl (inr a)) (λ b. inr b) (among_split t xs ys h)

pub sum-append : {A : Type 0} (f : A → ℕ) (xs ys : List A) → sum_over f (xs ++ ys) ≡ sum_over f xs + sum_over f ys
unfolding sum_over
sum-append f [] ys = omega arith
sum-append f (x ∷ xs) ys = omega (arith, sum-append f xs ys)

-- What a function gives of an element is in what it gives of them all, and nothing else is.
module _ {A B : Type 0} (f : A → List B) where
  pub among-all : (x : A) (y : B) (xs : List A) → Among x xs → Among y (f x) → Among y (flat_map f xs)
  unfolding flat_map
  among-all x y [] h k = absurd h
  among-all x y (z ∷ zs) (inl e) k = among_left y (f z) (flat_map f zs) (subst (λ u. Among y (f u)) e k)
  among-all x y (z ∷ zs) (inr h) k = among-right y (f z) (flat_map f zs) (among-all x y zs h k)

  pub among-some : (y : B) (xs : List A) → Among y (flat_map f xs) → (x : A) × Among x xs × Among y (f x)
  unfolding flat_map
  among-some y [] h = absurd h
  among-some y (z ∷ zs) h =
      ⊎_elim
      (λ a. (z, inl refl, a))
      (λ b. let s = among-some y zs b in (s.0, inr s.1, s.2))
      (among_split y (f z) (flat_map f zs) h)
