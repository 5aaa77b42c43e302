-- What is computed on the numbers of one-row states is what the meaning says of the states that they spread.
-- Assumes nothing.
use mathlib.Core.Path.{◌≡◌, refl}
use mathlib.Core.Logic.{◌⊎◌, inl, inr}
use mathlib.Core.Bool.{Bool, true, false, not, ◌&&◌}
use mathlib.Core.List.{List, [], ◌∷◌, map}
use Prim.Native.Nat.{ℕ}
use Rattle.notation.specs.Model.{Model}
use Rattle.notation.proofs.Booleans.{and_split, and_join}
use Rattle.meaning.specs.Meaning.{step, command_at, Fits, last}
use Rattle.meaning.specs.OneRow.{One, the_row, spread, spread_word, starts, breaks, next, TraceStep, spread_step, last_of, StartsTell, BreaksTell, NextTells, NextStays}
use Rattle.meaning.proofs.Number.{first-length, state_number_lt, spread-state_number}
use Rattle.meaning.proofs.Fits.{step_fits_lem}

pub spread-fits : (m : Model) (I : Type 0) (s : ℕ) → Fits m (spread m I s)
unfolding spread
spread-fits m I s = record { shared_bits = first-length _ _; row_bits = λ i. first-length _ _ }

pub starts_tell : StartsTell
unfolding starts spread
starts_tell m s = (
  λ e. let q = and_split _ _ e in record { fits = spread-fits m One s; whole = q.0; each = λ i. q.1 },
  λ h. and_join _ _ h.whole (h.each the_row),
)

pub breaks_tell : BreaksTell
unfolding breaks spread
breaks_tell m s = (λ e. to _ _ e, λ h. of _ _ h)
  where
    to : (a b : Bool) → not (a && b) ≡ true → (a ≡ false) ⊎ ((i : One) × (b ≡ false))
    to true true e = inl (cc)
    to true false e = inr (the_row, refl)
    to false b e = inl refl

    of : (a b : Bool) → (a ≡ false) ⊎ ((i : One) × (b ≡ false)) → not (a && b) ≡ true
    of a b (inl q) = rw q
    of true b (inr q) = rw q.1
    of false b (inr q) = refl

after-fits : (m : Model) (s k w : ℕ) → Fits m (step (command_at m k) (spread_word One w) (spread m One s))
after-fits m s k w = step_fits_lem m (spread_word One w) (command_at m k) (spread m One s) (spread-fits m One s)

pub next-tells : NextTells
unfolding next
next-tells m s k w = spread-state_number m _ (after-fits m s k w)

pub next-stays : NextStays
unfolding next
next-stays m s k w = state_number_lt m _ (after-fits m s k w)

pub last-is : (m : Model) (s : ℕ) (xs : List TraceStep) → last (spread m One s) (map (spread_step m One) xs) ≡ spread m One (last_of s xs)
unfolding spread_step last_of
last-is m s [] = refl
last-is m s (x ∷ xs) = last-is m x.after xs
