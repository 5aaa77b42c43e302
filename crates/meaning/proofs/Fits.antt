-- A step keeps the number of bits in a state, and so does a run.
-- Assumes nothing.
use mathlib.Core.Path.{◌≡◌, refl, ◌∙◌}
use mathlib.Core.Bool.{Bool}
use mathlib.Core.List.{List, [], ◌∷◌}
use Prim.Native.Nat.{ℕ}
use lib.ListN.{length, set, length-set}
use Rattle.notation.specs.Model.{RowItem, skip_row, put_row, Item, skip, put, for, Command, Model}
use Rattle.meaning.specs.Meaning.{State, Choice, Move, row_scope, eval, run_row, run_item, run_items, step, command_at, Fits, AreSteps, last}
use Rattle.meaning.specs.Rows.{RunsFit}

pub row-length : (c : ℕ → Bool) (g : List Bool) (xs : List RowItem) (r : List Bool) → length (run_row c g xs r) ≡ length r
unfolding run_row
row-length c g [] r = refl
row-length c g (skip_row ∷ xs) r = row-length c g xs r
row-length c g (put_row j e ∷ xs) r = row-length c g xs (set r j (eval (row_scope c g r) e)) ∙ length-set r j (eval (row_scope c g r) e)

module _ {I : Type 0} (m : Model) (c : Choice I) where
  item-fits : (x : Item) (s : State I) → Fits m s → Fits m (run_item c x s)
  unfolding run_item
  item-fits skip s h = h
  item-fits (put j e) s h = record { shared_bits = rw length-set h.shared_bits; row_bits = h.row_bits }
  item-fits (for e ys ns) s h = record { shared_bits = h.shared_bits; row_bits = λ i. row-length _ _ _ _ ∙ h.row_bits i }

  items_fit : (xs : List Item) (s : State I) → Fits m s → Fits m (run_items c xs s)
  unfolding run_items
  items_fit [] s h = h
  items_fit (x ∷ xs) s h = items_fit xs (run_item c x s) (item-fits x s h)

  pub step_fits_lem : (k : Command) (s : State I) → Fits m s → Fits m (step k c s)
  unfolding step
  step_fits_lem k s h = items_fit _ s h

steps_fit_lem : {I : Type 0} (m : Model) (s : State I) (xs : List (Move I)) → Fits m s → AreSteps m s xs → Fits m (last s xs)
steps_fit_lem m s [] h q = h
steps_fit_lem m s (x ∷ xs) h q = steps_fit_lem m x.after xs (rw q.1 (step_fits_lem m x.choice (command_at m x.command) s h)) q.2

pub runs_fit : RunsFit
runs_fit m n s xs r = steps_fit_lem m s xs r.start.fits r.steps
