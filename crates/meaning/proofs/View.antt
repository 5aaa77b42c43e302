-- A table seen through a map of rows, row j of the view being row f j of the table: a step is seen as a step, and a run as a run.
-- Assumes nothing.
use mathlib.Core.Path.{◌≡◌, refl, ap, ◌∙◌}
use mathlib.Core.Logic.{inl, inr}
use mathlib.Core.Bool.{cond}
use mathlib.Core.List.{List, [], ◌∷◌, map}
use Rattle.notation.specs.Model.{Item, skip, put, for, Command, Model}
use Rattle.meaning.specs.Meaning.{State, Choice, Move, table_scope, eval, run_item, run_items, step, command_at, IsStart, Breaks, AreSteps, IsRun, last}

-- To look at one row alone and to copy one row into many are both views.
module _ {I J : Type 0} (f : J → I) where
  abbrev pub view : State I → State J
  view s = record { shared = s.shared; rows = λ j. s.rows (f j) }

  abbrev pub view_choice : Choice I → Choice J
  view_choice c = record { outer = c.outer; inner = λ j. c.inner (f j) }

  abbrev pub view_move : Move I → Move J
  view_move x = record { command = x.command; choice = view_choice x.choice; after = view x.after }

  view-item : (c : Choice I) (x : Item) (s : State I) → view (run_item c x s) ≡ run_item (view_choice c) x (view s)
  unfolding run_item
  view-item c skip s = refl
  view-item c (put j e) s = refl
  view-item c (for e ys ns) s = refl

  view-items : (c : Choice I) (xs : List Item) (s : State I) → view (run_items c xs s) ≡ run_items (view_choice c) xs (view s)
  unfolding run_items
  view-items c [] s = refl
  view-items c (x ∷ xs) s = view-items c xs (run_item c x s) ∙ ap (run_items (view_choice c) xs) (view-item c x s)

  pub view-step : (k : Command) (c : Choice I) (s : State I) → view (step k c s) ≡ step k (view_choice c) (view s)
  unfolding step
  view-step k c s = view-items c (cond (eval (table_scope c.outer s.shared) k.test) k.do_items k.else_items) s

  pub view-start : (m : Model) (s : State I) → IsStart m s → IsStart m (view s)
  view-start m s h =
      record {
        fits = record { shared_bits = h.fits.shared_bits; row_bits = λ j. h.fits.row_bits (f j) };
        whole = h.whole;
        each = λ j. h.each (f j);
      }

  pub view-steps : (m : Model) (s : State I) (xs : List (Move I)) → AreSteps m s xs → AreSteps m (view s) (map view_move xs)
  view-steps m s [] h = tt
  view-steps m s (x ∷ xs) h =
      (h.0, ap view h.1 ∙ view-step (command_at m x.command) x.choice s, view-steps m x.after xs h.2)

  pub view-run : (m : Model) (s : State I) (xs : List (Move I)) → IsRun m s xs → IsRun m (view s) (map view_move xs)
  view-run m s xs h = record { start = view-start m s h.start; steps = view-steps m s xs h.steps }

  pub view-last : (s : State I) (xs : List (Move I)) → last (view s) (map view_move xs) ≡ view (last s xs)
  view-last s [] = refl
  view-last s (x ∷ xs) = view-last x.after xs

-- A break is seen from the row in which it is: in every view all of whose rows are that row, if there is a row at all.
pub seen-from : {I : Type 0} (m : Model) (s : State I) → I → Breaks m s → (i : I) × ((J : Type 0) → J → Breaks m (view (λ (j : J). i) s))
seen-from m s o (inl h) = (o, λ J j. inl h)
seen-from m s o (inr h) = (h.0, λ J j. inr (j, h.1))
