-- The step of a table of one row on numbers, as a program computes it: a state is a number, and a name is a bit of it.
-- Assumes nothing.
use Rattle.std.specs.Prelude.{◌≡◌, Bool, not, ◌&&◌, ◌||◌, cond, List, [], ◌∷◌, ℕ, ◌+◌, ◌<◌, length}
use Rattle.notation.specs.Model.{Expr, lit, star, shared, row, neg, conj, disj, RowItem, skip_row, put_row, Item, skip, put, for, Command, Clause, Model}
use Rattle.notation.specs.Regular.{Regular}
use Rattle.meaning.specs.Bits.{bit}
use Rattle.meaning.specs.Meaning.{command_at}
use Rattle.meaning.specs.OneRow.{state_count, starts, breaks, next}
use Rattle.meaning.specs.working.Digits as D

-- s with b as its bit j.
abbrev pub with_bit : ℕ → ℕ → Bool → ℕ
with_bit s j b = D.put s j (cond b 1 0)

-- Here a is how many shared names there are, w the choice word and s the state.
module _ (a w : ℕ) where
  -- The value of an expression.
  unfoldable pub eval_at : ℕ → Expr → Bool
  eval_at s (lit b) = b
  eval_at s (star j) = bit w j
  eval_at s (shared j) = bit s j
  eval_at s (row j) = bit s (a + j)
  eval_at s (neg e) = not (eval_at s e)
  eval_at s (conj e f) = eval_at s e && eval_at s f
  eval_at s (disj e f) = eval_at s e || eval_at s f

  -- The state after row items.
  unfoldable pub row_items_at : List RowItem → ℕ → ℕ
  row_items_at [] s = s
  row_items_at (skip_row ∷ xs) s = row_items_at xs s
  row_items_at (put_row j e ∷ xs) s = row_items_at xs (with_bit s (a + j) (eval_at s e))

  -- The state after items.
  unfoldable pub items_at : List Item → ℕ → ℕ
  items_at [] s = s
  items_at (skip ∷ xs) s = items_at xs s
  items_at (put j e ∷ xs) s = items_at xs (with_bit s j (eval_at s e))
  items_at (for e ys ns ∷ xs) s = items_at xs (row_items_at (cond (eval_at s e) ys ns) s)

  -- The state after a command.
  unfoldable pub step_at : Command → ℕ → ℕ
  step_at k s = items_at (cond (eval_at s k.test) k.do_items k.else_items) s

  -- Whether both parts of a clause hold.
  unfoldable pub clause_at : Clause → ℕ → Bool
  clause_at c s = eval_at s c.whole && eval_at s c.each

-- For models that a text says, these are the computations on the numbers of one-row states. The word does not matter in a clause.
abbrev pub StepComputed : Type 0
StepComputed =
    (m : Model) → Regular m → (s k w : ℕ) → s < state_count m → k < length m.commands → next m s k w ≡ step_at m.shared_names w (command_at m k) s

abbrev pub StartsComputed : Type 0
StartsComputed = (m : Model) → Regular m → (s w : ℕ) → s < state_count m → starts m s ≡ clause_at m.shared_names w m.start s

abbrev pub BreaksComputed : Type 0
BreaksComputed = (m : Model) → Regular m → (s w : ℕ) → s < state_count m → breaks m s ≡ not (clause_at m.shared_names w m.keep s)

-- What is computed of a command is the number of a state again.
abbrev pub StepStays : Type 0
StepStays =
    (m : Model) → Regular m → (s k w : ℕ) → s < state_count m → k < length m.commands → step_at m.shared_names w (command_at m k) s < state_count m
