-- A command's step keeps a state within its names' bits, so that its code, cut to those bits, does the one-row step.
-- Assumes nothing.
use Prim.Native.Nat.{ℕ, ◌+◌, ◌%◌, ◌^◌, ◌≤◌, ◌<◌}
use mathlib.Core.Path.{◌≡◌, ap, ◌∙◌}
use mathlib.Core.List.{List, [], ◌∷◌}
use mathlib.Core.Bool.{Bool, cond}
use native.Mathlib.Nat.{mod-eq_of_lt}
use native.Mathlib.Omega.{arith}
use Rattle.notation.specs.Model as M
use Rattle.notation.specs.Model.{RowItem, skip_row, put_row, Item, skip, for, Command, stars}
use Rattle.notation.specs.Layout.{command_code}
use Rattle.notation.specs.Regular.{Every, ScopedRow, ScopedItem, ScopedCommand, LowCommand}
use Rattle.meaning.specs.working.OnNumbers.{with_bit, eval_at, row_items_at, items_at, step_at}
use Rattle.evaluation.specs.working.Batches.{after_of}
use Rattle.meaning.proofs.PutBits.{put_lt}
use Rattle.meaning.proofs.Lists.{taken}
use Rattle.evaluation.proofs.Values.{num, num_lt, Below}
use Rattle.evaluation.proofs.Effects.{step_right}

module _ (a b w n : ℕ) (few : a + b ≤ n) where
  put-below : (s j : ℕ) (v : Bool) → j < n → s < 2 ^ n → with_bit s j v < 2 ^ n
  put-below s j v l h = put_lt s j (num v) (num_lt v) n l h

  rows-below : (xs : List RowItem) → Every (ScopedRow a b) xs → (s : ℕ) → s < 2 ^ n → row_items_at a w xs s < 2 ^ n
  unfolding row_items_at
  rows-below [] o s h = h
  rows-below (skip_row ∷ xs) o s h = rows-below xs o.1 s h
  rows-below (put_row j e ∷ xs) o s h =
      rows-below xs o.1 (with_bit s (a + j) (eval_at a w s e)) (put-below s (a + j) (eval_at a w s e) (let q = o.0.0 in omega arith) h)

  items-below : (xs : List Item) → Every (ScopedItem a b) xs → (s : ℕ) → s < 2 ^ n → items_at a w xs s < 2 ^ n
  unfolding items_at
  items-below [] o s h = h
  items-below (skip ∷ xs) o s h = items-below xs o.1 s h
  items-below (M.put j e ∷ xs) o s h =
      items-below xs o.1 (with_bit s j (eval_at a w s e)) (put-below s j (eval_at a w s e) (let q = o.0.0 in omega arith) h)
  items-below (for e ys ns ∷ xs) o s h =
      items-below xs o.1 (row_items_at a w (cond (eval_at a w s e) ys ns) s)
      (taken (λ zs. row_items_at a w zs s < 2 ^ n) (eval_at a w s e) ys ns (rows-below ys o.0.1 s h) (rows-below ns o.0.2 s h))

  pub step-below : (k : Command) → ScopedCommand a b k → (s : ℕ) → s < 2 ^ n → step_at a w k s < 2 ^ n
  unfolding step_at
  step-below k o s h =
      taken (λ xs. items_at a w xs s < 2 ^ n) (eval_at a w s k.test) k.do_items k.else_items
      (items-below k.do_items o.do_items s h) (items-below k.else_items o.else_items s h)

  -- The state after a command's code is the command's one-row step.
  pub after-right : (k : Command) (s : ℕ) → n ≤ 32 → s < 2 ^ n → ScopedCommand a b k → LowCommand k → Below (stars k)
      → after_of (command_code a k) s n w ≡ step_at a w k s
  unfolding after_of
  after-right k s m h o l z =
      ap (λ (x : ℕ). x % 2 ^ n) (step_right a b w (omega arith) k s o l z) ∙ mod-eq_of_lt (step-below k o s h)
