-- The list of a model's expressions has all that stand in it, and no others.
-- Assumes nothing.
use mathlib.Core.Path.{refl, sym, subst}
use mathlib.Core.Logic.{inl, inr}
use mathlib.Core.List.{List, ◌++◌}
use Rattle.notation.specs.Model.{Expr, RowItem, skip_row, put_row, Item, skip, put, for, Command, Model, Place, outside, inside}
use Rattle.notation.specs.Regular.{Among}
use Rattle.notation.specs.Expressions.{in_row_item, in_item, in_command, expressions, StandsIn, of_start, of_start_each, of_keep, of_keep_each, of_test, of_assignment, of_condition, of_row_item}
use Rattle.notation.specs.Promises.{ExpressionsListed}
use Rattle.notation.proofs.Members.{among-all, among-some}

-- Somewhere in the model.
abbrev Stands : Model → Expr → Type 0
Stands m e = (p : Place) × StandsIn m p e

-- What stands in a command is in its list, and that is in the model's.
module _ (m : Model) where
  in_command_lem : (k : Command) (e : Expr) → Among k m.commands → Among e (in_command k) → Among e (expressions m)
  unfolding expressions
  in_command_lem k e h i = inr (inr (inr (inr (among-all in_command k e m.commands h i))))

  in_item_lem : (k : Command) (x : Item) (e : Expr) → Among k m.commands → Among x (k.do_items ++ k.else_items) → Among e (in_item x) → Among e (expressions m)
  unfolding in_command
  in_item_lem k x e h i j = in_command_lem k e h (inr (among-all in_item x e (k.do_items ++ k.else_items) i j))

  listed : {p : Place} {e : Expr} → StandsIn m p e → Among e (expressions m)
  unfolding expressions in_command in_item in_row_item
  listed of_start = inl refl
  listed of_start_each = inr (inl refl)
  listed of_keep = inr (inr (inl refl))
  listed of_keep_each = inr (inr (inr (inl refl)))
  listed (of_test k h) = in_command_lem k k.test h (inl refl)
  listed (of_assignment k j e h i) = in_item_lem k (put j e) e h i (inl refl)
  listed (of_condition k e ys ns h i) = in_item_lem k (for e ys ns) e h i (inl refl)
  listed (of_row_item k c ys ns j e h i l) = in_item_lem k (for c ys ns) e h i (inr (among-all in_row_item (put_row j e) e (ys ++ ns) l (inl refl)))

  -- What is in the list of a row item, of an item, of a command and of the model stands there.
  row-stands : (k : Command) (c : Expr) (ys ns : List RowItem) (x : RowItem) (e : Expr) → Among k m.commands → Among (for c ys ns) (k.do_items ++ k.else_items)
      → Among x (ys ++ ns) → Among e (in_row_item x) → Stands m e
  unfolding in_row_item
  row-stands k c ys ns skip_row e h i l a = absurd a
  row-stands k c ys ns (put_row j f) e h i l (inl q) = (inside, subst (StandsIn m inside) (sym q) (of_row_item k c ys ns j f h i l))
  row-stands k c ys ns (put_row j f) e h i l (inr a) = absurd a

  item-stands : (k : Command) (x : Item) (e : Expr) → Among k m.commands → Among x (k.do_items ++ k.else_items) → Among e (in_item x) → Stands m e
  unfolding in_item
  item-stands k skip e h i a = absurd a
  item-stands k (put j f) e h i (inl q) = (outside, subst (StandsIn m outside) (sym q) (of_assignment k j f h i))
  item-stands k (put j f) e h i (inr a) = absurd a
  item-stands k (for c ys ns) e h i (inl q) = (inside, subst (StandsIn m inside) (sym q) (of_condition k c ys ns h i))
  item-stands k (for c ys ns) e h i (inr a) =
      let s = among-some in_row_item e (ys ++ ns) a in
      row-stands k c ys ns s.0 e h i s.1 s.2

  command-stands : (k : Command) (e : Expr) → Among k m.commands → Among e (in_command k) → Stands m e
  unfolding in_command
  command-stands k e h (inl q) = (outside, subst (StandsIn m outside) (sym q) (of_test k h))
  command-stands k e h (inr a) =
      let s = among-some in_item e (k.do_items ++ k.else_items) a in
      item-stands k s.0 e h s.1 s.2

  stands : (e : Expr) → Among e (expressions m) → Stands m e
  unfolding expressions
  stands e (inl q) = (outside, subst (StandsIn m outside) (sym q) of_start)
  stands e (inr (inl q)) = (inside, subst (StandsIn m inside) (sym q) of_start_each)
  stands e (inr (inr (inl q))) = (outside, subst (StandsIn m outside) (sym q) of_keep)
  stands e (inr (inr (inr (inl q)))) = (inside, subst (StandsIn m inside) (sym q) of_keep_each)
  stands e (inr (inr (inr (inr a)))) =
      let s = among-some in_command e m.commands a in
      command-stands s.0 e s.1 s.2

pub expressions-listed : ExpressionsListed
expressions-listed m e = (stands m e, λ s. listed m s.1)
