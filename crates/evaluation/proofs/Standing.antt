-- What is known of an expression that stands in a model: its names are in range, its stars are low, and it is not deep.
-- Assumes nothing.
use mathlib.Core.List.{List, [], ◌∷◌, ◌++◌}
use Prim.Native.Nat.{ℕ, ◌≤◌}
use native.Mathlib.Omega.{arith}
use lib.ListN.{length}
use Rattle.notation.specs.Model as M
use Rattle.notation.specs.Model.{Expr, RowItem, skip_row, put_row, Item, skip, for, Command, Model, Place, outside, inside, stars_expr, stars_row, stars_items, stars}
use Rattle.notation.specs.Regular.{Every, Among, Scoped, ScopedRow, ScopedItem, ScopedCommand, Low, LowRow, LowItem, LowCommand, NumberedFrom, Regular}
use Rattle.notation.specs.Expressions.{StandsIn, of_start, of_start_each, of_keep, of_keep_each, of_test, of_assignment, of_condition, of_row_item}
use Rattle.notation.proofs.Members.{every-among, joined}
use Rattle.evaluation.proofs.Values.{Below, below_parts, numbered_below, starless_below}

-- The row names that are seen from a place: all inside, none outside.
abbrev pub seen : Model → Place → ℕ
seen m outside = 0
seen m inside = m.row_names

-- Its stars are counted from some place, which does not matter to their numbers.
pub record Known (m : Model) (p : Place) (e : Expr) : Type 0 where
  pub place : Place
  pub scoped : Scoped m.shared_names (seen m p) e
  pub below : Below (stars_expr place e)
  pub low : Low e

-- The stars of a command are those of its items, and so on.
abbrev BelowRow : RowItem → Type 0
BelowRow skip_row = Unit {0}
BelowRow (put_row j e) = Below (stars_expr inside e)

abbrev BelowItem : Item → Type 0
BelowItem skip = Unit {0}
BelowItem (M.put j e) = Below (stars_expr outside e)
BelowItem (for e ys ns) = Below (stars_expr inside e) × Every BelowRow ys × Every BelowRow ns

rows-below : (xs : List RowItem) → Below (stars_row xs) → Every BelowRow xs
unfolding stars_row
rows-below [] z = tt
rows-below (skip_row ∷ xs) z = (tt, rows-below xs z)
rows-below (put_row j e ∷ xs) z =
    let y = below_parts (stars_expr inside e) (stars_row xs) z in
    (y.0, rows-below xs y.1)

items-below : (xs : List Item) → Below (stars_items xs) → Every BelowItem xs
unfolding stars_items
items-below [] z = tt
items-below (skip ∷ xs) z = (tt, items-below xs z)
items-below (M.put j e ∷ xs) z =
    let y = below_parts (stars_expr outside e) (stars_items xs) z in
    (y.0, items-below xs y.1)
items-below (for e ys ns ∷ xs) z =
    let y = below_parts (stars_expr inside e ++ stars_row ys ++ stars_row ns) (stars_items xs) z in
    let x = below_parts (stars_expr inside e ++ stars_row ys) (stars_row ns) y.0 in
    let r = below_parts (stars_expr inside e) (stars_row ys) x.0 in
    ((r.0, rows-below ys r.1, rows-below ns x.1), items-below xs y.1)

-- What holds in both branches holds of what is in either.
either : {A : Type 0} (P : A → Type 0) (x : A) (xs ys : List A) → Among x (xs ++ ys) → Every P xs → Every P ys → P x
either P x xs ys i f s = every-among P x (xs ++ ys) (joined P xs ys f s) i

module _ (m : Model) (g : Regular m) where
  -- Of a command.
  record KnownCommand (k : Command) : Type 0 where
    scoped : ScopedCommand m.shared_names m.row_names k
    low : LowCommand k
    test : Below (stars_expr outside k.test)
    items : Every BelowItem (k.do_items ++ k.else_items)

  command_known : (k : Command) → Among k m.commands → KnownCommand k
  unfolding stars
  command_known k h =
      let z =
      numbered_below 0 (stars k) (every-among (λ c. NumberedFrom 0 (stars c)) k m.commands g.numbered h)
      (omega (arith, every-among (λ c. length (stars c) ≤ 8) k m.commands g.few_stars h)) in
      let y = below_parts (stars_expr outside k.test ++ stars_items k.do_items) (stars_items k.else_items) z in
      let x = below_parts (stars_expr outside k.test) (stars_items k.do_items) y.0 in
      record {
        scoped = every-among (ScopedCommand m.shared_names m.row_names) k m.commands g.scoped h;
        low = every-among LowCommand k m.commands g.low h;
        test = x.0;
        items = joined BelowItem k.do_items k.else_items (items-below k.do_items x.1) (items-below k.else_items y.1);
      }

  -- Of an item of a command.
  record KnownItem (x : Item) : Type 0 where
    scoped : ScopedItem m.shared_names m.row_names x
    low : LowItem x
    below : BelowItem x

  item_known : (k : Command) (x : Item) → Among k m.commands → Among x (k.do_items ++ k.else_items) → KnownItem x
  item_known k x h i =
      let c = command_known k h in
      record {
        scoped = either (ScopedItem m.shared_names m.row_names) x k.do_items k.else_items i c.scoped.do_items c.scoped.else_items;
        low = either LowItem x k.do_items k.else_items i c.low.do_items c.low.else_items;
        below = every-among BelowItem x (k.do_items ++ k.else_items) c.items i;
      }

  -- Of an expression.
  pub known : {p : Place} {e : Expr} → StandsIn m p e → Known m p e
  known of_start = record { place = outside; scoped = g.start.whole; below = starless_below m.start.whole g.start_whole; low = g.low_start.0 }
  known of_start_each = record { place = outside; scoped = g.start.each; below = starless_below m.start.each g.start_each; low = g.low_start.1 }
  known of_keep = record { place = outside; scoped = g.keep.whole; below = starless_below m.keep.whole g.keep_whole; low = g.low_keep.0 }
  known of_keep_each = record { place = outside; scoped = g.keep.each; below = starless_below m.keep.each g.keep_each; low = g.low_keep.1 }
  known (of_test k h) =
      let c = command_known k h in
      record { place = outside; scoped = c.scoped.test; below = c.test; low = c.low.test }
  known (of_assignment k j e h i) =
      let x = item_known k (M.put j e) h i in
      record { place = outside; scoped = x.scoped.1; below = x.below; low = x.low }
  known (of_condition k e ys ns h i) =
      let x = item_known k (for e ys ns) h i in
      record { place = inside; scoped = x.scoped.0; below = x.below.0; low = x.low.0 }
  known (of_row_item k c ys ns j e h i l) =
      let x = item_known k (for c ys ns) h i in
      record {
        place = inside;
        scoped = (either (ScopedRow m.shared_names m.row_names) (put_row j e) ys ns l x.scoped.1 x.scoped.2).1;
        below = either BelowRow (put_row j e) ys ns l x.below.1 x.below.2;
        low = either LowRow (put_row j e) ys ns l x.low.1 x.low.2;
      }
