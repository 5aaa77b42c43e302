-- The expressions of a model: how many nodes each has, which there are in text order, and where each stands.
-- Assumes nothing.
use mathlib.Core.List.{List, [], ◌∷◌, ◌++◌, flat_map}
use Rattle.std.specs.Prelude.{ℕ, ◌+◌}
use Rattle.notation.specs.Model.{Expr, lit, star, shared, row, neg, conj, disj, RowItem, skip_row, put_row, Item, skip, put, for, Command, Model, Place, outside, inside}
use Rattle.notation.specs.Rules.{NODES, count}
use Rattle.notation.specs.Texts.{TextSays}
use Rattle.notation.specs.Regular.{Among, sum_over}

-- How many nodes an expression has: every name, constant, star, `not`, `and` and `or` is one.
unfoldable pub nodes : Expr → ℕ
nodes (lit b) = 1
nodes (star j) = 1
nodes (shared j) = 1
nodes (row j) = 1
nodes (neg e) = nodes e + 1
nodes (conj a b) = nodes a + (nodes b + 1)
nodes (disj a b) = nodes a + (nodes b + 1)

-- How many nodes expressions have together.
abbrev pub nodes_in : List Expr → ℕ
nodes_in es = sum_over nodes es

-- How many nodes a text counts that says a model.
abbrev pub node_count : {text : List ℕ} {m : Model} → TextSays text m → ℕ
node_count t = count NODES t.says.says.parts

-- The expressions of a row item, of an item, of a command and of a model, in text order.
unfoldable pub in_row_item : RowItem → List Expr
in_row_item skip_row = []
in_row_item (put_row j e) = e ∷ []

unfoldable pub in_item : Item → List Expr
in_item skip = []
in_item (put j e) = e ∷ []
in_item (for e ys ns) = e ∷ flat_map in_row_item (ys ++ ns)

unfoldable pub in_command : Command → List Expr
in_command k = k.test ∷ flat_map in_item (k.do_items ++ k.else_items)

unfoldable pub expressions : Model → List Expr
expressions m = m.start.whole ∷ m.start.each ∷ m.keep.whole ∷ m.keep.each ∷ flat_map in_command m.commands

-- The expression stands in the model, one constructor for each place: outside it is judged once for the table, inside `each` or `for` in a row.
pub data StandsIn (m : Model) : Place → Expr → Type 0 where
  of_start : StandsIn m outside m.start.whole
  of_start_each : StandsIn m inside m.start.each
  of_keep : StandsIn m outside m.keep.whole
  of_keep_each : StandsIn m inside m.keep.each
  of_test : (k : Command) → Among k m.commands → StandsIn m outside k.test
  of_assignment : (k : Command) (j : ℕ) (e : Expr) → Among k m.commands → Among (put j e) (k.do_items ++ k.else_items) → StandsIn m outside e
  of_condition : (k : Command) (e : Expr) (ys ns : List RowItem) → Among k m.commands → Among (for e ys ns) (k.do_items ++ k.else_items) → StandsIn m inside e
  of_row_item : (k : Command) (c : Expr) (ys ns : List RowItem) (j : ℕ) (e : Expr) → Among k m.commands → Among (for c ys ns) (k.do_items ++ k.else_items) →
      Among (put_row j e) (ys ++ ns) → StandsIn m inside e
