-- Models: what a text says, with its names and stars as numbers.
-- Assumes nothing.
use Rattle.std.specs.Prelude.{Bool, List, [], ◌∷◌, ◌++◌, ℕ}

-- An expression. Names are numbers: shared name j and row name j, counted from 0 as declared.
-- A star has its number in its command, counted from 0 in text order.
pub data Expr : Type 0 where
  lit : Bool → Expr
  star : ℕ → Expr
  shared : ℕ → Expr
  row : ℕ → Expr
  neg : Expr → Expr
  conj : Expr → Expr → Expr
  disj : Expr → Expr → Expr

-- `skip`, or row name j `:=` an expression.
pub data RowItem : Type 0 where
  skip_row : RowItem
  put_row : ℕ → Expr → RowItem

-- `skip`, shared name j `:=` an expression, or `for` an expression, `do` row items, `else` row items.
pub data Item : Type 0 where
  skip : Item
  put : ℕ → Expr → Item
  for : Expr → List RowItem → List RowItem → Item

-- A command: its test, the items after `do` and those after `else`.
pub record Command : Type 0 where
  pub test : Expr
  pub do_items : List Item
  pub else_items : List Item

-- What follows `start` or `keep`: a shared expression, and a row expression behind `each`.
pub record Clause : Type 0 where
  pub whole : Expr
  pub each : Expr

-- A model: how many shared names and row names it has, its two clauses, and its commands.
pub record Model : Type 0 where
  pub shared_names : ℕ
  pub row_names : ℕ
  pub start : Clause
  pub keep : Clause
  pub commands : List Command

-- Where a star stands: outside `for`, or inside.
pub data Place : Type 0 where
  outside inside : Place

pub record Star : Type 0 where
  pub place : Place
  pub index : ℕ

-- The stars of an expression, of row items, of items and of a command, in text order.
unfoldable pub stars_expr : Place → Expr → List Star
stars_expr p (lit b) = []
stars_expr p (star j) = record { place = p; index = j } ∷ []
stars_expr p (shared j) = []
stars_expr p (row j) = []
stars_expr p (neg e) = stars_expr p e
stars_expr p (conj a b) = stars_expr p a ++ stars_expr p b
stars_expr p (disj a b) = stars_expr p a ++ stars_expr p b

unfoldable pub stars_row : List RowItem → List Star
stars_row [] = []
stars_row (skip_row ∷ xs) = stars_row xs
stars_row (put_row j e ∷ xs) = stars_expr inside e ++ stars_row xs

unfoldable pub stars_items : List Item → List Star
stars_items [] = []
stars_items (skip ∷ xs) = stars_items xs
stars_items (put j e ∷ xs) = stars_expr outside e ++ stars_items xs
stars_items (for e ys ns ∷ xs) = stars_expr inside e ++ stars_row ys ++ stars_row ns ++ stars_items xs

unfoldable pub stars : Command → List Star
stars k = stars_expr outside k.test ++ stars_items k.do_items ++ stars_items k.else_items
