-- What holds of every model that a text says: its names are in range, its stars are numbered, it has no more names, commands and stars
-- than the limits allow, and its expressions and its flat form are bounded. (Items and nodes are counted in texts, not in models.)
-- Assumes nothing.
use Rattle.std.specs.Prelude.{◌≡◌, ◌⊎◌, List, [], ◌∷◌, ℕ, suc, ◌+◌, ◌≤◌, ◌<◌, max, length}
use Rattle.notation.specs.Rules.{SHARED-NAMES, ROW-NAMES, NAMES, COMMANDS, STARS, limit_of}
use Rattle.notation.specs.Model.{Expr, lit, star, shared, row, neg, conj, disj, RowItem, skip_row, put_row, Item, skip, put, for, Command, Clause, Model, Star, outside, stars_expr, stars}
use Rattle.notation.specs.Layout.{layout_of, longest_code}

-- It holds of every element.
abbrev pub Every : {A : Type 0} → (A → Type 0) → List A → Type 0
Every P [] = Unit {0}
Every P (x ∷ xs) = P x × Every P xs

-- It is one of the elements.
abbrev pub Among : {A : Type 0} → A → List A → Type 0
Among x [] = ⊥
Among x (y ∷ ys) = (x ≡ y) ⊎ Among x ys

-- The numbers that a function gives of the elements, added up.
unfoldable pub sum_over : {A : Type 0} → (A → ℕ) → List A → ℕ
sum_over f [] = 0
sum_over f (x ∷ xs) = f x + sum_over f xs

-- The stars are numbered from i on, in the order of the list.
abbrev pub NumberedFrom : ℕ → List Star → Type 0
NumberedFrom i [] = Unit {0}
NumberedFrom i (s ∷ ss) = (s.index ≡ i) × NumberedFrom (suc i) ss

-- The names of an expression are declared: shared names below a, row names below b.
abbrev pub Scoped : ℕ → ℕ → Expr → Type 0
Scoped a b (lit x) = Unit {0}
Scoped a b (star j) = Unit {0}
Scoped a b (shared j) = j < a
Scoped a b (row j) = j < b
Scoped a b (neg e) = Scoped a b e
Scoped a b (conj e f) = Scoped a b e × Scoped a b f
Scoped a b (disj e f) = Scoped a b e × Scoped a b f

abbrev pub ScopedRow : ℕ → ℕ → RowItem → Type 0
ScopedRow a b skip_row = Unit {0}
ScopedRow a b (put_row j e) = (j < b) × Scoped a b e

abbrev pub ScopedItem : ℕ → ℕ → Item → Type 0
ScopedItem a b skip = Unit {0}
ScopedItem a b (put j e) = (j < a) × Scoped a 0 e
ScopedItem a b (for e ys ns) = Scoped a b e × Every (ScopedRow a b) ys × Every (ScopedRow a b) ns

pub record ScopedCommand (a b : ℕ) (k : Command) : Type 0 where
  pub test : Scoped a 0 k.test
  pub do_items : Every (ScopedItem a b) k.do_items
  pub else_items : Every (ScopedItem a b) k.else_items

pub record ScopedClause (a b : ℕ) (c : Clause) : Type 0 where
  pub whole : Scoped a 0 c.whole
  pub each : Scoped a b c.each

-- No star stands in the expression.
abbrev pub Starless : Expr → Type 0
Starless e = stars_expr outside e ≡ []

-- How many values the expression holds at once where its operands are evaluated before it, the left one first.
unfoldable pub height : Expr → ℕ
height (lit b) = 1
height (star j) = 1
height (shared j) = 1
height (row j) = 1
height (neg e) = height e
height (conj a b) = max (height a) (1 + height b)
height (disj a b) = max (height a) (1 + height b)

-- A bound on the height of an expression whose parentheses and `not` nest to the limit.
abbrev pub tallest : ℕ
tallest = 35

abbrev pub Low : Expr → Type 0
Low e = height e ≤ tallest

abbrev pub LowRow : RowItem → Type 0
LowRow skip_row = Unit {0}
LowRow (put_row j e) = Low e

abbrev pub LowItem : Item → Type 0
LowItem skip = Unit {0}
LowItem (put j e) = Low e
LowItem (for e ys ns) = Low e × Every LowRow ys × Every LowRow ns

pub record LowCommand (k : Command) : Type 0 where
  pub test : Low k.test
  pub do_items : Every LowItem k.do_items
  pub else_items : Every LowItem k.else_items

-- What holds of every model that a text says.
pub record Regular (m : Model) : Type 0 where
  -- its names are in range
  pub start : ScopedClause m.shared_names m.row_names m.start
  pub keep : ScopedClause m.shared_names m.row_names m.keep
  pub scoped : Every (ScopedCommand m.shared_names m.row_names) m.commands
  -- its clauses have no stars, and each command's stars are numbered 0, 1, .. in text order
  pub start_whole : Starless m.start.whole
  pub start_each : Starless m.start.each
  pub keep_whole : Starless m.keep.whole
  pub keep_each : Starless m.keep.each
  pub numbered : Every (λ k. NumberedFrom 0 (stars k)) m.commands
  -- it has no more names, commands and stars than the limits allow
  pub few_shared : m.shared_names ≤ limit_of SHARED-NAMES
  pub few_row : m.row_names ≤ limit_of ROW-NAMES
  pub few_names : m.shared_names + m.row_names ≤ limit_of NAMES
  pub some_command : 1 ≤ length m.commands
  pub few_commands : length m.commands ≤ limit_of COMMANDS
  pub few_stars : Every (λ k. length (stars k) ≤ limit_of STARS) m.commands
  -- its expressions are not deep
  pub low_start : Low m.start.whole × Low m.start.each
  pub low_keep : Low m.keep.whole × Low m.keep.each
  pub low : Every LowCommand m.commands
  -- its flat form is not long
  pub short : length (layout_of m).code ≤ longest_code
