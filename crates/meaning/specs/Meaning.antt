-- What a model means over a table whose rows are the elements of a type: `Row n` where the table has n rows.
-- Assumes nothing.
use Rattle.std.specs.Prelude.{◌≡◌, ◌⊎◌, Bool, true, false, not, ◌&&◌, ◌||◌, cond, List, [], ◌∷◌, ℕ, ◌<◌, length, get_or, set}
use Rattle.notation.specs.Model.{Expr, lit, star, shared, row, neg, conj, disj, RowItem, skip_row, put_row, Item, skip, put, for, Command, Clause, Model}

-- The rows of a table of n rows: the numbers below n.
abbrev pub Row : ℕ → Type 0
Row n = (i : ℕ) × (i < n)

-- A state of a table: the bits of the shared names, and for each row the bits of the row names.
pub record State (I : Type 0) : Type 0 where
  pub shared : List Bool
  pub rows : I → List Bool

-- What the stars of a step come out as: those outside `for` once for the table, those inside once for each row.
pub record Choice (I : Type 0) : Type 0 where
  pub outer : ℕ → Bool
  pub inner : I → ℕ → Bool

-- All that the value of an expression hangs on: the stars, the shared bits, and the bits of the row that it is judged in.
pub record Scope : Type 0 where
  pub stars : ℕ → Bool
  pub shared : List Bool
  pub row : List Bool

-- Outside `for` and `each` there is no row to look at.
abbrev pub table_scope : (ℕ → Bool) → List Bool → Scope
table_scope c g = record { stars = c; shared = g; row = [] }

-- Inside, there is one.
abbrev pub row_scope : (ℕ → Bool) → List Bool → List Bool → Scope
row_scope c g r = record { stars = c; shared = g; row = r }

-- The value of an expression.
unfoldable pub eval : Scope → Expr → Bool
eval v (lit b) = b
eval v (star j) = v.stars j
eval v (shared j) = get_or v.shared j false
eval v (row j) = get_or v.row j false
eval v (neg e) = not (eval v e)
eval v (conj a b) = eval v a && eval v b
eval v (disj a b) = eval v a || eval v b

-- The bits of a row after row items: one after the other, so that a later one reads what an earlier one stored.
unfoldable pub run_row : (ℕ → Bool) → List Bool → List RowItem → List Bool → List Bool
run_row c g [] r = r
run_row c g (skip_row ∷ xs) r = run_row c g xs r
run_row c g (put_row j e ∷ xs) r = run_row c g xs (set r j (eval (row_scope c g r) e))

-- The stars where none can stand.
abbrev pub no_star : ℕ → Bool
no_star j = false

module _ {I : Type 0} where
  -- The state after one item. A `for` treats each row alone: that row's bits and stars decide its branch there.
  unfoldable pub run_item : Choice I → Item → State I → State I
  run_item c skip s = s
  run_item c (put j e) s = record { shared = set s.shared j (eval (table_scope c.outer s.shared) e); rows = s.rows }
  run_item c (for e ys ns) s =
      record {
        shared = s.shared;
        rows = λ i. run_row (c.inner i) s.shared (cond (eval (row_scope (c.inner i) s.shared (s.rows i)) e) ys ns) (s.rows i);
      }

  -- The state after items, one after the other.
  unfoldable pub run_items : Choice I → List Item → State I → State I
  run_items c [] s = s
  run_items c (x ∷ xs) s = run_items c xs (run_item c x s)

  -- The state after a command: its test decides which of its two lists of items is run.
  unfoldable pub step : Command → Choice I → State I → State I
  step k c s = run_items c (cond (eval (table_scope c.outer s.shared) k.test) k.do_items k.else_items) s

  -- The value of a clause's shared expression, and that of the expression behind its `each` in row i.
  abbrev pub whole_of : Clause → State I → Bool
  whole_of c s = eval (table_scope no_star s.shared) c.whole

  abbrev pub each_of : Clause → State I → I → Bool
  each_of c s i = eval (row_scope no_star s.shared (s.rows i)) c.each

  -- The state has exactly one bit for every name of the model.
  pub record Fits (m : Model) (s : State I) : Type 0 where
    pub shared_bits : length s.shared ≡ m.shared_names
    pub row_bits : (i : I) → length (s.rows i) ≡ m.row_names

  -- The state satisfies `start`: both its parts, the second in all rows.
  pub record IsStart (m : Model) (s : State I) : Type 0 where
    pub fits : Fits m s
    pub whole : whole_of m.start s ≡ true
    pub each : (i : I) → each_of m.start s i ≡ true

  -- The state violates `keep`: in its first part, or in its second part at one row or more.
  abbrev pub Breaks : Model → State I → Type 0
  Breaks m s = (whole_of m.keep s ≡ false) ⊎ ((i : I) × (each_of m.keep s i ≡ false))

-- The command numbered k, from 0. Beyond the last there is none; this one, which does nothing, only fills the gap.
abbrev pub idle : Command
idle = record { test = lit true; do_items = []; else_items = [] }

abbrev pub command_at : Model → ℕ → Command
command_at m k = get_or m.commands k idle

-- One step of a run: which command, how its stars came out, and where it led.
pub record Move (I : Type 0) : Type 0 where
  pub command : ℕ
  pub choice : Choice I
  pub after : State I

module _ {I : Type 0} where
  -- Each move is a step of a command of the model, taken where the move before it led.
  abbrev pub AreSteps : Model → State I → List (Move I) → Type 0
  AreSteps m s [] = Unit {0}
  AreSteps m s (x ∷ xs) =
      (x.command < length m.commands) × (x.after ≡ step (command_at m x.command) x.choice s) × AreSteps m x.after xs

  -- Where the moves lead.
  abbrev pub last : State I → List (Move I) → State I
  last s [] = s
  last s (x ∷ xs) = last x.after xs

  -- A run: it begins at a start state, and its moves, of which there may be none, are steps.
  pub record IsRun (m : Model) (s : State I) (xs : List (Move I)) : Type 0 where
    pub start : IsStart m s
    pub steps : AreSteps m s xs

-- No run over the rows I leads to a state that violates `keep`.
abbrev pub Safe : Model → Type 0 → Type 0
Safe m I = (s : State I) (xs : List (Move I)) → IsRun m s xs → ¬ (Breaks m (last s xs))

-- Some run over the rows I leads to one.
abbrev pub Unsafe : Model → Type 0 → Type 0
Unsafe m I = (s : State I) × (xs : List (Move I)) × IsRun m s xs × Breaks m (last s xs)

-- Some state over the rows I satisfies `start`.
abbrev pub CanStart : Model → Type 0 → Type 0
CanStart m I = (s : State I) × IsStart m s
