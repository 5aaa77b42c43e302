-- Misreadings of the notation, each told apart from the meaning by an example in which the two differ.
-- Assumes nothing.
use Rattle.std.specs.Prelude.{◌≡◌, Bool, true, false, List, [], ◌∷◌, ℕ, zero, suc}
use Rattle.std.proofs.Common.{zero-le, suc-le-suc}
use Rattle.notation.specs.Bytes.{bytes}
use Rattle.notation.specs.Model.{Expr, lit, star, shared, row, neg, skip_row, put_row, Item, skip, put, for, Command, Clause, Model}
use Rattle.notation.specs.Texts.{TextSays}
use Rattle.meaning.specs.Meaning.{Row, State, Choice, Move, step, each_of, Breaks, IsRun, last, Unsafe, CanStart}
use Rattle.meaning.specs.OneRow.{One, state_number}
use Rattle.meaning.specs.Evidence.{void_by, unsafe_by, ConditionA, ConditionB, ConditionC, Passes}

-- The two rows of a table of two, and a state of it by its shared bits and the bits of either row.
abbrev pub upper : Row 2
upper = (0, suc-le-suc zero-le)

abbrev pub lower : Row 2
lower = (1, suc-le-suc (suc-le-suc zero-le))

abbrev pub table : List Bool → List Bool → List Bool → State (Row 2)
table g r q = record { shared = g; rows = λ i. elim i.0 [ zero ↦ r | suc n ↦ q ] }

-- Stars come out true in the upper row and false in the lower.
abbrev pub apart : Choice (Row 2)
apart = record { outer = λ j. true; inner = λ i j. elim i.0 [ zero ↦ true | suc n ↦ false ] }

-- The command that runs these items, whatever the state.
abbrev pub always : List Item → Command
always xs = record { test = lit true; do_items = xs; else_items = skip ∷ [] }

-- Astray: a star in a `for` comes out alike in all rows. Here two rows that were alike differ after a step.
abbrev pub after_star : State (Row 2)
after_star = step (always (for (lit true) (put_row 0 (star 0) ∷ []) (skip_row ∷ []) ∷ [])) apart (table [] (false ∷ []) (false ∷ []))

abbrev pub StarByRow : Type 0
StarByRow = (after_star.rows upper ≡ true ∷ []) × (after_star.rows lower ≡ false ∷ [])

-- Astray: a `for` takes one branch for the whole table. Here one row takes the first branch, the other the second.
abbrev pub after_for : State (Row 2)
after_for = step (always (for (row 0) (put_row 1 (lit true) ∷ []) (put_row 1 (lit false) ∷ []) ∷ [])) apart (table [] (true ∷ false ∷ []) (false ∷ true ∷ []))

abbrev pub ConditionByRow : Type 0
ConditionByRow = (after_for.rows upper ≡ true ∷ true ∷ []) × (after_for.rows lower ≡ false ∷ false ∷ [])

-- Astray: the items of a list all read the values from before the list. Here each of two items copies from the other's name: nothing is exchanged.
abbrev pub after_copies : State (Row 2)
after_copies =
    step (always (put 0 (shared 1) ∷ put 1 (shared 0) ∷ for (lit true) (put_row 0 (row 1) ∷ put_row 1 (row 0) ∷ []) (skip_row ∷ []) ∷ [])) apart
    (table (false ∷ true ∷ []) (false ∷ true ∷ []) (true ∷ false ∷ []))

abbrev pub ItemsInOrder : Type 0
ItemsInOrder = (after_copies.shared ≡ true ∷ true ∷ []) × (after_copies.rows upper ≡ true ∷ true ∷ []) × (after_copies.rows lower ≡ false ∷ false ∷ [])

-- Astray: the rows of a run begin alike, or choose alike, or break all together. Here they begin unlike and choose unlike, and one of them breaks.
abbrev pub parting : Model
parting =
    record {
      shared_names = 0;
      row_names = 2;
      start = record { whole = lit true; each = neg (row 0) };
      keep = record { whole = lit true; each = neg (row 0) };
      commands = always (for (row 1) (put_row 0 (star 0) ∷ []) (put_row 0 (star 0) ∷ []) ∷ []) ∷ [];
    }

abbrev pub unlike : State (Row 2)
unlike = table [] (false ∷ true ∷ []) (false ∷ false ∷ [])

abbrev pub parts : Move (Row 2)
parts = record { command = 0; choice = apart; after = table [] (true ∷ true ∷ []) (false ∷ false ∷ []) }

pub record RowsByThemselves : Type 0 where
  pub run : IsRun parting unlike (parts ∷ [])
  pub breaks : Breaks parting (last unlike (parts ∷ []))
  pub lower_keeps : each_of parting.keep (last unlike (parts ∷ [])) lower ≡ true

-- A clause that only speaks of shared names, and a model with one shared name, no row names and one command.
abbrev pub shared_clause : Expr → Clause
shared_clause e = record { whole = e; each = lit true }

abbrev pub small : Expr → Expr → Item → Model
small a b x = record { shared_names = 1; row_names = 0; start = shared_clause a; keep = shared_clause b; commands = always (x ∷ []) ∷ [] }

-- Astray: only states after a step can violate `keep`. Here no state after a step does, and a trace of no steps passes.
abbrev pub cured : Model
cured = small (shared 0) (neg (shared 0)) (put 0 (lit false))

abbrev pub BreakAtStart : Type 0
BreakAtStart =
    Passes cured (unsafe_by 1 [])
    × ((n : ℕ) (s : State (Row n)) (x : Move (Row n)) (xs : List (Move (Row n))) → IsRun cured s (x ∷ xs) → ¬ (Breaks cured (last s (x ∷ xs))))

-- Astray: `keep` is only asked of members that a run reaches. Here the map of the states 0 and 1 fails by B, though no run reaches 1.
abbrev pub still : Model
still = small (neg (shared 0)) (neg (shared 0)) skip

abbrev pub UnreachedMember : Type 0
UnreachedMember =
    ((s : State One) (xs : List (Move One)) → IsRun still s xs → ¬ (state_number (last s xs) ≡ 1))
    × ConditionA still (3 ∷ [])
    × ConditionC still (3 ∷ [])
    × (¬ (ConditionB still (3 ∷ [])))

-- Astray: a table without rows is a table like others. Here a map passes for a void model, and a table without rows can start and goes wrong at once.
abbrev pub barred_text : List ℕ
barred_text = bytes "shared. row. start 1 each 0. keep 0 each 1. command c if 1 do skip else skip."

abbrev pub barred : Model
barred =
    record {
      shared_names = 0;
      row_names = 0;
      start = record { whole = lit true; each = lit false };
      keep = record { whole = lit false; each = lit true };
      commands = always (skip ∷ []) ∷ [];
    }

pub record ZeroRows : Type 0 where
  pub says : TextSays barred_text barred
  pub passes : Passes barred (void_by (0 ∷ []))
  pub starts : CanStart barred (Row 0)
  pub wrong : Unsafe barred (Row 0)
