-- The flat form of a model: a list of code words that is run from its front to its end.
-- A code word is a kind times 32, and an argument below 32. The names' bits are numbered shared names first, then row names.
-- Assumes nothing.
use Rattle.std.specs.Prelude.{true, false, List, [], ◌∷◌, ◌++◌, map, ℕ, ◌+◌, length}
use Rattle.notation.specs.Model.{Expr, lit, star, shared, row, neg, conj, disj, RowItem, skip_row, put_row, Item, skip, put, for, Command, Model, stars}

-- The kinds of code word, times 32: what pushes a constant, a name's value, a star's choice; what negates, conjoins or disjoins what was pushed last;
-- what assigns to a name; what begins the first branch of a test, ends it and begins the second, and ends that; and what does nothing.
abbrev pub PUSH : ℕ
PUSH = 0

abbrev pub LOAD : ℕ
LOAD = 32

abbrev pub CHOOSE : ℕ
CHOOSE = 64

abbrev pub NEGATE : ℕ
NEGATE = 96

abbrev pub BOTH : ℕ
BOTH = 128

abbrev pub EITHER : ℕ
EITHER = 160

abbrev pub STORE : ℕ
STORE = 192

abbrev pub WHEN : ℕ
WHEN = 224

abbrev pub OTHERWISE : ℕ
OTHERWISE = 256

abbrev pub DONE : ℕ
DONE = 288

abbrev pub PASS : ℕ
PASS = 320

-- a is the number of shared names. An expression's operands come before its operator.
module _ (a : ℕ) where
  unfoldable pub expr_code : Expr → List ℕ
  expr_code (lit false) = PUSH ∷ []
  expr_code (lit true) = (PUSH + 1) ∷ []
  expr_code (star j) = (CHOOSE + j) ∷ []
  expr_code (shared j) = (LOAD + j) ∷ []
  expr_code (row j) = (LOAD + (a + j)) ∷ []
  expr_code (neg e) = expr_code e ++ (NEGATE ∷ [])
  expr_code (conj e f) = expr_code e ++ (expr_code f ++ (BOTH ∷ []))
  expr_code (disj e f) = expr_code e ++ (expr_code f ++ (EITHER ∷ []))

  unfoldable pub row_item_code : RowItem → List ℕ
  row_item_code skip_row = PASS ∷ []
  row_item_code (put_row j e) = expr_code e ++ ((STORE + (a + j)) ∷ [])

  unfoldable pub row_items_code : List RowItem → List ℕ
  row_items_code [] = []
  row_items_code (x ∷ xs) = row_item_code x ++ row_items_code xs

  unfoldable pub item_code : Item → List ℕ
  item_code skip = PASS ∷ []
  item_code (put j e) = expr_code e ++ ((STORE + j) ∷ [])
  item_code (for e ys ns) = expr_code e ++ (WHEN ∷ row_items_code ys ++ (OTHERWISE ∷ row_items_code ns ++ (DONE ∷ [])))

  unfoldable pub items_code : List Item → List ℕ
  items_code [] = []
  items_code (x ∷ xs) = item_code x ++ items_code xs

  unfoldable pub command_code : Command → List ℕ
  command_code k = expr_code k.test ++ (WHEN ∷ items_code k.do_items ++ (OTHERWISE ∷ items_code k.else_items ++ (DONE ∷ [])))

-- The parts of a model in order: the two expressions of `start`, the two of `keep`, and the commands.
unfoldable pub segments : Model → List (List ℕ)
segments m =
    expr_code m.shared_names m.start.whole ∷ expr_code m.shared_names m.start.each ∷
    expr_code m.shared_names m.keep.whole ∷ expr_code m.shared_names m.keep.each ∷
    map (command_code m.shared_names) m.commands

-- Lists one after the other, and the place where each ends if the first begins at place i.
unfoldable pub joined : List (List ℕ) → List ℕ
joined [] = []
joined (s ∷ ss) = s ++ joined ss

unfoldable pub ends_from : ℕ → List (List ℕ) → List ℕ
ends_from i [] = []
ends_from i (s ∷ ss) = (i + length s) ∷ ends_from (i + length s) ss

-- The flat form: the counts of shared names, row names and commands, each command's number of stars, the end of each segment, and the code.
pub record Layout : Type 0 where
  pub shared : ℕ
  pub row : ℕ
  pub commands : ℕ
  pub stars : List ℕ
  pub ends : List ℕ
  pub code : List ℕ

unfoldable pub layout_of : Model → Layout
layout_of m =
    record {
      shared = m.shared_names;
      row = m.row_names;
      commands = length m.commands;
      stars = map (λ k. length (stars k)) m.commands;
      ends = ends_from 0 (segments m);
      code = joined (segments m);
    }

-- A bound on the code words of a text's model: one for each node, three for each item, three for each command.
abbrev pub longest_code : ℕ
longest_code = 1840
