-- Each open parenthesis or `not` adds at most two to the height of an expression, so that the limit on depth is one on height.
-- Assumes nothing.
use mathlib.Core.Path.{◌≡◌, refl}
use mathlib.Core.Bool.{Bool, true, false, cond}
use mathlib.Core.List.{List, [], ◌∷◌, ◌++◌, map}
use Prim.Native.Nat.{ℕ, ◌+◌, ◌-◌, ◌*◌, ◌≤◌, max}
use native.Mathlib.Omega.{arith}
use Rattle.notation.specs.Tokens.{Word}
use Rattle.notation.specs.Notation.{Part, part, Mode, Expr, RowItem, Item, Clause, Command, Tree, Level, factor_level, and_level, or_level, ExpressionIs, is_zero, is_one, is_star, is_name, is_not, is_parens, is_factor, is_and, is_term, is_or, Whole, Joined, RowItemIs, ItemIs, is_skip, is_set, is_for, CommandIs, is_command, ClauseIs, is_clause, Several, TextIs, is_text}
use Rattle.notation.specs.Rules.{view, depth_limit, Kept}
use Rattle.notation.specs.Model as M
use Rattle.notation.specs.Texts.{place_of, among, name_of, expr_of, row_item_of, row_items_of, item_of, items_of, command_of, clause_of, words_of, model_of}
use Rattle.notation.specs.Regular.{Every, height, Low, LowRow, LowItem, LowCommand}
use Rattle.notation.proofs.Counts.{within, kept-all, joined-all, several_all}

-- How far the parts go over the limit on depth, all together.
unfoldable excess : List Part → ℕ
excess [] = 0
excess (part r t ∷ ps) = ((view r).depth - depth_limit) + excess ps

excess_append : (ps qs : List Part) → excess (ps ++ qs) ≡ excess ps + excess qs
unfolding excess
excess_append [] qs = omega arith
excess_append (part r t ∷ ps) qs = rw (excess_append ps qs) (omega arith)

kept_shallow : {ps : List Part} → Kept ps → excess ps ≡ 0
unfolding excess
kept_shallow h = kept-all (λ us. excess us ≡ 0) (λ us r t e q. omega (arith, excess_append us (part r t ∷ []), (within us r t e).0)) refl h

-- The height that an expression of the level has without parentheses and `not`.
abbrev flat : Level → ℕ
flat factor_level = 1
flat and_level = 2
flat or_level = 3

module _ (ws vs : List Word) where
  expression_low : {m : Mode} {l : Level} {d : ℕ} {ps : List Part} {e : Expr} → ExpressionIs m l d ps e → (k : ℕ)
      → height (expr_of ws vs e k).is + 2 * d ≤ 2 * max d depth_limit + 2 * excess ps + flat l
  unfolding view excess expr_of name_of height
  expression_low is_zero k = omega arith
  expression_low is_one k = omega arith
  expression_low is_star k = omega arith
  expression_low (is_name {d = d} w) k = go (among w.word ws)
    where
      go : (x : Bool) → height (cond x (M.shared (place_of w.word ws)) (M.row (place_of w.word vs))) + 2 * d ≤ 2 * max d depth_limit + 2 * 0 + 1
      go true = omega arith
      go false = omega arith
  expression_low (is_not x) k = omega (arith, expression_low x k)
  expression_low (is_parens x) k = simp excess_append (omega (arith, expression_low x k))
  expression_low (is_factor x) k = omega (arith, expression_low x k)
  expression_low (is_and {a = a} x y) k = simp excess_append (omega (arith, expression_low x k, expression_low y (expr_of ws vs a k).next))
  expression_low (is_term x) k = omega (arith, expression_low x k)
  expression_low (is_or {a = a} x y) k = simp excess_append (omega (arith, expression_low x k, expression_low y (expr_of ws vs a k).next))

  whole-low : {m : Mode} {ps : List Part} {e : Expr} → Whole m ps e → excess ps ≡ 0 → (k : ℕ) → Low (expr_of ws vs e k).is
  whole-low x h k = omega (arith, expression_low x k)

  abbrev RowsLow : List Part → List RowItem → Type 0
  RowsLow ps xs = excess ps ≡ 0 → (k : ℕ) → Every LowRow (row_items_of ws vs xs k).is

  row_low : (ps qs : List Part) (x : RowItem) (xs : List RowItem) → RowItemIs ps x → RowsLow qs xs → RowsLow (ps ++ qs) (x ∷ xs)
  unfolding view excess row_item_of row_items_of
  row_low _ qs _ xs is_skip h b k = (tt, h (omega arith) k)
  row_low _ qs _ xs (is_set w x) h b k = let c = simp excess_append at b in (whole-low x (omega arith) k, h (omega arith) _)

  rows-low : {ps : List Part} {xs : List RowItem} → Joined RowItemIs ps xs → RowsLow ps xs
  unfolding view excess row_items_of
  rows-low is = joined-all RowsLow row_low (λ b k. tt) (λ qs xs h b k. h (omega arith) k) is

  abbrev ItemsLow : List Part → List Item → Type 0
  ItemsLow ps xs = excess ps ≡ 0 → (k : ℕ) → Every LowItem (items_of ws vs xs k).is

  item-low : (ps qs : List Part) (x : Item) (xs : List Item) → ItemIs ps x → ItemsLow qs xs → ItemsLow (ps ++ qs) (x ∷ xs)
  unfolding view excess item_of items_of
  item-low _ qs _ xs is_skip h b k = (tt, h (omega arith) k)
  item-low _ qs _ xs (is_set w x) h b k = let c = simp excess_append at b in (whole-low x (omega arith) k, h (omega arith) _)
  item-low _ qs _ xs (is_for x is js) h b k =
      let c = simp excess_append at b in ((whole-low x (omega arith) k, rows-low is (omega arith) _, rows-low js (omega arith) _), h (omega arith) _)

  items-low : {ps : List Part} {xs : List Item} → Joined ItemIs ps xs → ItemsLow ps xs
  unfolding view excess items_of
  items-low is = joined-all ItemsLow item-low (λ b k. tt) (λ qs xs h b k. h (omega arith) k) is

  command-low : {ps : List Part} {x : Command} → CommandIs ps x → excess ps ≡ 0 → LowCommand (command_of ws vs x)
  unfolding view excess command_of
  command-low (is_command w x is js) b =
      let c = simp excess_append at b in record { test = whole-low x (omega arith) 0; do_items = items-low is (omega arith) _; else_items = items-low js (omega arith) _ }

  several_low : {ps : List Part} {xs : List Command} → Several CommandIs ps xs → excess ps ≡ 0 → Every LowCommand (map (command_of ws vs) xs)
  several_low is =
      several_all (λ ps xs. excess ps ≡ 0 → Every LowCommand (map (command_of ws vs) xs))
      (λ ps qs x xs i h b. (command-low i (omega (arith, excess_append ps qs)), h (omega (arith, excess_append ps qs)))) (λ b. tt) is

  clause-low : {k : ℕ} {ps : List Part} {x : Clause} → ClauseIs k ps x → excess ps ≡ 0 → Low (clause_of ws vs x).whole × Low (clause_of ws vs x).each
  unfolding view excess clause_of
  clause-low (is_clause x y) b = let c = simp excess_append at b in (whole-low x (omega arith) 0, whole-low y (omega arith) 0)

pub start-low : {ps : List Part} {x : Tree} → TextIs ps x → Kept ps → Low (model_of x).start.whole × Low (model_of x).start.each
unfolding view excess model_of
start-low (is_text ws vs i j is) h = let b = simp excess_append at (kept_shallow h) in clause-low (words_of ws) (words_of vs) i (omega arith)

pub keep_low : {ps : List Part} {x : Tree} → TextIs ps x → Kept ps → Low (model_of x).keep.whole × Low (model_of x).keep.each
unfolding view excess model_of
keep_low (is_text ws vs i j is) h = let b = simp excess_append at (kept_shallow h) in clause-low (words_of ws) (words_of vs) j (omega arith)

pub commands-low : {ps : List Part} {x : Tree} → TextIs ps x → Kept ps → Every LowCommand (model_of x).commands
unfolding view excess model_of
commands-low (is_text ws vs i j is) h = let b = simp excess_append at (kept_shallow h) in several_low (words_of ws) (words_of vs) is (omega arith)
