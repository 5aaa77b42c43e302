-- Each command's stars are numbered from 0 in text order, and the clauses of a text that keeps the rules have none.
-- Assumes nothing.
use mathlib.Core.Path.{◌≡◌, refl, sym, ◌∙◌, subst}
use mathlib.Core.Bool.{Bool, true, false, cond}
use mathlib.Core.List.{List, [], ◌∷◌, ◌++◌, map}
use Prim.Native.Nat.{ℕ, suc, ◌+◌}
use native.Mathlib.Omega.{arith}
use native.Mathlib.Nat.{add-zero, zero-add}
use lib.ListN.{length, length-append}
use Rattle.notation.specs.Tokens.{Word, Name}
use Rattle.notation.specs.Notation as T
use Rattle.notation.specs.Notation.{Part, part, Tree, tree', TextIs, is_text, Mode, Level, ExpressionIs, is_zero, is_one, is_star, is_name, is_not, is_parens, is_factor, is_and, is_term, is_or, ClauseIs, is_clause}
use Rattle.notation.specs.Rules.{view, Kept}
use Rattle.notation.specs.Model as M
use Rattle.notation.specs.Model.{Place, outside, inside, Star, stars_expr, stars_row, stars_items, stars}
use Rattle.notation.specs.Texts.{name_of, expr_of, row_item_of, row_items_of, item_of, items_of, command_of, clause_of, model_of, words_of, among, place_of}
use Rattle.notation.specs.Regular.{Every, NumberedFrom, Starless}
use Rattle.notation.proofs.Parts.{obeys, from_splits, parted, text-parts}

-- The list is numbered from i on, and j is the next number.
record Spans (i : ℕ) (ss : List Star) (j : ℕ) : Type 0 where
  each : NumberedFrom i ss
  next : j ≡ i + length ss

none_span : (i : ℕ) → Spans i [] i
none_span i = record { each = tt; next = sym (add-zero i) }

appended : (i j : ℕ) (ss ts : List Star) → NumberedFrom i ss → j ≡ i + length ss → NumberedFrom j ts → NumberedFrom i (ss ++ ts)
appended i j [] ts h e k = subst (λ (n : ℕ). NumberedFrom n ts) (e ∙ add-zero i) k
appended i j (s ∷ ss) ts h e k = (h.0, appended (suc i) j ss ts h.1 (omega arith) k)

both : {i j l : ℕ} {ss ts : List Star} → Spans i ss j → Spans j ts l → Spans i (ss ++ ts) l
both {i} {j} {l} {ss} {ts} p q = record { each = appended i j ss ts p.each p.next q.each; next = omega (arith, length-append ss ts) }

module _ (ws vs : List Word) where
  name_starless : (p : Place) (w : Word) → stars_expr p (name_of ws vs w) ≡ []
  unfolding name_of stars_expr
  name_starless p w = go (among w ws)
    where
      go : (x : Bool) → stars_expr p (cond x (M.shared (place_of w ws)) (M.row (place_of w vs))) ≡ []
      go true = refl
      go false = refl

  expr_spans : (p : Place) (e : T.Expr) (k : ℕ) → Spans k (stars_expr p (expr_of ws vs e k).is) (expr_of ws vs e k).next
  unfolding expr_of stars_expr
  expr_spans p T.false' k = none_span k
  expr_spans p T.true' k = none_span k
  expr_spans p T.star' k = record { each = (refl, tt); next = omega arith }
  expr_spans p (T.name' n) k = rw name_starless (none_span k)
  expr_spans p (T.not' e) k = expr_spans p e k
  expr_spans p (T.and' e f) k = both (expr_spans p e k) (expr_spans p f _)
  expr_spans p (T.or' e f) k = both (expr_spans p e k) (expr_spans p f _)

  rows-span : (xs : List T.RowItem) (k : ℕ) → Spans k (stars_row (row_items_of ws vs xs k).is) (row_items_of ws vs xs k).next
  unfolding row_items_of row_item_of stars_row
  rows-span [] k = none_span k
  rows-span (T.RowItem.skip' ∷ xs) k = rows-span xs k
  rows-span (T.RowItem.set' n e ∷ xs) k = both (expr_spans inside e k) (rows-span xs _)

  items-span : (xs : List T.Item) (k : ℕ) → Spans k (stars_items (items_of ws vs xs k).is) (items_of ws vs xs k).next
  unfolding items_of item_of stars_items
  items-span [] k = none_span k
  items-span (T.Item.skip' ∷ xs) k = items-span xs k
  items-span (T.Item.set' n e ∷ xs) k = both (expr_spans outside e k) (items-span xs _)
  items-span (T.for' e ys ns ∷ xs) k = both (both (both (expr_spans inside e k) (rows-span ys _)) (rows-span ns _)) (items-span xs _)

  commands-numbered : (cs : List T.Command) → Every (λ k. NumberedFrom 0 (stars k)) (map (command_of ws vs) cs)
  unfolding command_of stars
  commands-numbered [] = tt
  commands-numbered (T.command' n e xs ys ∷ cs) = ((both (both (expr_spans outside e 0) (items-span xs _)) (items-span ys _)).each, commands-numbered cs)

-- The number after an expression without stars, and after a command.
pub starless_next : (ws vs : List Word) (e : T.Expr) (k : ℕ) → Starless (expr_of ws vs e k).is → (expr_of ws vs e k).next ≡ k
starless_next ws vs e k h = (expr_spans ws vs outside e k).next ∙ rw h (add-zero k)

pub command-next : (ws vs : List Word) (n : Name) (e : T.Expr) (xs ys : List T.Item) →
    (items_of ws vs ys (items_of ws vs xs (expr_of ws vs e 0).next).next).next ≡ length (stars (command_of ws vs (T.command' n e xs ys)))
unfolding command_of stars
command-next ws vs n e xs ys = (both (both (expr_spans ws vs outside e 0) (items-span ws vs xs _)) (items-span ws vs ys _)).next ∙ zero-add _

pub stars-numbered : (x : Tree) → Every (λ k. NumberedFrom 0 (stars k)) (model_of x).commands
unfolding model_of
stars-numbered (tree' ws vs s k cs) = commands-numbered (words_of ws) (words_of vs) cs

-- ---- the clauses

-- The part is no star that may not stand where it does.
abbrev Unbarred : Part → Type 0
Unbarred (part r t) = (view r).barred ≡ false

abbrev StarlessClause : M.Clause → Type 0
StarlessClause c = Starless c.whole × Starless c.each

no_more : {ss ts : List Star} → ss ≡ [] → ts ≡ [] → ss ++ ts ≡ []
no_more e f = rw (e, f)

module _ (ws vs : List Word) where
  expr_starless : {m : Mode} {l : Level} {d : ℕ} {ps : List Part} {e : T.Expr} → m.stars ≡ false → ExpressionIs m l d ps e → Every Unbarred ps → (k : ℕ) → Starless (expr_of ws vs e k).is
  unfolding expr_of stars_expr view
  expr_starless z is_zero h k = refl
  expr_starless z is_one h k = refl
  expr_starless z is_star h k = let f = rw z at h.0 in cc
  expr_starless z (is_name w) h k = name_starless ws vs outside _
  expr_starless z (is_not x) h k = expr_starless z x h.1 k
  expr_starless z (is_parens {ps = ps} x) h k = expr_starless z x (parted Unbarred ps _ h.1).0 k
  expr_starless z (is_factor x) h k = expr_starless z x h k
  expr_starless z (is_and {ps = ps} x y) h k = let g = parted Unbarred ps _ h in no_more (expr_starless z x g.0 k) (expr_starless z y g.1.1 _)
  expr_starless z (is_term x) h k = expr_starless z x h k
  expr_starless z (is_or {ps = ps} x y) h k = let g = parted Unbarred ps _ h in no_more (expr_starless z x g.0 k) (expr_starless z y g.1.1 _)

  clause_starless : {n : ℕ} {ps : List Part} {c : T.Clause} → ClauseIs n ps c → Every Unbarred ps → StarlessClause (clause_of ws vs c)
  unfolding clause_of
  clause_starless (is_clause {ps = ps} {qs = qs} x y) h =
      let g = parted Unbarred ps _ h.1 in
      (expr_starless refl x g.0 0, expr_starless refl y (parted Unbarred qs _ g.1.1).0 0)

kept_unbarred : {ps : List Part} → Kept ps → Every Unbarred ps
kept_unbarred {ps} h = from_splits Unbarred ps go
  where
    go : (us : List Part) (p : Part) (vs : List Part) → ps ≡ us ++ p ∷ vs → Unbarred p
    go us (part r t) vs e = (obeys us r t (h us (part r t) vs e)).unbarred

clauses_starless : {ps : List Part} {x : Tree} → TextIs ps x → Kept ps → StarlessClause (model_of x).start × StarlessClause (model_of x).keep
unfolding model_of
clauses_starless (is_text {ss = ss} {ks = ks} {cs = cs} ws vs s k xs) h =
    let g = text-parts Unbarred ws vs ss ks cs (kept_unbarred h) in
    (clause_starless (words_of ws) (words_of vs) s g.0, clause_starless (words_of ws) (words_of vs) k g.1)

pub start_starless : {ps : List Part} {x : Tree} → TextIs ps x → Kept ps → Starless (model_of x).start.whole × Starless (model_of x).start.each
start_starless t h = (clauses_starless t h).0

pub keep_starless : {ps : List Part} {x : Tree} → TextIs ps x → Kept ps → Starless (model_of x).keep.whole × Starless (model_of x).keep.each
keep_starless t h = (clauses_starless t h).1
