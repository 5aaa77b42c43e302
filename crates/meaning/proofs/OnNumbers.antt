-- The step computed on numbers is the step of the table of one row.
-- Assumes nothing.
use mathlib.Core.Path.{◌≡◌, refl, sym, ap, ap₂, ◌∙◌}
use mathlib.Core.Bool.{Bool, false, not, ◌&&◌, ◌||◌, cond}
use mathlib.Core.List.{List, [], ◌∷◌, ◌++◌}
use Prim.Native.Nat.{ℕ, zero, suc, ◌+◌, ◌*◌, ◌^◌, ◌<◌}
use native.Mathlib.Nat.{zero-add, suc-add, pow-suc, mul_assoc, not-suc-le-zero, le_of_suc-le-suc}
use native.Mathlib.Omega.{arith}
use lib.ListN.{length, get_or, set, length-set, length-append, get_or-append}
use lib.Seq.{get_or-append-add, set-append_left}
use Rattle.notation.specs.Model.{Expr, lit, star, shared, row, neg, conj, disj, RowItem, skip_row, put_row, Item, skip, put, for, Command, Clause, Model, Star, outside}
use Rattle.notation.specs.Regular.{Every, Scoped, ScopedRow, ScopedItem, ScopedCommand, ScopedClause, Starless}
use Rattle.meaning.specs.Bits.{bit, number}
use Rattle.meaning.specs.Meaning.{State, table_scope, row_scope, eval, no_star, whole_of, each_of, run_row, run_item, run_items, step, idle, command_at}
use Rattle.meaning.specs.OneRow.{One, the_row, state_number, state_count, spread, spread_word, starts, breaks, next}
use Rattle.meaning.specs.working.OnNumbers.{with_bit, eval_at, row_items_at, items_at, step_at, clause_at, StepComputed, StartsComputed, BreaksComputed, StepStays}
use Rattle.meaning.specs.working.Digits.{digit}
use Rattle.meaning.proofs.PutBits.{put-sum, bit-digit}
use Rattle.meaning.proofs.Lists.{every-at, taken}
use Rattle.meaning.proofs.Number.{bit-number, state_number-spread}
use Rattle.meaning.proofs.Words.{eval-same}
use Rattle.meaning.proofs.Fits.{row-length}
use Rattle.meaning.proofs.OneRow.{spread-fits, next-stays}

twice : (c j : ℕ) → c * 2 ^ suc j ≡ c * 2 ^ j * 2
twice c j = rw pow-suc (sym (mul_assoc c (2 ^ j) 2))

-- A bit set in a list, and in its number.
number-set : (l : List Bool) (j : ℕ) (b : Bool) → j < length l
    → number (set l j b) + cond (get_or l j false) 1 0 * 2 ^ j ≡ number l + cond b 1 0 * 2 ^ j
unfolding number
number-set [] j b h = absurd (not-suc-le-zero h)
number-set (x ∷ xs) zero b h = omega arith
number-set (x ∷ xs) (suc j) b h =
    let e : number (set xs j b) + cond (get_or xs j false) 1 0 * 2 ^ j ≡ number xs + cond b 1 0 * 2 ^ j = number-set xs j b (le_of_suc-le-suc h) in
    let p : cond (get_or xs j false) 1 0 * 2 ^ suc j ≡ cond (get_or xs j false) 1 0 * 2 ^ j * 2 = twice (cond (get_or xs j false) 1 0) j in
    let q : cond b 1 0 * 2 ^ suc j ≡ cond b 1 0 * 2 ^ j * 2 = twice (cond b 1 0) j in
    omega arith

pub number-with_bit : (l : List Bool) (j : ℕ) (b : Bool) → j < length l → number (set l j b) ≡ with_bit (number l) j b
number-with_bit l j b h =
    let e : number (set l j b) + cond (bit (number l) j) 1 0 * 2 ^ j ≡ number l + cond b 1 0 * 2 ^ j = rw bit-number (number-set l j b h) in
    let d : number (set l j b) + digit (number l) j * 2 ^ j ≡ number l + cond b 1 0 * 2 ^ j = rw (← (bit-digit (number l) j)) e in
    let p : with_bit (number l) j b + digit (number l) j * 2 ^ j ≡ number l + cond b 1 0 * 2 ^ j = put-sum (number l) j (cond b 1 0) in
    omega arith

set_back : (g r : List Bool) (j : ℕ) (b : Bool) → set (g ++ r) (length g + j) b ≡ g ++ set r j b
set_back [] r j b = rw zero-add
set_back (x ∷ g) r j b = rw suc-add (ap {B = List Bool} (λ l. x ∷ l) (set_back g r j b))

module _ (a b w : ℕ) (g : List Bool) (hg : length g ≡ a) where
  -- q is what the expression sees of the row r: as much as the expression asks for
  eval-seen : (n : ℕ) (q r : List Bool) → ((j : ℕ) → j < n → get_or q j false ≡ get_or r j false) → (e : Expr) → Scoped a n e
      → eval (row_scope (bit w) g q) e ≡ eval_at a w (number (g ++ r)) e
  unfolding eval eval_at
  eval-seen n q r same (lit x) h = refl
  eval-seen n q r same (star j) h = refl
  eval-seen n q r same (shared j) h = sym (bit-number (g ++ r) j ∙ get_or-append g r false j (rw hg h))
  eval-seen n q r same (row j) h = same j h ∙ sym (bit-number (g ++ r) (a + j) ∙ rw (← hg) (get_or-append-add g r j false))
  eval-seen n q r same (neg e) h = ap not (eval-seen n q r same e h)
  eval-seen n q r same (conj e f) h = ap₂ ◌&&◌ (eval-seen n q r same e h.0) (eval-seen n q r same f h.1)
  eval-seen n q r same (disj e f) h = ap₂ ◌||◌ (eval-seen n q r same e h.0) (eval-seen n q r same f h.1)

  eval_in : (r : List Bool) (e : Expr) → Scoped a b e → eval (row_scope (bit w) g r) e ≡ eval_at a w (number (g ++ r)) e
  eval_in r e h = eval-seen b r r (λ j lt. refl) e h

  eval_out : (r : List Bool) (e : Expr) → Scoped a 0 e → eval (table_scope (bit w) g) e ≡ eval_at a w (number (g ++ r)) e
  eval_out r e h = eval-seen 0 [] r (λ j lt. absurd (not-suc-le-zero lt)) e h

  row_at : (xs : List RowItem) (r : List Bool) → length r ≡ b → Every (ScopedRow a b) xs
      → number (g ++ run_row (bit w) g xs r) ≡ row_items_at a w xs (number (g ++ r))
  unfolding run_row row_items_at
  row_at [] r hr h = refl
  row_at (skip_row ∷ xs) r hr h = row_at xs r hr h.1
  row_at (put_row j e ∷ xs) r hr h =
      let v = eval (row_scope (bit w) g r) e in
      let lt : a + j < length (g ++ r) = rw (length-append, hg, hr) (let q = h.0.0 in omega arith) in
      let p : number (g ++ set r j v) ≡ with_bit (number (g ++ r)) (a + j) v =
      ap number (sym (set_back g r j v)) ∙ ap (λ (n : ℕ). number (set (g ++ r) (n + j) v)) hg ∙ number-with_bit (g ++ r) (a + j) v lt in
      row_at xs (set r j v) (rw length-set hr) h.1
      ∙ ap (row_items_at a w xs) (p ∙ ap (with_bit (number (g ++ r)) (a + j)) (eval_in r e h.0.1))

module _ (a b w : ℕ) where
  items_at_lem : (xs : List Item) (s : State One) → length s.shared ≡ a → length (s.rows the_row) ≡ b → Every (ScopedItem a b) xs
      → state_number (run_items (spread_word One w) xs s) ≡ items_at a w xs (state_number s)
  unfolding run_items run_item items_at state_number spread_word
  items_at_lem [] s hg hr h = refl
  items_at_lem (skip ∷ xs) s hg hr h = items_at_lem xs s hg hr h.1
  items_at_lem (put j e ∷ xs) s hg hr h =
      let g = s.shared in
      let r = s.rows the_row in
      let v = eval (table_scope (bit w) g) e in
      let lg : j < length g = rw hg h.0.0 in
      let lt : j < length (g ++ r) = rw length-append (omega arith) in
      let p : number (set g j v ++ r) ≡ with_bit (number (g ++ r)) j v =
      ap number (sym (set-append_left g r j v lg)) ∙ number-with_bit (g ++ r) j v lt in
      items_at_lem xs (run_item (spread_word One w) (put j e) s) (rw length-set hg) hr h.1
      ∙ ap (items_at a w xs) (p ∙ ap (with_bit (number (g ++ r)) j) (eval_out a b w g hg r e h.0.1))
  items_at_lem (for e ys ns ∷ xs) s hg hr h =
      let g = s.shared in
      let r = s.rows the_row in
      let v = eval (row_scope (bit w) g r) e in
      items_at_lem xs (run_item (spread_word One w) (for e ys ns) s) hg (row-length (bit w) g (cond v ys ns) r ∙ hr) h.1
      ∙ ap (items_at a w xs)
      (row_at a b w g hg (cond v ys ns) r hr (taken (Every (ScopedRow a b)) v ys ns h.0.1 h.0.2)
      ∙ ap (λ (x : Bool). row_items_at a w (cond x ys ns) (number (g ++ r))) (eval_in a b w g hg r e h.0.0))

  -- The step of the table of one row under the choice word w, on numbers.
  step-at : (k : Command) (s : State One) → length s.shared ≡ a → length (s.rows the_row) ≡ b → ScopedCommand a b k
      → state_number (step k (spread_word One w) s) ≡ step_at a w k (state_number s)
  unfolding step step_at state_number spread_word
  step-at k s hg hr h =
      let g = s.shared in
      let r = s.rows the_row in
      let v = eval (table_scope (bit w) g) k.test in
      items_at_lem (cond v k.do_items k.else_items) s hg hr (taken (Every (ScopedItem a b)) v k.do_items k.else_items h.do_items h.else_items)
      ∙ ap (λ (x : Bool). items_at a w (cond x k.do_items k.else_items) (number (g ++ r))) (eval_out a b w g hg r k.test h.test)

pub step_computed : StepComputed
unfolding next
step_computed m g s k w h lt =
    let f = spread-fits m One s in
    step-at m.shared_names m.row_names w (command_at m k) (spread m One s) f.shared_bits (f.row_bits the_row)
    (every-at _ m.commands idle k g.scoped lt)
    ∙ ap (step_at m.shared_names w (command_at m k)) (state_number-spread m s h)

pub step_stays : StepStays
step_stays m g s k w h lt = rw (← (step_computed m g s k w h lt)) (next-stays m s k w)

-- An expression without stars has one value under all choices.
starless_same : (g r : List Bool) (c d : ℕ → Bool) (e : Expr) → Starless e → eval (row_scope c g r) e ≡ eval (row_scope d g r) e
starless_same g r c d e h = eval-same (λ (x : Star). ⊥) outside c d (λ j q. absurd q) g r e (rw h tt)

-- What an expression sees of the one-row state numbered s: the shared bits alone, and the row's as well.
module _ (m : Model) (s w : ℕ) (h : s < state_count m) where
  numbered : number ((spread m One s).shared ++ (spread m One s).rows the_row) ≡ s
  unfolding state_number
  numbered = state_number-spread m s h

  pub eval-outside : (e : Expr) → Scoped m.shared_names 0 e → eval (table_scope (bit w) (spread m One s).shared) e ≡ eval_at m.shared_names w s e
  eval-outside e o =
      let q = spread m One s in
      eval_out m.shared_names m.row_names w q.shared (spread-fits m One s).shared_bits (q.rows the_row) e o
      ∙ ap (λ (x : ℕ). eval_at m.shared_names w x e) numbered

  pub eval-inside : (e : Expr) → Scoped m.shared_names m.row_names e
      → eval (row_scope (bit w) (spread m One s).shared ((spread m One s).rows the_row)) e ≡ eval_at m.shared_names w s e
  eval-inside e o =
      let q = spread m One s in
      eval_in m.shared_names m.row_names w q.shared (spread-fits m One s).shared_bits (q.rows the_row) e o
      ∙ ap (λ (x : ℕ). eval_at m.shared_names w x e) numbered

clause-at : (m : Model) (c : Clause) (s w : ℕ) → s < state_count m → ScopedClause m.shared_names m.row_names c → Starless c.whole → Starless c.each
    → whole_of c (spread m One s) && each_of c (spread m One s) the_row ≡ clause_at m.shared_names w c s
unfolding clause_at
clause-at m c s w h sc hw he =
    let q = spread m One s in
    ap₂ ◌&&◌
    (starless_same q.shared [] no_star (bit w) c.whole hw ∙ eval-outside m s w h c.whole sc.whole)
    (starless_same q.shared (q.rows the_row) no_star (bit w) c.each he ∙ eval-inside m s w h c.each sc.each)

pub starts_computed : StartsComputed
unfolding starts
starts_computed m g s w h = clause-at m m.start s w h g.start g.start_whole g.start_each

pub breaks_computed : BreaksComputed
unfolding breaks
breaks_computed m g s w h = ap not (clause-at m m.keep s w h g.keep g.keep_whole g.keep_each)
