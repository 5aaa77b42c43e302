-- A step depends on the choices of its command's own stars only. So in a table of one row each choice does what a choice word does.
-- Assumes nothing.
use mathlib.Core.Path.{◌≡◌, refl, sym, ap, ap₂, ◌∙◌}
use mathlib.Core.Bool.{Bool, false, cond, not, ◌&&◌, ◌||◌}
use mathlib.Core.List.{List, [], ◌∷◌, ◌++◌, map}
use Prim.Native.Nat.{ℕ, suc, ◌+◌, ◌<◌}
use native.Mathlib.Nat.{add-zero, zero-add, suc-add, add-suc}
use lib.ListN.{get_or, set, length-map}
use Rattle.notation.specs.Model.{Expr, lit, star, shared, row, neg, conj, disj, RowItem, skip_row, put_row, Item, skip, put, for, Command, Place, outside, inside, Star, stars_expr, stars_row, stars_items, stars}
use Rattle.notation.specs.Regular.{Every, NumberedFrom}
use Rattle.meaning.specs.Meaning.{State, Choice, table_scope, row_scope, eval, run_row, run_item, run_items, step}
use Rattle.meaning.specs.Bits.{bit, number}
use Rattle.meaning.specs.OneRow.{One, the_row, spread_word, word_count}
use Rattle.notation.proofs.Members.{weaken}
use Rattle.meaning.proofs.Lists.{left, right, taken}
use Rattle.meaning.proofs.Number.{bit-number, number_lt, one-is}

-- c and d agree wherever P holds of a star at the place k: they give an expression there one value
module _ (P : Star → Type 0) (k : Place) (c d : ℕ → Bool) (same : (j : ℕ) → P (record { place = k; index = j }) → c j ≡ d j) where
  pub eval-same : (g r : List Bool) (e : Expr) → Every P (stars_expr k e) → eval (row_scope c g r) e ≡ eval (row_scope d g r) e
  unfolding eval stars_expr
  eval-same g r (lit b) h = refl
  eval-same g r (star j) h = same j h.0
  eval-same g r (shared j) h = refl
  eval-same g r (row j) h = refl
  eval-same g r (neg e) h = ap not (eval-same g r e h)
  eval-same g r (conj a b) h =
      ap₂ ◌&&◌ (eval-same g r a (left P (stars_expr k a) (stars_expr k b) h)) (eval-same g r b (right P (stars_expr k a) (stars_expr k b) h))
  eval-same g r (disj a b) h =
      ap₂ ◌||◌ (eval-same g r a (left P (stars_expr k a) (stars_expr k b) h)) (eval-same g r b (right P (stars_expr k a) (stars_expr k b) h))

module _ (P : Star → Type 0) (c d : ℕ → Bool) (same : (j : ℕ) → P (record { place = inside; index = j }) → c j ≡ d j) where
  row_same : (g : List Bool) (xs : List RowItem) (r : List Bool) → Every P (stars_row xs) → run_row c g xs r ≡ run_row d g xs r
  unfolding run_row stars_row
  row_same g [] r h = refl
  row_same g (skip_row ∷ xs) r h = row_same g xs r h
  row_same g (put_row j e ∷ xs) r h =
      row_same g xs (set r j (eval (row_scope c g r) e)) (right P (stars_expr inside e) (stars_row xs) h)
      ∙ ap (λ (b : Bool). run_row d g xs (set r j b)) (eval-same P inside c d same g r e (left P (stars_expr inside e) (stars_row xs) h))

-- c and d agree on the star j, inside a `for` or outside
abbrev pub SameAt : {I : Type 0} → Choice I → Choice I → Place → ℕ → Type 0
SameAt c d outside j = c.outer j ≡ d.outer j
SameAt {I} c d inside j = (i : I) → c.inner i j ≡ d.inner i j

module _ {I : Type 0} (c d : Choice I) where
  -- c and d agree on the star
  abbrev Agree : Star → Type 0
  Agree s = SameAt c d s.place s.index

  for-same : (e : Expr) (ys ns : List RowItem) (g r : List Bool) (i : I)
      → Every Agree (stars_expr inside e) → Every Agree (stars_row ys) → Every Agree (stars_row ns)
      → run_row (c.inner i) g (cond (eval (row_scope (c.inner i) g r) e) ys ns) r ≡ run_row (d.inner i) g (cond (eval (row_scope (d.inner i) g r) e) ys ns) r
  for-same e ys ns g r i he hy hn =
      ap (λ (b : Bool). run_row (c.inner i) g (cond b ys ns) r) (eval-same Agree inside (c.inner i) (d.inner i) (λ j h. h i) g r e he)
      ∙ row_same Agree (c.inner i) (d.inner i) (λ j h. h i) g (cond (eval (row_scope (d.inner i) g r) e) ys ns) r
      (taken (λ xs. Every Agree (stars_row xs)) (eval (row_scope (d.inner i) g r) e) ys ns hy hn)

  items-same : (xs : List Item) (s : State I) → Every Agree (stars_items xs) → run_items c xs s ≡ run_items d xs s
  unfolding run_items run_item stars_items
  items-same [] s h = refl
  items-same (skip ∷ xs) s h = items-same xs s h
  items-same (put j e ∷ xs) s h =
      items-same xs (run_item c (put j e) s) (right Agree (stars_expr outside e) (stars_items xs) h)
      ∙ ap (λ (b : Bool). run_items d xs (record { shared = set s.shared j b; rows = s.rows }))
      (eval-same Agree outside c.outer d.outer (λ n k. k) s.shared [] e (left Agree (stars_expr outside e) (stars_items xs) h))
  items-same (for e ys ns ∷ xs) s h =
      let h₁ = left Agree (stars_expr inside e ++ stars_row ys ++ stars_row ns) (stars_items xs) h in
      let h₂ = left Agree (stars_expr inside e ++ stars_row ys) (stars_row ns) h₁ in
      items-same xs (run_item c (for e ys ns) s) (right Agree (stars_expr inside e ++ stars_row ys ++ stars_row ns) (stars_items xs) h)
      ∙ ap (λ (q : I → List Bool). run_items d xs (record { shared = s.shared; rows = q }))
      (λ t i.
      for-same e ys ns s.shared (s.rows i) i
      (left Agree (stars_expr inside e) (stars_row ys) h₂)
      (right Agree (stars_expr inside e) (stars_row ys) h₂)
      (right Agree (stars_expr inside e ++ stars_row ys) (stars_row ns) h₁)
      t)

  pub step_same : (k : Command) (s : State I) → Every Agree (stars k) → step k c s ≡ step k d s
  unfolding step stars
  step_same k s h =
      let h₁ = left Agree (stars_expr outside k.test ++ stars_items k.do_items) (stars_items k.else_items) h in
      ap (λ (b : Bool). run_items c (cond b k.do_items k.else_items) s)
      (eval-same Agree outside c.outer d.outer (λ n q. q) s.shared [] k.test
      (left Agree (stars_expr outside k.test) (stars_items k.do_items) h₁))
      ∙ items-same (cond (eval (table_scope d.outer s.shared) k.test) k.do_items k.else_items) s
      (taken (λ xs. Every Agree (stars_items xs)) (eval (table_scope d.outer s.shared) k.test) k.do_items k.else_items
      (right Agree (stars_expr outside k.test) (stars_items k.do_items) h₁)
      (right Agree (stars_expr outside k.test ++ stars_items k.do_items) (stars_items k.else_items) h))

-- The choice word of a choice in a table of one row: the bits of the command's stars, in text order.
abbrev pub bit_at : Choice One → Place → ℕ → Bool
bit_at c outside j = c.outer j
bit_at c inside j = c.inner the_row j

abbrev pub chosen : Choice One → Star → Bool
chosen c s = bit_at c s.place s.index

unfoldable pub word_of : Command → Choice One → ℕ
word_of k c = number (map (chosen c) (stars k))

pub word_of_lt : (k : Command) (c : Choice One) → word_of k c < word_count k
unfolding word_of
word_of_lt k c = rw (← (length-map (stars k) (chosen c))) (number_lt (map (chosen c) (stars k)))

numbered-same : (f : Star → Bool) (g : ℕ → Bool) (i : ℕ) (l : List Star) → NumberedFrom i l
    → ((n : ℕ) → g (i + n) ≡ get_or (map f l) n false) → Every (λ s. f s ≡ g s.index) l
numbered-same f g i [] h e = tt
numbered-same f g i (s ∷ ss) h e = (
  sym (e 0) ∙ ap g (add-zero i ∙ sym h.0),
  numbered-same f g (suc i) ss h.1 (λ n. ap g (suc-add i n ∙ sym (add-suc i n)) ∙ e (suc n)),
)

same_of : (c : Choice One) (w : ℕ) (k : Place) (j : ℕ) → bit_at c k j ≡ bit w j → SameAt c (spread_word One w) k j
unfolding spread_word
same_of c w inside j h = λ i. ap (λ (o : One). c.inner o j) (one-is i) ∙ h
same_of c w outside j h = h

pub step-word : (k : Command) → NumberedFrom 0 (stars k) → (c : Choice One) (s : State One) → step k c s ≡ step k (spread_word One (word_of k c)) s
unfolding word_of
step-word k h c s =
    step_same c (spread_word One (word_of k c)) k s
    (weaken (λ (x : Star). chosen c x ≡ bit (word_of k c) x.index) (Agree c (spread_word One (word_of k c)))
    (λ x e. same_of c (word_of k c) x.place x.index e)
    (stars k)
    (numbered-same (chosen c) (bit (word_of k c)) 0 (stars k) h
    (λ n. ap (bit (word_of k c)) (zero-add n) ∙ bit-number (map (chosen c) (stars k)) n)))
