-- Code that stands within other code, and where the code of each of a model's expressions stands.
-- Assumes nothing.
use mathlib.Core.Path.{◌≡◌, refl, sym, ap, ◌∙◌, subst}
use mathlib.Core.Logic.{◌⊎◌, inl, inr, ⊎_elim}
use mathlib.Core.List.{List, [], ◌∷◌, ◌++◌, map, append_assoc, append-nil}
use Prim.Native.Nat.{ℕ, ◌+◌}
use Rattle.notation.specs.Model as M
use Rattle.notation.specs.Model.{Expr, RowItem, put_row, Item, for, Command, Model, Place}
use Rattle.notation.specs.Layout.{expr_code, row_item_code, row_items_code, item_code, items_code, command_code, segments, joined, layout_of, STORE, WHEN, OTHERWISE, DONE}
use Rattle.notation.specs.Regular.{Among}
use Rattle.notation.specs.Expressions.{StandsIn, of_start, of_start_each, of_keep, of_keep_each, of_test, of_assignment, of_condition, of_row_item}
use Rattle.notation.proofs.Members.{among_split}

pub record Within (piece all : List ℕ) : Type 0 where
  pub before : List ℕ
  pub after : List ℕ
  pub here : all ≡ before ++ piece ++ after

itself : (p : List ℕ) → Within p p
itself p = record { before = []; after = []; here = sym (append-nil p) }

behind : (xs : List ℕ) {p q : List ℕ} → Within p q → Within p (xs ++ q)
behind xs {p} {q} w = record {
  before = xs ++ w.before;
  after = w.after;
  here = ap (λ (l : List ℕ). xs ++ l) w.here ∙ sym (append_assoc xs (w.before ++ p) w.after)
      ∙ ap (λ (l : List ℕ). l ++ w.after) (sym (append_assoc xs w.before p));
}

pub ahead : (ys : List ℕ) {p q : List ℕ} → Within p q → Within p (q ++ ys)
ahead ys {p} {q} w = record {
  before = w.before;
  after = w.after ++ ys;
  here = ap (λ (l : List ℕ). l ++ ys) w.here ∙ append_assoc (w.before ++ p) w.after ys;
}

through : {p q r : List ℕ} → Within p q → Within q r → Within p r
through {p} {q} {r} v w = subst (Within p) (sym w.here) (ahead w.after (behind w.before v))

-- The code of one stands within that of all, where g of a list is f of its elements, one after the other.
each_within : {A : Type 0} (f : A → List ℕ) (g : List A → List ℕ) → ((x : A) (xs : List A) → g (x ∷ xs) ≡ f x ++ g xs) → (x : A) (xs : List A) → Among x xs → Within (f x) (g xs)
each_within f g e x [] h = absurd h
each_within f g e x (y ∷ ys) (inl q) = subst (Within (f x)) (sym (e y ys)) (ahead (g ys) (subst (λ z. Within (f x) (f z)) q (itself (f x))))
each_within f g e x (y ∷ ys) (inr h) = subst (Within (f x)) (sym (e y ys)) (behind (f y) (each_within f g e x ys h))

-- The code of a test t with two branches c and d.
abbrev branched : List ℕ → List ℕ → List ℕ → List ℕ
branched t c d = t ++ (WHEN ∷ c ++ (OTHERWISE ∷ d ++ (DONE ∷ [])))

tested : (t c d : List ℕ) → Within t (branched t c d)
tested t c d = ahead (WHEN ∷ c ++ (OTHERWISE ∷ d ++ (DONE ∷ []))) (itself t)

in_branch : (t c d : List ℕ) {p : List ℕ} → Within p c ⊎ Within p d → Within p (branched t c d)
in_branch t c d (inl w) = behind t (behind (WHEN ∷ []) (ahead (OTHERWISE ∷ d ++ (DONE ∷ [])) w))
in_branch t c d (inr w) = behind t (behind (WHEN ∷ []) (behind c (behind (OTHERWISE ∷ []) (ahead (DONE ∷ []) w))))

-- An element of either branch.
module _ {A : Type 0} (f : A → List ℕ) (g : List A → List ℕ) (e : (x : A) (xs : List A) → g (x ∷ xs) ≡ f x ++ g xs) where
  in_branches : (t : List ℕ) (x : A) (xs ys : List A) → Among x (xs ++ ys) → Within (f x) (branched t (g xs) (g ys))
  in_branches t x xs ys h =
      in_branch t (g xs) (g ys) (⊎_elim (λ a. inl (each_within f g e x xs a)) (λ b. inr (each_within f g e x ys b)) (among_split x xs ys h))

-- a is the number of shared names.
module _ (a : ℕ) where
  row_next : (x : RowItem) (xs : List RowItem) → row_items_code a (x ∷ xs) ≡ row_item_code a x ++ row_items_code a xs
  unfolding row_items_code
  row_next x xs = refl

  item-next : (x : Item) (xs : List Item) → items_code a (x ∷ xs) ≡ item_code a x ++ items_code a xs
  unfolding items_code
  item-next x xs = refl

  command-next : (k : Command) (ks : List Command) → joined (map (command_code a) (k ∷ ks)) ≡ command_code a k ++ joined (map (command_code a) ks)
  unfolding joined
  command-next k ks = refl

  item-within : (k : Command) (x : Item) → Among x (k.do_items ++ k.else_items) → Within (item_code a x) (command_code a k)
  unfolding command_code
  item-within k x h = in_branches (item_code a) (items_code a) item-next (expr_code a k.test) x k.do_items k.else_items h

  row_within : (c : Expr) (ys ns : List RowItem) (x : RowItem) → Among x (ys ++ ns) → Within (row_item_code a x) (item_code a (for c ys ns))
  unfolding item_code
  row_within c ys ns x h = in_branches (row_item_code a) (row_items_code a) row_next (expr_code a c) x ys ns h

  test-within : (k : Command) → Within (expr_code a k.test) (command_code a k)
  unfolding command_code
  test-within k = tested (expr_code a k.test) (items_code a k.do_items) (items_code a k.else_items)

  condition_within : (c : Expr) (ys ns : List RowItem) → Within (expr_code a c) (item_code a (for c ys ns))
  unfolding item_code
  condition_within c ys ns = tested (expr_code a c) (row_items_code a ys) (row_items_code a ns)

  put-within : (j : ℕ) (e : Expr) → Within (expr_code a e) (item_code a (M.put j e))
  unfolding item_code
  put-within j e = ahead ((STORE + j) ∷ []) (itself (expr_code a e))

  put-row-within : (j : ℕ) (e : Expr) → Within (expr_code a e) (row_item_code a (put_row j e))
  unfolding row_item_code
  put-row-within j e = ahead ((STORE + (a + j)) ∷ []) (itself (expr_code a e))

-- The code of each expression of a model stands within the model's code.
module _ (m : Model) where
  abbrev a : ℕ
  a = m.shared_names

  command-within : (k : Command) → Among k m.commands → Within (command_code a k) (layout_of m).code
  unfolding layout_of segments joined
  command-within k h =
      behind (expr_code a m.start.whole)
      (behind (expr_code a m.start.each)
      (behind (expr_code a m.keep.whole)
      (behind (expr_code a m.keep.each)
      (each_within (command_code a) (λ ks. joined (map (command_code a) ks)) (command-next a) k m.commands h))))

  pub stands-within : {p : Place} {e : Expr} → StandsIn m p e → Within (expr_code a e) (layout_of m).code
  unfolding layout_of segments joined
  stands-within of_start = ahead _ (itself (expr_code a m.start.whole))
  stands-within of_start_each = behind (expr_code a m.start.whole) (ahead _ (itself (expr_code a m.start.each)))
  stands-within of_keep =
      behind (expr_code a m.start.whole) (behind (expr_code a m.start.each) (ahead _ (itself (expr_code a m.keep.whole))))
  stands-within of_keep_each =
      behind (expr_code a m.start.whole)
      (behind (expr_code a m.start.each) (behind (expr_code a m.keep.whole) (ahead _ (itself (expr_code a m.keep.each)))))
  stands-within (of_test k h) = through (test-within a k) (command-within k h)
  stands-within (of_assignment k j e h i) = through (put-within a j e) (through (item-within a k (M.put j e) i) (command-within k h))
  stands-within (of_condition k e ys ns h i) = through (condition_within a e ys ns) (through (item-within a k (for e ys ns) i) (command-within k h))
  stands-within (of_row_item k c ys ns j e h i l) =
      through (put-row-within a j e) (through (row_within a c ys ns (put_row j e) l) (through (item-within a k (for c ys ns) i) (command-within k h)))
