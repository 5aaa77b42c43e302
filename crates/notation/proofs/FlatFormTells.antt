-- The flat form tells the model: a reader of code words, which keeps a stack of expressions and a stack of lists of items, gives the model back.
-- Assumes nothing.
use mathlib.Core.Path.{◌≡◌, refl, sym, ◌∙◌, ap, subst}
use mathlib.Core.Bool.{false, true, cond}
use mathlib.Core.List.{List, [], ◌∷◌, ◌++◌, map, append_assoc, append-nil}
use Prim.Native.Nat.{ℕ, suc, ◌+◌, ◌-◌, ◌*◌, ◌/◌, ◌%◌, ◌≤◌, ◌<◌}
use native.Mathlib.Nat.{add-sub_cancel_left}
use native.Mathlib.Omega.{arith}
use lib.Dec.{eqb, ltb}
use lib.ListN.{length, get_or, take, drop}
use lib.Seq.{take-append_seam, drop-append_seam}
use borrow.Author.Tests.{lt-ltb, le-ltb}
use Rattle.notation.specs.Model.{Expr, lit, star, shared, row, neg, conj, disj, RowItem, skip_row, put_row, Item, skip, put, for, Command, Model, Place, Star, outside, inside, stars_expr, stars_row, stars_items, stars}
use Rattle.notation.specs.Layout.{expr_code, row_item_code, row_items_code, item_code, items_code, command_code, segments, joined, ends_from, Layout, layout_of}
use Rattle.notation.specs.Regular.{Every, NumberedFrom, Scoped, ScopedRow, ScopedItem, ScopedCommand, Starless, Regular}
use Rattle.notation.specs.Promises.{LayoutTells}

-- ---- the reader

-- What the words read so far leave: expressions and lists of items, the latest first.
record Left : Type 0 where
  exprs : List Expr
  lists : List (List Item)

abbrev left : List Expr → List (List Item) → Left
left es ls = record { exprs = es; lists = ls }

abbrev top : Left → Expr
top s = get_or s.exprs 0 (lit false)

abbrev pop : Left → Left
pop s = left (drop 1 s.exprs) s.lists

abbrev push : Expr → Left → Left
push e s = left (e ∷ s.exprs) s.lists

abbrev two : (Expr → Expr → Expr) → Left → Left
two f s = push (f (top (pop s)) (top s)) (pop (pop s))

abbrev list : ℕ → Left → List Item
list i s = get_or s.lists i []

abbrev add : Item → Left → Left
add x s = left s.exprs ((list 0 s ++ x ∷ []) ∷ drop 1 s.lists)

abbrev begin : Left → Left
begin s = left s.exprs ([] ∷ s.lists)

-- a is the number of shared names.
module _ (a : ℕ) where
  abbrev name : ℕ → Expr
  name j = cond (ltb j a) (shared j) (row (j - a))

  -- A row item is read as an item, and turned back where its `for` ends.
  abbrev item_of : RowItem → Item
  item_of skip_row = skip
  item_of (put_row j e) = put (a + j) e

  abbrev row_of : Item → RowItem
  row_of skip = skip_row
  row_of (put j e) = put_row (j - a) e
  row_of (for e ys ns) = skip_row

  -- The end of a `for`. The end of a command, which has no list below its two, leaves all as it is.
  abbrev close : Expr → List Expr → List (List Item) → Left
  close e es (ns ∷ ys ∷ l ∷ ls) = left es ((l ++ for e (map row_of ys) (map row_of ns) ∷ []) ∷ ls)
  close e es (ns ∷ ys ∷ []) = left (e ∷ es) (ns ∷ ys ∷ [])
  close e es (ns ∷ []) = left (e ∷ es) (ns ∷ [])
  close e es [] = left (e ∷ es) []

  -- What a word of each kind does, from its argument.
  abbrev acts : List (ℕ → Left → Left)
  acts =
      (λ j s. push (lit (eqb j 1)) s) ∷ (λ j s. push (name j) s) ∷ (λ j s. push (star j) s) ∷
      (λ j s. push (neg (top s)) (pop s)) ∷ (λ j s. two conj s) ∷ (λ j s. two disj s) ∷
      (λ j s. add (put j (top s)) (pop s)) ∷
      (λ j s. begin s) ∷ (λ j s. begin s) ∷ (λ j s. close (top s) (pop s).exprs s.lists) ∷
      (λ j s. add skip s) ∷ []

  abbrev act : ℕ → Left → Left
  act w s = get_or acts (w / 32) (λ j s. s) (w % 32) s

  abbrev run : List ℕ → Left → Left
  run [] s = s
  run (w ∷ ws) s = run ws (act w s)

  abbrev expr_in : List ℕ → Expr
  expr_in c = top (run c (left [] []))

  abbrev command_in : List ℕ → Command
  command_in c = let s = run c (left [] []) in record { test = top s; do_items = list 1 s; else_items = list 0 s }

  run-append : (xs ys : List ℕ) (s : Left) → run (xs ++ ys) s ≡ run ys (run xs s)
  run-append [] ys s = refl
  run-append (x ∷ xs) ys s = run-append xs ys (act x s)

  act-at : (k j : ℕ) → j < 32 → (s : Left) → act (k * 32 + j) s ≡ get_or acts k (λ j s. s) j s
  act-at k j h s =
      let p : (k * 32 + j) / 32 ≡ k = omega arith in
      let q : (k * 32 + j) % 32 ≡ j = omega arith in
      rw (p, q)

  rows_back : (xs : List RowItem) → map row_of (map item_of xs) ≡ xs
  rows_back [] = refl
  rows_back (skip_row ∷ xs) = rw (rows_back xs)
  rows_back (put_row j e ∷ xs) = rw (add-sub_cancel_left, rows_back xs)

-- ---- the numbers of stars are arguments

abbrev Few : List Star → Type 0
Few ss = Every (λ s. s.index < 32) ss

numbered-few : (i : ℕ) (ss : List Star) → NumberedFrom i ss → i + length ss ≤ 32 → Few ss
numbered-few i [] h l = tt
numbered-few i (s ∷ ss) h l = (omega arith, numbered-few (suc i) ss h.1 (omega arith))

few_split : (ss ts : List Star) → Few (ss ++ ts) → Few ss × Few ts
few_split [] ts h = (tt, h)
few_split (s ∷ ss) ts h = let g = few_split ss ts h.1 in ((h.0, g.0), g.1)

-- ---- each part is read back, a the number of shared names and b that of row names

module _ (a b : ℕ) (few : a + b ≤ 32) where
  read_expr : (p : Place) (e : Expr) → Scoped a b e → Few (stars_expr p e) → (s : Left) → run a (expr_code a e) s ≡ push e s
  unfolding expr_code stars_expr
  read_expr p (lit false) o h s = refl
  read_expr p (lit true) o h s = refl
  read_expr p (star j) o h s = act-at a 2 j h.0 s
  read_expr p (shared j) o h s = act-at a 1 j (omega arith) s ∙ rw (lt-ltb j a)
  read_expr p (row j) o h s = act-at a 1 (a + j) (omega arith) s ∙ rw (le-ltb (a + j) a (omega arith), add-sub_cancel_left)
  read_expr p (neg e) o h s = rw (run-append, read_expr p e o h)
  read_expr p (conj e f) o h s =
      let g = few_split (stars_expr p e) (stars_expr p f) h in
      rw (run-append, read_expr p e o.0 g.0, run-append, read_expr p f o.1 g.1)
  read_expr p (disj e f) o h s =
      let g = few_split (stars_expr p e) (stars_expr p f) h in
      rw (run-append, read_expr p e o.0 g.0, run-append, read_expr p f o.1 g.1)

  read-segment : (e : Expr) → Scoped a b e → Starless e → expr_in a (expr_code a e) ≡ e
  read-segment e o h = rw (read_expr outside e o (subst Few (sym h) tt))

module _ (a b : ℕ) (few : a + b ≤ 32) where
  read-rows : (xs : List RowItem) → Every (ScopedRow a b) xs → Few (stars_row xs) → (es : List Expr) (l : List Item) (ls : List (List Item)) →
      run a (row_items_code a xs) (left es (l ∷ ls)) ≡ left es ((l ++ map (item_of a) xs) ∷ ls)
  unfolding row_items_code row_item_code stars_row
  read-rows [] o h es l ls = rw append-nil
  read-rows (skip_row ∷ xs) o h es l ls = rw (read-rows xs o.1 h, append_assoc)
  read-rows (put_row j e ∷ xs) o h es l ls =
      let g = few_split (stars_expr inside e) (stars_row xs) h in
      let k : a + j < 32 = omega (arith, o.0.0) in
      rw (run-append, run-append, read_expr a b few inside e o.0.1 g.0, act-at a 6 (a + j) k, read-rows xs o.1 g.1, append_assoc)

  read-items : (xs : List Item) → Every (ScopedItem a b) xs → Few (stars_items xs) → (es : List Expr) (l : List Item) (ls : List (List Item)) →
      run a (items_code a xs) (left es (l ∷ ls)) ≡ left es ((l ++ xs) ∷ ls)
  unfolding items_code item_code stars_items
  read-items [] o h es l ls = rw append-nil
  read-items (skip ∷ xs) o h es l ls = rw (read-items xs o.1 h, append_assoc)
  read-items (put j e ∷ xs) o h es l ls =
      let g = few_split (stars_expr outside e) (stars_items xs) h in
      let k : j < 32 = omega (arith, o.0.0) in
      rw (run-append, run-append, read_expr a 0 (omega arith) outside e o.0.1 g.0, act-at a 6 j k, read-items xs o.1 g.1, append_assoc)
  read-items (for e ys ns ∷ xs) o h es l ls =
      let f = few_split (stars_expr inside e ++ stars_row ys ++ stars_row ns) (stars_items xs) h in
      let g = few_split (stars_expr inside e ++ stars_row ys) (stars_row ns) f.0 in
      let k = few_split (stars_expr inside e) (stars_row ys) g.0 in
      rw (
        run-append,
        run-append,
        read_expr a b few inside e o.0.0 k.0,
        run-append,
        read-rows ys o.0.1 k.1,
        run-append,
        read-rows ns o.0.2 g.1,
        rows_back a ys,
        rows_back a ns,
        read-items xs o.1 f.1,
        append_assoc,
      )

  read-command : (k : Command) → ScopedCommand a b k → Few (stars k) → command_in a (command_code a k) ≡ k
  unfolding command_code stars
  read-command k o h =
      let f = few_split (stars_expr outside k.test ++ stars_items k.do_items) (stars_items k.else_items) h in
      let g = few_split (stars_expr outside k.test) (stars_items k.do_items) f.0 in
      rw (
        run-append,
        read_expr a 0 (omega arith) outside k.test o.test g.0,
        run-append,
        read-items k.do_items o.do_items g.1,
        run-append,
        read-items k.else_items o.else_items f.1,
      )

  read-commands : (ks : List Command) → Every (ScopedCommand a b) ks → Every (λ k. NumberedFrom 0 (stars k)) ks → Every (λ k. length (stars k) ≤ 8) ks →
      map (command_in a) (map (command_code a) ks) ≡ ks
  read-commands [] o n l = refl
  read-commands (k ∷ ks) o n l =
      rw (read-command k o.0 (numbered-few 0 (stars k) n.0 (omega (arith, l.0))), read-commands ks o.1 n.1 l.1)

-- ---- the segments are cut at their ends

abbrev cuts : ℕ → List ℕ → List ℕ → List (List ℕ)
cuts i [] c = []
cuts i (e ∷ es) c = take (e - i) c ∷ cuts e es (drop (e - i) c)

cuts_back : (i : ℕ) (ss : List (List ℕ)) → cuts i (ends_from i ss) (joined ss) ≡ ss
unfolding ends_from joined
cuts_back i [] = refl
cuts_back i (s ∷ ss) = rw (add-sub_cancel_left, take-append_seam, drop-append_seam, cuts_back (i + length s) ss)

-- ---- the model

abbrev model_in : Layout → Model
model_in l =
    let ss = cuts 0 l.ends l.code in
    let expr : ℕ → Expr = λ i. expr_in l.shared (get_or ss i []) in
    record {
      shared_names = l.shared;
      row_names = l.row;
      start = record { whole = expr 0; each = expr 1 };
      keep = record { whole = expr 2; each = expr 3 };
      commands = map (command_in l.shared) (drop 4 ss);
    }

model-back : (m : Model) → Regular m → model_in (layout_of m) ≡ m
unfolding layout_of segments
model-back m r =
    let few : m.shared_names + m.row_names ≤ 32 = omega (arith, r.few_names) in
    let none : m.shared_names + 0 ≤ 32 = omega arith in
    rw (
      cuts_back 0 (segments m),
      read-segment _ _ none m.start.whole r.start.whole r.start_whole,
      read-segment _ _ few m.start.each r.start.each r.start_each,
      read-segment _ _ none m.keep.whole r.keep.whole r.keep_whole,
      read-segment _ _ few m.keep.each r.keep.each r.keep_each,
      read-commands _ _ few m.commands r.scoped r.numbered r.few_stars,
    )

pub layout_tells : LayoutTells
layout_tells m n r s e = sym (model-back m r) ∙ ap model_in e ∙ model-back n s
