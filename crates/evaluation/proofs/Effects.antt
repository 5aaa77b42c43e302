-- Running the code of items and of a command gives the one-row step on numbers.
-- Assumes nothing.
use Prim.Native.Nat.{ℕ, ◌+◌, ◌-◌, ◌*◌, ◌/◌, ◌%◌, ◌^◌, ◌≤◌, ◌<◌}
use mathlib.Core.Path.{◌≡◌, refl, ap, ◌∙◌}
use mathlib.Core.List.{List, [], ◌∷◌, ◌++◌}
use mathlib.Core.Bool.{Bool, true, false, not, ◌&&◌, cond}
use native.Mathlib.Nat.{mod-eq_of_lt}
use native.Mathlib.Omega.{arith}
use lib.Dec.{eqb}
use Rattle.notation.specs.Model as M
use Rattle.notation.specs.Model.{Expr, RowItem, skip_row, put_row, Item, skip, for, Command, Place, outside, inside, stars_expr, stars_row, stars_items, stars}
use Rattle.notation.specs.Layout.{expr_code, row_item_code, row_items_code, item_code, items_code, command_code, STORE, WHEN, OTHERWISE, DONE, PASS}
use Rattle.notation.specs.Regular.{Every, Scoped, ScopedRow, ScopedItem, ScopedCommand, Low, LowRow, LowItem, LowCommand}
use Rattle.evaluation.specs.declared.machine.Machine.{Machine}
use Rattle.evaluation.specs.working.CodeMachine.{node_kind, kind_of, step_of, run_of, start_of}
use Rattle.meaning.specs.working.Digits.{put}
use Rattle.meaning.specs.working.OnNumbers.{with_bit, eval_at, row_items_at, items_at, step_at}
use Rattle.evaluation.proofs.CodeRuns.{run-append}
use Rattle.evaluation.proofs.Values.{mach, mach_cong, num, num_lt, num_and, Below, below_parts, runs}

-- The code changes the state by f if the mask on top is on, and nothing else, where the masks below it are a number below n.
abbrev Does : ℕ → ℕ → List ℕ → (ℕ → ℕ) → Type 0
Does w n code f =
    (q : ℕ) (on : Bool) (s : ℕ) → q < n → run_of code w (mach 0 (q * 2 + num on) s) ≡ mach 0 (q * 2 + num on) (cond on (f s) s)

half : (t : ℕ) (b : Bool) → (t * 2 + num b) / 2 ≡ t
half t false = omega arith
half t true = omega arith

low_bit : (t : ℕ) (b : Bool) → (t * 2 + num b) % 2 ≡ num b
low_bit t false = omega arith
low_bit t true = omega arith

num_else : (on v : Bool) → (num on + (1 - num (on && v))) / 2 ≡ num (on && not v)
num_else false false = refl
num_else false true = refl
num_else true false = refl
num_else true true = refl

-- ---- code words

module _ (w : ℕ) where
  step_store : (t q s i : ℕ) (on v : Bool) → i < 32
      → step_of (STORE + i) w (mach (t * 2 + num v) (q * 2 + num on) s) ≡ mach t (q * 2 + num on) (cond on (with_bit s i v) s)
  unfolding kind_of
  step_store t q s i on v h =
      let p : (192 + i) / 32 ≡ 6 = omega arith in
      let r : (192 + i) % 32 ≡ i = omega arith in
      rw (p, r, low_bit q on, low_bit t v, half t v) (go on)
    where
      go : (b : Bool) → cond (eqb (num b) 0) (mach t (q * 2 + num on) s) (mach t (q * 2 + num on) (put s i (num v))) ≡ mach t (q * 2 + num on) (cond b (put s i (num v)) s)
      go false = refl
      go true = refl

  step_when : (t q s : ℕ) (on v : Bool) → q < 2 ^ 30
      → step_of WHEN w (mach (t * 2 + num v) (q * 2 + num on) s) ≡ mach t ((q * 2 + num on) * 2 + num (on && v)) s
  unfolding kind_of
  step_when t q s on v h =
      let m = q * 2 + num on in
      let b = num_lt on in
      let e : m * 2 % 2 ^ 32 ≡ m * 2 = mod-eq_of_lt (omega arith) in
      mach_cong (half t v) (rw (e, low_bit t v) (ap (λ (x : ℕ). m * 2 + x) (ap (λ (y : ℕ). (y + num v) / 2) (low_bit q on) ∙ swap (num on) (num v) ∙ num_and on v))) refl
    where
      swap : (x y : ℕ) → (x + y) / 2 ≡ (y + x) / 2
      swap x y = omega arith

  step_otherwise : (t q s : ℕ) (on v : Bool)
      → step_of OTHERWISE w (mach t ((q * 2 + num on) * 2 + num (on && v)) s) ≡ mach t ((q * 2 + num on) * 2 + num (on && not v)) s
  unfolding kind_of
  step_otherwise t q s on v =
      let m = q * 2 + num on in
      mach_cong refl
      (rw (half m (on && v), low_bit m (on && v))
      (ap (λ (x : ℕ). m * 2 + x) (ap (λ (y : ℕ). (y + (1 - num (on && v))) / 2) (low_bit q on) ∙ num_else on v)))
      refl

  step-done : (t m s : ℕ) (b : Bool) → step_of DONE w (mach t (m * 2 + num b) s) ≡ mach t m s
  unfolding kind_of
  step-done t m s b = mach_cong refl (half m b) refl

  step-pass : (m : Machine) → step_of PASS w m ≡ m
  unfolding kind_of node_kind
  step-pass m = refl

-- ---- parts of items

module _ (w n : ℕ) where
  does_none : Does w n [] (λ s. s)
  does_none q false s h = refl
  does_none q true s h = refl

  does_pass : Does w n (PASS ∷ []) (λ s. s)
  does_pass q on s h = step-pass w (mach 0 (q * 2 + num on) s) ∙ does_none q on s h

  does_then : (c d : List ℕ) (f g : ℕ → ℕ) → Does w n c f → Does w n d g → Does w n (c ++ d) (λ s. g (f s))
  does_then c d f g x y q on s h =
      run-append c d w (mach 0 (q * 2 + num on) s)
      ∙ ap (run_of d w) (x q on s h)
      ∙ y q on (cond on (f s) s) h
      ∙ mach_cong refl refl (both on)
    where
      both : (b : Bool) → cond b (g (cond b (f s) s)) (cond b (f s) s) ≡ cond b (g (f s)) s
      both false = refl
      both true = refl

module _ (a b w n : ℕ) (few : a + b ≤ 32) (p : Place) (e : Expr) (o : Scoped a b e) (z : Below (stars_expr p e)) (low : Low e) where
  value : (m s : ℕ) → run_of (expr_code a e) w (mach 0 m s) ≡ mach (0 * 2 + num (eval_at a w s e)) m s
  value m s = runs a b w s few p e o z (omega arith) m

  does_put : (i : ℕ) → i < 32 → Does w n (expr_code a e ++ ((STORE + i) ∷ [])) (λ s. with_bit s i (eval_at a w s e))
  does_put i h q on s l =
      run-append (expr_code a e) ((STORE + i) ∷ []) w (mach 0 (q * 2 + num on) s)
      ∙ ap (step_of (STORE + i) w) (value (q * 2 + num on) s)
      ∙ step_store w 0 q s i on (eval_at a w s e) h

  -- A test: the effect is that of x where it holds, and that of y where not.
  does_branch : {A : Type 0} (f : A → ℕ → ℕ) (x y : A) (c d : List ℕ) → n ≤ 2 ^ 30 → Does w (2 * n) c (f x) → Does w (2 * n) d (f y)
      → Does w n (expr_code a e ++ (WHEN ∷ c ++ (OTHERWISE ∷ d ++ (DONE ∷ [])))) (λ s. f (cond (eval_at a w s e) x y) s)
  does_branch f x y c d small first second q on s l =
      let m = q * 2 + num on in
      let v = eval_at a w s e in
      let t = cond (on && v) (f x s) s in
      let u = cond (on && not v) (f y t) t in
      let h : m < 2 * n = let k = num_lt on in omega arith in
      run-append (expr_code a e) (WHEN ∷ c ++ (OTHERWISE ∷ d ++ (DONE ∷ []))) w (mach 0 m s)
      ∙ ap (run_of (WHEN ∷ c ++ (OTHERWISE ∷ d ++ (DONE ∷ []))) w) (value m s)
      ∙ ap (run_of (c ++ (OTHERWISE ∷ d ++ (DONE ∷ []))) w) (step_when w 0 q s on v (omega arith))
      ∙ run-append c (OTHERWISE ∷ d ++ (DONE ∷ [])) w (mach 0 (m * 2 + num (on && v)) s)
      ∙ ap (run_of (OTHERWISE ∷ d ++ (DONE ∷ [])) w) (first m (on && v) s h)
      ∙ ap (run_of (d ++ (DONE ∷ [])) w) (step_otherwise w 0 q t on v)
      ∙ run-append d (DONE ∷ []) w (mach 0 (m * 2 + num (on && not v)) t)
      ∙ ap (step_of DONE w) (second m (on && not v) t h)
      ∙ step-done w 0 m u (on && not v)
      ∙ mach_cong refl refl (chosen on v)
    where
      chosen : (on v : Bool) → cond (on && not v) (f y (cond (on && v) (f x s) s)) (cond (on && v) (f x s) s) ≡ cond on (f (cond v x y) s) s
      chosen false v = refl
      chosen true false = refl
      chosen true true = refl

-- ---- items: a shared and b row names, the choice word w

module _ (a b w : ℕ) (few : a + b ≤ 32) where
  rows_do : (n : ℕ) (xs : List RowItem) → Every (ScopedRow a b) xs → Every LowRow xs → Below (stars_row xs)
      → Does w n (row_items_code a xs) (row_items_at a w xs)
  unfolding row_items_code row_item_code row_items_at stars_row
  rows_do n [] o l z = does_none w n
  rows_do n (skip_row ∷ xs) o l z = does_then w n (PASS ∷ []) (row_items_code a xs) (λ s. s) (row_items_at a w xs) (does_pass w n) (rows_do n xs o.1 l.1 z)
  rows_do n (put_row j e ∷ xs) o l z =
      let y = below_parts (stars_expr inside e) (stars_row xs) z in
      does_then w n (expr_code a e ++ ((STORE + (a + j)) ∷ [])) (row_items_code a xs) (λ s. with_bit s (a + j) (eval_at a w s e)) (row_items_at a w xs)
      (does_put a b w n few inside e o.0.1 y.0 l.0 (a + j) (let h = o.0.0 in omega arith))
      (rows_do n xs o.1 l.1 y.1)

  items_do : (n : ℕ) → n ≤ 2 ^ 30 → (xs : List Item) → Every (ScopedItem a b) xs → Every LowItem xs → Below (stars_items xs)
      → Does w n (items_code a xs) (items_at a w xs)
  unfolding items_code item_code items_at stars_items
  items_do n m [] o l z = does_none w n
  items_do n m (skip ∷ xs) o l z = does_then w n (PASS ∷ []) (items_code a xs) (λ s. s) (items_at a w xs) (does_pass w n) (items_do n m xs o.1 l.1 z)
  items_do n m (M.put j e ∷ xs) o l z =
      let y = below_parts (stars_expr outside e) (stars_items xs) z in
      does_then w n (expr_code a e ++ ((STORE + j) ∷ [])) (items_code a xs) (λ s. with_bit s j (eval_at a w s e)) (items_at a w xs)
      (does_put a 0 w n (omega arith) outside e o.0.1 y.0 l.0 j (let h = o.0.0 in omega arith))
      (items_do n m xs o.1 l.1 y.1)
  items_do n m (for e ys ns ∷ xs) o l z =
      let y = below_parts (stars_expr inside e ++ stars_row ys ++ stars_row ns) (stars_items xs) z in
      let x = below_parts (stars_expr inside e ++ stars_row ys) (stars_row ns) y.0 in
      let r = below_parts (stars_expr inside e) (stars_row ys) x.0 in
      does_then w n (expr_code a e ++ (WHEN ∷ row_items_code a ys ++ (OTHERWISE ∷ row_items_code a ns ++ (DONE ∷ [])))) (items_code a xs)
      (λ s. row_items_at a w (cond (eval_at a w s e) ys ns) s) (items_at a w xs)
      (does_branch a b w n few inside e o.0.0 r.0 l.0.0 (row_items_at a w) ys ns (row_items_code a ys) (row_items_code a ns) m
      (rows_do (2 * n) ys o.0.1 l.0.1 r.1) (rows_do (2 * n) ns o.0.2 l.0.2 x.1))
      (items_do n m xs o.1 l.1 y.1)

  -- The state after a command's code is the command's one-row step.
  pub step_right : (k : Command) (s : ℕ) → ScopedCommand a b k → LowCommand k → Below (stars k)
      → (run_of (command_code a k) w (start_of s)).state ≡ step_at a w k s
  unfolding command_code step_at stars
  step_right k s o l z =
      let y = below_parts (stars_expr outside k.test ++ stars_items k.do_items) (stars_items k.else_items) z in
      let x = below_parts (stars_expr outside k.test) (stars_items k.do_items) y.0 in
      ap (λ (m : Machine). m.state)
      (does_branch a 0 w 1 (omega arith) outside k.test o.test x.0 l.test (items_at a w) k.do_items k.else_items (items_code a k.do_items) (items_code a k.else_items) (omega arith)
      (items_do 2 (omega arith) k.do_items o.do_items l.do_items x.1) (items_do 2 (omega arith) k.else_items o.else_items l.else_items y.1)
      0 true s (omega arith))
