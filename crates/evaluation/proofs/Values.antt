-- An expression's code has a node for each of the expression's and pushes its value.
-- Assumes nothing.
use Prim.Native.Nat.{ℕ, suc, ◌+◌, ◌*◌, ◌/◌, ◌%◌, ◌^◌, ◌≤◌, ◌<◌}
use mathlib.Core.Path.{◌≡◌, refl, sym, ap, ◌∙◌, subst}
use mathlib.Core.List.{List, [], ◌∷◌, ◌++◌}
use mathlib.Core.Bool.{Bool, true, false, not, ◌&&◌, ◌||◌, cond}
use native.Mathlib.Nat.{mod-eq_of_lt}
use native.Mathlib.Omega.{arith}
use lib.Dec.{eqb}
use lib.ListN.{length}
use lib.Pow.{pow_mono, pow-add}
use lib.Arith.{digits_lt}
use borrow.Author.Tests.{ne_eqb}
use Rattle.notation.specs.Model.{Expr, lit, star, shared, row, neg, conj, disj, Place, outside, Star, stars_expr}
use Rattle.notation.specs.Layout.{expr_code, LOAD, CHOOSE, NEGATE, BOTH, EITHER}
use Rattle.notation.specs.Regular.{Every, NumberedFrom, Scoped, Starless, height}
use Rattle.meaning.specs.Bits.{bit}
use Rattle.evaluation.specs.declared.machine.Machine.{Machine}
use Rattle.evaluation.specs.working.CodeMachine.{node_kind, node_of, values_of, value_of, kind_of, step_of, run_of}
use Rattle.meaning.specs.working.OnNumbers.{eval_at}
use Rattle.meaning.proofs.PutBits.{bit-digit}
use Rattle.notation.proofs.Members.{joined}
use Rattle.meaning.proofs.Lists.{left, right}
use Rattle.evaluation.proofs.CodeRuns.{values-append}

abbrev pub mach : ℕ → ℕ → ℕ → Machine
mach t k s = record { stack = t; mask = k; state = s }

pub mach_cong : {t t' k k' s s' : ℕ} → t ≡ t' → k ≡ k' → s ≡ s' → mach t k s ≡ mach t' k' s'
mach_cong p q r = cc

-- A truth as a bit.
abbrev pub num : Bool → ℕ
num b = cond b 1 0

pub num_lt : (b : Bool) → num b < 2
num_lt false = omega arith
num_lt true = omega arith

pub num_and : (a b : Bool) → (num b + num a) / 2 ≡ num (a && b)
num_and false false = refl
num_and false true = refl
num_and true false = refl
num_and true true = refl

num_or : (a b : Bool) → (num b + num a + 1) / 2 ≡ num (a || b)
num_or false false = refl
num_or false true = refl
num_or true false = refl
num_or true true = refl

-- ---- the stars whose numbers are arguments of code words

abbrev pub Below : List Star → Type 0
Below ss = Every (λ x. x.index < 32) ss

pub below_parts : (xs ys : List Star) → Below (xs ++ ys) → Below xs × Below ys
below_parts xs ys h = (left _ xs ys h, right _ xs ys h)

pub numbered_below : (i : ℕ) (ss : List Star) → NumberedFrom i ss → i + length ss ≤ 32 → Below ss
numbered_below i [] h l = tt
numbered_below i (x ∷ ss) h l = (let e = h.0 in omega arith, numbered_below (suc i) ss h.1 (omega arith))

pub starless_below : (e : Expr) → Starless e → Below (stars_expr outside e)
starless_below e h = subst Below (sym h) tt

-- ---- the stack

-- The two topmost values, and what is below them.
quarter : (t a b : ℕ) → a < 2 → b < 2 → ((t * 2 + a) * 2 + b) / 4 ≡ t
quarter t a b ha hb = omega arith

second : (t a b : ℕ) → a < 2 → b < 2 → ((t * 2 + a) * 2 + b) / 2 % 2 ≡ a
second t a b ha hb = omega arith

first : (t a b : ℕ) → b < 2 → ((t * 2 + a) * 2 + b) % 2 ≡ b
first t a b hb = omega arith

-- There is room for one more.
room : (t d : ℕ) → t < 2 ^ d → d + 1 ≤ 64 → t * 2 % 2 ^ 64 ≡ t * 2
room t d h l =
    let g : 2 ^ d ≤ 2 ^ 63 = pow_mono {i = d} {j = 63} (omega arith) in
    mod-eq_of_lt (omega arith)

taller : (t d : ℕ) (b : Bool) → t < 2 ^ d → t * 2 + num b < 2 ^ (d + 1)
taller t d b h = subst (λ (x : ℕ). t * 2 + num b < x) (sym (pow-add 2 d 1)) (digits_lt h (num_lt b))

-- ---- nodes

-- A code word that is a node.
abbrev IsNode : ℕ → Type 0
IsNode o = o / 32 < 6

module _ (w s : ℕ) where
  node-push : (t : ℕ) (b : Bool) → node_of (num b) w s t ≡ t * 2 % 2 ^ 64 + num b
  unfolding node_kind
  node-push t false = refl
  node-push t true = refl

  node_load : (t i : ℕ) → i < 32 → node_of (LOAD + i) w s t ≡ t * 2 % 2 ^ 64 + num (bit s i)
  unfolding node_kind
  node_load t i h =
      let p : (32 + i) / 32 ≡ 1 = omega arith in
      let q : (32 + i) % 32 ≡ i = omega arith in
      rw (p, q, bit-digit)

  node-choose : (t i : ℕ) → i < 32 → node_of (CHOOSE + i) w s t ≡ t * 2 % 2 ^ 64 + num (bit w i)
  unfolding node_kind
  node-choose t i h =
      let p : (64 + i) / 32 ≡ 2 = omega arith in
      let q : (64 + i) % 32 ≡ i = omega arith in
      rw (p, q, bit-digit)

  node_negate : (t : ℕ) (b : Bool) → node_of NEGATE w s (t * 2 + num b) ≡ t * 2 + num (not b)
  unfolding node_kind
  node_negate t false = omega arith
  node_negate t true = omega arith

  node_both : (t : ℕ) (a b : Bool) → node_of BOTH w s ((t * 2 + num a) * 2 + num b) ≡ t * 2 + num (a && b)
  unfolding node_kind
  node_both t a b =
      rw (quarter t (num a) (num b) (num_lt a) (num_lt b), second t (num a) (num b) (num_lt a) (num_lt b), first t (num a) (num b) (num_lt b), num_and a b)

  node-either : (t : ℕ) (a b : Bool) → node_of EITHER w s ((t * 2 + num a) * 2 + num b) ≡ t * 2 + num (a || b)
  unfolding node_kind
  node-either t a b =
      rw (quarter t (num a) (num b) (num_lt a) (num_lt b), second t (num a) (num b) (num_lt a) (num_lt b), first t (num a) (num b) (num_lt b), num_or a b)

-- In a command's code, too, a node changes the values alone.
module _ (w k s : ℕ) where
  node-step : (o t : ℕ) → IsNode o → step_of o w (mach t k s) ≡ mach (node_of o w s t) k s
  unfolding kind_of
  node-step o t h =
      rw (ne_eqb (o / 32) 6 (λ q. omega arith), ne_eqb (o / 32) 7 (λ q. omega arith), ne_eqb (o / 32) 8 (λ q. omega arith), ne_eqb (o / 32) 9 (λ q. omega arith))

  nodes-run : (os : List ℕ) → Every IsNode os → (t : ℕ) → run_of os w (mach t k s) ≡ mach (values_of os w s t) k s
  nodes-run [] h t = refl
  nodes-run (o ∷ os) h t = ap (run_of os w) (node-step o t h.0) ∙ nodes-run os h.1 (node_of o w s t)

-- ---- expressions: a shared and b row names, the choice word w, the state s

module _ (a b w s : ℕ) (few : a + b ≤ 32) (p : Place) where
  -- Where there are d values and room for the expression's, its code pushes its value.
  pushes : (e : Expr) → Scoped a b e → Below (stars_expr p e) → (t d : ℕ) → t < 2 ^ d → d + height e ≤ 64
      → values_of (expr_code a e) w s t ≡ t * 2 + num (eval_at a w s e)
  unfolding expr_code eval_at height stars_expr
  pushes (lit false) o z t d h l = node-push w s t false ∙ rw (room t d h l)
  pushes (lit true) o z t d h l = node-push w s t true ∙ rw (room t d h l)
  pushes (star i) o z t d h l = node-choose w s t i z.0 ∙ rw (room t d h l)
  pushes (shared i) o z t d h l = node_load w s t i (omega arith) ∙ rw (room t d h l)
  pushes (row i) o z t d h l = node_load w s t (a + i) (omega arith) ∙ rw (room t d h l)
  pushes (neg e) o z t d h l =
      values-append (expr_code a e) (NEGATE ∷ []) w s t
      ∙ ap (node_of NEGATE w s) (pushes e o z t d h l)
      ∙ node_negate w s t (eval_at a w s e)
  pushes (conj e f) o z t d h l =
      let u = eval_at a w s e in
      let v = eval_at a w s f in
      let y = below_parts (stars_expr p e) (stars_expr p f) z in
      values-append (expr_code a e) (expr_code a f ++ (BOTH ∷ [])) w s t
      ∙ ap (values_of (expr_code a f ++ (BOTH ∷ [])) w s) (pushes e o.0 y.0 t d h (omega arith))
      ∙ values-append (expr_code a f) (BOTH ∷ []) w s (t * 2 + num u)
      ∙ ap (node_of BOTH w s) (pushes f o.1 y.1 (t * 2 + num u) (d + 1) (taller t d u h) (omega arith))
      ∙ node_both w s t u v
  pushes (disj e f) o z t d h l =
      let u = eval_at a w s e in
      let v = eval_at a w s f in
      let y = below_parts (stars_expr p e) (stars_expr p f) z in
      values-append (expr_code a e) (expr_code a f ++ (EITHER ∷ [])) w s t
      ∙ ap (values_of (expr_code a f ++ (EITHER ∷ [])) w s) (pushes e o.0 y.0 t d h (omega arith))
      ∙ values-append (expr_code a f) (EITHER ∷ []) w s (t * 2 + num u)
      ∙ ap (node_of EITHER w s) (pushes f o.1 y.1 (t * 2 + num u) (d + 1) (taller t d u h) (omega arith))
      ∙ node-either w s t u v

  -- An expression's code has nodes only.
  all-nodes : (e : Expr) → Scoped a b e → Below (stars_expr p e) → Every IsNode (expr_code a e)
  unfolding expr_code stars_expr
  all-nodes (lit false) o z = (omega arith, tt)
  all-nodes (lit true) o z = (omega arith, tt)
  all-nodes (star i) o z = (let h = z.0 in omega arith, tt)
  all-nodes (shared i) o z = (omega arith, tt)
  all-nodes (row i) o z = (omega arith, tt)
  all-nodes (neg e) o z = joined IsNode (expr_code a e) (NEGATE ∷ []) (all-nodes e o z) (omega arith, tt)
  all-nodes (conj e f) o z =
      let y = below_parts (stars_expr p e) (stars_expr p f) z in
      joined IsNode (expr_code a e) (expr_code a f ++ (BOTH ∷ [])) (all-nodes e o.0 y.0)
      (joined IsNode (expr_code a f) (BOTH ∷ []) (all-nodes f o.1 y.1) (omega arith, tt))
  all-nodes (disj e f) o z =
      let y = below_parts (stars_expr p e) (stars_expr p f) z in
      joined IsNode (expr_code a e) (expr_code a f ++ (EITHER ∷ [])) (all-nodes e o.0 y.0)
      (joined IsNode (expr_code a f) (EITHER ∷ []) (all-nodes f o.1 y.1) (omega arith, tt))

  -- In a command's code, where no value was before, it leaves its value alone on the stack.
  pub runs : (e : Expr) → Scoped a b e → Below (stars_expr p e) → height e ≤ 64 → (k : ℕ)
      → run_of (expr_code a e) w (mach 0 k s) ≡ mach (0 * 2 + num (eval_at a w s e)) k s
  runs e o z l k =
      nodes-run w k s (expr_code a e) (all-nodes e o z) 0 ∙ ap (λ (t : ℕ). mach t k s) (pushes e o z 0 0 (omega arith) (omega arith))

-- The value of an expression's code is the expression's value.
pub value-right : (a b w s : ℕ) (p : Place) (e : Expr) → a + b ≤ 32 → Scoped a b e → Below (stars_expr p e) → height e ≤ 64
    → value_of (expr_code a e) w s ≡ cond (eval_at a w s e) 1 0
value-right a b w s p e few o z h =
    ap (λ (t : ℕ). t % 2) (pushes a b w s few p e o z 0 0 (omega arith) (omega arith)) ∙ low (eval_at a w s e)
  where
    low : (v : Bool) → (0 * 2 + num v) % 2 ≡ num v
    low false = refl
    low true = refl

-- It is 1 exactly if the expression holds.
pub holds-right : (a b w s : ℕ) (p : Place) (e : Expr) → a + b ≤ 32 → Scoped a b e → Below (stars_expr p e) → height e ≤ 64
    → eqb (value_of (expr_code a e) w s) 1 ≡ eval_at a w s e
holds-right a b w s p e few o z h = ap (λ (x : ℕ). eqb x 1) (value-right a b w s p e few o z h) ∙ one (eval_at a w s e)
  where
    one : (v : Bool) → eqb (cond v 1 0) 1 ≡ v
    one false = refl
    one true = refl
