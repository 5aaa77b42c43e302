-- How often a command occurs: in two lists, one after the other, in the first place of one, and how far one more step changes what a stretch has.
-- Assumes nothing.
use mathlib.Core.Path.{◌≡◌, sym, ap, ◌∙◌}
use mathlib.Core.Bool.{Bool, true, false, cond}
use mathlib.Core.List.{List, [], ◌∷◌, ◌++◌}
use Prim.Native.Nat.{ℕ, zero, suc, ◌+◌, ◌-◌, ◌<◌, ◌≤◌}
use native.Mathlib.Omega.{arith}
use native.Mathlib.Nat.{zero-add}
use lib.Dec.{eqb}
use lib.ListN.{length, get_or, take, drop, length-append, length-drop, length-take}
use lib.Seq.{take_all, take-append-le, drop-append-le, drop-cons}
use Rattle.windows.specs.Bursts.{occurs, occurs_from, first_most}
use Rattle.windows.specs.working.Sliding.{is_one}

-- The first step counts by itself.
pub occurs_cons : (k x : ℕ) (xs : List ℕ) → occurs k (x ∷ xs) ≡ is_one k x + occurs k xs
unfolding occurs is_one
occurs_cons k x xs = by_test (eqb x k) (occurs k xs)
  where
    by_test : (t : Bool) (n : ℕ) → cond t (n + 1) n ≡ cond t 1 0 + n
    by_test true n = omega arith
    by_test false n = omega arith

pub occurs-append : (k : ℕ) (xs ys : List ℕ) → occurs k (xs ++ ys) ≡ occurs k xs + occurs k ys
unfolding occurs
occurs-append k [] ys = sym (zero-add (occurs k ys))
occurs-append k (x ∷ xs) ys =
    let e = occurs_cons k x (xs ++ ys) in
    let f = occurs_cons k x xs in
    let g = occurs-append k xs ys in
    omega (arith, e, f, g)

pub occurs-one : (k x : ℕ) → occurs k (x ∷ []) ≡ is_one k x
unfolding occurs
occurs-one k x = let e = occurs_cons k x [] in omega (arith, e)

pub one-more_of : (k x : ℕ) (xs : List ℕ) → occurs k (xs ++ x ∷ []) ≡ occurs k xs + is_one k x
one-more_of k x xs = occurs-append k xs (x ∷ []) ∙ ap (λ (n : ℕ). occurs k xs + n) (occurs-one k x)

-- No command occurs more often than there are steps.
one_le : (k x : ℕ) → is_one k x ≤ 1
unfolding is_one
one_le k x = by_test (eqb x k)
  where
    by_test : (t : Bool) → cond t 1 0 ≤ 1
    by_test true = omega arith
    by_test false = omega arith

pub occurs_le : (k : ℕ) (xs : List ℕ) → occurs k xs ≤ length xs
unfolding occurs
occurs_le k [] = omega arith
occurs_le k (x ∷ xs) =
    let e = occurs_cons k x xs in
    let f = one_le k x in
    let g = occurs_le k xs in
    omega (arith, e, f, g)

pub from_le : (k w : ℕ) (xs : List ℕ) (p : ℕ) → occurs_from k w xs p ≤ length xs
unfolding occurs_from
from_le k w xs p =
    let e = occurs_le k (take w (drop (p - 1) xs)) in
    let f = length-take w (drop (p - 1) xs) in
    let g = length-drop (p - 1) xs in
    omega (arith, e, f, g)

-- A stretch that ends before the last step is not changed by one more.
pub from-before : (k w : ℕ) (xs : List ℕ) (x p : ℕ) → p - 1 + w ≤ length xs → occurs_from k w (xs ++ x ∷ []) p ≡ occurs_from k w xs p
unfolding occurs_from
from-before k w xs x p h =
    let l : w ≤ length (drop (p - 1) xs) = omega (arith, h, length-drop (p - 1) xs) in
    let m : p - 1 ≤ length xs = omega (arith, h) in
    ap (λ (ys : List ℕ). occurs k (take w ys)) (drop-append-le (p - 1) xs (x ∷ []) m) ∙ ap (occurs k) (take-append-le w (drop (p - 1) xs) (x ∷ []) l)

-- Of no more than w steps the stretch has them all.
pub from-whole : (k w : ℕ) (xs : List ℕ) → length xs ≤ w → occurs_from k w xs 1 ≡ occurs k xs
unfolding occurs_from
from-whole k w xs h = ap (occurs k) (take_all w xs h)

-- The stretch of the last w steps, where one more comes: it has that one more, and one less, the first.
module _ (k w : ℕ) (xs : List ℕ) (x : ℕ) (one : 1 ≤ w) (long : w ≤ length xs) where
  abbrev q : ℕ
  q = length xs - w

  before : occurs k (take w (drop q xs)) ≡ is_one k (get_or xs q 0) + occurs k (drop (suc q) xs)
  before =
      let l : length (drop q xs) ≤ w = omega (arith, long, length-drop q xs) in
      let m : q < length xs = omega (arith, one, long) in
      ap (occurs k) (take_all w (drop q xs) l ∙ drop-cons xs q 0 m) ∙ occurs_cons k (get_or xs q 0) (drop (suc q) xs)

  after : occurs k (take w (drop (suc q) (xs ++ x ∷ []))) ≡ occurs k (drop (suc q) xs) + is_one k x
  after =
      let m : suc q ≤ length xs = omega (arith, one, long) in
      let l : length (drop (suc q) xs ++ x ∷ []) ≤ w = omega (arith, one, long, length-drop (suc q) xs, length-append (drop (suc q) xs) (x ∷ [])) in
      ap (λ (ys : List ℕ). occurs k (take w ys)) (drop-append-le (suc q) xs (x ∷ []) m)
      ∙ ap (occurs k) (take_all w (drop (suc q) xs ++ x ∷ []) l)
      ∙ occurs-append k (drop (suc q) xs) (x ∷ [])
      ∙ ap (λ (n : ℕ). occurs k (drop (suc q) xs) + n) (occurs-one k x)

  pub from_slides : occurs_from k w (xs ++ x ∷ []) (q + 2) ≡ occurs_from k w xs (q + 1) + is_one k x - is_one k (get_or xs q 0)
  unfolding occurs_from
  from_slides =
      let e : q + 2 - 1 ≡ suc q = omega arith in
      let f : q + 1 - 1 ≡ q = omega arith in
      let a : occurs k (take w (drop (q + 2 - 1) (xs ++ x ∷ []))) ≡ occurs k (drop (suc q) xs) + is_one k x = ap (λ (i : ℕ). occurs k (take w (drop i (xs ++ x ∷ [])))) e ∙ after in
      let b : occurs k (take w (drop (q + 1 - 1) xs)) ≡ is_one k (get_or xs q 0) + occurs k (drop (suc q) xs) = ap (λ (i : ℕ). occurs k (take w (drop i xs))) f ∙ before in
      omega (arith, a, b)

-- The first of the most depends on the values at its places alone.
pub most-same : (f g : ℕ → ℕ) (n : ℕ) → ((p : ℕ) → p ≤ n + 1 → f p ≡ g p) → first_most f n ≡ first_most g n
unfolding first_most
most-same f g zero h = ap (λ (m : ℕ). record { most = m; place = 1 }) (h 1 (omega arith))
most-same f g (suc n) h = rw (most-same f g n (λ p l. h p (omega (arith, l))), h (n + 2) (omega arith))
