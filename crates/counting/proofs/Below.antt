-- The numbers below a bound that pass a test: which, and in what order.
-- Assumes nothing.
use mathlib.Core.Path.{◌≡◌, refl, sym, ap, ◌∙◌, subst}
use mathlib.Core.Bool.{Bool, true, false, cond}
use mathlib.Core.Logic.{◌⊎◌, inl, inr, ⊎_elim}
use mathlib.Core.List.{List, [], ◌∷◌, ◌++◌}
use Prim.Native.Nat.{ℕ, zero, suc, ◌+◌, ◌≤◌, ◌<◌}
use native.Mathlib.Omega.{arith}
use native.Mathlib.Nat.{not-suc-le-zero, le_of_suc-le-suc, eq-or-lt_of_le}
use lib.ListN.{length}
use Rattle.notation.specs.Regular.{Every, Among}
use Rattle.notation.proofs.Members.{among_left, among-right, among_split, joined}
use Rattle.exploration.specs.Members.{below}
use Rattle.exploration.proofs.Members.{more}
use Rattle.counting.specs.Counts.{Ascending, ThereAre}

-- Numbers that fail the test add nothing.
pub none_more : (test : ℕ → Bool) (n d : ℕ) → ((s : ℕ) → n ≤ s → s < n + d → test s ≡ false) → length (below (n + d) test) ≡ length (below n test)
none_more test n zero h = let e : n + 0 ≡ n = omega arith in ap (λ k. length (below k test)) e
none_more test n (suc d) h =
    let e : n + suc d ≡ n + d + 1 = omega arith in
    ap (λ k. length (below k test)) e ∙ more test (n + d) ∙ ap (λ b. length (below (n + d) test) + cond b 1 0) (h (n + d) (omega arith) (omega arith))
    ∙ (let z : length (below (n + d) test) + 0 ≡ length (below (n + d) test) = omega arith in z)
    ∙ none_more test n d (λ s a b. h s a (omega arith))

-- Which.
among_one : (t n : ℕ) (b : Bool) → Among t (cond b (n ∷ []) []) → (t ≡ n) × (b ≡ true)
among_one t n true (inl e) = (e, refl)
among_one t n true (inr h) = absurd h
among_one t n false h = absurd h

pub passed : (test : ℕ → Bool) (n t : ℕ) → Among t (below n test) → (t < n) × (test t ≡ true)
unfolding below
passed test zero t h = absurd h
passed test (suc n) t h =
    ⊎_elim
    (λ a. let p = passed test n t a in (omega (arith, p.0), p.1))
    (λ b. let q = among_one t n (test n) b in (omega (arith, q.0), ap test q.0 ∙ q.1))
    (among_split t (below n test) (cond (test n) (n ∷ []) []) h)

pub listed : (test : ℕ → Bool) (n t : ℕ) → t < n → test t ≡ true → Among t (below n test)
unfolding below
listed test zero t h e = absurd (not-suc-le-zero h)
listed test (suc n) t h e = go (listed test n t) (eq-or-lt_of_le (le_of_suc-le-suc h))
  where
    go : (t < n → test t ≡ true → Among t (below n test)) → (t ≡ n) ⊎ (t < n) → Among t (below n test ++ cond (test n) (n ∷ []) [])
    go back (inl q) =
        let z : test n ≡ true = ap test (sym q) ∙ e in
        among-right t (below n test) (cond (test n) (n ∷ []) []) (subst (λ b. Among t (cond b (n ∷ []) [])) (sym z) (inl q))
    go back (inr l) = among_left t (below n test) (cond (test n) (n ∷ []) []) (back l e)

-- In what order.
ascending-more : (n : ℕ) (xs : List ℕ) (b : Bool) → Every (λ (k : ℕ). k < n) xs → Ascending xs → Ascending (xs ++ cond b (n ∷ []) [])
ascending-more n [] true f a = (tt, tt)
ascending-more n [] false f a = tt
ascending-more n (x ∷ xs) b f a =
    (joined (λ (k : ℕ). x < k) xs (cond b (n ∷ []) []) a.0 (last b), ascending-more n xs b f.1 a.1)
  where
    last : (c : Bool) → Every (λ (k : ℕ). x < k) (cond c (n ∷ []) [])
    last true = (f.0, tt)
    last false = tt

pub each_below : (test : ℕ → Bool) (n k : ℕ) → n ≤ k → Every (λ (i : ℕ). i < k) (below n test)
unfolding below
each_below test zero k h = tt
each_below test (suc n) k h = joined (λ (i : ℕ). i < k) (below n test) (cond (test n) (n ∷ []) []) (each_below test n k (omega arith)) (last (test n))
  where
    last : (c : Bool) → Every (λ (i : ℕ). i < k) (cond c (n ∷ []) [])
    last true = (omega arith, tt)
    last false = tt

pub ascends : (test : ℕ → Bool) (n : ℕ) → Ascending (below n test)
unfolding below
ascends test zero = tt
ascends test (suc n) = ascending-more n (below n test) (test n) (each_below test n n (omega arith)) (ascends test n)

-- So there are as many that pass.
pub there_are : (test : ℕ → Bool) (n : ℕ) (P : ℕ → Type 0) → ((t : ℕ) → t < n → test t ≡ true → P t) → ((t : ℕ) → P t → (t < n) × (test t ≡ true)) → ThereAre (length (below n test)) P
there_are test n P to of =
    record {
      these = below n test;
      many = refl;
      ascending = ascends test n;
      exactly = λ t. (λ a. let p = passed test n t a in to t p.0 p.1, λ h. let q = of t h in listed test n t q.0 q.1);
    }
