-- The members of an exact map are as many as the states that runs reach; and there is one number of anything.
-- Assumes nothing.
use mathlib.Core.Path.{◌≡◌, refl, sym, ap, ◌∙◌, subst}
use mathlib.Core.Bool.{true, ◌&&◌}
use mathlib.Core.Logic.{inl, inr}
use mathlib.Core.List.{List, [], ◌∷◌}
use Prim.Native.Nat.{ℕ, suc, ◌<◌}
use native.Mathlib.Omega.{arith}
use lib.Dec.{eqb}
use lib.ListN.{length}
use Rattle.notation.specs.Model.{Model}
use Rattle.notation.specs.Regular.{Every, Among}
use Rattle.notation.proofs.Members.{every-among}
use Rattle.meaning.specs.OneRow.{state_count}
use Rattle.meaning.specs.Evidence.{in_map}
use Rattle.meaning.proofs.Fits.{runs_fit}
use Rattle.meaning.proofs.Number.{state_number_lt}
use Rattle.meaning.specs.Meaning.{last}
use Rattle.exploration.specs.Findings.{Reaches, ExactMap}
use Rattle.counting.specs.Counts.{setting_count, setting_of, Ascending}
use Rattle.counting.specs.Promises.{Counted, ReachableCounted, CountedOnce}
use Rattle.counting.proofs.Below.{there_are}
use Rattle.counting.proofs.Settings.{has_setting, at_setting}

-- Two ascending lists of the same numbers begin alike, and so do what follows in both.
heads : (x y : ℕ) (xs ys : List ℕ) → Every (λ (k : ℕ). x < k) xs → Every (λ (k : ℕ). y < k) ys → Among x (y ∷ ys) → Among y (x ∷ xs) → x ≡ y
heads x y xs ys e f (inl p) q = p
heads x y xs ys e f (inr p) (inl q) = sym q
heads x y xs ys e f (inr p) (inr q) = absurd (omega (arith, every-among (λ (k : ℕ). y < k) x ys f p, every-among (λ (k : ℕ). x < k) y xs e q))

tails : (x y : ℕ) (xs ys : List ℕ) → x ≡ y → Every (λ (k : ℕ). x < k) xs → ((t : ℕ) → Among t (x ∷ xs) → Among t (y ∷ ys)) → (t : ℕ) → Among t xs → Among t ys
tails x y xs ys e f h t a = go (h t (inr a))
  where
    go : Among t (y ∷ ys) → Among t ys
    go (inl q) = absurd (omega (arith, every-among (λ (k : ℕ). x < k) t xs f a, q, e))
    go (inr b) = b

same_length : (xs ys : List ℕ) → Ascending xs → Ascending ys → ((t : ℕ) → Among t xs → Among t ys) → ((t : ℕ) → Among t ys → Among t xs) → length xs ≡ length ys
same_length [] [] a b h g = refl
same_length [] (y ∷ ys) a b h g = absurd (g y (inl refl))
same_length (x ∷ xs) [] a b h g = absurd (h x (inl refl))
same_length (x ∷ xs) (y ∷ ys) a b h g =
    let e = heads x y xs ys a.0 b.0 (h x (inl refl)) (g y (inl refl)) in
    ap suc (same_length xs ys a.1 b.1 (tails x y xs ys e a.0 h) (tails y x ys xs (sym e) b.0 g))

pub counted-once : CountedOnce
counted-once P n k A B =
    sym A.many
    ∙ same_length A.these B.these A.ascending B.ascending (λ t a. (B.exactly t).1 ((A.exactly t).0 a)) (λ t b. (A.exactly t).1 ((B.exactly t).0 b))
    ∙ B.many

module _ (m : Model) (bytes : List ℕ) (E : ExactMap m bytes) where
  reached-below : (t : ℕ) → Reaches m t → t < state_count m
  reached-below t (s, xs, r, e) = subst (λ k. k < state_count m) e (state_number_lt m (last s xs) (runs_fit m 1 s xs r))

  reached_in_lem : (t : ℕ) → Reaches m t → in_map bytes t ≡ true
  reached_in_lem t r = (E.exact t (reached-below t r)).1 r

  counted : Counted m bytes
  counted =
      record {
        all = there_are (in_map bytes) (state_count m) (Reaches m) (λ t l e. (E.exact t l).0 e) (λ t r. (reached-below t r, reached_in_lem t r));
        at = λ j.
            there_are (λ s. in_map bytes s && eqb (setting_of (setting_count m) s) j) (state_count m) (λ t. Reaches m t × (setting_of (setting_count m) t ≡ j))
            (λ t l e. let p = has_setting (setting_count m) bytes j t e in ((E.exact t l).0 p.0, p.1))
            (λ t r. (reached-below t r.0, at_setting (setting_count m) bytes j t (reached_in_lem t r.0) r.1));
      }

pub reachable_counted : ReachableCounted
reachable_counted m bytes E = counted m bytes E
