-- The counts of all commands, one step after the other.
-- Assumes nothing.
use mathlib.Core.Path.{◌≡◌, refl, sym, ap, ◌∙◌, subst}
use mathlib.Core.Bool.{Bool, true, false, cond}
use mathlib.Core.List.{List, [], ◌∷◌, ◌++◌}
use Prim.Native.Nat.{ℕ, suc, ◌+◌, ◌<◌, ◌≤◌}
use native.Mathlib.Omega.{arith}
use lib.Dec.{ltb, eqb}
use lib.ListN.{length, get_or, set, length-set, get_or-eq_default, replicate}
use lib.Seq.{ext_get_or, get_or-set_same, get_or-set_other, set_out}
use borrow.Author.Tests.{eqb-true, eqb-false, ltb-true, ltb-false}
use Rattle.meaning.specs.Bits.{first}
use Rattle.meaning.proofs.Number.{first-length, first-at}
use Rattle.windows.specs.Bursts.{occurs, counts_of}
use Rattle.windows.specs.working.Sliding.{is_one, counted_of}
use Rattle.windows.specs.working.Surveying.{step_at, commands_at}
use Rattle.windows.specs.declared.record.Step.{Step}
use Rattle.windows.proofs.FirstValues.{first_snoc}
use Rattle.windows.proofs.Occurrences.{occurs_le, one-more_of}

-- One more of a command, among the first n.
module _ (n : ℕ) (f g : ℕ → ℕ) (x : ℕ) (more : (i : ℕ) → g i ≡ f i + is_one i x) where
  abbrev added : List ℕ
  added = set (first n f) x (get_or (first n f) x 0 + 1)

  as_long : length added ≡ n
  as_long = length-set (first n f) x (get_or (first n f) x 0 + 1) ∙ first-length n f

  by_test : (i : ℕ) → i < n → (t : Bool) → eqb x i ≡ t → get_or added i 0 ≡ f i + cond t 1 0
  by_test i below true e =
      let same : x ≡ i = eqb-true x i e in
      let within : x < length (first n f) = subst (λ (m : ℕ). x < m) (sym (first-length n f)) (omega (arith, same, below)) in
      ap (λ (j : ℕ). get_or added j 0) (sym same) ∙ get_or-set_same (first n f) x (get_or (first n f) x 0 + 1) 0 within
      ∙ ap (λ (j : ℕ). get_or (first n f) j 0 + 1) same ∙ ap (λ (m : ℕ). m + 1) (first-at n f 0 i below)
  by_test i below false e =
      let z : f i ≡ f i + 0 = omega arith in
      get_or-set_other (first n f) x i (get_or (first n f) x 0 + 1) 0 (λ q. eqb-false x i e (sym q)) ∙ first-at n f 0 i below ∙ z

  added_is : added ≡ first n g
  unfolding is_one
  added_is =
      ext_get_or 0 added (first n g) (as_long ∙ sym (first-length n g))
      (λ i l. let below : i < n = subst (λ (m : ℕ). i < m) as_long l in by_test i below (eqb x i) refl ∙ sym (more i) ∙ sym (first-at n g 0 i below))

counted-suc : (xs : List ℕ) (x : ℕ) → counted_of (counts_of xs) x ≡ counts_of (xs ++ x ∷ [])
unfolding counted_of counts_of
counted-suc xs x = added_is 16 (λ k. occurs k xs) (λ k. occurs k (xs ++ x ∷ [])) x (λ i. one-more_of i x xs)

-- No count is greater than the number of steps.
count_le : (xs : List ℕ) (k : ℕ) → get_or (counts_of xs) k 0 ≤ length xs
unfolding counts_of
count_le xs k = by_place (ltb k 16) refl
  where
    by_place : (t : Bool) → ltb k 16 ≡ t → get_or (first 16 (λ i. occurs i xs)) k 0 ≤ length xs
    by_place true e = let h = first-at 16 (λ i. occurs i xs) 0 k (ltb-true k 16 e) in omega (arith, h, occurs_le k xs)
    by_place false e = let h = get_or-eq_default (first 16 (λ i. occurs i xs)) 0 (ltb-false k 16 e) in omega (arith, h)

-- In a sheet: the counts of one more step.
pub none_counted : replicate 16 0 ≡ counts_of []
unfolding counts_of occurs
none_counted = refl

module _ (h : ℕ) (b counts : List ℕ) (i : ℕ) (counted : counts ≡ counts_of (commands_at h b i)) where
  pub count_few : i < 65535 → (k : ℕ) → get_or counts k 0 < 65535
  count_few l k =
      let e : get_or counts k 0 ≤ length (commands_at h b i) = subst (λ (x : List ℕ). get_or x k 0 ≤ length (commands_at h b i)) (sym counted) (count_le (commands_at h b i) k) in
      let f : length (commands_at h b i) ≡ i = first-length i (λ j. (step_at h b j).command) in
      omega (arith, e, f, l)

  pub count_next : (s : Step) → s ≡ step_at h b i → (k : ℕ) → k ≡ s.command → (counts' : List ℕ) → counts' ≡ counted_of counts k → counts' ≡ counts_of (commands_at h b (i + 1))
  count_next s e k f counts' g =
      let n : i + 1 ≡ suc i = omega arith in
      let c : k ≡ (step_at h b i).command = f ∙ ap (λ (t : Step). t.command) e in
      g ∙ ap (λ (l : List ℕ). counted_of l k) counted ∙ ap (counted_of (counts_of (commands_at h b i))) c ∙ counted-suc (commands_at h b i) (step_at h b i).command
      ∙ ap counts_of (sym (ap (commands_at h b) n ∙ first_snoc i (λ j. (step_at h b j).command)))

pub counted_out : (counts : List ℕ) (x : ℕ) → length counts ≤ x → counts ≡ counted_of counts x
unfolding counted_of
counted_out counts x h = sym (set_out counts x (get_or counts x 0 + 1) h)
