-- A list whose front is filled: it is as long as before, and what stands at its front.
-- Assumes nothing.
use mathlib.Core.Path.{◌≡◌, refl, sym, ap, ◌∙◌, subst}
use mathlib.Core.List.{List, [], ◌∷◌, ◌++◌}
use Prim.Native.Nat.{ℕ, zero, suc, ◌+◌, ◌≤◌, ◌<◌}
use native.Mathlib.Omega.{arith}
use lib.ListN.{length, set, take, drop, length-set}
use lib.Seq.{sets, take-suc-set}
use Rattle.std.proofs.lemmas.List.{length-take-le, take_all, take-append-drop, drop-set-lt}
use Rattle.meaning.specs.Bits.{first}
use Rattle.meaning.proofs.Number.{first-length}
use Rattle.windows.specs.working.Surveying.{filled}
use Rattle.windows.specs.declared.record.Step.{Step}
use Rattle.windows.proofs.FirstValues.{first_snoc}

pub length-filled : (f : ℕ → Step) (l : List Step) (n : ℕ) → length (filled f l n) ≡ length l
unfolding filled
length-filled f l zero = refl
length-filled f l (suc i) = length-set (filled f l i) _ (f i) ∙ length-filled f l i

-- Nothing is filled yet; and one more place is.
pub filled_none : (f : ℕ → Step) (l : List Step) → l ≡ filled f l 0
unfolding filled
filled_none f l = refl

pub filled_next : (f : ℕ → Step) (l₀ l : List Step) (i : ℕ) → l ≡ filled f l₀ i → (x : Step) → x ≡ f i → set l i x ≡ filled f l₀ (i + 1)
unfolding filled
filled_next f l₀ l i e x g =
    let s : suc i ≡ i + 1 = omega arith in
    ap (λ (r : List Step). set r i x) e ∙ ap (set (filled f l₀ i) i) g ∙ ap (filled f l₀) s

-- One more value is stored behind the others.
sets_snoc : (vs l : List Step) (i : ℕ) (x : Step) → sets l i (vs ++ x ∷ []) ≡ set (sets l i vs) (i + length vs) x
sets_snoc [] l i x = let e : i ≡ i + 0 = omega arith in ap (λ (k : ℕ). set l k x) e
sets_snoc (v ∷ vs) l i x =
    let e : suc i + length vs ≡ i + suc (length vs) = omega arith in
    sets_snoc vs (set l i v) (suc i) x ∙ ap (λ (k : ℕ). set (sets (set l i v) (suc i) vs) k x) e

-- It is the list with these values stored from its front on.
pub filled-sets : (f : ℕ → Step) (l : List Step) (n : ℕ) → filled f l n ≡ sets l 0 (first n f)
unfolding filled
filled-sets f l zero = refl
filled-sets f l (suc n) =
    let e : n ≡ 0 + length (first n f) = omega (arith, first-length n f) in
    ap (λ (r : List Step). set r n (f n)) (filled-sets f l n)
    ∙ ap (λ (k : ℕ). set (sets l 0 (first n f)) k (f n)) e
    ∙ sym (sets_snoc (first n f) l 0 (f n))
    ∙ ap (sets l 0) (sym (first_snoc n f))

-- Where there is a place for each, they stand there.
pub filled-front : (f : ℕ → Step) (l : List Step) (n : ℕ) → n ≤ length l → take n (filled f l n) ≡ first n f
unfolding filled
filled-front f l zero h = refl
filled-front f l (suc n) h =
    let below : n < length (filled f l n) = subst (λ (k : ℕ). n < k) (sym (length-filled f l n)) (omega (arith, h)) in
    take-suc-set (filled f l n) n (f n) below
    ∙ ap (λ (r : List Step). r ++ f n ∷ []) (filled-front f l n (omega (arith, h)))
    ∙ sym (first_snoc n f)

-- What stands behind stays.
filled-behind : (f : ℕ → Step) (l : List Step) (n i : ℕ) → i ≤ n → drop n (filled f l i) ≡ drop n l
unfolding filled
filled-behind f l n zero h = refl
filled-behind f l n (suc i) h =
    drop-set-lt n (filled f l i) i (f i) (omega (arith, h)) ∙ filled-behind f l n i (omega (arith, h))

-- A part from the front on that is filled: it is the front of the list that is filled as far, and the rest of the list follows it.
module _ (f : ℕ → Step) (l : List Step) (n : ℕ) (room : n ≤ length l) (part : List Step) (full : part ≡ filled f (take n l) (length (take n l))) where
  part-first : part ≡ first n f
  part-first =
      let e : length (take n l) ≡ n = length-take-le n l room in
      let at_end : take n (filled f (take n l) n) ≡ filled f (take n l) n = take_all n (filled f (take n l) n) (omega (arith, length-filled f (take n l) n, e)) in
      full ∙ ap (filled f (take n l)) e ∙ sym at_end ∙ filled-front f (take n l) n (omega (arith, e))

  pub part-front : part ≡ take n (filled f l n)
  part-front = part-first ∙ sym (filled-front f l n room)

  pub part-rest : part ++ drop n l ≡ filled f l n
  part-rest =
      ap (λ (r : List Step). r ++ drop n l) part-front
      ∙ ap (λ (r : List Step). take n (filled f l n) ++ r) (sym (filled-behind f l n n (omega arith)))
      ∙ take-append-drop n (filled f l n)
