-- Which of the 256 bytes are letters, stand in words, are blanks or are barred, and which are the same but for case: computed for all of them.
-- Assumes nothing.
use mathlib.Core.Path.{◌≡◌, refl, sym, ap, ◌∙◌, subst}
use mathlib.Core.Bool.{Bool, true, false, cond, not, ◌&&◌, ◌||◌}
use mathlib.Core.Logic.{◌⊎◌, inl, inr}
use mathlib.Core.List.{List, [], ◌∷◌, map}
use Prim.Native.Nat.{ℕ, zero, suc, ◌+◌, ◌<◌}
use native.Mathlib.Omega.{arith}
use native.Mathlib.Nat.{eq-or-lt_of_le}
use lib.Dec.{eqb}
use borrow.Author.Tests.{eqb-true}
use Rattle.notation.specs.Bytes.{bytes, letter, word_byte, blank_byte, lower_case, upper_letter}
use Rattle.notation.specs.Tokens.{barred_byte}
use Rattle.notation.specs.Rules.{elem}
use Rattle.notation.specs.Regular.{Every, Among}
use Rattle.notation.proofs.Booleans.{and_split}
use Rattle.notation.proofs.Members.{every-among, weaken, all_pass, every-test}
use Rattle.notation.specs.Promises.{lower_letters, upper_letters, letters, in_words, in_texts, BytesTold, pairs, LettersPaired}

-- Both or neither.
abbrev same : Bool → Bool → Bool
same true b = b
same false b = not b

same-is : (a b : Bool) → same a b ≡ true → a ≡ b
same-is true true e = refl
same-is true false e = cc
same-is false true e = cc
same-is false false e = refl

-- The two tests agree on every number below n.
unfoldable agree : ℕ → (ℕ → Bool) → (ℕ → Bool) → Bool
agree zero f g = true
agree (suc n) f g = same (f n) (g n) && agree n f g

agree_at : (n : ℕ) (f g : ℕ → Bool) → agree n f g ≡ true → (b : ℕ) → b < n → f b ≡ g b
unfolding agree
agree_at zero f g e b h = absurd (omega arith)
agree_at (suc n) f g e b h = go (eq-or-lt_of_le {n = b} {m = n} (omega arith)) (agree_at n f g (and_split (same (f n) (g n)) _ e).1 b)
  where
    go : (b ≡ n) ⊎ (b < n) → (b < n → f b ≡ g b) → f b ≡ g b
    go (inl q) below = rw q (same-is (f n) (g n) (and_split (same (f n) (g n)) _ e).0)
    go (inr lt) below = below lt

letters-told : agree 256 letter (λ b. elem b letters) ≡ true
unfolding agree elem bytes
letters-told = refl

words-told : agree 256 word_byte (λ b. elem b in_words) ≡ true
unfolding agree elem bytes
words-told = refl

blanks-told : agree 256 blank_byte (λ b. elem b (bytes " \n")) ≡ true
unfolding agree elem bytes
blanks-told = refl

barred-told : agree 256 barred_byte (λ b. not (elem b in_texts)) ≡ true
unfolding agree elem bytes
barred-told = refl

pub bytes-told : BytesTold
bytes-told b h =
    record {
      letters = agree_at 256 letter _ letters-told b h;
      words = agree_at 256 word_byte _ words-told b h;
      blanks = agree_at 256 blank_byte _ blanks-told b h;
      barred = agree_at 256 barred_byte _ barred-told b h;
    }

-- The letters of upper case, and their fellows 32 further on.

upper-told : agree 256 upper_letter (λ b. elem b upper_letters) ≡ true
unfolding agree elem bytes
upper-told = refl

elem-among : (k : ℕ) (js : List ℕ) → elem k js ≡ true → Among k js
unfolding elem
elem-among k [] h = let z : ◌≡◌ {A = ℕ} 0 1 = cc in absurd (omega arith)
elem-among k (j ∷ js) h = go (eqb j k) refl h (elem-among k js)
  where
    go : (x : Bool) → eqb j k ≡ x → x || elem k js ≡ true → (elem k js ≡ true → Among k js) → Among k (j ∷ js)
    go true e h r = inl (sym (eqb-true j k e))
    go false e h r = inr (r h)

abbrev Pair : Type 0
Pair = ℕ × ℕ

abbrev fellow : ℕ → Pair
fellow b = (b + 32, b)

fellow_among : (b : ℕ) (bs : List ℕ) → Among b bs → Among (fellow b) (map fellow bs)
fellow_among b [] h = absurd h
fellow_among b (c ∷ bs) (inl e) = inl (ap fellow e)
fellow_among b (c ∷ bs) (inr h) = inr (fellow_among b bs h)

abbrev Same : Pair → Type 0
Same p = lower_case p.0 ≡ lower_case p.1

-- The 26 pairs are the letters of upper case with their fellows.
fellows : map fellow upper_letters ≡ pairs lower_letters upper_letters
unfolding bytes
fellows = refl

pair_of : (b : ℕ) → b < 256 → upper_letter b ≡ true → Among (fellow b) (pairs lower_letters upper_letters)
pair_of b h e = subst (Among (fellow b)) fellows (fellow_among b upper_letters (elem-among b upper_letters (sym (agree_at 256 upper_letter _ upper-told b h) ∙ e)))

same-told : all_pass (λ (p : Pair). eqb (lower_case p.0) (lower_case p.1)) (pairs lower_letters upper_letters) ≡ true
unfolding all_pass bytes
same-told = refl

pairs-same : Every Same (pairs lower_letters upper_letters)
pairs-same =
    weaken (λ (p : Pair). eqb (lower_case p.0) (lower_case p.1) ≡ true) Same (λ p e. eqb-true (lower_case p.0) (lower_case p.1) e) (pairs lower_letters upper_letters)
    (every-test (λ (p : Pair). eqb (lower_case p.0) (lower_case p.1)) (pairs lower_letters upper_letters) same-told)

pub letters-paired : LettersPaired
letters-paired a b h k = (there (upper_letter a) (upper_letter b) refl refl, back)
  where
    Paired : ℕ → ℕ → Type 0
    Paired a b = Among {A = Pair} (a, b) (pairs lower_letters upper_letters)

    there : (x y : Bool) → upper_letter a ≡ x → upper_letter b ≡ y → cond x (a + 32) a ≡ cond y (b + 32) b → (a ≡ b) ⊎ (Paired a b ⊎ Paired b a)
    there true true e f q = inl (omega (arith, q))
    there true false e f q = inr (inr (subst (λ c. Paired c a) q (pair_of a h e)))
    there false true e f q = inr (inl (subst (λ c. Paired c b) (sym q) (pair_of b k f)))
    there false false e f q = inl q

    back : (a ≡ b) ⊎ (Paired a b ⊎ Paired b a) → lower_case a ≡ lower_case b
    back (inl e) = ap lower_case e
    back (inr (inl i)) = every-among Same (a, b) (pairs lower_letters upper_letters) pairs-same i
    back (inr (inr i)) = sym (every-among Same (b, a) (pairs lower_letters upper_letters) pairs-same i)
