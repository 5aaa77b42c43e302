-- The digits of a width, read one after the other.
-- Assumes nothing.
use mathlib.Core.Bool.{true, false}
use mathlib.Core.Logic.{◌⊎◌, inl, inr}
use mathlib.Core.List.{List, [], ◌∷◌}
use mathlib.Core.Path.{◌≡◌, refl, sym, ap, ◌∙◌}
use Prim.Native.Nat.{ℕ, suc, ◌+◌, ◌-◌, ◌*◌, ◌≤◌, ◌<◌}
use native.Mathlib.Omega.{arith}
use lib.ListN.{length, get_or, drop, drop_of_length-le}
use lib.Seq.{drop-cons}
use borrow.Author.Tests.{lt-ltb, le-ltb}
use Rattle.std.specs.Prelude.{Some, None}
use Rattle.bursts.specs.Widths.{all_digits, number_from, capped, width_in}

-- Digits behind numbers that are not told apart say numbers that are not told apart.
number-capped : (bs : List ℕ) (n m : ℕ) → capped n ≡ capped m → capped (number_from n bs) ≡ capped (number_from m bs)
unfolding number_from
number-capped [] n m e = e
number-capped (b ∷ bs) n m e =
    let f : capped (n * 10 + (b - 48)) ≡ capped (m * 10 + (b - 48)) = omega (arith, e) in
    number-capped bs (n * 10 + (b - 48)) (m * 10 + (b - 48)) f

-- No bytes say no width, and neither do bytes with one that is no digit.
pub empty_unread : (bs : List ℕ) → length bs ≡ 0 → None ≡ width_in bs
unfolding width_in
empty_unread [] h = refl
empty_unread (b ∷ bs) h = absurd (omega (arith, h))

other_unread : (bs : List ℕ) → all_digits bs ≡ false → None ≡ width_in bs
unfolding width_in
other_unread [] e = refl
other_unread (b ∷ bs) e = rw e refl

digits-read : (bs : List ℕ) (n : ℕ) → 0 < length bs → all_digits bs ≡ true → n ≡ capped (number_from 0 bs) → Some n ≡ width_in bs
unfolding width_in
digits-read [] n h e f = absurd (omega (arith, h))
digits-read (b ∷ bs) n h e f = rw e (ap (λ k. Some k) f)

-- The bytes before place i are digits and say n: what is left says what all of them say.
pub record Reads (bs : List ℕ) (n i : ℕ) : Type 0 where
  pub some : 0 < length bs
  pub within : i ≤ length bs
  pub few : n ≤ 4096
  pub digits : all_digits (drop i bs) ≡ all_digits bs
  pub number : capped (number_from n (drop i bs)) ≡ capped (number_from 0 bs)

pub begun : (bs : List ℕ) → (length bs ≡ 0 → ⊥) → Reads bs 0 0
begun [] h = absurd (h refl)
begun (b ∷ bs) h = record { some = omega arith; within = omega arith; few = omega arith; digits = refl; number = refl }

module _ (bs : List ℕ) (n i : ℕ) (R : Reads bs n i) where
  module _ (h : i < length bs) where
    abbrev byte : ℕ
    byte = get_or bs i 0

    left : drop i bs ≡ byte ∷ drop (i + 1) bs
    left = let e : suc i ≡ i + 1 = omega arith in drop-cons bs i 0 h ∙ ap (λ k. byte ∷ drop k bs) e

    pub other_byte : (byte < 48) ⊎ (57 < byte) → None ≡ width_in bs
    unfolding all_digits
    other_byte (inl l) = other_unread bs (sym R.digits ∙ ap all_digits left ∙ rw (lt-ltb byte 48 l) refl)
    other_byte (inr g) = other_unread bs (sym R.digits ∙ ap all_digits left ∙ rw (le-ltb byte 48 (omega arith), lt-ltb 57 byte g) refl)

    pub next : 48 ≤ byte → byte ≤ 57 → (m : ℕ) → m ≡ capped (n * 10 + (byte - 48)) → Reads bs m (i + 1)
    unfolding all_digits number_from
    next l g m e =
        let f : capped m ≡ capped (n * 10 + (byte - 48)) = omega (arith, e) in
        record {
          some = R.some;
          within = omega arith;
          few = omega (arith, e);
          digits = sym (ap all_digits left ∙ rw (le-ltb byte 48 l, le-ltb 57 byte g) refl) ∙ R.digits;
          number = number-capped (drop (i + 1) bs) m (n * 10 + (byte - 48)) f ∙ sym (ap (λ l. capped (number_from n l)) left) ∙ R.number;
        }

  pub all_read : length bs ≤ i → Some n ≡ width_in bs
  unfolding all_digits number_from
  all_read h =
      let none : drop i bs ≡ [] = drop_of_length-le bs {i = i} h in
      let same : n ≡ capped n = omega (arith, R.few) in
      digits-read bs n R.some (sym R.digits ∙ ap all_digits none) (same ∙ sym (ap (λ l. capped (number_from n l)) none) ∙ R.number)
