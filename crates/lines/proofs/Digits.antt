-- The digits that a number is written with are its decimal digits.
-- Assumes nothing.
use mathlib.Core.Bool.{Bool, true, false, cond}
use mathlib.Core.Path.{◌≡◌, refl, sym, ap, ◌∙◌, subst}
use mathlib.Core.List.{List, [], ◌∷◌, ◌++◌}
use Prim.Native.Nat.{ℕ, zero, suc, ◌+◌, ◌-◌, ◌*◌, ◌/◌, ◌%◌, ◌^◌, ◌≤◌, ◌<◌}
use native.Mathlib.Nat.{pow-suc, pow-le-pow_right, one-le-pow, zero-lt-suc, le_trans}
use native.Mathlib.Omega.{arith}
use lib.Dec.{leb, ltb}
use lib.ListN.{length, take, length-append}
use borrow.Author.Tests.{lt-ltb, le-ltb, leb-true, leb-false}
use Rattle.io.specs.Digits.{last_digits, hex_digit_ascii, IsDigitCount}
use Rattle.lines.specs.Lines.{digits_up_to, decimal_of}

glyph_small : (d : ℕ) → d < 10 → hex_digit_ascii d ≡ 48 + d
glyph_small d h = rw (lt-ltb d 10 h) refl

-- A number below 10 has one digit.
one-digit : (k n : ℕ) → n < 10 → digits_up_to k n ≡ (48 + n) ∷ []
unfolding digits_up_to
one-digit zero n h = let e : n % 10 ≡ n = omega arith in ap (λ d. (48 + d) ∷ []) e
one-digit (suc k) n h = rw (lt-ltb n 10 h) refl

more-digits : (k n : ℕ) → 10 ≤ n → digits_up_to (suc k) n ≡ digits_up_to k (n / 10) ++ ((48 + n % 10) ∷ [])
unfolding digits_up_to
more-digits k n h = rw (le-ltb n 10 h) refl

below_tenth : (n q : ℕ) → n < q * 10 → n / 10 < q
below_tenth n q h = omega arith

above_tenth : (n p : ℕ) → p * 10 ≤ n → p ≤ n / 10
above_tenth n p h = omega arith

-- j + 1 digits, none of them a zero in front.
fewest_digits : (j k n : ℕ) → j ≤ k → n < 10 ^ suc j → (0 < j → 10 ^ j ≤ n) → digits_up_to k n ≡ last_digits 10 (suc j) n
fewest_digits zero k n h small large =
    let s : n < 10 = small in
    let e : n % 10 ≡ n = omega arith in
    one-digit k n s ∙ sym (ap (λ d. hex_digit_ascii d ∷ []) e ∙ ap (λ d. d ∷ []) (glyph_small n s))
fewest_digits (suc j) zero n h small large = absurd (omega arith)
fewest_digits (suc j) (suc k) n h small large =
    let l : 10 ^ j * 10 ≤ n = subst (λ x. x ≤ n) (pow-suc 10 j) (large (omega arith)) in
    let s : n < 10 ^ suc j * 10 = subst (λ x. n < x) (pow-suc 10 (suc j)) small in
    let p : 0 < 10 ^ j = one-le-pow j 10 (zero-lt-suc 9) in
    let t : 10 ≤ n = omega arith in
    let f : j ≤ k = omega arith in
    more-digits k n t
    ∙ ap (λ ds. ds ++ ((48 + n % 10) ∷ [])) (fewest_digits j k (n / 10) f (below_tenth n (10 ^ suc j) s) (λ o. above_tenth n (10 ^ j) l))
    ∙ sym (ap (λ d. last_digits 10 (suc j) (n / 10) ++ (d ∷ [])) (glyph_small (n % 10) (omega arith)))

more_than_one : (j n : ℕ) → (1 < suc j → 10 ^ (suc j - 1) ≤ n) → 0 < j → 10 ^ j ≤ n
more_than_one j n f o = let e : suc j - 1 ≡ j = omega arith in subst (λ x. 10 ^ x ≤ n) e (f (omega arith))

-- The fewest digits that hold n, at most 20 of them, are its decimal digits.
decimal_digits : (n r : ℕ) → IsDigitCount 10 1 n r → r ≤ 20 → decimal_of n ≡ last_digits 10 r n
decimal_digits n zero f h = absurd (omega arith)
decimal_digits n (suc j) f h = fewest_digits j 19 n (omega arith) f.1 (λ o. more_than_one j n f.2 o)

-- A number that fits 64 bits has no more than 20 digits.
few-digits : (n r : ℕ) → n < 18446744073709551616 → IsDigitCount 10 1 n r → r ≤ 20
few-digits n r h f = by_test (leb r 20) refl
  where
    by_test : (b : Bool) → leb r 20 ≡ b → r ≤ 20
    by_test true e = leb-true r 20 e
    by_test false e =
        let o : 20 < r = leb-false r 20 e in
        let p : 10 ^ 20 ≤ 10 ^ (r - 1) = pow-le-pow_right (zero-lt-suc 9) {i = 20} {j = r - 1} (omega arith) in
        let q : 100000000000000000000 ≤ n = le_trans p (f.2 (omega arith)) in
        absurd (omega arith)

-- At most k more than one.
pub digits-within : (k n : ℕ) → length (digits_up_to k n) ≤ suc k
unfolding digits_up_to
digits-within zero n = omega arith
digits-within (suc k) n = by_test (ltb n 10) (digits-within k (n / 10))
  where
    by_test : (b : Bool) → length (digits_up_to k (n / 10)) ≤ suc k → length (cond b ((48 + n) ∷ []) (digits_up_to k (n / 10) ++ ((48 + n % 10) ∷ []))) ≤ suc (suc k)
    by_test true h = omega arith
    by_test false h = omega (arith, length-append (digits_up_to k (n / 10)) ((48 + n % 10) ∷ []))

-- A number below 10 ^ (j + 1) has at most j + 1.
pub digits-below : (j k n : ℕ) → n < 10 ^ suc j → length (digits_up_to k n) ≤ suc j
unfolding digits_up_to
digits-below j zero n h = omega arith
digits-below zero (suc k) n h = rw (lt-ltb n 10 h) (omega arith)
digits-below (suc j) (suc k) n h =
    let s : n < 10 ^ suc j * 10 = subst (λ x. n < x) (pow-suc 10 (suc j)) h in
    by_test (ltb n 10) (digits-below j k (n / 10) (below_tenth n (10 ^ suc j) s))
  where
    by_test : (b : Bool) → length (digits_up_to k (n / 10)) ≤ suc j → length (cond b ((48 + n) ∷ []) (digits_up_to k (n / 10) ++ ((48 + n % 10) ∷ []))) ≤ suc (suc j)
    by_test true h = omega arith
    by_test false h = omega (arith, length-append (digits_up_to k (n / 10)) ((48 + n % 10) ∷ []))

-- What was taken of the written digits are the decimal digits.
pub taken_decimal : (n r : ℕ) (l : List ℕ) → n < 18446744073709551616 → IsDigitCount 10 1 n r → take r l ≡ last_digits 10 r n → take r l ≡ decimal_of n
taken_decimal n r l h f e = e ∙ sym (decimal_digits n r f (few-digits n r h f))
