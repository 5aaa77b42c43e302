-- The laws of the tokens from a place on: what a function that reads the next token is shown by.
-- Assumes nothing.
use mathlib.Core.Path.{◌≡◌, refl, ap}
use mathlib.Core.Bool.{Bool, true, false}
use mathlib.Core.List.{List, [], ◌∷◌}
use Prim.Native.Nat.{ℕ, zero, suc, ◌+◌, ◌≤◌, ◌<◌}
use native.Mathlib.Omega.{arith}
use native.Mathlib.Nat.{not-suc-le-zero, suc-add}
use lib.ListN.{length, drop, get_or, length-drop, drop_of_length-le}
use lib.Seq.{drop-cons, drop-drop}
use Rattle.notation.specs.Bytes.{blank_byte}
use Rattle.notation.specs.Tokens.{Lexeme, at}
use Rattle.notation.specs.working.Lexing.{choose, front, lexemes, tokens_from}

any_bound : (k l : ℕ) (bs : List ℕ) (i : ℕ) → length bs ≤ k → length bs ≤ l → lexemes k bs i ≡ lexemes l bs i
unfolding lexemes
any_bound zero zero [] i h j = refl
any_bound zero (suc l) [] i h j = refl
any_bound (suc k) zero [] i h j = refl
any_bound (suc k) (suc l) [] i h j = refl
any_bound zero l (b ∷ bs) i h j = absurd (not-suc-le-zero h)
any_bound (suc k) zero (b ∷ bs) i h j = absurd (not-suc-le-zero j)
any_bound (suc k) (suc l) (b ∷ bs) i h j = go (blank_byte b) (any_bound k l bs (suc i) (omega arith) (omega arith))
    (any_bound k l (drop m bs) (suc (i + m)) (simp length-drop (omega arith)) (simp length-drop (omega arith)))
  where
    m : ℕ
    m = (front i b bs).more

    go : (c : Bool) → lexemes k bs (suc i) ≡ lexemes l bs (suc i) → lexemes k (drop m bs) (suc (i + m)) ≡ lexemes l (drop m bs) (suc (i + m)) →
        choose c (λ u. lexemes k bs (suc i)) (λ u. at i (front i b bs).token ∷ lexemes k (drop m bs) (suc (i + m)))
        ≡ choose c (λ u. lexemes l bs (suc i)) (λ u. at i (front i b bs).token ∷ lexemes l (drop m bs) (suc (i + m)))
    go true e f = e
    go false e f = ap (λ (r : List Lexeme). at i (front i b bs).token ∷ r) f

pub from_end : (bs : List ℕ) (i : ℕ) → length bs ≤ i → tokens_from bs i ≡ []
unfolding tokens_from lexemes
from_end bs i h = rw (drop_of_length-le bs h)

pub from-blank : (bs : List ℕ) (i : ℕ) → i < length bs → blank_byte (get_or bs i 0) ≡ true → tokens_from bs i ≡ tokens_from bs (suc i)
unfolding tokens_from lexemes
from-blank bs i h e = rw (drop-cons bs i 0 h, e)

rest_from : (bs : List ℕ) (i m : ℕ) → lexemes (length (drop (suc i) bs)) (drop m (drop (suc i) bs)) (suc (i + m)) ≡ tokens_from bs (suc (i + m))
unfolding tokens_from
rest_from bs i m = rw (drop-drop m (suc i) bs, suc-add i m) (any_bound _ _ _ _ (simp length-drop (omega arith)) (omega arith))

pub from-token : (bs : List ℕ) (i : ℕ) → i < length bs → blank_byte (get_or bs i 0) ≡ false →
    tokens_from bs i ≡ at i (front i (get_or bs i 0) (drop (suc i) bs)).token ∷ tokens_from bs (suc (i + (front i (get_or bs i 0) (drop (suc i) bs)).more))
unfolding tokens_from lexemes
from-token bs i h e = rw (drop-cons bs i 0 h, e) (ap (λ (r : List Lexeme). at i (front i (get_or bs i 0) (drop (suc i) bs)).token ∷ r) (rest_from bs i (front i (get_or bs i 0) (drop (suc i) bs)).more))
