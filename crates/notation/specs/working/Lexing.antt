-- Lexing as a computation: the lexemes of a text, one after the other.
-- Assumes nothing.
use Rattle.std.specs.Prelude.{Bool, true, false, cond, List, [], ◌∷◌, ℕ, zero, suc, ◌+◌, eqb, length, take, drop}
use Rattle.std.proofs.Math.Option.{Option, none, some}
use Rattle.notation.specs.Bytes.{word_byte, blank_byte}
use Rattle.notation.specs.Tokens.{Token, sign, word_token, mark_of, ASSIGN, OTHER, Lexeme, at}

-- A choice that computes only the side it takes.
abbrev pub choose : {A : Type 0} → Bool → (Unit {0} → A) → (Unit {0} → A) → A
choose true a b = a tt
choose false a b = b tt

-- How many word bytes stand at the front.
unfoldable pub span : List ℕ → ℕ
span [] = 0
span (b ∷ bs) = cond (word_byte b) (suc (span bs)) 0

abbrev pub begins_with : ℕ → List ℕ → Bool
begins_with b [] = false
begins_with b (c ∷ bs) = eqb c b

-- What stands at the front, and how many bytes of it follow its first.
pub record Front : Type 0 where
  pub token : Option Token
  pub more : ℕ

abbrev pub one_byte : Option Token → Front
one_byte t = record { token = t; more = 0 }

-- The token of a sign, if there is one.
abbrev pub sign_of : Option ℕ → Option Token
sign_of none = none
sign_of (some k) = some (sign k)

-- A mark b, with the bytes bs behind it, or a byte that is not allowed.
unfoldable pub mark : ℕ → List ℕ → Front
mark b bs =
    cond (eqb b 58) (cond (begins_with 61 bs) (record { token = some (sign ASSIGN); more = 1 }) (one_byte (some (sign OTHER))))
    (one_byte (sign_of (mark_of b)))

-- At place i, with the first byte b and the bytes bs after it.
unfoldable pub front : ℕ → ℕ → List ℕ → Front
front i b bs = cond (word_byte b) (record { token = word_token i (take (suc (span bs)) (b ∷ bs)); more = span bs }) (mark b bs)

-- The lexemes of the bytes, which begin at place i. The first number bounds how many bytes there are.
unfoldable pub lexemes : ℕ → List ℕ → ℕ → List Lexeme
lexemes zero bs i = []
lexemes (suc l) [] i = []
lexemes (suc l) (b ∷ bs) i =
    choose (blank_byte b) (λ u. lexemes l bs (suc i)) (λ u. let f = front i b bs in at i f.token ∷ lexemes l (drop f.more bs) (suc (i + f.more)))

-- The lexemes from a place of the text on.
unfoldable pub tokens_from : List ℕ → ℕ → List Lexeme
tokens_from bs i = lexemes (length (drop i bs)) (drop i bs) i

abbrev pub tokens : List ℕ → List Lexeme
tokens bs = tokens_from bs 0
