-- Tokens: what the words and marks of a text are, and which tokens its bytes are cut into.
-- Assumes nothing.
use Rattle.std.specs.Prelude.{◌≡◌, Bool, true, false, cond, not, ◌&&◌, ◌||◌, List, [], ◌∷◌, ◌++◌, ℕ, suc, ◌+◌, eqb, ltb, length}
use Rattle.std.proofs.Math.Option.{Option, none, some}
use Rattle.notation.specs.Bytes.{bytes, letter, word_byte, blank_byte, in_lower_case, all, begins, same_word}

-- A run of letters, digits and underscores, by its bytes.
abbrev pub Word : Type 0
Word = List ℕ

-- A name as it stands in a text: the place of its first byte, and its word in lower case, so that names which differ only in case are one.
-- How it is spelt, the text tells at that place.
pub record Name : Type 0 where
  pub place : ℕ
  pub word : Word

-- A token: a sign, by its number (a reserved word, a mark, `0` or `1`), or a name.
pub data Token : Type 0 where
  sign : ℕ → Token
  name : Name → Token

-- The numbers of the signs: the fifteen reserved words, the constants, the marks, and one for every token that the notation uses nowhere.
abbrev pub SHARED : ℕ
SHARED = 0

abbrev pub ROW : ℕ
ROW = 1

abbrev pub START : ℕ
START = 2

abbrev pub KEEP : ℕ
KEEP = 3

abbrev pub EACH : ℕ
EACH = 4

abbrev pub COMMAND : ℕ
COMMAND = 5

abbrev pub IF : ℕ
IF = 6

abbrev pub DO : ℕ
DO = 7

abbrev pub ELSE : ℕ
ELSE = 8

abbrev pub FOR : ℕ
FOR = 9

abbrev pub END : ℕ
END = 10

abbrev pub SKIP : ℕ
SKIP = 11

abbrev pub AND : ℕ
AND = 12

abbrev pub OR : ℕ
OR = 13

abbrev pub NOT : ℕ
NOT = 14

abbrev pub ZERO : ℕ
ZERO = 15

abbrev pub ONE : ℕ
ONE = 16

abbrev pub STAR : ℕ
STAR = 17

abbrev pub DOT : ℕ
DOT = 18

abbrev pub SEMI : ℕ
SEMI = 19

abbrev pub ASSIGN : ℕ
ASSIGN = 20

abbrev pub OPEN : ℕ
OPEN = 21

abbrev pub CLOSE : ℕ
CLOSE = 22

abbrev pub OTHER : ℕ
OTHER = 23

-- The reserved words, in the order of their signs' numbers.
unfoldable pub reserved : List Word
unfolding bytes
reserved =
    bytes "shared" ∷ bytes "row" ∷ bytes "start" ∷ bytes "keep" ∷ bytes "each" ∷ bytes "command" ∷ bytes "if" ∷ bytes "do" ∷
    bytes "else" ∷ bytes "for" ∷ bytes "end" ∷ bytes "skip" ∷ bytes "and" ∷ bytes "or" ∷ bytes "not" ∷ []

-- The place of a word in a list of words that begins at place i.
unfoldable pub word_in : Word → List Word → ℕ → Option ℕ
word_in w [] i = none
word_in w (v ∷ vs) i = cond (same_word w v) (some i) (word_in w vs (suc i))

-- A word that is not reserved in any case, at its place: a name if it begins with a letter, else `0`, `1` or nothing that the notation uses.
abbrev pub plain_word : ℕ → Word → Token
plain_word i w =
    cond (begins letter w) (name (record { place = i; word = in_lower_case w }))
    (cond (same_word w (48 ∷ [])) (sign ZERO) (cond (same_word w (49 ∷ [])) (sign ONE) (sign OTHER)))

-- The sign that was found, or else the token.
abbrev pub sign_or : Option ℕ → Token → Token
sign_or none t = t
sign_or (some k) t = sign k

-- The longest word.
abbrev pub longest_word : ℕ
longest_word = 16

-- Nothing was found.
abbrev pub is_none : {A : Type 0} → Option A → Bool
is_none none = true
is_none (some k) = false

-- What a word is that is not reserved as it is written: one that is reserved in another case is of no use, any other is plain.
abbrev pub other_word : ℕ → Word → Token
other_word i w = cond (is_none (word_in (in_lower_case w) reserved 0)) (plain_word i w) (sign OTHER)

-- The token that a word at place i is; none for a word that is too long. Reserved words are written in lower case.
unfoldable pub word_token : ℕ → Word → Option Token
word_token i w = cond (ltb longest_word (length w)) none (some (sign_or (word_in w reserved 0) (other_word i w)))

-- The marks of one byte. An equals sign alone is a token that the notation uses nowhere.
abbrev pub mark_of : ℕ → Option ℕ
mark_of b =
    cond (eqb b 46) (some DOT)
    (cond (eqb b 59) (some SEMI)
    (cond (eqb b 40) (some OPEN)
    (cond (eqb b 41) (some CLOSE)
    (cond (eqb b 42) (some STAR)
    (cond (eqb b 61) (some OTHER)
    none)))))

-- A byte that is not allowed: no letter, digit, underscore, blank, colon or other mark.
abbrev pub barred_byte : ℕ → Bool
barred_byte b = not (word_byte b || (blank_byte b || eqb b 58)) && is_none (mark_of b)

-- What stands at a place: a token, or none for a byte that is not allowed and for a word that is too long.
pub data Lexeme : Type 0 where
  at : ℕ → Option Token → Lexeme

-- Which lexemes the bytes from place i on are cut into.
pub data Cut : ℕ → List ℕ → List Lexeme → Type 0 where
  ended : {i : ℕ} → Cut i [] []
  blank : {i b : ℕ} {bs : List ℕ} {us : List Lexeme} → blank_byte b ≡ true → Cut (suc i) bs us → Cut i (b ∷ bs) us
  -- a word is as long as can be
  run : {i : ℕ} {bs : List ℕ} {us : List Lexeme} (b : ℕ) (w : List ℕ) → all word_byte (b ∷ w) ≡ true → begins word_byte bs ≡ false → Cut (suc (i + length w)) bs us →
      Cut i (b ∷ w ++ bs) (at i (word_token i (b ∷ w)) ∷ us)
  mark : {i b k : ℕ} {bs : List ℕ} {us : List Lexeme} → mark_of b ≡ some k → Cut (suc i) bs us → Cut i (b ∷ bs) (at i (some (sign k)) ∷ us)
  assign : {i : ℕ} {bs : List ℕ} {us : List Lexeme} → Cut (suc (suc i)) bs us → Cut i (58 ∷ 61 ∷ bs) (at i (some (sign ASSIGN)) ∷ us)
  -- a colon that no equals sign follows is a token that the notation uses nowhere
  colon : {i : ℕ} {bs : List ℕ} {us : List Lexeme} → begins (eqb 61) bs ≡ false → Cut (suc i) bs us → Cut i (58 ∷ bs) (at i (some (sign OTHER)) ∷ us)
  barred : {i b : ℕ} {bs : List ℕ} {us : List Lexeme} → barred_byte b ≡ true → Cut (suc i) bs us → Cut i (b ∷ bs) (at i none ∷ us)
