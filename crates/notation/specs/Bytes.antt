-- Bytes: a written text as its bytes, and the bytes that a text may have.
-- Assumes nothing.
use Rattle.std.specs.Prelude.{◌≡◌, Bool, true, false, cond, ◌&&◌, ◌||◌, List, ℕ, ◌+◌, eqb, leb}
use mathlib.Core.List as L
use Prim.Native.Char.{code}
use Prim.Native.String.{String, [], ◌∷◌}

-- The bytes of a text that is written out.
unfoldable pub bytes : String → List ℕ
bytes [] = L.[]
bytes (c ∷ s) = L.◌∷◌ (code c) (bytes s)

-- From a to b, both included.
abbrev pub between : ℕ → ℕ → ℕ → Bool
between a b x = leb a x && leb x b

-- `A` to `Z`.
abbrev pub upper_letter : ℕ → Bool
upper_letter b = between 65 90 b

-- `a` to `z` and `A` to `Z`.
abbrev pub letter : ℕ → Bool
letter b = between 97 122 b || upper_letter b

-- A letter, a digit or an underscore.
abbrev pub word_byte : ℕ → Bool
word_byte b = letter b || (between 48 57 b || eqb b 95)

-- A space or a newline.
abbrev pub blank_byte : ℕ → Bool
blank_byte b = eqb b 32 || eqb b 10

-- The byte in lower case: `A` to `Z` become `a` to `z`, every other byte stays.
abbrev pub lower_case : ℕ → ℕ
lower_case b = cond (upper_letter b) (b + 32) b

-- THE SAME BUT FOR CASE: bytes that are one in lower case.
abbrev pub SameButForCase : ℕ → ℕ → Type 0
SameButForCase a b = lower_case a ≡ lower_case b

-- All of the bytes in lower case.
unfoldable pub in_lower_case : List ℕ → List ℕ
in_lower_case L.[] = L.[]
in_lower_case (L.◌∷◌ b bs) = L.◌∷◌ (lower_case b) (in_lower_case bs)

-- The test holds of every byte.
abbrev pub all : (ℕ → Bool) → List ℕ → Bool
all f L.[] = true
all f (L.◌∷◌ b bs) = f b && all f bs

-- There is a first byte, and the test holds of it.
abbrev pub begins : (ℕ → Bool) → List ℕ → Bool
begins f L.[] = false
begins f (L.◌∷◌ b bs) = f b

-- The same bytes in the same order.
unfoldable pub same_word : List ℕ → List ℕ → Bool
same_word L.[] L.[] = true
same_word L.[] (L.◌∷◌ b v) = false
same_word (L.◌∷◌ a w) L.[] = false
same_word (L.◌∷◌ a w) (L.◌∷◌ b v) = eqb a b && same_word w v
