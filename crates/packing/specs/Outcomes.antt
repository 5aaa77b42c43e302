-- The numbers that stand for answers of the test.
-- Assumes nothing.
use Rattle.std.specs.Prelude.{cond, ℕ, ◌/◌, ◌%◌, eqb}
use Rattle.conditions.specs.Outcomes.{Wording, words, letter, returned}
use Rattle.packing.specs.Packed.{packed, initial}

-- An answer of the test: the letter, the first letter of the words, or a refusal's number with its place above.
unfoldable pub test_number : Wording → ℕ
test_number (words s) = packed (initial s) 0
test_number (letter s) = packed (initial s) 0
test_number (returned n p) = packed n p

-- The answer of the test that a number stands for.
abbrev pub wording_for : ℕ → Wording
wording_for x =
    let low = x % 256 in
    cond (eqb low 115) (words "safe holds")
    (cond (eqb low 118) (words "void")
    (cond (eqb low 116) (words "trace holds")
    (cond (eqb low 65) (letter "A")
    (cond (eqb low 66) (letter "B")
    (cond (eqb low 67) (letter "C")
    (cond (eqb low 68) (letter "D")
    (cond (eqb low 69) (letter "E")
    (cond (eqb low 70) (letter "F")
    (returned low (x / 256))))))))))
