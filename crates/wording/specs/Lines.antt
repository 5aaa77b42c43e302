-- The line that an answer of the test is written as.
-- Assumes nothing.
use Rattle.std.specs.Prelude.{List, [], ◌∷◌, ℕ}
use Rattle.notation.specs.Bytes.{bytes}
use Rattle.conditions.specs.declared.outcome.Declined.{Declined}
use Rattle.conditions.specs.Outcomes.{Wording, words, letter, returned, Tested, wording_of, wording_of_declined}
use Rattle.lines.specs.Lines.{line, refusal_line}

-- The words of an outcome as a line.
unfoldable pub spelt : Wording → List ℕ
spelt (words s) = line (bytes s ∷ [])
spelt (letter s) = line (bytes s ∷ [])
spelt (returned n p) = refusal_line n p

abbrev pub line_of : Tested → List ℕ
line_of t = spelt (wording_of t)

-- That of what is told in its place.
abbrev pub line_of_declined : Declined → List ℕ
line_of_declined d = spelt (wording_of_declined d)
