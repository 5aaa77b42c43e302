-- The lines that openings and moves are written as.
-- Assumes nothing.
use Rattle.std.specs.Prelude.{List, [], ◌∷◌, ℕ}
use Rattle.notation.specs.Bytes.{bytes}
use Rattle.lines.specs.Lines.{decimal_of, line}
use Rattle.wording.specs.Lines.{spelt}
use Rattle.player.specs.declared.record.Player.{Player}
use Rattle.player.specs.Answers.{Wording, moved, at_end, foreign, told, Opening, opened, unopened}

-- A word, and the place and the state of a record.
abbrev pub record_line : List ℕ → Player → List ℕ
record_line title p = line (title ∷ decimal_of p.place ∷ decimal_of p.state ∷ [])

-- What a move answers, with the record after it; what the test says stands alone.
unfoldable pub line_of : Wording → Player → List ℕ
line_of moved p = record_line (bytes "moved") p
line_of at_end p = record_line (bytes "end") p
line_of foreign p = record_line (bytes "foreign") p
line_of (told tested) p = spelt tested

-- What opening answers: the record at the beginning, or what the test says.
unfoldable pub opening_line : Opening → List ℕ
opening_line (opened p) = record_line (bytes "opened") p
opening_line (unopened tested) = spelt tested
