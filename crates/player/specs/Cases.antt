-- Worked cases of players: a table of texts, sheets, records and moves with what is answered and the record afterwards, and the statement that all its rows are so.
-- Assumes nothing.
use Rattle.std.specs.Prelude.{◌≡◌, List, [], ◌∷◌, ◌++◌, ℕ}
use Rattle.notation.specs.Bytes.{bytes}
use Rattle.notation.specs.Regular.{Every}
use Rattle.conditions.specs.Outcomes.{words, letter, returned}
use Rattle.acceptance.specs.Cases.{g, h, g_keeps_nowhere, g_starts_nowhere, head, header, map, start, step, g_sheet}
use Rattle.player.specs.Answers.{Wording, moved, at_end, foreign, told, Opening, opened, unopened}
use Rattle.player.specs.Promises.{opening_of, answer_of, record_after}
use Rattle.player.specs.declared.record.Player.{Player}
use Rattle.player.specs.declared.record.Direction.{Direction}
use Rattle.player.specs.declared.record.Direction.TheVariants.{Forward, Back, Beginning}

-- A row: opening on a text and a sheet, with the answer; or a move from a place and a state, with the answer and the record afterwards.
pub data Case : Type 0 where
  opens : List ℕ → List ℕ → Opening → Case
  goes : List ℕ → List ℕ → Player → Direction → Wording → Player → Case

abbrev pub at : ℕ → ℕ → Player
at place state = record { place = place; state = state }

-- The row is so.
abbrev pub Holds : Case → Type 0
Holds (opens text b w) = opening_of text b ≡ w
Holds (goes text b p d w q) = (answer_of d text b p ≡ w) × (record_after d text b p ≡ q)

-- A trace of G of two steps: from 1 to 3, and from 3 to 7.
abbrev pub two_steps : List ℕ
two_steps = head ++ start 1 ++ step 0 1 3 ++ step 0 3 7

unfoldable pub cases : List Case
cases =
    -- through the whole trace and back: at its places are the states 1, 3 and 7
    opens g two_steps (opened (at 0 1)) ∷
    goes g two_steps (at 0 1) Forward moved (at 1 3) ∷
    goes g two_steps (at 1 3) Forward moved (at 2 7) ∷
    goes g two_steps (at 2 7) Forward at_end (at 2 7) ∷
    goes g two_steps (at 2 7) Back moved (at 1 3) ∷
    goes g two_steps (at 1 3) Back moved (at 0 1) ∷
    goes g two_steps (at 0 1) Back at_end (at 0 1) ∷
    -- to the beginning, from there too
    goes g two_steps (at 2 7) Beginning moved (at 0 1) ∷
    goes g two_steps (at 0 1) Beginning moved (at 0 1) ∷
    -- foreign records: the state of another place, a place past the last step, and a number that no state has; an end is not told of them
    goes g two_steps (at 1 7) Forward foreign (at 1 7) ∷
    goes g two_steps (at 3 7) Back foreign (at 3 7) ∷
    goes g two_steps (at 0 7) Back foreign (at 0 7) ∷
    goes g two_steps (at 2 3) Forward foreign (at 2 3) ∷
    goes g two_steps (at 2 65543) Beginning foreign (at 2 65543) ∷
    -- the record of the shorter trace at its end is none of the longer one's, and at its beginning is
    goes g g_sheet (at 1 7) Forward at_end (at 1 7) ∷
    goes g two_steps (at 1 7) Back foreign (at 1 7) ∷
    goes g g_sheet (at 0 1) Forward moved (at 1 7) ∷
    -- a trace of no steps: both ends at once
    opens g_keeps_nowhere (head ++ start 1) (opened (at 0 1)) ∷
    goes g_keeps_nowhere (head ++ start 1) (at 0 1) Forward at_end (at 0 1) ∷
    goes g_keeps_nowhere (head ++ start 1) (at 0 1) Back at_end (at 0 1) ∷
    goes g_keeps_nowhere (head ++ start 1) (at 0 1) Beginning moved (at 0 1) ∷
    -- maps that pass, sheets that fail and sheets that are refused: the test's answer, before a foreign record
    opens h (head ++ map 0x2A) (unopened (words "safe holds")) ∷
    opens g_starts_nowhere (head ++ map 0x00) (unopened (words "void")) ∷
    opens h g_sheet (unopened (letter "E")) ∷
    goes h g_sheet (at 0 1) Forward (told (letter "E")) (at 0 1) ∷
    goes g (head ++ start 5 ++ step 0 3 7) (at 9 9) Back (told (letter "D")) (at 9 9) ∷
    goes h (head ++ map 0x2A) (at 9 9) Beginning (told (words "safe holds")) (at 9 9) ∷
    opens g head (unopened (returned 9 9)) ∷
    goes g (header 1 2 2 ++ start 1) (at 0 1) Beginning (told (returned 10 0)) (at 0 1) ∷
    -- a text that is refused, whatever sheet and record
    opens (bytes "") g_sheet (unopened (returned 3 0)) ∷
    goes (bytes "") [] (at 0 1) Forward (told (returned 3 0)) (at 0 1) ∷
    []

-- Every row is so.
abbrev pub AllCases : Type 0
AllCases = Every Holds cases
