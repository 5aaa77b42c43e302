-- Worked cases of questions: a table of texts, sheets, questions and lists with what is answered and the list afterwards, and the statement that all its rows are so.
-- Assumes nothing.
use Rattle.std.specs.Prelude.{◌≡◌, List, [], ◌∷◌, ◌++◌, ℕ, replicate}
use Rattle.notation.specs.Bytes.{bytes}
use Rattle.notation.specs.Regular.{Every}
use Rattle.conditions.specs.Outcomes as O
use Rattle.acceptance.specs.Cases.{g, h, g_keeps_nowhere, g_starts_nowhere, head, header, map, start, step, g_sheet}
use Rattle.windows.specs.Questions.{Wording, steps, burst, refused, told}
use Rattle.windows.specs.Promises.{answer_of, counts_after, list_after}
use Rattle.windows.specs.declared.record.Step.{Step}
use Rattle.windows.specs.declared.record.Question.{Question}
use Rattle.windows.specs.declared.record.Question.TheVariants.{Steps, Counts, Burst}

-- A row: a text, a sheet, a question and a list. It gives an answer, the counts of the first two commands, and the list afterwards; or it tells a refusal
-- or what the test says, and the list stays.
pub data Case : Type 0 where
  gives : List ℕ → List ℕ → Question → List Step → Wording → ℕ → ℕ → List Step → Case
  tells : List ℕ → List ℕ → Question → List Step → Wording → Case

-- The row is so. Commands from the third on occur in no row.
abbrev pub Holds : Case → Type 0
Holds (gives text b q list w first second after) =
    (answer_of q text b list ≡ w) × (counts_after q text b list ≡ first ∷ second ∷ replicate 14 0) × (list_after q text b list ≡ after)
Holds (tells text b q list w) = (answer_of q text b list ≡ w) × (list_after q text b list ≡ list)

-- A record of a list, and lists whose places have what no step of these traces is.
abbrev pub at : ℕ → ℕ → ℕ → Step
at command word after = record { command = command; word = word; after = after }

abbrev pub old : Step
old = at 9 8 7

abbrev pub places : ℕ → List Step
places n = replicate n old

-- A trace of G of two steps, and its records.
abbrev pub two_steps : List ℕ
two_steps = head ++ start 1 ++ step 0 1 3 ++ step 0 3 7

abbrev pub two : List Step
two = at 0 1 3 ∷ at 0 3 7 ∷ []

-- Two commands: 0 sets `m`, which `keep` forbids, and 1 does nothing.
abbrev pub two_commands : List ℕ
two_commands = bytes "shared m. row w.\nstart not m each not w.\nkeep not m each 1.\ncommand set if 1 do m := 1 else skip.\ncommand wait if 1 do skip else skip.\n"

-- A trace of it of five steps, whose commands are 0 1 0 0 1, and its records; and one of two steps that are both command 0.
abbrev pub five_steps : List ℕ
five_steps = header 1 1 2 ++ start 0 ++ step 0 0 1 ++ step 1 0 1 ++ step 0 0 1 ++ step 0 0 1 ++ step 1 0 1

abbrev pub five : List Step
five = at 0 0 1 ∷ at 1 0 1 ∷ at 0 0 1 ∷ at 0 0 1 ∷ at 1 0 1 ∷ []

abbrev pub set_twice : List ℕ
set_twice = header 1 1 2 ++ start 0 ++ step 0 0 1 ++ step 0 0 1

unfoldable pub cases : List Case
cases =
    -- the steps, and how often each command occurs; places of the list beyond the steps are as before
    gives g two_steps Steps (places 2) (steps 2) 2 0 two ∷
    gives g two_steps Steps (places 4) (steps 2) 2 0 (two ++ places 2) ∷
    gives two_commands five_steps (Counts 16) (places 6) (steps 5) 3 2 (five ++ places 1) ∷
    -- bursts of the one command there is: of stretches that have as many, the first
    gives g two_steps (Burst 0 1) (places 2) (burst 1 1) 2 0 two ∷
    gives g two_steps (Burst 0 2) (places 2) (burst 2 1) 2 0 two ∷
    gives g two_steps (Burst 0 4095) (places 3) (burst 2 1) 2 0 (two ++ places 1) ∷
    -- of one step: where the command is for the first time
    gives two_commands five_steps (Burst 0 1) (places 5) (burst 1 1) 3 2 five ∷
    gives two_commands five_steps (Burst 1 1) (places 5) (burst 1 2) 3 2 five ∷
    -- of two steps: 1 1 2 1 for command 0, 1 1 0 1 for command 1
    gives two_commands five_steps (Burst 0 2) (places 5) (burst 2 3) 3 2 five ∷
    gives two_commands five_steps (Burst 1 2) (places 5) (burst 1 1) 3 2 five ∷
    -- of three steps: 2 2 2 for command 0
    gives two_commands five_steps (Burst 0 3) (places 5) (burst 2 1) 3 2 five ∷
    -- of four steps: 3 2 for command 0, 1 2 for command 1
    gives two_commands five_steps (Burst 0 4) (places 5) (burst 3 1) 3 2 five ∷
    gives two_commands five_steps (Burst 1 4) (places 5) (burst 2 2) 3 2 five ∷
    -- of as many steps as there are, and of more: all of them
    gives two_commands five_steps (Burst 0 5) (places 5) (burst 3 1) 3 2 five ∷
    gives two_commands five_steps (Burst 1 9) (places 5) (burst 2 1) 3 2 five ∷
    -- a command that does not occur, and a trace of no steps: 0, from place 1
    gives two_commands set_twice (Burst 1 1) (places 2) (burst 0 1) 2 0 (at 0 0 1 ∷ at 0 0 1 ∷ []) ∷
    gives g_keeps_nowhere (head ++ start 1) (Burst 0 3) [] (burst 0 1) 0 0 [] ∷
    gives g_keeps_nowhere (head ++ start 1) (Counts 16) (places 1) (steps 0) 0 0 (places 1) ∷
    -- refusals in order: no place for every step; no such command; a width of 0, or above 4095
    tells g two_steps (Burst 1 0) (places 1) (refused 8) ∷
    tells g two_steps (Burst 1 0) (places 2) (refused 10) ∷
    tells g two_steps (Burst 0 0) (places 2) (refused 16) ∷
    tells g two_steps (Burst 0 4096) (places 2) (refused 16) ∷
    -- a list without a place; room for fewer than 16 counts, though there is one command
    tells g g_sheet Steps [] (refused 8) ∷
    tells g g_sheet (Counts 15) (places 1) (refused 8) ∷
    -- a text or a sheet that is refused, a sheet that fails and maps that pass: the test's answer, before whatever is wrong with the question
    tells (bytes "") g_sheet (Burst 9 0) [] (told (O.returned 3 0)) ∷
    tells g (header 1 2 2 ++ start 1) (Burst 1 1) (places 1) (told (O.returned 10 0)) ∷
    tells h g_sheet (Counts 0) [] (told (O.letter "E")) ∷
    tells h (head ++ map 0x2A) Steps (places 1) (told (O.words "safe holds")) ∷
    tells g_starts_nowhere (head ++ map 0x00) (Burst 0 0) [] (told (O.words "void")) ∷
    []

-- Every row is so.
abbrev pub AllCases : Type 0
AllCases = Every Holds cases
