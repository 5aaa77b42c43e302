-- Worked cases of the search and the test: a table of texts and sheets as bytes with what is expected of each, and the statement that all its rows are so.
-- Assumes nothing.
use Rattle.std.specs.Prelude.{◌≡◌, List, [], ◌∷◌, ◌++◌, ℕ, length, take, replicate}
use Rattle.std.proofs.Math.Option.{Option, none, some}
use Prim.Native.String.{String}
use Rattle.notation.specs.Bytes.{bytes}
use Rattle.notation.specs.Regular.{Every}
use Rattle.conditions.specs.Outcomes as A
use Rattle.acceptance.specs.Promises.{answer_to}
use Rattle.acceptance.specs.Cases.{g, h, g_keeps_nowhere, g_starts_nowhere, head, map, start, g_sheet}
use Rattle.verdicts.specs.Answers.{verdict, returned, wording_of}
use Rattle.verdicts.specs.Left.{Left}
use Rattle.verdicts.specs.working.Searching.{search_of}

-- A row: a text with the verdict and the sheet that the search finds, and the number of trials, if one is given; a text with the search's refusal; a text and a sheet with what the test answers.
pub data Case : Type 0 where
  finds : List ℕ → String → Option ℕ → List ℕ → Case
  refuses : List ℕ → ℕ → ℕ → Case
  tests : List ℕ → List ℕ → A.Wording → Case

-- The search with tables of eight entries and a buffer of 87 bytes, all of which hold something else before.
abbrev pub searched : List ℕ → Left
searched text = search_of text (replicate 8 9) (replicate 8 9) (replicate 87 9)

-- The row is so.
abbrev pub Holds : Case → Type 0
Holds (finds text v t sheet) =
    (wording_of (searched text).answer ≡ verdict v (length sheet) t) × (take (length sheet) (searched text).sheet ≡ sheet)
Holds (refuses text n p) = wording_of (searched text).answer ≡ returned n p
Holds (tests text sheet w) = answer_to text sheet ≡ w

unfoldable pub cases : List Case
cases =
    -- G is unsafe by a trace of one step, and H is safe: four words were tried at each of three states
    finds g "unsafe" none g_sheet ∷
    finds h "safe" (some 12) (head ++ map 0x2A) ∷
    -- maps for H: one with more members; without start state 3; with 6 and 7, which break; without 5, where a step leads
    tests h (head ++ map 0x3F) (A.words "safe holds") ∷
    tests h (head ++ map 0x22) (A.letter "A") ∷
    tests h (head ++ map 0xFF) (A.letter "B") ∷
    tests h (head ++ map 0x0A) (A.letter "C") ∷
    -- a sheet of G is none of H
    tests h g_sheet (A.letter "E") ∷
    -- no step is needed where the start state breaks, and there is no member where there is no start state: the model is void
    finds g_keeps_nowhere "unsafe" none (head ++ start 1) ∷
    finds g_starts_nowhere "void" (some 0) (head ++ map 0x00) ∷
    -- the empty text
    refuses (bytes "") 3 0 ∷
    []

-- All rows are so.
abbrev pub AllCases : Type 0
AllCases = Every Holds cases
