-- Worked cases of the test: a table of texts and sheets with what the test answers to each, and the statement that all its rows are so.
-- Maps that fail, and sheets of another model, stand in the table of the search.
-- Assumes nothing.
use Rattle.std.specs.Prelude.{◌≡◌, List, [], ◌∷◌, ◌++◌, ℕ}
use Rattle.notation.specs.Bytes.{bytes}
use Rattle.notation.specs.Regular.{Every}
use Rattle.conditions.specs.Outcomes.{Wording, words, letter, returned, wording_of}
use Rattle.acceptance.specs.working.Test.{test_of}

-- A row of the table: the bytes of a text, the bytes of a sheet, and what is expected of the test.
pub record Case : Type 0 where
  pub text : List ℕ
  pub sheet : List ℕ
  pub expected : Wording

infix 68 ◌with◌gives◌
abbrev pub ◌with◌gives◌ : List ℕ → List ℕ → Wording → Case
◌with◌gives◌ t b w = record { text = t; sheet = b; expected = w }

-- G: a row may come to have both its bits, which `keep` forbids.
abbrev pub g : List ℕ
g = bytes "shared m. row w x.\nstart m each not x.\nkeep 1 each not (w and x).\ncommand grant if m do\nfor 1 do w := *; x := * else skip end else skip.\n"

-- H: `x` is set only where `w` is not.
abbrev pub h : List ℕ
h = bytes "shared m. row w x.\nstart m each not x.\nkeep 1 each not (w and x).\ncommand grant if m do\nfor 1 do w := *; x := not w and * else skip end else skip.\n"

-- G where no state satisfies `keep`.
abbrev pub g_keeps_nowhere : List ℕ
g_keeps_nowhere = bytes "shared m. row w x.\nstart m each not x.\nkeep 0 each 1.\ncommand grant if m do\nfor 1 do w := *; x := * else skip end else skip.\n"

-- G where no state satisfies `start`.
abbrev pub g_starts_nowhere : List ℕ
g_starts_nowhere = bytes "shared m. row w x.\nstart 1 each 0.\nkeep 1 each not (w and x).\ncommand grant if m do\nfor 1 do w := *; x := * else skip end else skip.\n"

-- Records: a header with three counts, a map of one byte, a start state and a step, for states below 256.
abbrev pub header : ℕ → ℕ → ℕ → List ℕ
header shared row commands = 3 ∷ 0 ∷ 0 ∷ 0 ∷ 1 ∷ 0 ∷ shared ∷ row ∷ commands ∷ []

abbrev pub map : ℕ → List ℕ
map byte = 1 ∷ 0 ∷ 0 ∷ 0 ∷ 2 ∷ 0 ∷ byte ∷ []

abbrev pub start : ℕ → List ℕ
start state = 2 ∷ 0 ∷ 0 ∷ 0 ∷ 3 ∷ 0 ∷ state ∷ 0 ∷ []

abbrev pub step : ℕ → ℕ → ℕ → List ℕ
step command word after = 4 ∷ 0 ∷ 0 ∷ 0 ∷ 4 ∷ 0 ∷ command ∷ word ∷ after ∷ 0 ∷ []

-- The header of all four models: one shared name, two row names, one command.
abbrev pub head : List ℕ
head = header 1 2 1

-- The sheet of G: from state 1, the command 0 under the word 3 leads to state 7.
abbrev pub g_sheet : List ℕ
g_sheet = head ++ start 1 ++ step 0 3 7

unfoldable pub cases : List Case
cases =
    -- a trace of one step
    g with g_sheet gives words "trace holds" ∷
    -- the least map of H
    h with head ++ map 0x2A gives words "safe holds" ∷
    -- no step is needed where the start state breaks
    g_keeps_nowhere with head ++ start 1 gives words "trace holds" ∷
    -- where there is no start state, every map that passes is void, and one that fails fails as before
    g_starts_nowhere with head ++ map 0x00 gives words "void" ∷
    g_starts_nowhere with head ++ map 0x15 gives words "void" ∷
    g_starts_nowhere with head ++ map 0x40 gives letter "B" ∷
    g_starts_nowhere with head ++ map 0x02 gives letter "C" ∷
    g_starts_nowhere with head ++ start 1 gives letter "D" ∷
    -- a text that is refused, whatever the sheet
    bytes "" with g_sheet gives returned 3 0 ∷
    bytes "" with [] gives returned 3 0 ∷
    -- a longer trace than need be
    g with head ++ start 1 ++ step 0 1 3 ++ step 0 3 7 gives words "trace holds" ∷
    -- traces with a single failure: the first state is no start state; the second step leads to 3 and not to 7; the last state does not break
    g with head ++ start 5 ++ step 0 3 7 gives letter "D" ∷
    g with head ++ start 1 ++ step 0 1 3 ++ step 0 1 7 gives letter "E" ∷
    g with head ++ start 1 ++ step 0 1 3 gives letter "F" ∷
    -- refused sheets: nothing after the header; a byte after the map; two commands counted; a state that is not there; a bit for a third star
    g with head gives returned 9 9 ∷
    h with head ++ map 0x2A ++ (0 ∷ []) gives returned 9 16 ∷
    g with header 1 2 2 ++ start 1 gives returned 10 0 ∷
    g with head ++ start 8 gives returned 10 9 ∷
    g with head ++ start 1 ++ step 0 4 7 gives returned 10 17 ∷
    []

-- In every row, what the test answers to the text and the sheet is what is expected.
abbrev pub AllCases : Type 0
AllCases = Every (λ (c : Case). wording_of (test_of c.text c.sheet) ≡ c.expected) cases
