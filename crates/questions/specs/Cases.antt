-- Worked cases of questions about states: a table of texts, sheets and states with the reply to each, and the statement that all its rows are so.
-- Assumes nothing.
use Rattle.std.specs.Prelude.{◌≡◌, List, [], ◌∷◌, ◌++◌, ℕ}
use Rattle.notation.specs.Bytes.{bytes}
use Rattle.notation.specs.Regular.{Every}
use Rattle.conditions.specs.Outcomes.{words, letter, returned}
use Rattle.acceptance.specs.Cases.{g, h, g_starts_nowhere, head, header, map, g_sheet}
use Rattle.questions.specs.Answers.{Wording, yes, no, told}
use Rattle.questions.specs.Promises.{reply_to}

-- A row of the table: the bytes of a text, the bytes of a sheet, the number of a state, and the reply that is expected.
pub record Case : Type 0 where
  pub text : List ℕ
  pub sheet : List ℕ
  pub state : ℕ
  pub expected : Wording

infix 68 ◌with◌about◌gives◌
abbrev pub ◌with◌about◌gives◌ : List ℕ → List ℕ → ℕ → Wording → Case
◌with◌about◌gives◌ t b s w = record { text = t; sheet = b; state = s; expected = w }

unfoldable pub cases : List Case
cases =
    -- the least map of H has the states 1, 3 and 5, and a state is a number below 8
    h with head ++ map 0x2A about 1 gives yes ∷
    h with head ++ map 0x2A about 0 gives no ∷
    h with head ++ map 0x2A about 5 gives yes ∷
    h with head ++ map 0x2A about 7 gives no ∷
    h with head ++ map 0x2A about 8 gives told (returned 10 0) ∷
    -- a map with more members passes too: its yes says no more than that the state is a member
    h with head ++ map 0x3F about 0 gives yes ∷
    -- a map that fails, a trace and a sheet that is refused: the test's answer, before 10
    h with head ++ map 0x22 about 1 gives told (letter "A") ∷
    h with head ++ map 0x22 about 8 gives told (letter "A") ∷
    g with g_sheet about 7 gives told (words "trace holds") ∷
    h with head about 8 gives told (returned 9 9) ∷
    h with header 1 2 2 ++ map 0x2A about 1 gives told (returned 10 0) ∷
    -- a void model: the empty map, and one with members that no run reaches
    g_starts_nowhere with head ++ map 0x00 about 1 gives no ∷
    g_starts_nowhere with head ++ map 0x15 about 0 gives yes ∷
    g_starts_nowhere with head ++ map 0x00 about 8 gives told (returned 10 0) ∷
    -- a text that is refused, whatever the sheet and the state
    bytes "" with head ++ map 0x2A about 1 gives told (returned 3 0) ∷
    bytes "" with [] about 8 gives told (returned 3 0) ∷
    []

-- In every row the reply is what is expected.
abbrev pub AllCases : Type 0
AllCases = Every (λ (c : Case). reply_to c.text c.sheet c.state ≡ c.expected) cases
