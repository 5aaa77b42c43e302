-- Worked cases of the report: texts as bytes with the lines that are expected, and the statement that all of them are so.
-- Assumes nothing.
use Rattle.std.specs.Prelude.{◌≡◌, List, [], ◌∷◌, ◌++◌, ℕ}
use Prim.Native.String.{String}
use Rattle.notation.specs.Bytes.{bytes}
use Rattle.notation.specs.Regular.{Every}
use Rattle.acceptance.specs.Cases.{g, h, g_keeps_nowhere, g_starts_nowhere}
use Rattle.reporting.specs.working.Reporting.{report_of}

-- Lines that are written out, each with its newline.
unfoldable pub written : List String → List ℕ
written [] = []
written (l ∷ ls) = bytes l ++ (10 ∷ written ls)

-- A text and its report.
pub record Case : Type 0 where
  pub text : List ℕ
  pub report : List String

unfoldable pub cases : List Case
cases =
    -- G is unsafe by one step, and H is safe, with three states at one setting
    record { text = g; report = "model 1 2 1" ∷ "unsafe 1" ∷ "start 1" ∷ "step 1 grant 3 7" ∷ [] } ∷
    record { text = h; report = "model 1 2 1" ∷ "safe" ∷ "states 3" ∷ "at 1 3" ∷ [] } ∷
    -- G with its names in several cases: a command is called as its declaration spells it
    record {
      text = bytes "shared M. row w X.\nstart m each not x.\nkeep 1 each not (W and x).\ncommand GranT if m do\nfor 1 do W := *; x := * else skip end else skip.";
      report = "model 1 2 1" ∷ "unsafe 1" ∷ "start 1" ∷ "step 1 GranT 3 7" ∷ [];
    } ∷
    -- no step is needed where the start state breaks
    record { text = g_keeps_nowhere; report = "model 1 2 1" ∷ "unsafe 0" ∷ "start 1" ∷ [] } ∷
    -- nothing is said of runs where none can begin
    record { text = g_starts_nowhere; report = "model 1 2 1" ∷ "void" ∷ [] } ∷
    -- the empty text
    record { text = bytes ""; report = "refused 3 0" ∷ [] } ∷
    []

-- All of them are so.
abbrev pub AllCases : Type 0
AllCases = Every (λ (c : Case). report_of c.text ≡ written c.report) cases
