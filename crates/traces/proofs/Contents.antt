-- The trace that the bytes of a sheet say: how many steps it has, and what they are, as the bytes have them; and how many commands the header counts.
-- Assumes nothing.
use mathlib.Core.Path.{◌≡◌, refl, ap, ◌∙◌}
use mathlib.Core.Bool.{Bool, true, false, ◌&&◌}
use mathlib.Core.List.{List}
use Prim.Native.Nat.{ℕ, zero, suc, ◌+◌}
use lib.Dec.{eqb}
use lib.ListN.{length, get_or}
use borrow.Author.Tests.{eqb-true}
use Rattle.notation.specs.Model.{Model}
use Rattle.notation.specs.Regular.{Regular}
use Rattle.meaning.specs.OneRow.{TraceStep}
use Rattle.meaning.specs.Evidence.{trace}
use Rattle.sheets.specs.Sheets.{system_of}
use Rattle.sheets.specs.SheetTexts.{two_at, same_counts, AreBytes, SheetSays}
use Rattle.sheets.specs.working.SheetReading.{steps_in}
use Rattle.sheets.proofs.SheetOpened.{sheet_inv, trace-found}
use Rattle.sheets.proofs.SheetSplit.{says_iff_reads}
use Rattle.conditions.specs.working.Judging.{outcome_of}
use Rattle.acceptance.proofs.TestMeans.{numbers_fit}
use Rattle.traces.specs.working.Passing.{trace_passed, last_place, header}
use Rattle.traces.proofs.TracesPassed.{trace-there}

-- As many steps as are read.
steps-length : (b : List ℕ) (p n : ℕ) → length (steps_in b p n) ≡ n
unfolding steps_in
steps-length b p zero = refl
steps-length b p (suc n) = ap suc (steps-length b (p + 10) n)

-- The trace as the bytes have it: start state and steps.
pub record Contents (b : List ℕ) (s : ℕ) (xs : List TraceStep) : Type 0 where
  pub start : s ≡ two_at b (header + 6)
  pub steps : xs ≡ steps_in b (header + 8) (last_place header b)

pub contents_length : {b : List ℕ} {s : ℕ} {xs : List TraceStep} → Contents b s xs → length xs ≡ last_place header b
contents_length {b} C = ap length C.steps ∙ steps-length b (header + 8) (last_place header b)

-- What bytes say whose trace passes is what they have.
pub contents_said : (m : Model) → Regular m → (b : List ℕ) → AreBytes b → trace_passed (outcome_of (system_of m) b) ≡ true
    → (s : ℕ) (xs : List TraceStep) → SheetSays (system_of m) b (trace s xs) → Contents b s xs
contents_said m g b hb passed s xs w =
    let i = (says_iff_reads (system_of m) (numbers_fit m g) b hb (trace s xs)).0 w in
    let j = (trace-found (system_of m) b (trace-there (system_of m) b passed)).reads in
    record { start = cc; steps = cc }

-- The third of the counts.
third_count : (x y z : Bool) → x && (y && (z && true)) ≡ true → z ≡ true
third_count true true true e = refl
third_count true true false e = e
third_count true false z e = cc
third_count false y z e = cc

-- The header's third count is that of the model's commands.
pub commands-counted : (m : Model) (b : List ℕ) → trace_passed (outcome_of (system_of m) b) ≡ true → get_or b 8 0 ≡ length m.commands
unfolding same_counts
commands-counted m b passed =
    let j = (trace-found (system_of m) b (trace-there (system_of m) b passed)).reads in
    eqb-true _ _ (third_count (eqb (get_or b 6 0) m.shared_names) (eqb (get_or b 7 0) m.row_names) _ (sheet_inv (system_of m) b _ j).counts)
