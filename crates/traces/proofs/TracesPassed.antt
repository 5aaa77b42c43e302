-- What stands in a sheet whose trace passes for a text: the records of all its steps, whole.
-- Assumes nothing.
use mathlib.Core.Path.{◌≡◌, refl, sym, ap, ◌∙◌, subst}
use mathlib.Core.Bool.{Bool, true, false, cond, true≢false}
use mathlib.Core.List.{List}
use Prim.Native.Nat.{ℕ, zero, suc, ◌+◌, ◌*◌, ◌≤◌}
use native.Mathlib.Omega.{arith}
use lib.ListN.{length}
use Rattle.notation.specs.Texts.{model_of}
use Rattle.notation.specs.working.Machine as N
use Rattle.notation.specs.working.Answer.{answer}
use Rattle.meaning.specs.working.Conditions.{test_void, test_a, test_b, test_c}
use Rattle.sheets.specs.Sheets.{System, size, system_of, header_length}
use Rattle.sheets.specs.working.SheetReading.{sheet_of, step_count, StepsStand}
use Rattle.sheets.specs.working.Shapes.{shape_of}
use Rattle.sheets.specs.declared.shapes.Shape.{Shape}
use Rattle.sheets.specs.declared.shapes.Shape.TheVariants.{Map, Trace}
use Rattle.sheets.proofs.SheetLaws.{record-parts}
use Rattle.std.specs.Prelude.{Result, Ok, Err}
use Rattle.refusals.specs.declared.Refusal.{Refusal}
use Rattle.conditions.specs.Outcomes.{Tested, declined}
use Rattle.conditions.specs.declared.outcome.Declined.{Declined}
use Rattle.conditions.specs.declared.outcome.Outcome.TheVariants.{SafeHolds, Void, FailsA, FailsB, FailsC}
use Rattle.conditions.specs.working.Judging.{passed_answer, map_answer, outcome_of}
use Rattle.acceptance.specs.working.Test.{test_in, test_of}
use Rattle.acceptance.proofs.TestWhole.{whole-refused, whole-map, trace-stands, trace-short}
use Rattle.traces.specs.working.Passing.{trace_passed, last_place, header, steps_after, passed_steps_of}

-- No outcome for a map is that of a trace.
map_chain : (a b c v : Bool) → trace_passed (Ok (cond a (cond b (cond c (cond v Void SafeHolds) FailsC) FailsB) FailsA)) ≡ false
map_chain true true true true = refl
map_chain true true true false = refl
map_chain true true false v = refl
map_chain true false c v = refl
map_chain false b c v = refl

no-map : (M : System) (map : List ℕ) → trace_passed (Ok (map_answer M map)) ≡ false
unfolding map_answer passed_answer
no-map M map =
    map_chain (test_a (size M) M.starts map) (test_b (size M) M.breaks map) (test_c (size M) M.commands M.stars M.step map)
    (test_void (size M) M.starts)

-- Where a trace passes, a trace was found.
module _ (M : System) (b : List ℕ) (passed : trace_passed (outcome_of M b) ≡ true) where
  other : (o : Tested) → o ≡ outcome_of M b → trace_passed o ≡ false → Ok Trace ≡ shape_of (sheet_of M b)
  other o e f = absurd (true≢false (sym passed ∙ ap trace_passed (sym e) ∙ f))

  by_shape : (x : Result Shape Refusal) → x ≡ shape_of (sheet_of M b) → Ok Trace ≡ shape_of (sheet_of M b)
  by_shape (Err r) e = other (Err r) (whole-refused M b r e) refl
  by_shape (Ok Map) e = other _ (whole-map M b e _ refl) (no-map M _)
  by_shape (Ok Trace) e = e

  pub trace-there : Ok Trace ≡ shape_of (sheet_of M b)
  trace-there = by_shape (shape_of (sheet_of M b)) refl

-- Steps that stand from p on end within the sheet.
steps-room : (states commands : ℕ) (stars : ℕ → ℕ) (b : List ℕ) (p n : ℕ) → p ≤ length b → StepsStand states commands stars b p n → p + 10 * n ≤ length b
unfolding StepsStand
steps-room states commands stars b p zero h S = omega (arith, h)
steps-room states commands stars b p (suc n) h S =
    let room : p + 10 ≤ length b = omega (arith, (record-parts b p 4 4 S.0).0) in
    let rest : p + 10 + 10 * n ≤ length b = steps-room states commands stars b (p + 10) n room S.2 in
    omega arith

-- All steps of the trace end within the sheet, which is not too long.
pub record HasTrace (b : List ℕ) : Type 0 where
  pub room : 17 + 10 * last_place header b ≤ length b
  pub short : length b ≤ 65536

model_passed : (M : System) → header_length M ≡ 9 → (b : List ℕ) → trace_passed (outcome_of M b) ≡ true → HasTrace b
model_passed M e b passed =
    let found = trace-there M b passed in
    let S = trace-stands M b found in
    let head : header_length M + 8 ≤ length b = omega (arith, (record-parts b (header_length M) 3 2 S.head).0) in
    let q : header_length M + 8 ≡ 17 = ap (λ (n : ℕ). n + 8) e in
    record {
      room = subst (λ (n : ℕ). n + 10 * step_count b n ≤ length b) q (steps-room (size M) M.commands M.stars b (header_length M + 8) (step_count b (header_length M + 8)) head S.steps);
      short = trace-short M b found;
    }

answer_passed : (b : List ℕ) (x : N.Outcome) → trace_passed (test_in x b) ≡ true → HasTrace b
unfolding test_in
answer_passed b (N.read x) e = model_passed (system_of (model_of x)) refl b e
answer_passed b (N.refused n p) e = absurd (true≢false (sym e))

pub text_passed : (text b : List ℕ) → trace_passed (test_of text b) ≡ true → HasTrace b
unfolding test_of
text_passed text b e = answer_passed b (answer text) e

-- What the test answers as the code has it, and whether it is that of a trace.
module _ (text b : List ℕ) (o : Tested) (tested : o ≡ test_of text b) (x : Bool) (judged : x ≡ trace_passed o) where
  pub judged_so : (y : Bool) → x ≡ y → trace_passed (test_of text b) ≡ y
  judged_so y e = ap trace_passed (sym tested) ∙ sym judged ∙ e

-- A number of steps, or what is told in its place, tells what the test answers.
by_ok : (t : Bool) (m n : ℕ) (d : Declined) → ◌≡◌ {A = Result ℕ Declined} (Ok n) (cond t (Ok m) (Err d)) → (t ≡ true) × (n ≡ m)
by_ok true m n d e = (refl, cc)
by_ok false m n d e = cc

by_err : (t : Bool) (m : ℕ) (d x : Declined) → ◌≡◌ {A = Result ℕ Declined} (Err x) (cond t (Ok m) (Err d)) → (t ≡ false) × (x ≡ d)
by_err true m d x e = cc
by_err false m d x e = (refl, cc)

module _ (text b : List ℕ) where
  pub steps-passed : (n : ℕ) → Ok n ≡ passed_steps_of text b → (trace_passed (test_of text b) ≡ true) × (n ≡ last_place header b)
  unfolding steps_after
  steps-passed n e = by_ok (trace_passed (test_of text b)) (last_place header b) n (declined (test_of text b)) e

  pub steps-declined : (d : Declined) → Err d ≡ passed_steps_of text b → (trace_passed (test_of text b) ≡ false) × (d ≡ declined (test_of text b))
  unfolding steps_after
  steps-declined d e = by_err (trace_passed (test_of text b)) (last_place header b) (declined (test_of text b)) d e
