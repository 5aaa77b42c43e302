-- What the test's answer tells of a trace that passes, in words and as the bytes have it.
-- Assumes nothing.
use mathlib.Core.Path.{◌≡◌, refl, sym, ap, ◌∙◌}
use mathlib.Core.Logic.{◌⊎◌, inl, inr, ⊎_elim}
use mathlib.Core.Bool.{true, false}
use mathlib.Core.List.{List}
use Prim.Native.Nat.{ℕ}
use Rattle.notation.specs.Model.{Model}
use Rattle.notation.specs.Texts.{TextSays}
use Rattle.notation.proofs.Regular.{all_regular}
use Rattle.meaning.specs.Evidence.{TracePasses}
use Rattle.sheets.specs.Sheets.{system_of}
use Rattle.sheets.specs.SheetTexts.{AreBytes}
use Rattle.conditions.specs.Outcomes as W
use Rattle.std.specs.Prelude.{Ok, Err}
use Rattle.conditions.specs.declared.outcome.Outcome.TheVariants.{SafeHolds, Void, TraceHolds, FailsA, FailsB, FailsC, FailsD, FailsE, FailsF}
use Rattle.conditions.specs.working.Judging.{outcome_of}
use Rattle.acceptance.specs.Promises.{answer_to, TraceThat}
use Rattle.acceptance.specs.working.Test.{test_of}
use Rattle.acceptance.proofs.Claims as C
use Rattle.acceptance.proofs.TestMeans.{all-given}
use Rattle.traces.specs.Passed.{TracePassed}
use Rattle.traces.specs.working.Passing.{trace_passed}
use Rattle.traces.proofs.Contents.{Contents, contents_said}

-- An outcome is in words that of a trace that passes, or it is none.
pub either_way : (o : W.Tested) → TracePassed (W.wording_of o) ⊎ (trace_passed o ≡ false)
unfolding W.wording_of
either_way (Ok SafeHolds) = inr refl
either_way (Ok Void) = inr refl
either_way (Ok TraceHolds) = inl refl
either_way (Ok FailsA) = inr refl
either_way (Ok FailsB) = inr refl
either_way (Ok FailsC) = inr refl
either_way (Ok FailsD) = inr refl
either_way (Ok FailsE) = inr refl
either_way (Ok FailsF) = inr refl
either_way (Err r) = inr refl

pub not_passed : (text b : List ℕ) → ¬ (TracePassed (answer_to text b)) → trace_passed (test_of text b) ≡ false
not_passed text b h = ⊎_elim (λ e. absurd (h e)) (λ e. e) (either_way (test_of text b))

-- What the test's answer tells of a text that says a model: whether its trace passes, and that the bytes have what they say.
module _ (text : List ℕ) (m : Model) (says : TextSays text m) (b : List ℕ) (hb : AreBytes b) (holds : TracePassed (answer_to text b)) where
  outcome_passed : trace_passed (outcome_of (system_of m) b) ≡ true
  outcome_passed = ap trace_passed ((all-given m (all_regular text m says) b hb).trace_holds.1 ((C.test-tells text m says b hb).trace_holds.0 holds))

  pub test_passed : trace_passed (test_of text b) ≡ true
  test_passed = ap trace_passed (sym (C.said text m says b)) ∙ outcome_passed

  -- The trace, with what the bytes have, and that it passes.
  pub the_trace_lem : TraceThat m b λ s xs. Contents b s xs × TracePasses m s xs
  the_trace_lem =
      let (s, xs, w, p) = (C.pass-tells text m says b hb).trace_sheet.0 holds in
      (s, xs, w, (contents_said m (all_regular text m says) b hb outcome_passed s xs w, p))
