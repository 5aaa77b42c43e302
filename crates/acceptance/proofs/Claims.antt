-- What the test answers for a text, in words, and the claim said of it.
-- Assumes nothing.
use mathlib.Core.Path.{◌≡◌, refl, sym, ap, ◌∙◌}
use mathlib.Core.Logic.{◌↔◌, inl, inr}
use mathlib.Core.Bool.{cond}
use mathlib.Core.List.{List}
use Prim.Native.Nat.{ℕ}
use lib.Dec.{eqb}
use lib.ListN.{get_or}
use Rattle.notation.specs.Bytes.{bytes}
use Rattle.notation.specs.Model.{Model}
use Rattle.notation.specs.Texts.{TextSays}
use Rattle.notation.specs.working.Machine as N
use Rattle.notation.proofs.Texts.{says-answer, refused-answer, answers_recased}
use Rattle.notation.proofs.Regular.{all_regular}
use Rattle.meaning.specs.Evidence.{Verdict, safe_by, void_by, unsafe_by, Kind, safely, voidly, unsafely, kind_of, Passes, Promise}
use Rattle.meaning.proofs.Parametric.{claim}
use Rattle.sheets.specs.Sheets.{system_of}
use Rattle.sheets.specs.SheetTexts.{AreBytes}
use Rattle.conditions.specs.Outcomes.{Wording, words, letter, returned, Tested, wording_of}
use Rattle.acceptance.specs.Promises.{answer_to, TestTells, PassTells, LetsPass, TextComesFirst, TestedWithoutCase, ClaimOfTest}
use Rattle.conditions.specs.working.Judging.{outcome_of}
use Rattle.acceptance.specs.working.Test.{test_in, test_of}
use Rattle.conditions.specs.declared.outcome.Outcome.{Outcome}
use Rattle.std.specs.Prelude.{Ok, Err}
use Rattle.refusals.specs.Reasons.{number_of, refusal_of}
use Rattle.refusals.proofs.Numbers.{reason_told}
use Rattle.refusals.proofs.Texts.{text_reason}
use Rattle.conditions.specs.declared.outcome.Outcome.TheVariants.{SafeHolds, Void, TraceHolds, FailsA, FailsB, FailsC, FailsD, FailsE, FailsF}
use Rattle.acceptance.proofs.TestMeans.{all-given}

-- No two outcomes are called the same: the first letter tells the outcome.
abbrev named : ℕ → Outcome
named x =
    cond (eqb x 115) SafeHolds
    (cond (eqb x 118) Void
    (cond (eqb x 116) TraceHolds
    (cond (eqb x 65) FailsA (cond (eqb x 66) FailsB (cond (eqb x 67) FailsC (cond (eqb x 68) FailsD (cond (eqb x 69) FailsE FailsF)))))))

abbrev called_so : Wording → Tested
called_so (words s) = Ok (named (get_or (bytes s) 0 0))
called_so (letter s) = Ok (named (get_or (bytes s) 0 0))
called_so (returned n p) = Err (refusal_of n p)

pub called : (t : Tested) → called_so (wording_of t) ≡ t
unfolding wording_of bytes
called (Ok SafeHolds) = refl
called (Ok Void) = refl
called (Ok TraceHolds) = refl
called (Ok FailsA) = refl
called (Ok FailsB) = refl
called (Ok FailsC) = refl
called (Ok FailsD) = refl
called (Ok FailsE) = refl
called (Ok FailsF) = refl
called (Err r) = let e : refusal_of (number_of r.reason) r.place ≡ r = rw (reason_told r.reason) in ap Err e

-- What tells where the outcome is given tells where its words are.
in_words : (o x : Tested) {P : Type 0} → (o ≡ x) ↔ P → (wording_of o ≡ wording_of x) ↔ P
in_words o x h = (λ e. h.0 (sym (called o) ∙ ap called_so e ∙ called x), λ p. ap wording_of (h.1 p))

-- The test of a text that says a model is the outcome for the model.
pub said : (text : List ℕ) (m : Model) → TextSays text m → (b : List ℕ) → outcome_of (system_of m) b ≡ test_of text b
unfolding test_of test_in
said text m s b =
    sym (ap (λ (o : N.Outcome). test_in o b) (says-answer s.says) ∙ ap (λ (n : Model). outcome_of (system_of n) b) s.meant)

told : (o u x : Tested) {P : Type 0} → o ≡ u → (o ≡ x) ↔ P → (wording_of u ≡ wording_of x) ↔ P
told o u x e h = in_words u x (λ q. h.0 (e ∙ q), λ p. sym e ∙ h.1 p)

pub test-tells : TestTells
unfolding wording_of
test-tells text m says b bytes =
    let G = all-given m (all_regular text m says) b bytes in
    let e = said text m says b in
    record {
      refusal = λ n p. (λ o. (G.refusal n p).0 (ap wording_of e ∙ o), λ r. sym (ap wording_of e) ∙ (G.refusal n p).1 r);
      safe_holds = told _ _ (Ok SafeHolds) e G.safe_holds;
      void = told _ _ (Ok Void) e G.void;
      fails_a = told _ _ (Ok FailsA) e G.fails_a;
      fails_b = told _ _ (Ok FailsB) e G.fails_b;
      fails_c = told _ _ (Ok FailsC) e G.fails_c;
      trace_holds = told _ _ (Ok TraceHolds) e G.trace_holds;
      fails_d = told _ _ (Ok FailsD) e G.fails_d;
      fails_e = told _ _ (Ok FailsE) e G.fails_e;
      fails_f = told _ _ (Ok FailsF) e G.fails_f;
    }

pub pass-tells : PassTells
pass-tells text m says b bytes =
    let T = test-tells text m says b bytes in
    record {
      safe_sheet = (
        λ o. let t = T.safe_holds.0 o in (t.0, t.1, (record { starts = t.2.0; keeps = t.2.1; closed = t.2.2 }, t.2.3)),
        λ t. T.safe_holds.1 (t.0, t.1, (t.2.0.starts, t.2.0.keeps, t.2.0.closed, t.2.1)),
      );
      void_sheet = (
        λ o. let t = T.void.0 o in (t.0, t.1, (record { starts = t.2.0; keeps = t.2.1; closed = t.2.2 }, t.2.3)),
        λ t. T.void.1 (t.0, t.1, (t.2.0.starts, t.2.0.keeps, t.2.0.closed, t.2.1)),
      );
      trace_sheet = (
        λ o. let t = T.trace_holds.0 o in (
          t.0,
          t.1,
          t.2,
          record { start_fits = t.2.fits.0; steps_fit = t.2.fits.1; starts = t.3.0; steps = t.3.1; breaks = t.3.2 },
        ),
        λ t. T.trace_holds.1 (t.0, t.1, t.2, (t.3.starts, t.3.steps, t.3.breaks)),
      );
    }

pub text_comes_first : TextComesFirst
unfolding test_of test_in wording_of
text_comes_first text n i refused b =
    let e = refused-answer refused in
    ap (λ (o : N.Outcome). wording_of (test_in o b)) e ∙ ap (λ (k : ℕ). returned k i) (text_reason text n i e)

pub tested_without_case : TestedWithoutCase
unfolding test_of
tested_without_case text other r b = ap (λ (o : N.Outcome). wording_of (test_in o b)) (answers_recased r)

-- The answer that lets a sheet pass with a verdict of this kind.
abbrev passing : Kind → Wording
passing safely = words "safe holds"
passing voidly = words "void"
passing unsafely = words "trace holds"

-- Where a sheet is let pass, it passes with the verdict of the answer.
let_pass : (text : List ℕ) (m : Model) → TextSays text m → (b : List ℕ) → AreBytes b → LetsPass (answer_to text b)
    → (x : Verdict) × Passes m x × (answer_to text b ≡ passing (kind_of x))
let_pass text m says b hb (inl e) = let (map, q, p) = (pass-tells text m says b hb).safe_sheet.0 e in (safe_by map, p, e)
let_pass text m says b hb (inr (inl e)) = let (map, q, p) = (pass-tells text m says b hb).void_sheet.0 e in (void_by map, p, e)
let_pass text m says b hb (inr (inr e)) = let (s, xs, q, p) = (pass-tells text m says b hb).trace_sheet.0 e in (unsafe_by s xs, p, e)

pub claim_of_test : ClaimOfTest
claim_of_test text m says b hb n₁ n₂ h₁ h₂ =
    let T = pass-tells text m says b hb in
    let kept : (x : Verdict) → Passes m x → Promise m x n₁ n₂ = λ x p. claim text m says x p n₁ n₂ h₁ h₂ in
    record {
      means = test-tells text m says b hb;
      safe_sheet = λ e. let (map, q, p) = T.safe_sheet.0 e in (map, q, kept (safe_by map) p);
      void_sheet = λ e. let (map, q, p) = T.void_sheet.0 e in (map, q, kept (void_by map) p);
      trace_sheet = λ e. let (s, xs, q, p) = T.trace_sheet.0 e in (s, xs, q, kept (unsafe_by s xs) p);
      one_kind = λ other c other-says hc e f.
          let (x, p, here) = let_pass text m says b hb e in
          let (y, q, there) = let_pass other m other-says c hc f in
          there ∙ ap passing ((kept x p).agree y q) ∙ sym here;
    }
