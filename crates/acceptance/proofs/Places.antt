-- How far the numbers in the test's answers reach.
-- Assumes nothing.
use mathlib.Core.Path.{◌≡◌, refl, sym, subst}
use mathlib.Core.Logic.{◌⊎◌, inl, inr}
use mathlib.Core.List.{List}
use Prim.Native.Nat.{ℕ, ◌≤◌}
use native.Mathlib.Omega.{arith}
use lib.ListN.{length}
use Rattle.notation.specs.Model.{Model}
use Rattle.notation.specs.Texts.{TextSays, TextRefused}
use Rattle.notation.proofs.Texts.{one_answer}
use Rattle.notation.proofs.Places.{refusals_bounded}
use Rattle.sheets.specs.Sheets.{System, system_of}
use Rattle.sheets.specs.SheetTexts.{longest, Stage, Clean, begin, next, SheetRefused, too_long, misplaced, out_of_range}
use Rattle.conditions.specs.Outcomes.{returned, Tested, wording_of}
use Rattle.std.specs.Prelude.{Ok, Err}
use Rattle.acceptance.specs.Promises.{answer_to, Bounded, AnswersBounded}
use Rattle.conditions.specs.working.Judging.{outcome_of}
use Rattle.conditions.specs.declared.outcome.Outcome.TheVariants.{SafeHolds, Void, TraceHolds, FailsA, FailsB, FailsC, FailsD, FailsE, FailsF}
use Rattle.sheets.proofs.SheetRefusals.{within}
use Rattle.acceptance.proofs.TestMeans.{refusal-means}
use Rattle.acceptance.proofs.Claims.{said, text_comes_first}

module _ (M : System) (b : List ℕ) where
  short : (p : ℕ) (s : Stage) → Clean M b p s → length b ≤ longest
  short p s (begin h) = h
  short p s (next {p = q} {s = u} c a h) = short q u c

  sheet_bounded : (n p : ℕ) → SheetRefused M b n p → (1 ≤ n) × (n ≤ 10) × (p ≤ longest)
  sheet_bounded n p (too_long h) = (omega arith, omega arith, omega arith)
  sheet_bounded n p (misplaced {s = s} c m e) = (omega arith, omega arith, omega (arith, within M b p s c, short p s c))
  sheet_bounded n p (out_of_range {s = s} c a h) = (omega arith, omega arith, omega (arith, within M b p s c, short p s c))

-- Only a refusal has numbers.
bounded_if : (t : Tested) → ((n p : ℕ) → wording_of t ≡ returned n p → (1 ≤ n) × (n ≤ 10) × (p ≤ longest)) → Bounded (wording_of t)
unfolding wording_of
bounded_if (Ok SafeHolds) f = tt
bounded_if (Ok Void) f = tt
bounded_if (Ok TraceHolds) f = tt
bounded_if (Ok FailsA) f = tt
bounded_if (Ok FailsB) f = tt
bounded_if (Ok FailsC) f = tt
bounded_if (Ok FailsD) f = tt
bounded_if (Ok FailsE) f = tt
bounded_if (Ok FailsF) f = tt
bounded_if (Err r) f = f _ _ refl

pub answers_bounded : AnswersBounded
answers_bounded text b = go (one_answer text).some
  where
    go : ((m : Model) × TextSays text m) ⊎ ((n i : ℕ) × TextRefused text n i) → Bounded (answer_to text b)
    go (inl (m, says)) =
        subst (λ (t : Tested). Bounded (wording_of t)) (said text m says b)
        (bounded_if (outcome_of (system_of m) b) (λ n p e. sheet_bounded (system_of m) b n p ((refusal-means (system_of m) b n p).0 e)))
    go (inr (n, i, r)) =
        let B = refusals_bounded text n i r in
        subst Bounded (sym (text_comes_first text n i r b)) (B.low, omega (arith, B.high), omega (arith, B.near))
