-- How far the numbers in answers to questions reach.
-- Assumes nothing.
use mathlib.Core.Path.{◌≡◌, ◌∙◌, refl, sym, ap, subst}
use mathlib.Core.List.{List}
use Prim.Native.Nat.{ℕ, ◌≤◌}
use native.Mathlib.Omega.{arith}
use lib.ListN.{length, take, length-map, length-take}
use Rattle.std.specs.Prelude.{Result, Ok, Err}
use Rattle.refusals.specs.declared.Reason.{Reason}
use Rattle.refusals.specs.declared.Reason.TheVariants.{TextTooLong, NoToken, Unexpected, Redeclared, Undeclared, StarBarred, TooMany, NoRoom, Malformed, OutOfRange, BadWidth}
use Rattle.refusals.specs.Reasons.{number_of}
use Rattle.conditions.specs.Outcomes as O
use Rattle.conditions.proofs.Declining.{wording_declined}
use Rattle.acceptance.specs.Promises.{answer_to}
use Rattle.acceptance.specs.Promises as T
use Rattle.acceptance.specs.working.Test.{test_of}
use Rattle.acceptance.proofs.Places.{answers_bounded}
use Rattle.traces.specs.working.Passing.{header}
use Rattle.windows.specs.Bursts.{burst}
use Rattle.windows.specs.Questions.{wording_of}
use Rattle.windows.specs.Questions as W
use Rattle.windows.specs.Promises.{Bounded, SurveysBounded}
use Rattle.windows.specs.working.Sliding.{commands_in, tally_of}
use Rattle.windows.specs.working.Surveying.{step_at, filled, begin_of, answered_by, Survey, survey_in}
use Rattle.windows.specs.declared.record.Step.{Step}
use Rattle.windows.specs.declared.record.Question.{Question}
use Rattle.windows.specs.declared.record.Question.TheVariants as Q
use Rattle.windows.specs.declared.record.Unanswered.{Unanswered}
use Rattle.windows.specs.declared.record.Unanswered.TheVariants as U
use Rattle.windows.specs.declared.record.Begun.{Begun}
use Rattle.windows.proofs.AskLaws.{declined_so, Counting, counting_as}
use Rattle.windows.proofs.BurstLaws.{burst-most_le, burst-place_le}
use Rattle.windows.proofs.SurveyLaws.{survey_by}

-- The numbers of reasons.
reason_bounded : (r : Reason) → (1 ≤ number_of r) × (number_of r ≤ 16)
unfolding number_of
reason_bounded TextTooLong = (omega arith, omega arith)
reason_bounded NoToken = (omega arith, omega arith)
reason_bounded Unexpected = (omega arith, omega arith)
reason_bounded Redeclared = (omega arith, omega arith)
reason_bounded Undeclared = (omega arith, omega arith)
reason_bounded StarBarred = (omega arith, omega arith)
reason_bounded TooMany = (omega arith, omega arith)
reason_bounded NoRoom = (omega arith, omega arith)
reason_bounded Malformed = (omega arith, omega arith)
reason_bounded OutOfRange = (omega arith, omega arith)
reason_bounded BadWidth = (omega arith, omega arith)

-- A burst in so many steps.
burst_bounded : (k w : ℕ) (xs : List ℕ) → 1 ≤ w → length xs ≤ 6551 → Bounded (W.burst (burst k w xs).most (burst k w xs).place)
burst_bounded k w xs one few =
    let p = burst-place_le k w xs in
    (omega (arith, few, burst-most_le k w xs), p.0, omega (arith, one, few, p.1))

-- The commands of the first n records are no more than n.
front-few : (l : List Step) (n : ℕ) → n ≤ 6551 → length (commands_in (take n l)) ≤ 6551
front-few l n h = omega (arith, h, length-map (take n l) (λ (s : Step). s.command), length-take n l)

module _ (text b : List ℕ) (list : List Step) where
  -- Where steps are counted.
  counted_bounded : (q : Question) (begun : Begun) → Counting b (length list) begun → (l : List Step)
      → Bounded (wording_of (Ok (answered_by q begun.steps (tally_of begun.from.command begun.from.width (commands_in (take begun.steps l))))))
  unfolding tally_of wording_of answered_by
  counted_bounded Q.Steps begun K l = K.few
  counted_bounded (Q.Counts room) begun K l = K.few
  counted_bounded (Q.Burst k w) begun K l = burst_bounded begun.from.command begun.from.width _ K.width (front-few l begun.steps K.few)

  -- And where there is no answer.
  begun_bounded : (q : Question) (x : Result Begun Unanswered) → x ≡ begin_of q text b (length list) → Bounded (wording_of (survey_in header q x b list).reply.answer)
  unfolding survey_in wording_of
  begun_bounded q (Ok begun) e = counted_bounded q begun (counting_as q text b (length list) begun e) (filled (step_at header b) list begun.steps)
  begun_bounded q (Err (U.Refused r)) e = reason_bounded r
  begun_bounded q (Err (U.Declined d)) e =
      let f : O.wording_of_declined d ≡ answer_to text b = ap O.wording_of_declined (declined_so q text b (length list) d e) ∙ wording_declined (test_of text b) in
      subst T.Bounded (sym f) (answers_bounded text b)

pub surveys_bounded : SurveysBounded
surveys_bounded text b q list =
    subst (λ (s : Survey). Bounded (wording_of s.reply.answer)) (survey_by q text b list) (begun_bounded text b list q (begin_of q text b (length list)) refl)
