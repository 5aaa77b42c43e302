-- What is answered to questions about every text, all bytes and every list, in words, and what the list holds afterwards.
-- Assumes nothing.
use mathlib.Core.Path.{◌≡◌, refl, sym, ap, ◌∙◌}
use mathlib.Core.Bool.{true, false}
use mathlib.Core.List.{List, map}
use Prim.Native.Nat.{ℕ, ◌≤◌}
use native.Mathlib.Omega.{arith}
use lib.Dec.{eqb, ltb}
use lib.ListN.{length, get_or, take, length-map}
use lib.Seq.{sets}
use borrow.Author.Tests.{eq-eqb, ne_eqb}
use Rattle.notation.specs.Model.{Model}
use Rattle.notation.specs.working.Machine as N
use Rattle.notation.proofs.Texts.{answers_recased}
use Rattle.meaning.specs.Bits.{first}
use Rattle.meaning.specs.OneRow.{TraceStep}
use Rattle.std.specs.Prelude.{Result, Ok, Err}
use Rattle.refusals.specs.Reasons.{reason_of}
use Rattle.conditions.specs.Outcomes as O
use Rattle.conditions.proofs.Declining.{wording_declined}
use Rattle.acceptance.specs.Promises.{answer_to}
use Rattle.acceptance.specs.working.Test.{test_of}
use Rattle.acceptance.proofs.Claims as C
use Rattle.traces.specs.working.Passing.{trace_passed, last_place, header}
use Rattle.traces.proofs.Contents.{Contents, contents_length, commands-counted}
use Rattle.traces.proofs.PassedTold.{not_passed, test_passed, the_trace_lem}
use Rattle.windows.specs.Bursts.{commands_of, burst, counts_of}
use Rattle.windows.specs.Questions.{record_of, with_steps, refusal_of, Wording, steps, told, wording_of, answer_for}
use Rattle.windows.specs.Questions as W
use Rattle.windows.specs.Promises.{answer_of, counts_after, list_after, OnTrace, SurveysTell, RefusalTells, SurveyedWithoutCase}
use Rattle.windows.specs.working.Sliding.{commands_in, tally_of, fresh}
use Rattle.windows.specs.working.Surveying.{step_at, commands_at, filled, tally_for, going, begin_in, begin_for, begin_of, answered_by, Survey, survey_in, header_of, survey_of}
use Rattle.windows.specs.declared.record.Step.{Step}
use Rattle.windows.specs.declared.record.Question.{Question}
use Rattle.windows.specs.declared.record.Question.TheVariants as Q
use Rattle.windows.specs.declared.record.Unanswered.{Unanswered}
use Rattle.windows.specs.declared.record.Unanswered.TheVariants as U
use Rattle.windows.specs.declared.record.Begun.{Begun}
use Rattle.windows.proofs.AskLaws.{has_room, refusal_told, begin-told, begin_passed}
use Rattle.windows.proofs.Filled.{filled-sets, filled-front}
use Rattle.windows.proofs.StepRecords.{commands-kept, steps_records, steps-commands}
use Rattle.windows.proofs.SurveyLaws.{survey_by}

-- Of a survey: what is answered, how often each command occurs, and the list.
record Tells (s : Survey) (answer : Wording) (counts : List ℕ) (after : List Step) : Type 0 where
  pub answer-is : wording_of s.reply.answer ≡ answer
  pub counts_are : s.reply.counts ≡ counts
  pub list-is : s.list ≡ after

-- The steps of a trace that passes, over what the bytes have.
module _ {b : List ℕ} {s : ℕ} {xs : List TraceStep} (C : Contents b s xs) (list : List Step) (room : last_place header b ≤ length list) where
  abbrev n : ℕ
  n = last_place header b

  records : first n (step_at header b) ≡ map record_of xs
  records = sym (ap (map record_of) C.steps ∙ steps_records b n)

  commands : commands_at header b n ≡ commands_of xs
  commands = sym (ap commands_of C.steps ∙ steps-commands b n)

  list-filled : filled (step_at header b) list n ≡ with_steps list xs
  list-filled = filled-sets (step_at header b) list n ∙ ap (sets list 0) records

  seen : commands_in (take n (filled (step_at header b) list n)) ≡ commands_of xs
  seen = ap commands_in (filled-front (step_at header b) list n room ∙ records) ∙ commands-kept xs

  as_many : n ≡ length (commands_of xs)
  as_many = sym (length-map xs (λ (x : TraceStep). x.command) ∙ contents_length C)

  counted : counts_of (commands_at header b n) ≡ counts_of (commands_of xs)
  counted = ap counts_of commands

  -- A question that is not refused, whichever it is.
  goes : (q : Question) → Tells (survey_in header q (Ok (going q n (counts_of (commands_at header b n)))) b list) (answer_for q (commands_of xs)) (counts_of (commands_of xs)) (with_steps list xs)
  unfolding survey_in tally_for fresh tally_of wording_of answered_by answer_for
  goes Q.Steps = record { answer-is = ap steps as_many; counts_are = counted; list-is = list-filled }
  goes (Q.Counts places) = record { answer-is = ap steps as_many; counts_are = counted; list-is = list-filled }
  goes (Q.Burst k w) = record { answer-is = ap (λ (ys : List ℕ). W.burst (burst k w ys).most (burst k w ys).place) seen; counts_are = counted; list-is = list-filled }

-- The whole survey tells answer, counts and list.
all_told : (q : Question) (text b : List ℕ) (list : List Step) (begun : Result Begun Unanswered) → begin_of q text b (length list) ≡ begun
    → survey_of q text b list ≡ survey_in header q begun b list
all_told q text b list begun e = sym (survey_by q text b list) ∙ ap (λ (x : Result Begun Unanswered). survey_in header q x b list) e

-- A question on a trace that passes.
module _ (text b : List ℕ) (passed : trace_passed (test_of text b) ≡ true) {s : ℕ} {xs : List TraceStep} (C : Contents b s xs) (m : Model) (counts : get_or b 8 0 ≡ length m.commands)
    (q : Question) (list : List Step) where
  -- Its first refusal, over the trace and over the bytes.
  same-refusal : refusal_of q (get_or b 8 0) (length list) (last_place header b) ≡ refusal_of q (length m.commands) (length list) (length xs)
  same-refusal = ap (λ (k : ℕ). refusal_of q k (length list) (last_place header b)) counts ∙ ap (refusal_of q (length m.commands) (length list)) (sym (contents_length C))

  told-refused : (n : ℕ) → refusal_of q (length m.commands) (length list) (length xs) ≡ n → 1 ≤ n
      → (answer_of q text b list ≡ W.refused n) × (list_after q text b list ≡ list)
  unfolding begin_in survey_in wording_of
  told-refused n e h =
      let r : refusal_of q (get_or b 8 0) (length list) (last_place header b) ≡ n = same-refusal ∙ e in
      let test : eqb (refusal_of q (get_or b 8 0) (length list) (last_place header b)) 0 ≡ false = ne_eqb _ _ (λ z. let f : n ≡ 0 = sym r ∙ z in omega (arith, h, f)) in
      let begun : begin_of q text b (length list) ≡ Err (U.Refused (reason_of n)) = begin_passed q text b (length list) passed ∙ rw test (ap (λ (k : ℕ). Err (U.Refused (reason_of k))) r) in
      let t = all_told q text b list (Err (U.Refused (reason_of n))) begun in
      (ap (λ (u : Survey). wording_of u.reply.answer) t ∙ ap W.refused (refusal_told q (length m.commands) (length list) (length xs) n e h), ap (λ (u : Survey). u.list) t)

  told-answered : refusal_of q (length m.commands) (length list) (length xs) ≡ 0
      → (answer_of q text b list ≡ answer_for q (commands_of xs)) × (counts_after q text b list ≡ counts_of (commands_of xs)) × (list_after q text b list ≡ with_steps list xs)
  unfolding begin_in refusal_of
  told-answered e =
      let r : refusal_of q (get_or b 8 0) (length list) (last_place header b) ≡ 0 = same-refusal ∙ e in
      let test : eqb (refusal_of q (get_or b 8 0) (length list) (last_place header b)) 0 ≡ true = eq-eqb _ _ r in
      let room : last_place header b ≤ length list = (has_room q (get_or b 8 0) (length list) (last_place header b) (ltb (length list) (last_place header b)) refl r).0 in
      let start : Begun = going q (last_place header b) (counts_of (commands_at header b (last_place header b))) in
      let begun : begin_of q text b (length list) ≡ Ok start = begin_passed q text b (length list) passed ∙ rw test refl in
      let t = all_told q text b list (Ok start) begun in
      let T = goes C list room q in
      (ap (λ (u : Survey). wording_of u.reply.answer) t ∙ T.answer-is, ap (λ (u : Survey). u.reply.counts) t ∙ T.counts_are, ap (λ (u : Survey). u.list) t ∙ T.list-is)

  on-trace : OnTrace m xs q list (answer_of q text b list) (counts_after q text b list) (list_after q text b list)
  on-trace = record { refused = told-refused; answered = told-answered }

-- Where no trace passes.
no-trace : (text b : List ℕ) → trace_passed (test_of text b) ≡ false → (q : Question) (list : List Step)
    → (answer_of q text b list ≡ told (answer_to text b)) × (list_after q text b list ≡ list)
unfolding survey_in wording_of
no-trace text b e q list =
    let t = all_told q text b list _ (begin-told q text b (length list) e) in
    (ap (λ (u : Survey). wording_of u.reply.answer) t ∙ ap told (wording_declined (test_of text b)), ap (λ (u : Survey). u.list) t)

pub surveys_tell : SurveysTell
surveys_tell text m says b hb q list =
    record {
      on_trace = λ holds.
          let passed = test_passed text m says b hb holds in
          let counts = commands-counted m b (ap trace_passed (C.said text m says b) ∙ passed) in
          let (s, xs, w, t) = the_trace_lem text m says b hb holds in
          (s, xs, w, on-trace text b passed t.0 m counts q list);
      no_trace = λ h. no-trace text b (not_passed text b h) q list;
    }

-- A text that is refused: the test answers the refusal, which is not that of a trace.
pub refusal-tells : RefusalTells
refusal-tells text n i r b q list =
    let e : answer_to text b ≡ O.returned n i = C.text_comes_first text n i r b in
    let h : trace_passed (test_of text b) ≡ false = not_passed text b (λ t. let z : ◌≡◌ {A = ℕ} 0 1 = cc in omega arith) in
    let t = no-trace text b h q list in
    (t.0 ∙ ap told e, t.1)

pub surveyed_without_case : SurveyedWithoutCase
unfolding survey_of begin_of
surveyed_without_case text other r b q list = ap (λ (x : N.Outcome). survey_in (header_of x) q (begin_for x q b (length list)) b list) (answers_recased r)
