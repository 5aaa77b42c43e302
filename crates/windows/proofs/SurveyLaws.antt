-- What comes of a question, over the bytes as the code takes them: every header is as long as that.
-- Assumes nothing.
use mathlib.Core.Path.{◌≡◌, refl, sym, ap, ◌∙◌}
use mathlib.Core.List.{List, ◌++◌}
use Prim.Native.Nat.{ℕ, ◌≤◌}
use lib.ListN.{length, take, drop, replicate}
use Rattle.std.specs.Prelude.{Result, Ok, Err}
use Rattle.notation.specs.working.Machine as N
use Rattle.notation.specs.working.Answer.{answer}
use Rattle.traces.specs.working.Passing.{header}
use Rattle.windows.specs.working.Surveying.{Survey, step_at, filled, begin_for, begin_of, answered_by, survey_in, header_of, survey_of}
use Rattle.windows.specs.working.Sliding.{commands_in, tally_of}
use Rattle.windows.specs.declared.record.Step.{Step}
use Rattle.windows.specs.declared.record.Question.{Question}
use Rattle.windows.specs.declared.record.Answer.{Answer}
use Rattle.windows.specs.declared.record.Unanswered.{Unanswered}
use Rattle.windows.specs.declared.record.Tally.{Tally}
use Rattle.windows.specs.declared.record.Begun.{Begun}
use Rattle.windows.specs.declared.record.Reply.{Reply}
use Rattle.windows.proofs.Filled.{length-filled, part-front, part-rest}
use Rattle.windows.proofs.AskLaws.{counts-long}

survey-for : (q : Question) (b : List ℕ) (list : List Step) (x : N.Outcome)
    → survey_in header q (begin_for x q b (length list)) b list ≡ survey_in (header_of x) q (begin_for x q b (length list)) b list
unfolding begin_for survey_in
survey-for q b list (N.read x) = refl
survey-for q b list (N.refused n i) = refl

module _ (q : Question) (text b : List ℕ) (list : List Step) where
  pub survey_by : survey_in header q (begin_of q text b (length list)) b list ≡ survey_of q text b list
  unfolding survey_of begin_of
  survey_by = survey-for q b list (answer text)

  -- Whatever it begins with, there are sixteen counts.
  sixteen : (x : Result Begun Unanswered) → x ≡ begin_of q text b (length list) → length (survey_in header q x b list).reply.counts ≡ 16
  unfolding survey_in
  sixteen (Ok begun) e = counts-long q text b (length list) begun e
  sixteen (Err u) e = refl

  pub survey-counts : length (survey_of q text b list).reply.counts ≡ 16
  survey-counts = ap (λ (s : Survey). length s.reply.counts) (sym survey_by) ∙ sixteen (begin_of q text b (length list)) refl

  -- Whatever it begins with, the list is as long as before.
  as_long : (x : Result Begun Unanswered) → length (survey_in header q x b list).list ≡ length list
  unfolding survey_in
  as_long (Ok begun) = length-filled (step_at header b) list begun.steps
  as_long (Err u) = refl

  pub survey-length : length (survey_of q text b list).list ≡ length list
  survey-length = ap (λ (s : Survey). length s.list) (sym survey_by) ∙ as_long (begin_of q text b (length list))

  -- What it begins with, as the code has it, tells the whole survey.
  whole : (x : Result Begun Unanswered) → x ≡ begin_of q text b (length list) → survey_in header q x b list ≡ survey_of q text b list
  whole x e = ap (λ (y : Result Begun Unanswered). survey_in header q y b list) e ∙ survey_by

  -- Where there is no answer, the list stays.
  module _ (u : Unanswered) (is : Err u ≡ begin_of q text b (length list)) where
    pub unanswered_list : list ≡ (survey_of q text b list).list
    unfolding survey_in
    unanswered_list = ap (λ (s : Survey). s.list) (whole (Err u) is)

    pub unanswered_reply : ◌≡◌ {A = Reply} (record { answer = Err u; counts = replicate 16 0 }) (survey_of q text b list).reply
    unfolding survey_in
    unanswered_reply = ap (λ (s : Survey). s.reply) (whole (Err u) is)

  -- Else a part of it is filled from the front on, and the tally of its commands answers.
  module _ (begun : Begun) (began : Ok begun ≡ begin_of q text b (length list)) (room : begun.steps ≤ length list)
      (part : List Step) (full : part ≡ filled (step_at header b) (take begun.steps list) (length (take begun.steps list))) where
    pub surveyed_list : part ++ drop begun.steps list ≡ (survey_of q text b list).list
    unfolding survey_in
    surveyed_list = part-rest (step_at header b) list begun.steps room part full ∙ ap (λ (s : Survey). s.list) (whole (Ok begun) began)

    pub surveyed_reply : (t : Tally) → t ≡ tally_of begun.from.command begun.from.width (commands_in part)
        → (a : Answer) → a ≡ answered_by q begun.steps t → ◌≡◌ {A = Reply} (record { answer = Ok a; counts = begun.counts }) (survey_of q text b list).reply
    unfolding survey_in
    surveyed_reply t counted a answers =
        ap (λ (x : Answer). record { answer = Ok x; counts = begun.counts }) (answers ∙ ap (answered_by q begun.steps) (counted
        ∙ ap (λ (l : List Step). tally_of begun.from.command begun.from.width (commands_in l)) (part-front (step_at header b) list begun.steps room part full)))
        ∙ ap (λ (s : Survey). s.reply) (whole (Ok begun) began)
