-- Where counts are asked for, an answer with the number of steps means that there is room for sixteen of them.
-- Assumes nothing.
use mathlib.Core.Path.{◌≡◌, refl, ap, ◌∙◌}
use mathlib.Core.Bool.{Bool, true, false, cond}
use mathlib.Core.List.{List}
use Prim.Native.Nat.{ℕ, ◌≤◌}
use native.Mathlib.Omega.{arith}
use lib.Dec.{ltb}
use lib.ListN.{length, get_or}
use borrow.Author.Tests.{eqb-true, ltb-false}
use Rattle.std.specs.Prelude.{Result, Ok, Err}
use Rattle.traces.specs.working.Passing.{last_place, header}
use Rattle.windows.specs.Questions.{steps, wording_of, fault_of, refusal_of}
use Rattle.windows.specs.Promises.{answer_of}
use Rattle.windows.specs.working.Surveying.{Survey, begin_of, survey_in}
use Rattle.windows.specs.declared.record.Step.{Step}
use Rattle.windows.specs.declared.record.Question.TheVariants as Q
use Rattle.windows.specs.declared.record.Unanswered.{Unanswered}
use Rattle.windows.specs.declared.record.Unanswered.TheVariants as U
use Rattle.windows.specs.declared.record.Begun.{Begun}
use Rattle.windows.proofs.AskLaws.{has_room, begun_so}
use Rattle.windows.proofs.SurveyLaws.{survey_by}

no-fault : (room : ℕ) (t : Bool) → ltb room 16 ≡ t → ◌≡◌ {A = ℕ} (cond t 8 0) 0 → 16 ≤ room
no-fault room true e f = absurd (omega (arith, f))
no-fault room false e f = ltb-false room 16 e

module _ (room : ℕ) (text b : List ℕ) (list : List Step) (n : ℕ) (e : answer_of (Q.Counts room) text b list ≡ steps n) where
  unrefused : (begun : Begun) → Ok begun ≡ begin_of (Q.Counts room) text b (length list) → 16 ≤ room
  unfolding refusal_of fault_of
  unrefused begun began =
      let r = eqb-true _ _ (begun_so (Q.Counts room) text b (length list) begun began).0 in
      no-fault room (ltb room 16) refl (has_room (Q.Counts room) (get_or b 8 0) (length list) (last_place header b) (ltb (length list) (last_place header b)) refl r).1

  by_begun : (x : Result Begun Unanswered) → x ≡ begin_of (Q.Counts room) text b (length list) → wording_of (survey_in header (Q.Counts room) x b list).reply.answer ≡ steps n → 16 ≤ room
  unfolding survey_in wording_of
  by_begun (Ok begun) f g = unrefused begun f
  by_begun (Err (U.Refused r)) f g = let z : ◌≡◌ {A = ℕ} 0 1 = cc in absurd (omega arith)
  by_begun (Err (U.Declined d)) f g = let z : ◌≡◌ {A = ℕ} 0 1 = cc in absurd (omega arith)

  pub counts-room : 16 ≤ room
  counts-room = by_begun (begin_of (Q.Counts room) text b (length list)) refl (ap (λ (s : Survey). wording_of s.reply.answer) (survey_by (Q.Counts room) text b list) ∙ e)
