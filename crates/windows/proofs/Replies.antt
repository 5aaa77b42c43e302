-- A law for functions that have a list to lend: what whoever calls `survey` knows of its reply.
-- Assumes nothing.
use mathlib.Core.Path.{◌≡◌, sym, subst}
use mathlib.Core.List.{List}
use Prim.Native.Nat.{ℕ}
use lib.ListN.{length}
use Rattle.sheets.specs.SheetTexts.{AreBytes}
use Rattle.windows.specs.working.Surveying.{survey_of}
use Rattle.windows.specs.declared.record.Step.{Step}
use Rattle.windows.specs.declared.record.Question.{Question}
use Rattle.windows.specs.declared.record.Reply.{Reply}
use Rattle.windows.specs.Questions.{wording_of}
use Rattle.windows.specs.Promises.{Bounded}
use Rattle.windows.proofs.SurveyLaws.{survey-counts}
use Rattle.windows.proofs.SurveyNumbers.{surveys_bounded}

module _ (question : Question) (text sheet : List ℕ) (ys : List Step) where
  -- what is ensured of the list afterwards and of the reply
  abbrev pub Known : List Step → Reply → Type 0
  Known l r = (l ≡ (survey_of question text sheet ys).list) × (r ≡ (survey_of question text sheet ys).reply) × AreBytes sheet

  -- An answer has a number of its own, and the counts are sixteen, whatever was asked.
  pub survey_replies : (l : List Step) (r : Reply) → Known l r → Bounded (wording_of r.answer) × (length r.counts ≡ 16)
  survey_replies l r known =
      subst (λ (x : Reply). Bounded (wording_of x.answer) × (length x.counts ≡ 16)) (sym known.1)
      (surveys_bounded text sheet question ys, survey-counts question text sheet ys)
