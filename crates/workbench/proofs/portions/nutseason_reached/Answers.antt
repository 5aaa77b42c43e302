-- `nutseason_reached` asks for a number of bounded replies, as every reply is.
use Rattle.std.specs.Prelude.{Bool, Result}
use mathlib.Core.Path.{sym, subst}
use Rattle.conditions.specs.declared.outcome.Declined.{Declined}
use Rattle.questions.specs.Answers.{wording_of}
use Rattle.questions.specs.Promises.{Bounded}
use Rattle.questions.proofs.ReachedTells.{replies_bounded}
use Rattle.workbench.proofs.portions.nutseason_reached.Goals as goal

pub reply_number-requires : goal.reply_number-requires
reply_number-requires c =
    subst (λ (r : Result Bool Declined). Bounded (wording_of r)) (sym c.reached.ensures.value) (replies_bounded _ _ _)
