-- `nutseason_met` asks for a number of bounded replies, as every reply is.
use Rattle.std.specs.Prelude.{Bool, Result}
use mathlib.Core.Path.{sym, subst}
use Rattle.conditions.specs.declared.outcome.Declined.{Declined}
use Rattle.questions.specs.Answers.{wording_of}
use Rattle.questions.specs.Promises.{Bounded}
use Rattle.pauses.proofs.MetRefusals.{met_bounded}
use Rattle.workbench.proofs.portions.nutseason_met.Goals as goal

pub reply_number-requires : goal.reply_number-requires
reply_number-requires c =
    subst (λ (r : Result Bool Declined). Bounded (wording_of r)) (sym c.met.ensures) (met_bounded _ _ _ _)
