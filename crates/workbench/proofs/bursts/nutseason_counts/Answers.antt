-- `nutseason_counts` asks for a number of bounded answers with sixteen counts, as the law of the survey's replies has it.
use Rattle.windows.proofs.Replies.{survey_replies}
use Rattle.workbench.proofs.bursts.nutseason_counts.Goals as goal

pub counts_number-requires : goal.counts_number-requires
counts_number-requires c = survey_replies _ _ _ _ _ _ c.survey-reply.ensures
