-- `nutseason_burst` asks for a number of bounded answers, as the law of the survey's replies has it.
use Rattle.windows.proofs.Replies.{survey_replies}
use Rattle.workbench.proofs.bursts.nutseason_burst.Goals as goal

pub answer_number-requires : goal.answer_number-requires
answer_number-requires c = (survey_replies _ _ _ _ _ _ c.survey-reply.ensures).0
