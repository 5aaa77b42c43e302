-- `nutseason_read` meets its contract: the number of the reader's answer.
use Rattle.loader.proofs.Told.{near, counts_fit}
use Rattle.loader.proofs.nutseason_read.Goals as goal

pub model_number-requires : goal.model_number-requires
model_number-requires c = counts_fit _ _ c.in-Ok.ensures

pub refusal_number-requires : goal.refusal_number-requires
refusal_number-requires c = near _ _ c.in-Err.ensures
