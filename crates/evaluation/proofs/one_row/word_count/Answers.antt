-- `word_count` meets its contract: a power of the star count, which is at most 8.
use Rattle.evaluation.proofs.OneRowCode.{words-few}
use Rattle.evaluation.proofs.one_row.word_count.Goals as goal

pub returns : goal.returns
returns c = words-few c.requires.1 _ _ _ c.requires.0 c.from.ensures c.power.ensures
