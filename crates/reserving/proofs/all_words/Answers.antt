-- `all_words` meets its contract: the sum so far and the words of the commands that are left make the whole sum.
use native.Mathlib.Omega.{arith}
use Rattle.exploration.proofs.TrialCounts.{sum-next, sum-end}
use Rattle.reserving.proofs.all_words.Goals as goal

pub commands-preserved : goal.commands-preserved
commands-preserved c = (
  sum-next _ _ _ _ c.commands.invariant.0 c.commands-test.true _ c.word_count-sum.ensures.0,
  omega (arith, c.commands.invariant.1, c.word_count-sum.ensures.1),
)

pub returns : goal.returns
returns c = (
  sum-end _ _ _ _ c.commands.invariant.0 c.commands-test.false,
  omega (arith, c.commands.auto.k-end, c.commands.invariant.1, c.args.table.now.sound.few_commands),
)
