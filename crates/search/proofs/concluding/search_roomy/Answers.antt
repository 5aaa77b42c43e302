-- `search_roomy` meets its contract: the whole search, and what it leaves.
use Rattle.exploration.proofs.CodeSteps.{code_lawful}
use Rattle.exploration.proofs.Whole.{ran_closing}
use Rattle.search.proofs.SearchesLeft.{run_left}
use Rattle.search.proofs.concluding.search_roomy.Goals as goal

pub conclude-requires : goal.conclude-requires
conclude-requires c =
    (c.requires.0, ran_closing (code_lawful c.args.table.now.ops.now c.args.table.now.plan) c.run-reach.ensures, c.requires.3)

pub returns : goal.returns
returns c =
    run_left _ _ c.args.table.now.sound _ c.requires.0 _ c.requires.3 c.run-reach.ensures c.conclude.ensures
