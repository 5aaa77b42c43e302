-- `run` meets its contract: the start states, then the queue.
use Rattle.exploration.specs.working.CodeTransitions.{transitions_in}
use Rattle.traversal.proofs.WholeRuns.{run-broke, run_on}
use Rattle.traversal.proofs.exploring.run.Goals as goal

pub returns-then-x : goal.returns-then-x
returns-then-x c =
    run-broke (transitions_in _ c.args.table.now.plan) _ c.requires.0 c.begin-x.ensures.began c.if-x.true _
    c.begin-x.ensures.head_value.1

pub returns : goal.returns
returns c =
    run_on (transitions_in _ c.args.table.now.plan) _ c.requires.0 c.begin-x.ensures.began c.if-x.false
    c.explore.ensures
