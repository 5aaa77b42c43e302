-- `begin` meets its contract: the start states, taken into cleared tables.
use Rattle.exploration.specs.working.CodeTransitions.{transitions_in}
use Rattle.traversal.proofs.WholeRuns.{ready_cleared}
use Rattle.traversal.proofs.exploring.begin.Goals as goal

pub take_in-requires : goal.take_in-requires
take_in-requires c = (
  c.requires.0,
  ready_cleared (transitions_in _ c.args.table.now.plan) _ c.requires.0 _ _ _ c.clear.ensures c.requires.1 c.requires.2,
)
