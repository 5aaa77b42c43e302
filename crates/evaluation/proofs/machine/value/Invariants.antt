-- `value` meets its contract: the nodes that are left give from here what all of them give from the beginning.
use mathlib.Core.Path.{◌≡◌}
use lib.ListN.{drop}
use Rattle.evaluation.specs.working.CodeMachine.{values_of}
use Rattle.evaluation.proofs.machine.value.Given as goal

abbrev pub invariant-nodes : goal.invariant-nodes
invariant-nodes l = (l.passes ≡ l.op-index) × (values_of (drop l.op-index l.code) l.word l.state l.stack ≡ values_of l.code l.word l.state l.initial.stack)
