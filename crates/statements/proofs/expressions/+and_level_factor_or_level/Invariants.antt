-- The readers of an expression's three levels: the depth that is left falls, and the levels count below it; what a loop has still to read gives what all of it gave.
use Prim.Native.Nat.{◌+◌, ◌-◌, ◌*◌}
use Rattle.statements.specs.working.Cursors.{mode_of}
use Rattle.statements.proofs.OperatorLoops.{and_chain, or_chain, Turn}
use Rattle.statements.proofs.expressions.+and_level_factor_or_level.Given as goal

abbrev pub decreases-and_level : goal.decreases-and_level
decreases-and_level l = 3 * l.depth + 1

abbrev pub decreases-factor : goal.decreases-factor
decreases-factor l = 3 * l.depth

abbrev pub decreases-or_level : goal.decreases-or_level
decreases-or_level l = 3 * l.depth + 2

abbrev pub invariant-and_level-ands : goal.invariant-and_level-ands
invariant-and_level-ands l =
    Turn (and_chain l.text l.names l.l (mode_of l.sc) (16 - l.depth)) l.initial.ops l.initial.c l.ops l.c

abbrev pub decreases-and_level-ands : goal.decreases-and_level-ands
decreases-and_level-ands l = 1024 - l.c.nodes

abbrev pub invariant-or_level-ors : goal.invariant-or_level-ors
invariant-or_level-ors l =
    Turn (or_chain l.text l.names l.l (mode_of l.sc) (16 - l.depth)) l.initial.ops l.initial.c l.ops l.c

abbrev pub decreases-or_level-ors : goal.decreases-or_level-ors
decreases-or_level-ors l = 1024 - l.c.nodes
