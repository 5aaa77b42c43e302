-- `move_to` meets its contract: the first of the moves left is the first of all.
use Prim.Native.Nat.{◌+◌, ◌-◌}
use mathlib.Core.Path.{◌≡◌}
use mathlib.Core.List.{◌++◌}
use lib.Seq.{slice}
use Rattle.evaluation.proofs.Batches as B
use Rattle.exploration.specs.working.CodeTransitions.{transitions_in}
use Rattle.exploration.specs.working.Runs.{move_to}
use Rattle.exploration.specs.working.Transitions.{words_from, moves_from, moves}
use Rattle.tracing.proofs.traces.move_to.Given as goal

abbrev pub invariant-words : goal.invariant-words
invariant-words l =
    (move_to (transitions_in l.table.ops.now l.table.plan) l.s l.t
    (words_from l.k l.w (l.words - l.w) ++ moves_from (transitions_in l.table.ops.now l.table.plan) (l.k + 1) (l.commands - (l.k + 1)))
    ≡ move_to (transitions_in l.table.ops.now l.table.plan) l.s l.t (moves (transitions_in l.table.ops.now l.table.plan)))
    × B.Ready (slice l.code.from l.code.to l.table.ops.now) l.s l.table.plan.bits l.w l.rows

abbrev pub invariant-commands : goal.invariant-commands
invariant-commands l =
    move_to (transitions_in l.table.ops.now l.table.plan) l.s l.t (moves_from (transitions_in l.table.ops.now l.table.plan) l.k (l.commands - l.k))
    ≡ move_to (transitions_in l.table.ops.now l.table.plan) l.s l.t (moves (transitions_in l.table.ops.now l.table.plan))
