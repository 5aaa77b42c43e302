-- `explore` meets its contract: what is left to try, from what the tables hold, goes as all of it went from where each loop began.
use Prim.Native.Nat.{◌+◌, ◌-◌, ◌*◌, ◌≤◌}
use mathlib.Core.Path.{◌≡◌}
use mathlib.Core.Bool.{false}
use lib.Seq.{slice}
use Rattle.evaluation.proofs.Batches as B
use Rattle.exploration.specs.working.CodeTransitions.{transitions_in}
use Rattle.exploration.specs.working.Transitions.{words_from, moves_from, moves}
use Rattle.exploration.proofs.Laws.{Tried, Gone}
use Rattle.traversal.proofs.exploring.explore.Given as goal

abbrev pub invariant-words : goal.invariant-words
invariant-words l =
    (l.found ≡ l.initial.found) × Tried (transitions_in l.table.ops.now l.table.plan) l.s (words_from l.k 0 l.words) l.initial.queue
    l.initial.count l.initial.parent 0 (words_from l.k l.w (l.words - l.w)) l.queue l.count l.parent l.w × B.Ready (slice l.code.from l.code.to l.table.ops.now) l.s l.bits l.w l.rows
    × (l.trials ≡ l.initial.trials)

abbrev pub invariant-commands : goal.invariant-commands
invariant-commands l =
    (l.found ≡ l.initial.found) × Tried (transitions_in l.table.ops.now l.table.plan) l.s
    (moves (transitions_in l.table.ops.now l.table.plan)) l.initial.queue l.initial.count l.initial.parent l.initial.trials
    (moves_from (transitions_in l.table.ops.now l.table.plan) l.k (l.commands - l.k)) l.queue l.count l.parent l.trials × (l.trials ≤ l.initial.trials + 256 * l.k)

abbrev pub invariant-search : goal.invariant-search
invariant-search l =
    (l.found ≡ false)
    × Gone (transitions_in l.table.ops.now l.table.plan) l.initial.head l.most l.initial.queue l.initial.count l.initial.parent l.head (l.most - l.counter) l.queue l.count l.parent l.trials × (l.trials + 4096 * l.initial.head ≤ 4096 * l.head)
