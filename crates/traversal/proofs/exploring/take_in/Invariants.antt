-- `take_in` meets its contract: the start states before s are taken in, and the states from s on are not met.
use Prim.Native.Nat.{ℕ, ◌^◌, ◌≤◌, ◌<◌}
use mathlib.Core.Path.{◌≡◌}
use mathlib.Core.Bool.{false}
use lib.ListN.{get_or}
use Rattle.exploration.specs.working.CodeTransitions.{transitions_in}
use Rattle.exploration.proofs.Laws.{Taking}
use Rattle.traversal.proofs.exploring.take_in.Given as goal

abbrev pub invariant-states : goal.invariant-states
invariant-states l =
    (l.found ≡ false) × Taking (transitions_in l.table.ops.now l.table.plan) l.initial.queue l.initial.parent l.s l.queue l.count l.parent
    × ((i : ℕ) → l.s ≤ i → i < 2 ^ l.table.plan.bits → get_or l.parent i 0 ≡ 0)
