-- `is_recorded` meets its contract: what is left to test from the state at hand is what was to be tested from t.
use Prim.Native.Nat.{◌-◌, ◌<◌}
use mathlib.Core.Path.{◌≡◌}
use lib.ListN.{take}
use Rattle.exploration.specs.working.CodeTransitions.{transitions_in}
use Rattle.exploration.specs.working.Pauses.{records_to}
use Rattle.tracing.proofs.recorded.is_recorded.Given as goal

abbrev pub invariant-back : goal.invariant-back
invariant-back l =
    (l.s < l.states) × (records_to (transitions_in l.table.ops.now l.table.plan) (take l.states l.parent) (l.states - l.counter) l.s ≡ records_to (transitions_in l.table.ops.now l.table.plan) (take l.states l.parent) l.states l.t)
