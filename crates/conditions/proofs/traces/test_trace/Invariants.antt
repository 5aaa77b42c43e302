-- `test_trace` meets its contract: what is left of the trace has the outcome that all of it had.
use Prim.Native.Nat.{◌+◌, ◌-◌, ◌*◌, ◌^◌, ◌<◌}
use mathlib.Core.Path.{◌≡◌}
use Rattle.sheets.specs.working.FlatSystem.{system_in}
use Rattle.conditions.specs.working.Judging.{walk}
use Rattle.sheets.specs.working.SheetReading.{steps_in, step_count}
use Rattle.conditions.proofs.traces.test_trace.Given as goal

abbrev pub invariant-steps : goal.invariant-steps
invariant-steps l =
    (l.s < 2 ^ l.table.plan.bits)
    × (walk (system_in l.table.ops.now l.table.plan) l.s (steps_in l.b (l.p + 8 + 10 * l.i) (l.i-end - l.i)) ≡ walk (system_in l.table.ops.now l.table.plan) l.first
    (steps_in l.b (l.p + 8) (step_count l.b (l.p + 8))))
