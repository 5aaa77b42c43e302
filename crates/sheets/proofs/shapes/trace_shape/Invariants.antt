-- `trace_shape` meets its contract: what is left to demand from a record on gives what all of it gave from the first.
use Rattle.evaluation.specs.working.CodeSystem.{stars_in}
use Rattle.sheets.specs.working.SheetReading.{Reading, steps_at, step_count}
use mathlib.Core.Path.{◌≡◌}
use Prim.Native.Nat.{◌+◌, ◌-◌, ◌*◌}
use Rattle.sheets.proofs.shapes.trace_shape.Given as goal

abbrev pub invariant-loop-i : goal.invariant-loop-i
invariant-loop-i l =
    (rest : Reading) → steps_at l.states l.plan.commands (stars_in l.plan.stars) l.b (l.p + 8 + 10 * l.i) (l.i-end - l.i) rest ≡ steps_at l.states
    l.plan.commands (stars_in l.plan.stars) l.b (l.p + 8) (step_count l.b (l.p + 8)) rest
