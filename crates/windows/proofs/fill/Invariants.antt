-- `fill` meets its contract: the first i places of the list have the first i steps.
use mathlib.Core.Path.{◌≡◌}
use Rattle.traces.specs.working.Passing.{header}
use Rattle.windows.specs.working.Surveying.{step_at, filled}
use Rattle.windows.proofs.fill.Given as goal

abbrev pub invariant-loop-i : goal.invariant-loop-i
invariant-loop-i l = l.list ≡ filled (step_at header l.sheet) l.fn.list l.i
