-- `count` meets its contract: the tally is that of the first i steps.
use mathlib.Core.Path.{◌≡◌}
use Rattle.windows.proofs.Tallies.{tallied}
use Rattle.windows.proofs.count.Given as goal

abbrev pub invariant-loop-i : goal.invariant-loop-i
invariant-loop-i l = l.t ≡ tallied l.from l.steps l.i
