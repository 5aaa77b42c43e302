-- `row` meets its contract: the digits read from the top, moved up by the i left, with the lowest i digits, are the row; no field runs over.
use Prim.Native.Nat.{◌+◌, ◌-◌, ◌≤◌, ◌*◌, ◌^◌}
use mathlib.Core.Path.{◌≡◌}
use Rattle.evaluation.specs.working.Ends.{row_of, fours}
use Rattle.evaluation.proofs.lanes.row.Given as goal

abbrev pub invariant-loop-i : goal.invariant-loop-i
invariant-loop-i l = (l.x + fours ≤ 2 ^ (l.n - l.i) * fours) × (l.x * 2 ^ l.i + row_of l.cells l.i l.r ≡ row_of l.cells l.n l.r)
