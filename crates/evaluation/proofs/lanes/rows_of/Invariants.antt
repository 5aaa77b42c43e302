-- `rows_of` meets its contract: the rows before r are filled.
use mathlib.Core.Path.{◌≡◌}
use Rattle.evaluation.specs.working.Ends.{fills, row_of}
use Rattle.evaluation.proofs.lanes.rows_of.Given as goal

abbrev pub invariant-loop-r : goal.invariant-loop-r
invariant-loop-r l = l.out ≡ fills (row_of l.cells l.n) l.r l.initial.out
