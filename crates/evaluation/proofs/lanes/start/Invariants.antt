-- `start` meets its contract: the cells before i are filled.
use Prim.Native.Nat.{◌*◌}
use mathlib.Core.Path.{◌≡◌}
use Rattle.evaluation.specs.working.Ends.{fills}
use Rattle.meaning.specs.working.Digits.{digit}
use Rattle.evaluation.specs.working.Cells.{ones}
use Rattle.evaluation.proofs.lanes.start.Given as goal

abbrev pub invariant-loop-i : goal.invariant-loop-i
invariant-loop-i l = l.cells ≡ fills (λ k. digit l.state k * ones) l.i l.initial.cells
