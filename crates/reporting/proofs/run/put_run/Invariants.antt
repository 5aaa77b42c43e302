-- `put_run` meets its contract: the lines of the steps before i are put.
use Prim.Native.Nat.{◌+◌}
use Rattle.lines.specs.Writers.{Writes}
use Rattle.names.specs.working.Arrays.{name_in}
use Rattle.reporting.specs.working.Writing.{header_end}
use Rattle.reporting.proofs.StepsLeft.{lines}
use Rattle.reporting.proofs.run.put_run.Given as goal

abbrev pub invariant-steps : goal.invariant-steps
invariant-steps l = Writes l.initial.out (lines (λ k. name_in l.text l.code.names (l.base + k)) l.sheet (header_end + 8) l.i) l.out
