-- `put_table` meets its contract: the lines of the commands before k are put.
use Prim.Native.Nat.{◌+◌}
use Rattle.lines.specs.Writers.{Writes}
use Rattle.names.specs.working.Arrays.{name_in}
use Rattle.bursts.specs.Lines.{lines_from}
use Rattle.bursts.specs.working.Writing.{answer_line}
use Rattle.bursts.proofs.put_table.Given as goal

abbrev pub invariant-commands : goal.invariant-commands
invariant-commands l = Writes l.initial.out (lines_from (answer_line (λ j. name_in l.text l.code.names (l.base + j)) l.counts l.text l.sheet l.width) 0 l.k) l.out
