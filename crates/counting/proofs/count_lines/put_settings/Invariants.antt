-- `put_settings` meets its contract: the lines of the settings before j are put.
use Rattle.lines.specs.Writers.{Writes}
use Rattle.counting.specs.working.Counting.{table_lines}
use Rattle.counting.proofs.count_lines.put_settings.Given as goal

abbrev pub invariant-settings : goal.invariant-settings
invariant-settings l = Writes l.initial.out (table_lines l.counts l.j) l.out
