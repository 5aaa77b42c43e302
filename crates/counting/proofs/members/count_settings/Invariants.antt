-- `count_settings` meets its contract: the table has the counts of the states before s.
use mathlib.Core.Path.{◌≡◌}
use Rattle.counting.specs.Counts.{count_at}
use Rattle.counting.specs.working.Counting.{table}
use Rattle.counting.proofs.members.count_settings.Given as goal

abbrev pub invariant-states : goal.invariant-states
invariant-states l = l.counts ≡ table (count_at l.s l.settings l.map)
