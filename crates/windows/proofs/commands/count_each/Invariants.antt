-- `count_each` meets its contract: the counts are those of the steps before i.
use mathlib.Core.Path.{◌≡◌}
use Rattle.traces.specs.working.Passing.{header}
use Rattle.windows.specs.Bursts.{counts_of}
use Rattle.windows.specs.working.Surveying.{commands_at}
use Rattle.windows.proofs.commands.count_each.Given as goal

abbrev pub invariant-loop-i : goal.invariant-loop-i
invariant-loop-i l = l.counts ≡ counts_of (commands_at header l.sheet l.i)
