-- `commands` meets its contract: what the loop has still to read gives what all of it gave.
use Prim.Native.Nat.{◌-◌}
use Rattle.reader.specs.working.Commands.{arrays}
use Rattle.reader.proofs.CommandLists.{Going}
use Rattle.reader.proofs.commands.commands.Given as goal

abbrev pub invariant-each : goal.invariant-each
invariant-each l =
    Going l.text l.initial.l l.initial.c (arrays l.initial.names l.initial.ops l.initial.ends l.initial.stars) l.l l.c (arrays l.names l.ops l.ends l.stars)

abbrev pub decreases-each : goal.decreases-each
decreases-each l = 16 - l.l.commands
