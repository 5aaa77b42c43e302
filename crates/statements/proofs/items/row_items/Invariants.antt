-- `row_items` meets its contract: what the loop has still to read gives what all of it gave.
use mathlib.Core.Bool.{true}
use Prim.Native.Nat.{◌+◌, ◌-◌, ◌*◌}
use Rattle.statements.proofs.ItemLoops.{Turn}
use Rattle.statements.proofs.ItemLists.{item_series}
use Rattle.statements.proofs.items.row_items.Given as goal

abbrev pub invariant-rows : goal.invariant-rows
invariant-rows l = Turn (item_series l.text l.names l.l true) l.initial.ops l.initial.c l.ops l.c

abbrev pub decreases-rows : goal.decreases-rows
decreases-rows l = 2048 - (l.c.nodes + 3 * l.c.items)
