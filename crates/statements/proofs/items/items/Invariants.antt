-- `items` meets its contract: what the loop has still to read gives what all of it gave.
use mathlib.Core.Bool.{false}
use Prim.Native.Nat.{◌+◌, ◌-◌, ◌*◌}
use Rattle.statements.proofs.ItemLoops.{Turn}
use Rattle.statements.proofs.ItemLists.{item_series}
use Rattle.statements.proofs.items.items.Given as goal

abbrev pub invariant-list : goal.invariant-list
invariant-list l = Turn (item_series l.text l.names l.l false) l.initial.ops l.initial.c l.ops l.c

abbrev pub decreases-list : goal.decreases-list
decreases-list l = 2048 - (l.c.nodes + 3 * l.c.items)
