-- `name_list` meets its contract: what the loop has still to read gives what all of it gave.
use Prim.Native.Nat.{◌+◌, ◌-◌}
use Rattle.reader.proofs.NameLists.{Rest}
use Rattle.reader.proofs.clauses.name_list.Given as goal

abbrev pub invariant-listed : goal.invariant-listed
invariant-listed l = Rest l.text l.rows l.initial.names l.initial.l l.initial.c l.names l.l l.c

abbrev pub decreases-listed : goal.decreases-listed
decreases-listed l = 12 - (l.l.shared + l.l.row)
