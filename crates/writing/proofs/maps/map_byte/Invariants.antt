-- `map_byte` meets its contract: the bits from j on are put together.
use mathlib.Core.List.{map}
use lib.ListN.{take}
use lib.Dec.{ltb}
use Rattle.writing.proofs.MapBytes.{High}
use Rattle.writing.proofs.maps.map_byte.Given as goal

abbrev pub invariant-loop-j : goal.invariant-loop-j
invariant-loop-j l = High (map (ltb 0) (take l.states l.parent)) l.i l.j l.byte
