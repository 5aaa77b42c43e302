-- `write_map` meets its contract: the bytes before i are the map's.
use Prim.Native.Nat.{ℕ, ◌<◌}
use mathlib.Core.Path.{◌≡◌}
use mathlib.Core.List.{map}
use lib.ListN.{take, get_or}
use lib.Dec.{ltb}
use Rattle.exploration.specs.working.Written.{map_byte}
use Rattle.writing.proofs.maps.write_map.Given as goal

abbrev pub invariant-loop-i : goal.invariant-loop-i
invariant-loop-i l = (k : ℕ) → k < l.i → get_or l.byte-items k 0 ≡ map_byte (map (ltb 0) (take l.states l.parent)) k
