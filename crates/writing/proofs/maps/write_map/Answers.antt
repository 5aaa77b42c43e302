-- `write_map` meets its contract: the bytes before i are the map's.
use Prim.Native.Nat.{◌+◌, ◌-◌}
use mathlib.Core.Path.{◌≡◌, ◌∙◌}
use mathlib.Core.List.{map}
use native.Mathlib.Omega.{arith}
use lib.ListN.{length, take, drop, length-take, length-drop}
use lib.Dec.{ltb}
use Rattle.exploration.specs.working.Written.{map_from}
use Rattle.exploration.proofs.Map.{map-length, each-byte}
use Rattle.writing.proofs.Stored.{part}
use Rattle.writing.proofs.maps.write_map.Goals as goal

pub returns : goal.returns
returns c =
    let n = c.args.n in
    let at = c.args.at in
    let b = map (ltb 0) (take c.args.states c.args.parent.now) in
    let e : length (take (at + n - at) (drop at c.args.out.now)) ≡ n = simp (length-take, length-drop) (omega arith) in
    part c.args.out.now at (at + n - at) c.loop-i.byte-items (map_from b 0 n)
    (each-byte b n c.loop-i.byte-items (c.loop-i.auto.byte-items ∙ e) (λ i h. c.loop-i.invariant i (omega (arith, c.loop-i-test.false))))
    (omega (arith, map-length b 0 n)) (omega arith)
