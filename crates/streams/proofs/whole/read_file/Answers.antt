-- What a read gives stands behind what came before.
use Rattle.std.proofs.Common.{rules, subst, length, ◌-◌}
use Rattle.std.specs.Io.KnownBytes.{Consumes}
use Rattle.std.proofs.KnownBytes.{Consumes-trans}
use Rattle.streams.proofs.Reading.{taken_behind}
use Rattle.streams.proofs.whole.read_file.Goals as goal

pub parts-preserved : goal.parts-preserved
parts-preserved g c =
    let l = c.parts in
    let k = length l.room - l.at in
    let n = c.in_ok-n in
    let joined = taken_behind l.at k n.n l.room c.read.new.buf l.invariant.1 n.ensures.bound.0 in
    (search rules, search rules, subst (Consumes _ _) joined (Consumes-trans _ _ _ _ _ l.invariant.2 n.ensures.bytes.0))
