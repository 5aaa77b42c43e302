-- `map_byte` meets its contract: the bits from j on are put together.
use Rattle.writing.proofs.MapBytes.{no_bit, one_bit, all_bits}
use Rattle.writing.proofs.maps.map_byte.Goals as goal

pub loop-j-init : goal.loop-j-init
loop-j-init c = no_bit _ _

pub loop-j-preserved : goal.loop-j-preserved
loop-j-preserved c = one_bit _ _ _ _ _ c.loop-j-test.true c.loop-j.auto.j c.met_bit.ensures.value c.met_bit.ensures.upper_bound c.loop-j.invariant

pub returns : goal.returns
returns c = all_bits _ _ _ _ c.loop-j-test.false c.loop-j.invariant
