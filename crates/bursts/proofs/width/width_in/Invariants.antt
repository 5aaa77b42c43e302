-- `width_in` meets its contract: the bytes that are left say what all of them say.
use Rattle.bursts.proofs.WidthDigits.{Reads}
use Rattle.bursts.proofs.width.width_in.Given as goal

abbrev pub invariant-digits : goal.invariant-digits
invariant-digits l = Reads l.bytes l.n l.b-index
