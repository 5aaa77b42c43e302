-- The title and the numbers of the values before this one are put.
use Rattle.std.proofs.Common.{◌+◌, ◌*◌, length, take}
use Rattle.streams.specs.Growth.{Grows}
use Rattle.streams.specs.Values.{PutsValues}
use Rattle.streams.proofs.values.put_values.Given as goal

abbrev pub invariant-loop-value : goal.invariant-loop-value
invariant-loop-value g l = record {
  line : PutsValues g.T.Into.converts l.title (take l.value-index l.values) l.fn.out l.out;
  grows : Grows l.fn.out (length l.title + 21 * l.value-index) l.out;
}
