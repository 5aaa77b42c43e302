-- A number of k digits is below the k-th power of ten.
use Rattle.std.proofs.Common.{◌<◌, ◌^◌}
use Rattle.streams.proofs.input.Input.number.Given as goal

abbrev pub invariant-loop : goal.invariant-loop
invariant-loop g l = l.n < 10 ^ l.counter
