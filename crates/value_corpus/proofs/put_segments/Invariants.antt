-- `put_segments` meets its contract: there is room for two numbers for each code word that is left.
use Rattle.std.proofs.Common.{◌*◌, ◌≤◌}
use Rattle.streams.specs.Growth.{Grows}
use Rattle.value_corpus.proofs.put_segments.Given as goal

abbrev pub invariant-loop-end : goal.invariant-loop-end
invariant-loop-end l = (l.at ≤ 2048) × Grows l.fn.out (42 * l.at) l.out × (l.passes ≤ l.at)
