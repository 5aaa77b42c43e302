-- `text` ends, and counts rightly: no more bytes are left than the text has.
use Rattle.std.proofs.Common.{◌≤◌}
use Rattle.streams.proofs.input.Input.text.Given as goal

abbrev pub invariant-loop : goal.invariant-loop
invariant-loop g l =
    l.left ≤ l.n
