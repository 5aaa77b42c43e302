-- The first k bytes are the same but for case exactly if all are, since those behind them are.
use mathlib.Core.Path.{◌≡◌}
use Prim.Native.Nat.{◌≤◌}
use Rattle.lexer.specs.working.Names.{same_first}
use Rattle.lexer.proofs.names.same_bytes.Given as goal

abbrev pub invariant-loop-k : goal.invariant-loop-k
invariant-loop-k l = (l.k ≤ l.n) × (same_first l.text l.a l.b l.k ≡ same_first l.text l.a l.b l.n)

abbrev pub decreases-loop-k : goal.decreases-loop-k
decreases-loop-k l = l.k
