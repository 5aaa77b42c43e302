-- The invariant: the run from i on ends where the run from `from` on does.
use mathlib.Core.Path.{◌≡◌}
use Prim.Native.Nat.{◌+◌}
use lib.ListN.{drop}
use Rattle.notation.specs.working.Lexing.{span}
use Rattle.lexer.proofs.pieces.word_end.Given as goal

abbrev pub invariant-loop-i : goal.invariant-loop-i
invariant-loop-i l = l.i + span (drop l.i l.text) ≡ l.from + span (drop l.from l.text)
