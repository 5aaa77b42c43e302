-- The words have one length, and what is left of them decides.
use Rattle.lexer.proofs.Spelling.{Same}
use lib.ListN.{length}
use Rattle.lexer.proofs.words.same.Given as goal

abbrev pub invariant-loop-i : goal.invariant-loop-i
invariant-loop-i l = Same l.word l.other (length l.word) l.i
