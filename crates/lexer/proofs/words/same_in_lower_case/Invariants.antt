-- The words have one length, and what is left of them decides.
use Rattle.notation.specs.Bytes.{in_lower_case}
use Rattle.lexer.proofs.Spelling.{Same}
use lib.ListN.{length}
use Rattle.lexer.proofs.words.same_in_lower_case.Given as goal

abbrev pub invariant-loop-i : goal.invariant-loop-i
invariant-loop-i l = Same (in_lower_case l.word) l.other (length l.word) l.i
