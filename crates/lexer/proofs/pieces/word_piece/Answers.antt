-- The piece of the word's kind.
use Rattle.lexer.proofs.KindNumbers.{kind_told}
use Rattle.lexer.proofs.pieces.word_piece.Goals as goal

pub returns : goal.returns
returns c = rw kind_told at c.word_kind-kind.ensures
