-- At the first place that holds no blank stands a word or a mark, and its piece is the next.
use mathlib.Core.Path.{refl, sym, ◌∙◌}
use Rattle.lexer.specs.working.Kinds.{kind_of}
use Rattle.lexer.proofs.Runs.{word-run, run-grows}
use Rattle.lexer.proofs.Lexing.{at-end, at-word, at_mark}
use Rattle.lexer.proofs.pieces.piece_at.Goals as goal

pub returns-then-n-s : goal.returns-then-n-s
unfolding kind_of
returns-then-n-s c =
    at-end _ _ _ c.skip_blanks-s.ensures c.if-n-s.true refl

pub word_piece-requires : goal.word_piece-requires
word_piece-requires c = (
  run-grows word-run _ _ _ c.if-n-s.false (sym c.is_word.ensures ∙ c.if-is_word.true) c.word_end-e.ensures.0,
  c.word_end-e.ensures.1,
)

pub returns-then-is_word : goal.returns-then-is_word
returns-then-is_word c =
    at-word _ _ _ c.skip_blanks-s.ensures c.if-n-s.false (sym c.is_word.ensures ∙ c.if-is_word.true)
    c.word_end-e.ensures.0 c.word_piece.ensures

pub returns : goal.returns
returns c =
    at_mark _ _ _ c.skip_blanks-s.ensures c.if-n-s.false (sym c.is_word.ensures ∙ c.if-is_word.false)
    c.byte_at-next.ensures c.mark_piece.ensures
