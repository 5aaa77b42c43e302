-- The table is that of the reserved words, with the kinds of their pieces.
use mathlib.Core.Path.{refl, ap, ◌∙◌}
use Rattle.notation.specs.Bytes.{bytes}
use Rattle.notation.specs.Tokens.{reserved, word_in}
use Rattle.lexer.specs.working.Kinds.{kind_of}
use Rattle.lexer.specs.working.Pieces.{found}
use Rattle.lexer.proofs.Spelling.{part_is, kinded, kind_found}
use Rattle.lexer.proofs.words.reserved_at.Goals as goal

pub returns : goal.returns
unfolding reserved bytes kinded kind_of
returns c = c.kind_in.ensures ∙ kind_found _ _ reserved 0 (record { rows = refl }) ∙ ap (λ w. found (word_in w reserved 0)) (part_is _ _ _ c.requires.0)
