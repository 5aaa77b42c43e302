-- The answer to a text, as a computation: the tree that it says, or its first refusal.
-- Assumes nothing.
use Rattle.std.specs.Prelude.{List, ℕ, leb, length}
use Rattle.notation.specs.Texts.{longest_text}
use Rattle.notation.specs.working.Lexing.{choose, tokens}
use Rattle.notation.specs.working.Machine.{Outcome, refused, reading}

unfoldable pub answer : List ℕ → Outcome
answer text = choose (leb (length text) longest_text) (λ u. reading (length text) (tokens text)) (λ u. refused 1 longest_text)
