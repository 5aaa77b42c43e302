-- The names of a text: what its tree calls a command.
-- Assumes nothing.
use Rattle.std.specs.Prelude.{List, [], map, ℕ, get_or}
use Rattle.notation.specs.Tokens.{Word}
use Rattle.notation.specs.Notation.{Tree, tree'}
use Rattle.notation.specs.Texts.{title_of}
use Rattle.notation.specs.Case.{spelling}

-- The name of command i of a tree, as its declaration in the text spells it.
unfoldable pub command_name : List ℕ → Tree → ℕ → Word
command_name text (tree' ws vs s k cs) i = get_or (map (spelling text) (map title_of cs)) i []
