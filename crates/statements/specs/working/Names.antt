-- The declared names by their kinds, as names and ledger tell them.
-- Assumes nothing.
use Rattle.std.specs.Prelude.{List, ◌++◌, map, ℕ, ◌+◌}
use Rattle.notation.specs.Tokens.{Word}
use Rattle.notation.specs.Notation.{Kind, shared_name, row_name, command_name}
use Rattle.lexer.specs.working.Names.{words_in}
use Rattle.statements.specs.declared.cursor.Ledger.{Ledger}

abbrev pub shared_words : List ℕ → List ℕ → Ledger → List Word
shared_words text names l = words_in text names 0 l.shared

abbrev pub row_words : List ℕ → List ℕ → Ledger → List Word
row_words text names l = words_in text names l.shared l.row

abbrev pub command_words : List ℕ → List ℕ → Ledger → List Word
command_words text names l = words_in text names (l.shared + l.row) l.commands

abbrev pub kinded : Kind → List Word → List (Word × Kind)
kinded k ws = map (λ w. (w, k)) ws

-- The names with their kinds, in the order of their declaration.
unfoldable pub names_kept : List ℕ → List ℕ → Ledger → List (Word × Kind)
names_kept text names l =
    kinded shared_name (shared_words text names l) ++ (kinded row_name (row_words text names l) ++ kinded command_name (command_words text names l))
