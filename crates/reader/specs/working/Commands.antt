-- What the readers of commands answer.
-- Assumes nothing.
use Rattle.std.specs.Prelude.{◌≡◌, false, List, [], ◌∷◌, map, ℕ, ◌+◌, ◌≤◌, ◌<◌, length, Ok, Err}
use Rattle.std.specs.Borrow.{MutBor}
use denote.Triple.Both.{Both}
use Rattle.std.proofs.lemmas.List.Edits.{sets}
use Rattle.notation.specs.Tokens.{sign, COMMAND, IF, DOT, Word, Name, Lexeme}
use Rattle.notation.specs.Notation.{part, begins_command, free_shared, Item, Command, command'}
use Rattle.notation.specs.Rules.{COMMANDS, limit_of}
use Rattle.notation.specs.Texts.{expr_of, items_of, command_of, title_of}
use Rattle.notation.specs.Layout.{command_code, ends_from, joined}
use Rattle.notation.specs.working.Lexing.{tokens_from}
use Rattle.notation.specs.working.Ledger.{Book, note, fault}
use Rattle.notation.specs.working.Table as T
use Rattle.notation.specs.working.Descent.{Got, got, then_reads, ruling, reader, or_reader}
use Rattle.statements.specs.declared.cursor.Cursor.{Cursor}
use Rattle.statements.specs.declared.cursor.Ledger.{Ledger}
use Rattle.lexer.specs.working.Pieces.{listed, Fresh}
use Rattle.statements.specs.working.Names.{shared_words, row_words}
use Rattle.statements.specs.working.Cursors.{Parsed, stopped, book_of, Ready, Wrote, Says}
use Rattle.statements.specs.working.Items.{items_words, all_in}
use Rattle.reader.specs.Read.{placed}
use Rattle.reader.specs.working.Clauses.{Declared, WroteNames}
use Rattle.statements.specs.working.Sequences.{Tested, tested, tested_words}

-- The ledger with k commands more.
abbrev pub with_commands : ℕ → Ledger → Ledger
with_commands k l = record { shared = l.shared; row = l.row; commands = l.commands + k }

-- What holds wherever a command may begin.
pub record Naming (text names : List ℕ) (l : Ledger) (c : Cursor) : Type 0 where
  pub ready : Ready text l 0 c
  pub long : length names ≡ 56

-- The descent's answer at `command` and its name.
unfoldable pub title_at : List ℕ → List ℕ → Ledger → Cursor → Got Name
title_at text names l c =
    ruling c.next.start (fault (book_of text names l c) (part begins_command (sign COMMAND)))
    (reader (length text) T.title (tokens_from text c.next.end) (note (book_of text names l c) (part begins_command (sign COMMAND))))

-- `command` and a name were read, and the name is stored.
pub record Titled (text names : List ℕ) (l : Ledger) (c : Cursor) (names' : List ℕ) (d : Cursor) (l' : Ledger) : Type 0 where
  pub tree : Name
  pub says : title_at text names l c ≡ got tree (listed text d.next) (book_of text names' l' d)
  pub stored : names' ≡ placed names (l.shared + l.row + l.commands) (tree ∷ [])
  pub ledger : l' ≡ with_commands 1 l
  pub same : d ≡ record { next = d.next; emitted = c.emitted; items = c.items; nodes = c.nodes; stars = 0 }
  pub fresh : Fresh text d.next
  pub few : l.commands < limit_of COMMANDS

unfoldable pub TitleSays : List ℕ → List ℕ → Ledger → Cursor → List ℕ → Declared → Type 0
TitleSays text names l c names' (Ok (d, l')) = Titled text names l c names' d l'
TitleSays text names l c names' (Err r) = (title_at text names l c ≡ stopped r) × (names' ≡ names)

-- `if`, the test, and the two branches.
abbrev pub body_reader : ℕ → List Lexeme → Book → Got (Tested Item)
body_reader len ts b = then_reads (reader len (T.lit IF) ts b) (λ u ts b. tested len (all_in false len) DOT (or_reader len free_shared 0 ts b))

abbrev pub BodySays : List ℕ → List ℕ → Ledger → Cursor → List ℕ → List ℕ → Parsed → Type 0
BodySays text names l c before after r =
    Says text names l (tested_words text names l (items_words text names l false)) 3 c before (body_reader (length text) (listed text c.next) (book_of text names l c)) after r

-- The code of a command, and how many stars it has: the number after its last star.
abbrev pub command_words : List Word → List Word → ℕ → Command → List ℕ
command_words ws vs a x = command_code a (command_of ws vs x)

abbrev pub stars_in : List Word → List Word → Command → ℕ
stars_in ws vs (command' n e xs ys) = (items_of ws vs ys (items_of ws vs xs (expr_of ws vs e 0).next).next).next

-- The descent's answer at a command.
abbrev pub command_at : List ℕ → List ℕ → Ledger → Cursor → Got Command
command_at text names l c =
    then_reads (title_at text names l c) (λ n ts b. then_reads (body_reader (length text) ts b) (λ v ts b. got (command' n v.one v.two.one v.two.two) ts b))

abbrev pub commands_at : List ℕ → List ℕ → Ledger → Cursor → Got (List Command)
commands_at text names l c = reader (length text) T.commands (listed text c.next) (book_of text names l c)

-- The arrays that commands are stored in: names, code words, ends of segments, numbers of stars.
pub record Arrays : Type 0 where
  pub names : List ℕ
  pub ops : List ℕ
  pub ends : List ℕ
  pub stars : List ℕ

abbrev pub arrays : List ℕ → List ℕ → List ℕ → List ℕ → Arrays
arrays n o e s = record { names = n; ops = o; ends = e; stars = s }

-- An array that is lent to a function, as its contract names it; and four of them, as they are lent and as they come back.
abbrev pub Lent : Type 0
Lent = Both (MutBor (List ℕ)) (MutBor (List ℕ))

abbrev pub at_entry : Lent → Lent → Lent → Lent → Arrays
at_entry n o e s = arrays n.entry.now o.entry.now e.entry.now s.entry.now

abbrev pub at_exit : Lent → Lent → Lent → Lent → Arrays
at_exit n o e s = arrays n.exit.now o.exit.now e.exit.now s.exit.now

-- What a refusal leaves of them: each was written only from a place of its own on.
pub record WroteArrays (n i e k : ℕ) (s s' : Arrays) : Type 0 where
  pub names : WroteNames n s.names s'.names
  pub ops : Wrote i s.ops s'.ops
  pub ends : Wrote e s.ends s'.ends
  pub stars : Wrote k s.stars s'.stars

-- The places where the next command is stored, if its code begins at i.
abbrev pub WroteCommands : Ledger → ℕ → Arrays → Arrays → Type 0
WroteCommands l i s s' = WroteArrays (l.shared + l.row + l.commands) i (4 + l.commands) l.commands s s'

-- Commands xs stored behind what is there, from the code word i on. l tells how many names there are; ws and vs are the shared and row words.
abbrev pub stored_in : List Word → List Word → Ledger → ℕ → List Command → Arrays → Arrays
stored_in ws vs l i xs s =
    record {
      names = placed s.names (l.shared + l.row + l.commands) (map title_of xs);
      ops = sets s.ops i (joined (map (command_words ws vs l.shared) xs));
      ends = sets s.ends (4 + l.commands) (ends_from i (map (command_words ws vs l.shared) xs));
      stars = sets s.stars l.commands (map (stars_in ws vs) xs);
    }

-- Commands were read from the cursor c on, as the descent's answer g says, and stored.
pub record Commanded (text : List ℕ) (l : Ledger) (c : Cursor) (s : Arrays) (g : Got (List Command)) (s' : Arrays) (d : Cursor) (l' : Ledger) : Type 0 where
  pub tree : List Command
  pub some : 1 ≤ length tree
  pub says : g ≡ got tree (listed text d.next) (book_of text s'.names l' d)
  pub stored : s' ≡ stored_in (shared_words text s.names l) (row_words text s.names l) l c.emitted tree s
  pub place : d.emitted ≡ c.emitted + length (joined (map (command_words (shared_words text s.names l) (row_words text s.names l) l.shared) tree))
  pub ledger : l' ≡ with_commands (length tree) l
  pub naming : Naming text s'.names l' d

-- One command, as a list of one.
abbrev pub one_at : List ℕ → List ℕ → Ledger → Cursor → Got (List Command)
one_at text names l c = then_reads (command_at text names l c) (λ x ts b. got (x ∷ []) ts b)

unfoldable pub CommandsSay : List ℕ → Ledger → Cursor → Arrays → Got (List Command) → Arrays → Declared → Type 0
CommandsSay text l c s g s' (Ok (d, l')) = Commanded text l c s g s' d l'
CommandsSay text l c s g s' (Err r) = (g ≡ stopped r) × WroteCommands l c.emitted s s'
