-- What the readers of a whole text answer.
-- Assumes nothing.
use Rattle.std.specs.Prelude.{◌≡◌, Bool, true, false, List, ◌++◌, ℕ, ◌+◌, length, replicate, Result, Ok, Err}
use Rattle.std.proofs.lemmas.List.Edits.{sets}
use Rattle.notation.specs.Tokens.{SHARED, ROW, START, KEEP, DOT, Name, Lexeme}
use Rattle.notation.specs.Notation.{Tree, Clause}
use Rattle.notation.specs.Texts.{words_of, model_of, names_of}
use Rattle.notation.specs.Layout.{layout_of}
use Rattle.notation.specs.working.Lexing.{tokens}
use Rattle.notation.specs.working.Ledger.{Book, blank_book}
use Rattle.notation.specs.working.Table as T
use Rattle.notation.specs.working.Machine.{read, refused, reading}
use Rattle.notation.specs.working.Descent.{Got, got, then_reads, reader}
use Rattle.refusals.specs.declared.Refusal.{Refusal}
use Rattle.refusals.specs.Reasons.{number_of}
use Rattle.reader.specs.declared.Code.{Code}
use Rattle.statements.specs.declared.cursor.Cursor.{Cursor}
use Rattle.statements.specs.declared.cursor.Ledger.{Ledger}
use Rattle.lexer.specs.working.Pieces.{listed}
use Rattle.statements.specs.working.Names.{shared_words, row_words}
use Rattle.statements.specs.working.Cursors.{Parsed, stopped, book_of, Done, Wrote}
use Rattle.statements.specs.working.Items.{kind_of}
use Rattle.reader.specs.Read.{placed}
use Rattle.reader.specs.working.Clauses.{Declared, WroteNames, clause_words, clause_ends, clause_at}
use Rattle.statements.specs.working.Sequences.{Pair, paired, pairing}
use Rattle.reader.specs.working.Commands.{Naming, Arrays, arrays, WroteArrays}

-- The descent's answer at a sign, names and a full stop.
abbrev pub head_reader : ℕ → Bool → ℕ → List Lexeme → Book → Got (List Name)
head_reader len rows kind ts b =
    then_reads (reader len (T.lit kind) ts b) (λ u ts b. then_reads (reader len (T.names (kind_of rows)) ts b) (λ ws ts b. then_reads (reader len (T.lit DOT) ts b) (λ v ts b. got ws ts b)))

abbrev pub head_at : List ℕ → List ℕ → Ledger → Bool → ℕ → Cursor → Got (List Name)
head_at text names l rows kind c = head_reader (length text) rows kind (listed text c.next) (book_of text names l c)

-- Both lists of names, from the front of the text.
abbrev pub heads_reader : ℕ → List Lexeme → Book → Got (Pair (List Name) (List Name))
heads_reader len ts b = pairing (head_reader len false SHARED ts b) (λ ts b. head_reader len true ROW ts b)

abbrev pub heads_at : List ℕ → Got (Pair (List Name) (List Name))
heads_at text = heads_reader (length text) (tokens text) blank_book

-- The names are declared and stored, nothing else is counted, and the words are theirs.
pub record Heads (text names names' : List ℕ) (c : Cursor) (l : Ledger) : Type 0 where
  pub tree : Pair (List Name) (List Name)
  pub says : heads_at text ≡ got tree (listed text c.next) (book_of text names' l c)
  pub stored : names' ≡ placed names 0 (tree.one ++ tree.two)
  pub ledger : l ≡ record { shared = length tree.one; row = length tree.two; commands = 0 }
  pub same : c ≡ record { next = c.next; emitted = 0; items = 0; nodes = 0; stars = 0 }
  pub shared : shared_words text names' l ≡ words_of tree.one
  pub row : row_words text names' l ≡ words_of tree.two
  pub naming : Naming text names' l c

unfoldable pub HeadsSay : List ℕ → List ℕ → List ℕ → Declared → Type 0
HeadsSay text names names' (Ok (c, l)) = Heads text names names' c l
HeadsSay text names names' (Err r) = (heads_at text ≡ stopped r) × WroteNames 0 names names'

-- Both clauses.
abbrev pub clauses_at : List ℕ → List ℕ → Ledger → Cursor → Got (Pair Clause Clause)
clauses_at text names l c = pairing (clause_at text names l START c) (λ ts b. reader (length text) (T.clause KEEP) ts b)

pub record ClausesDone (text names : List ℕ) (l : Ledger) (c : Cursor) (p e a e' : List ℕ) (d : Cursor) : Type 0 where
  pub done : Done text names l (paired (clause_words text names l) (clause_words text names l)) 0 c p (clauses_at text names l c) a d
  pub ends : e' ≡ sets e 0 (clause_ends text names l c.stars c.emitted done.tree.one
      ++ clause_ends text names l (clause_words text names l c.stars done.tree.one).next (c.emitted + length (clause_words text names l c.stars done.tree.one).is) done.tree.two)

unfoldable pub ClausesSay : List ℕ → List ℕ → Ledger → Cursor → List ℕ → List ℕ → List ℕ → List ℕ → Parsed → Type 0
ClausesSay text names l c p e a e' (Ok d) = ClausesDone text names l c p e a e' d
ClausesSay text names l c p e a e' (Err r) = (clauses_at text names l c ≡ stopped r) × (Wrote c.emitted p a × Wrote 0 e e')

-- A whole text was read, and the flat form of its model and its names are stored.
pub record Modelled (text : List ℕ) (s s' : Arrays) (l : Ledger) : Type 0 where
  pub tree : Tree
  pub says : reading (length text) (tokens text) ≡ read tree
  pub names : s'.names ≡ placed s.names 0 (names_of tree)
  pub ops : s'.ops ≡ sets s.ops 0 (layout_of (model_of tree)).code
  pub ends : s'.ends ≡ sets s.ends 0 (layout_of (model_of tree)).ends
  pub stars : s'.stars ≡ sets s.stars 0 (layout_of (model_of tree)).stars
  pub ledger : l ≡ record { shared = (layout_of (model_of tree)).shared; row = (layout_of (model_of tree)).row; commands = (layout_of (model_of tree)).commands }

unfoldable pub ModelSays : List ℕ → Arrays → Arrays → Result Ledger Refusal → Type 0
ModelSays text s s' (Ok l) = Modelled text s s' l
ModelSays text s s' (Err r) = (reading (length text) (tokens text) ≡ refused (number_of r.reason) r.place) × WroteArrays 0 0 0 0 s s'

-- The arrays before a text is read into them.
abbrev pub zeros : Arrays
zeros = arrays (replicate 56 0) (replicate 2048 0) (replicate 20 0) (replicate 16 0)

-- The arrays of a code, and how many names of each kind it has.
abbrev pub arrays_in : Code → Arrays
arrays_in c = arrays c.names c.ops c.ends c.stars

abbrev pub counted : Result Code Refusal → Result Ledger Refusal
counted (Ok c) = Ok (record { shared = c.shared; row = c.row; commands = c.commands })
counted (Err r) = Err r
