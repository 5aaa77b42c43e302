-- What the readers of declarations and clauses answer.
-- Assumes nothing.
use Rattle.std.specs.Prelude.{◌≡◌, Bool, false, cond, List, [], ◌∷◌, ◌++◌, ℕ, ◌+◌, ◌≤◌, length, set, Result, Ok, Err}
use Rattle.std.proofs.lemmas.List.Edits.{sets}
use Rattle.notation.specs.Tokens.{name, Name}
use Rattle.notation.specs.Notation.{Mode, fixed_shared, fixed_row, part, declares, Expr, Clause, clause'}
use Rattle.notation.specs.Rules.{SHARED-NAMES, ROW-NAMES, NAMES, limit_of}
use Rattle.notation.specs.Texts.{Numbered, numbered, words_of, longest_text}
use Rattle.notation.specs.working.Lexing.{tokens_from}
use Rattle.notation.specs.working.Ledger.{note, fault}
use Rattle.notation.specs.working.Table as T
use Rattle.notation.specs.working.Descent.{Got, got, then_reads, ruling, reader, or_reader}
use Rattle.statements.specs.declared.cursor.Cursor.{Cursor}
use Rattle.statements.specs.declared.cursor.Ledger.{Ledger}
use Rattle.refusals.specs.declared.Refusal.{Refusal}
use Rattle.reader.specs.Read.{placed}
use Rattle.lexer.specs.working.Pieces.{name_in, listed, Fresh}
use Rattle.statements.specs.working.Names.{shared_words, row_words}
use Rattle.statements.specs.working.Cursors.{Parsed, stopped, book_of, passed, Done, Wrote}
use Rattle.statements.specs.working.Expressions.{expr_words}
use Rattle.statements.specs.working.Items.{kind_of}

-- ---- names

-- What a reader of names to declare answers, and the answer that a result makes with the cursor and the ledger behind it.
abbrev pub Declared : Type 0
Declared = Result (Cursor × Ledger) Refusal

abbrev pub reached_with : Result (Unit {0}) Refusal → Cursor → Ledger → Declared
reached_with (Ok u) c l = Ok (c, l)
reached_with (Err r) c l = Err r

-- The ledger with k names more, row names if `rows`, or else shared names.
abbrev pub grown : Bool → ℕ → Ledger → Ledger
grown rows k l = record { shared = cond rows l.shared (l.shared + k); row = cond rows (l.row + k) l.row; commands = l.commands }

-- What holds wherever a name may be declared: the limits are kept, row names come after shared names, and no command is declared.
pub record Listing (text names : List ℕ) (l : Ledger) (rows : Bool) (c : Cursor) : Type 0 where
  pub fits : length text ≤ longest_text
  pub fresh : Fresh text c.next
  pub long : length names ≡ 56
  pub shared : l.shared ≤ limit_of SHARED-NAMES
  pub row : l.row ≤ limit_of ROW-NAMES
  pub few : l.shared + l.row ≤ limit_of NAMES
  pub commands : l.commands ≡ 0
  pub order : rows ≡ false → l.row ≡ 0

-- The descent's answer at a name to declare, as a row name if `rows`, or else as a shared name; and at a list of them.
unfoldable pub name_at : List ℕ → List ℕ → Ledger → Bool → Cursor → Got Name
name_at text names l rows c =
    ruling c.next.start (fault (book_of text names l c) (part (declares (kind_of rows)) (name (name_in text c.next))))
    (got (name_in text c.next) (tokens_from text c.next.end) (note (book_of text names l c) (part (declares (kind_of rows)) (name (name_in text c.next)))))

abbrev pub list_at : List ℕ → List ℕ → Ledger → Bool → Cursor → Got (List Name)
list_at text names l rows c = reader (length text) (T.names (kind_of rows)) (listed text c.next) (book_of text names l c)

-- Names were read from the cursor c on, and stored: the words that the array has more are theirs.
pub record Noted (text names : List ℕ) (l : Ledger) (rows : Bool) (c : Cursor) (g : Got (List Name)) (names' : List ℕ) (d : Cursor) (l' : Ledger) : Type 0 where
  pub tree : List Name
  pub says : g ≡ got tree (listed text d.next) (book_of text names' l' d)
  pub stored : names' ≡ placed names (l.shared + l.row) tree
  pub ledger : l' ≡ grown rows (length tree) l
  pub shared_are : shared_words text names' l' ≡ shared_words text names l ++ cond rows [] (words_of tree)
  pub row_are : row_words text names' l' ≡ row_words text names l ++ cond rows (words_of tree) []
  pub same : d ≡ record { next = d.next; emitted = c.emitted; items = c.items; nodes = c.nodes; stars = c.stars }
  pub listing : Listing text names' l' rows d

-- What a refusal leaves of the array of names: only from number i on were names stored, what stood below is unchanged.
pub record WroteNames (i : ℕ) (before after : List ℕ) : Type 0 where
  pub names : List Name
  pub is : after ≡ placed before i names

-- One name, as a list of one. It is refused before it is stored.
unfoldable pub NameSays : List ℕ → List ℕ → Ledger → Bool → Cursor → List ℕ → Declared → Type 0
NameSays text names l rows c names' (Ok (d, l')) =
    (name_at text names l rows c ≡ got (name_in text c.next) (listed text d.next) (book_of text names' l' d))
    × ((names' ≡ placed names (l.shared + l.row) (name_in text c.next ∷ []))
    × ((l' ≡ grown rows 1 l) × ((d ≡ passed text c) × Listing text names' l' rows d)))
NameSays text names l rows c names' (Err r) = (name_at text names l rows c ≡ stopped r) × (names' ≡ names)

unfoldable pub NamesSay : List ℕ → List ℕ → Ledger → Bool → Cursor → Got (List Name) → List ℕ → Declared → Type 0
NamesSay text names l rows c g names' (Ok (d, l')) = Noted text names l rows c g names' d l'
NamesSay text names l rows c g names' (Err r) = (g ≡ stopped r) × WroteNames (l.shared + l.row) names names'

-- ---- clauses

abbrev pub fixed_in : Bool → Mode
fixed_in rows = cond rows fixed_row fixed_shared

-- The descent's answer at a sign and an expression.
abbrev pub segment_at : List ℕ → List ℕ → Ledger → Bool → ℕ → Cursor → Got Expr
segment_at text names l rows kind c =
    then_reads (reader (length text) (T.lit kind) (listed text c.next) (book_of text names l c)) (λ u ts b. or_reader (length text) (fixed_in rows) 0 ts b)

-- A sign and an expression were read, and its end is stored.
unfoldable pub SegmentSays : List ℕ → List ℕ → Ledger → Bool → ℕ → ℕ → Cursor → List ℕ → List ℕ → List ℕ → List ℕ → Parsed → Type 0
SegmentSays text names l rows kind i c p e a e' (Ok d) = Done text names l (expr_words text names l) 0 c p (segment_at text names l rows kind c) a d × (e' ≡ set e i d.emitted)
SegmentSays text names l rows kind i c p e a e' (Err r) = (segment_at text names l rows kind c ≡ stopped r) × (Wrote c.emitted p a × (e' ≡ e))

-- The code of a clause.
abbrev pub clause_words : List ℕ → List ℕ → Ledger → ℕ → Clause → Numbered (List ℕ)
clause_words text names l k (clause' a b) =
    let x = expr_words text names l k a in let y = expr_words text names l x.next b in numbered (x.is ++ y.is) y.next

-- The ends of its two expressions, if the first begins at place i.
abbrev pub clause_ends : List ℕ → List ℕ → Ledger → ℕ → ℕ → Clause → List ℕ
clause_ends text names l k i (clause' a b) =
    let x = expr_words text names l k a in let y = expr_words text names l x.next b in (i + length x.is) ∷ (i + length x.is + length y.is) ∷ []

abbrev pub clause_at : List ℕ → List ℕ → Ledger → ℕ → Cursor → Got Clause
clause_at text names l kind c = reader (length text) (T.clause kind) (listed text c.next) (book_of text names l c)

-- A clause was read, its code stored, and the ends of its expressions as those of the segments i and i + 1.
pub record ClauseDone (text names : List ℕ) (l : Ledger) (kind i : ℕ) (c : Cursor) (p e a e' : List ℕ) (d : Cursor) : Type 0 where
  pub done : Done text names l (clause_words text names l) 0 c p (clause_at text names l kind c) a d
  pub ends : e' ≡ sets e i (clause_ends text names l c.stars c.emitted done.tree)

unfoldable pub ClauseSays : List ℕ → List ℕ → Ledger → ℕ → ℕ → Cursor → List ℕ → List ℕ → List ℕ → List ℕ → Parsed → Type 0
ClauseSays text names l kind i c p e a e' (Ok d) = ClauseDone text names l kind i c p e a e' d
ClauseSays text names l kind i c p e a e' (Err r) = (clause_at text names l kind c ≡ stopped r) × (Wrote c.emitted p a × Wrote i e e')
