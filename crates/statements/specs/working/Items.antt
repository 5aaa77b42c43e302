-- What the readers of items answer.
-- Assumes nothing.
use Rattle.std.specs.Prelude.{◌≡◌, Bool, true, false, cond, List, [], ◌∷◌, ◌++◌, ℕ, ◌+◌, ◌≤◌, ◌<◌, length, set, Ok, Err}
use Rattle.notation.specs.Tokens.{name, Lexeme, ASSIGN}
use Rattle.notation.specs.Notation.{Kind, shared_name, row_name, Mode, free_shared, free_row, part, target, Expr, RowItem, Item}
use Rattle.notation.specs.Rules.{ITEMS, limit_of}
use Rattle.notation.specs.Texts.{Numbered, numbered, place_of, row_item_of, row_items_of, item_of, items_of}
use Rattle.notation.specs.Layout.{STORE, PASS, row_item_code, row_items_code, item_code, items_code}
use Rattle.notation.specs.working.Lexing.{tokens_from}
use Rattle.notation.specs.working.Ledger.{Book, note, fault}
use Rattle.notation.specs.working.Table as T
use Rattle.notation.specs.working.Descent.{Got, got, then_reads, ruling, reader, or_reader}
use Rattle.statements.specs.declared.cursor.Cursor.{Cursor}
use Rattle.statements.specs.declared.cursor.Ledger.{Ledger}
use Rattle.refusals.specs.declared.Reason.TheVariants.{TooMany}
use Rattle.lexer.specs.working.Pieces.{name_in, listed, piece_at}
use Rattle.statements.specs.working.Names.{shared_words, row_words}
use Rattle.statements.specs.working.Cursors.{Parsed, refused_at, book_of, moved, emitted, Expected, Says}
use Rattle.statements.specs.working.Expressions.{expr_words}

-- What stands in a list: row items, if `rows`, or else items.
abbrev pub ItemIn : Bool → Type 0
ItemIn true = RowItem
ItemIn false = Item

-- The codes, with stars numbered from k on, and the next number.
module _ (text names : List ℕ) (l : Ledger) where
  unfoldable pub item_words : (rows : Bool) → ℕ → ItemIn rows → Numbered (List ℕ)
  item_words true k x = let a = row_item_of (shared_words text names l) (row_words text names l) x k in numbered (row_item_code l.shared a.is) a.next
  item_words false k x = let a = item_of (shared_words text names l) (row_words text names l) x k in numbered (item_code l.shared a.is) a.next

  unfoldable pub items_words : (rows : Bool) → ℕ → List (ItemIn rows) → Numbered (List ℕ)
  items_words true k xs = let a = row_items_of (shared_words text names l) (row_words text names l) xs k in numbered (row_items_code l.shared a.is) a.next
  items_words false k xs = let a = items_of (shared_words text names l) (row_words text names l) xs k in numbered (items_code l.shared a.is) a.next

-- Code with one word more.
abbrev pub with_word : {A : Type 0} → (ℕ → A → Numbered (List ℕ)) → ℕ → ℕ → A → Numbered (List ℕ)
with_word code word k a = numbered ((code k a).is ++ word ∷ []) (code k a).next

-- The answer after a sign that has to stand here, and a code word.
unfoldable pub Marked : List ℕ → ℕ → ℕ → Cursor → List ℕ → List ℕ → Parsed → Type 0
Marked text kind word c before after (Ok d) = (v : Cursor) × (Expected text c kind (Ok v) × ((d ≡ emitted v) × (after ≡ set before v.emitted word)))
Marked text kind word c before after (Err r) = Expected text c kind (Err r) × (after ≡ before)

-- The answer of `skip`.
unfoldable pub Skipped : List ℕ → Cursor → List ℕ → List ℕ → Parsed → Type 0
Skipped text c before after (Ok d) =
    (c.items < limit_of ITEMS) × ((d ≡ emitted (moved (piece_at text c.next.end) c (c.items + 1) c.nodes c.stars)) × (after ≡ set before c.emitted PASS))
Skipped text c before after (Err r) = (limit_of ITEMS ≤ c.items) × ((r ≡ refused_at TooMany c.next) × (after ≡ before))

-- An assignment after its name is seen: the kind of the name, and where its expression stands.
abbrev pub kind_of : Bool → Kind
kind_of rows = cond rows row_name shared_name

abbrev pub mode_in : Bool → Mode
mode_in rows = cond rows free_row free_shared

unfoldable pub assign_at : List ℕ → List ℕ → Ledger → Bool → Cursor → Got Expr
assign_at text names l rows c =
    ruling c.next.start (fault (book_of text names l c) (part (target (kind_of rows)) (name (name_in text c.next))))
    (then_reads (reader (length text) (T.lit ASSIGN) (tokens_from text c.next.end) (note (book_of text names l c) (part (target (kind_of rows)) (name (name_in text c.next)))))
    (λ u ts b. or_reader (length text) (mode_in rows) 0 ts b))

-- The number of the bit that the name assigned to is.
abbrev pub bit_in : List ℕ → List ℕ → Ledger → Bool → Cursor → ℕ
bit_in text names l rows c = cond rows (l.shared + place_of (name_in text c.next).word (row_words text names l)) (place_of (name_in text c.next).word (shared_words text names l))

abbrev pub SaysAssign : List ℕ → List ℕ → Ledger → Bool → Cursor → List ℕ → List ℕ → Parsed → Type 0
SaysAssign text names l rows c before after r = Says text names l (with_word (expr_words text names l) (STORE + bit_in text names l rows c)) 0 c before (assign_at text names l rows c) after r

-- The readers of an item, of more of them or none, and of one and more.
abbrev pub one_in : (rows : Bool) → ℕ → List Lexeme → Book → Got (ItemIn rows)
one_in true len ts b = reader len T.row_item ts b
one_in false len ts b = reader len T.item ts b

abbrev pub more_in : (rows : Bool) → ℕ → List Lexeme → Book → Got (List (ItemIn rows))
more_in true len ts b = reader len T.row_items ts b
more_in false len ts b = reader len T.items ts b

abbrev pub all_in : (rows : Bool) → ℕ → List Lexeme → Book → Got (List (ItemIn rows))
all_in rows len ts b = then_reads (one_in rows len ts b) (λ x ts b. then_reads (more_in rows len ts b) (λ xs ts b. got (x ∷ xs) ts b))

-- The descent's answers.
abbrev pub item_at : List ℕ → List ℕ → Ledger → (rows : Bool) → Cursor → Got (ItemIn rows)
item_at text names l rows c = one_in rows (length text) (listed text c.next) (book_of text names l c)

abbrev pub items_at : List ℕ → List ℕ → Ledger → (rows : Bool) → Cursor → Got (List (ItemIn rows))
items_at text names l rows c = all_in rows (length text) (listed text c.next) (book_of text names l c)

abbrev pub SaysItem : List ℕ → List ℕ → Ledger → Bool → Cursor → List ℕ → List ℕ → Parsed → Type 0
SaysItem text names l rows c before after r = Says text names l (item_words text names l rows) 0 c before (item_at text names l rows c) after r

abbrev pub SaysItems : List ℕ → List ℕ → Ledger → Bool → Cursor → List ℕ → List ℕ → Parsed → Type 0
SaysItems text names l rows c before after r = Says text names l (items_words text names l rows) 0 c before (items_at text names l rows c) after r
