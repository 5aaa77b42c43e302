-- What the readers of an expression's levels answer.
-- Assumes nothing.
use Rattle.std.specs.Prelude.{◌≡◌, List, ℕ, ◌+◌, ◌-◌, ◌≤◌, ◌<◌, length, set, Ok, Err}
use Rattle.notation.specs.Notation.{Expr}
use Rattle.notation.specs.Rules.{NODES, limit_of, depth_limit}
use Rattle.notation.specs.Texts.{Numbered, numbered, expr_of}
use Rattle.notation.specs.Layout.{expr_code}
use Rattle.notation.specs.working.Table.{factor}
use Rattle.notation.specs.working.Descent.{Got, reader, or_reader, and_reader}
use Rattle.statements.specs.declared.cursor.Cursor.{Cursor}
use Rattle.statements.specs.declared.cursor.Ledger.{Ledger}
use Rattle.statements.specs.declared.cursor.Scope.{Scope}
use Rattle.refusals.specs.declared.Reason.TheVariants.{TooMany}
use Rattle.lexer.specs.working.Pieces.{listed, piece_at}
use Rattle.statements.specs.working.Names.{shared_words, row_words}
use Rattle.statements.specs.working.Cursors.{Parsed, refused_at, mode_of, book_of, moved, emitted, Says}

-- The code of an expression, its stars numbered from k on, and the next number.
unfoldable pub expr_words : List ℕ → List ℕ → Ledger → ℕ → Expr → Numbered (List ℕ)
expr_words text names l k e =
    let a = expr_of (shared_words text names l) (row_words text names l) e k in numbered (expr_code l.shared a.is) a.next

abbrev pub SaysExpr : List ℕ → List ℕ → Ledger → Cursor → List ℕ → Got Expr → List ℕ → Parsed → Type 0
SaysExpr text names l c before g after r = Says text names l (expr_words text names l) 0 c before g after r

-- The descent's answers at the three levels, with so much of the depth left.
abbrev pub factor_at : List ℕ → List ℕ → Scope → Ledger → ℕ → Cursor → Got Expr
factor_at text names sc l depth c = reader (length text) (factor (mode_of sc) (depth_limit - depth)) (listed text c.next) (book_of text names l c)

abbrev pub and_at : List ℕ → List ℕ → Scope → Ledger → ℕ → Cursor → Got Expr
and_at text names sc l depth c = and_reader (length text) (mode_of sc) (depth_limit - depth) (listed text c.next) (book_of text names l c)

abbrev pub or_at : List ℕ → List ℕ → Scope → Ledger → ℕ → Cursor → Got Expr
or_at text names sc l depth c = or_reader (length text) (mode_of sc) (depth_limit - depth) (listed text c.next) (book_of text names l c)

-- The answer of a node that is one token: refused if there are too many, else its code word is stored and the cursor is past it.
unfoldable pub Leaf : List ℕ → Cursor → ℕ → ℕ → List ℕ → List ℕ → Parsed → Type 0
Leaf text c code stars before after (Ok d) =
    (c.nodes < limit_of NODES) × ((d ≡ emitted (moved (piece_at text c.next.end) c c.items (c.nodes + 1) stars)) × (after ≡ set before c.emitted code))
Leaf text c code stars before after (Err r) = (limit_of NODES ≤ c.nodes) × ((r ≡ refused_at TooMany c.next) × (after ≡ before))

-- An operand is refused before anything is stored.
unfoldable pub Kept : List ℕ → List ℕ → Parsed → Type 0
Kept before after (Ok c) = Unit {0}
Kept before after (Err r) = after ≡ before

abbrev pub SaysOperand : List ℕ → List ℕ → Ledger → Cursor → List ℕ → Got Expr → List ℕ → Parsed → Type 0
SaysOperand text names l c before g after r = SaysExpr text names l c before g after r × Kept before after r
