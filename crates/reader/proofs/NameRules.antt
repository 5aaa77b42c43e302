-- What the rules say of a name to declare, and the book after it.
-- Assumes nothing.
use mathlib.Core.Path.{◌≡◌, refl}
use mathlib.Core.Bool.{Bool, true, false, cond, ◌||◌}
use mathlib.Core.List.{List, [], ◌∷◌, ◌++◌}
use mathlib.Core.Option.{Option, none, some}
use Prim.Native.Nat.{ℕ, suc, ◌+◌, ◌≤◌, ◌<◌}
use native.Mathlib.Numerals.{add-one}
use native.Mathlib.Omega.{arith}
use lib.Dec.{ltb}
use borrow.Author.Tests.{lt-ltb, le-ltb}
use Rattle.notation.specs.Tokens.{Name, name}
use Rattle.notation.specs.Notation.{part, declares}
use Rattle.notation.specs.Rules.{view, has, elem, name_counts}
use Rattle.notation.specs.working.Ledger.{Book, note, fault, tally, exceeds}
use Rattle.lexer.specs.declared.pieces.Piece.{Piece}
use Rattle.statements.specs.declared.cursor.Cursor.{Cursor}
use Rattle.statements.specs.declared.cursor.Ledger.{Ledger}
use Rattle.statements.specs.working.Names.{names_kept}
use Rattle.statements.specs.working.Cursors.{book_of, moved}
use Rattle.statements.specs.working.Items.{kind_of}
use Rattle.reader.specs.working.Clauses.{grown}

module _ (text names : List ℕ) (l : Ledger) (c : Cursor) where
  abbrev B : Book
  B = book_of text names l c

  module _ (rows : Bool) (w : Name) where
    pub declares-again : has (names_kept text names l) (λ s. true) w.word ≡ true → fault B (part (declares (kind_of rows)) (name w)) ≡ some 4
    unfolding fault view
    declares-again h = rw h

    -- all names, and those of its kind
    pub declares-many : has (names_kept text names l) (λ s. true) w.word ≡ false → 12 ≤ l.shared + l.row → fault B (part (declares (kind_of rows)) (name w)) ≡ some 7
    unfolding fault view tally elem exceeds name_counts
    declares-many h k = go rows
      where
        either : (x : Bool) → cond {A = Option ℕ} (x || true) (some 7) none ≡ some 7
        either true = refl
        either false = refl

        go : (x : Bool) → fault B (part (declares (kind_of x)) (name w)) ≡ some 7
        go true = rw (h, lt-ltb 12 (suc (l.shared + l.row)) (omega arith)) (either (ltb 10 (suc l.row)))
        go false = rw (h, lt-ltb 12 (suc (l.shared + l.row)) (omega arith)) (either (ltb 8 (suc l.shared)))

    pub declares_full : has (names_kept text names l) (λ s. true) w.word ≡ false → cond rows 10 8 ≤ cond rows l.row l.shared → fault B (part (declares (kind_of rows)) (name w)) ≡ some 7
    unfolding fault view tally elem exceeds name_counts
    declares_full h k = go rows k
      where
        go : (x : Bool) → cond x 10 8 ≤ cond x l.row l.shared → fault B (part (declares (kind_of x)) (name w)) ≡ some 7
        go true k = rw (h, lt-ltb 10 (suc l.row) (omega arith))
        go false k = rw (h, lt-ltb 8 (suc l.shared) (omega arith))

    pub declares-fits : has (names_kept text names l) (λ s. true) w.word ≡ false → l.shared + l.row < 12 → cond rows l.row l.shared < cond rows 10 8
        → fault B (part (declares (kind_of rows)) (name w)) ≡ none
    unfolding fault view tally elem exceeds name_counts
    declares-fits h k f = go rows f
      where
        go : (x : Bool) → cond x l.row l.shared < cond x 10 8 → fault B (part (declares (kind_of x)) (name w)) ≡ none
        go true f = rw (h, le-ltb 10 (suc l.row) (omega arith), le-ltb 12 (suc (l.shared + l.row)) (omega arith))
        go false f = rw (h, le-ltb 8 (suc l.shared) (omega arith), le-ltb 12 (suc (l.shared + l.row)) (omega arith))

  module _ (u : Piece) where
    pub note-declares : (rows : Bool) (w : Name) (names' : List ℕ) → names_kept text names' (grown rows 1 l) ≡ names_kept text names l ++ (w.word, kind_of rows) ∷ [] →
        note B (part (declares (kind_of rows)) (name w)) ≡ book_of text names' (grown rows 1 l) (moved u c c.items c.nodes c.stars)
    unfolding note view tally elem name_counts
    note-declares true w names' h = let e : l.shared + (l.row + 1) ≡ suc (l.shared + l.row) = omega arith in rw (h, e, add-one l.row) refl
    note-declares false w names' h = let e : l.shared + 1 + l.row ≡ suc (l.shared + l.row) = omega arith in rw (h, e, add-one l.shared) refl
