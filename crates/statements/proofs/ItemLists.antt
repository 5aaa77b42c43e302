-- Items as a series, inside a `for` and outside.
-- Assumes nothing.
use mathlib.Core.Bool.{Bool, true, false}
use mathlib.Core.Path.{◌≡◌, refl, sym}
use mathlib.Core.List.{List, [], ◌∷◌, ◌++◌}
use mathlib.Core.Option.{some}
use Prim.Native.Nat.{ℕ, ◌≤◌}
use native.Mathlib.Omega.{arith}
use lib.ListN.{length, length-append}
use borrow.Author.Tests.{ne_eqb}
use Rattle.notation.specs.Tokens.{sign, Lexeme, at}
use Rattle.notation.specs.Notation.{part, quiet, RowItem, Item, for'}
use Rattle.notation.specs.Texts.{numbered, row_item_of, row_items_of, item_of, items_of}
use Rattle.notation.specs.Layout.{row_item_code, row_items_code, item_code, items_code}
use Rattle.notation.specs.working.Ledger.{Book, note, fault}
use Rattle.notation.specs.working.Table.{row_items, items, find, lines, skips}
use Rattle.notation.specs.working.Descent.{got, then_reads, ruling, sequence}
use Rattle.notation.proofs.Readers.{reader_token}
use Rattle.lexer.specs.working.Kinds.{kind_number}
use Rattle.lexer.specs.declared.pieces.Piece.{Piece}
use Rattle.statements.specs.declared.cursor.Ledger.{Ledger}
use Rattle.lexer.specs.working.Pieces.{listed}
use Rattle.statements.specs.working.Items.{ItemIn, item_words, items_words, one_in, more_in}
use Rattle.statements.proofs.Symbols.{passed}
use Rattle.statements.proofs.ItemLoops.{Series}

module _ (text names : List ℕ) (l : Ledger) where
  abbrev len : ℕ
  len = length text

  pub item_turn : (rows : Bool) (i : ℕ) (ts : List Lexeme) (b : Book) → more_in rows len (at i (some (sign 19)) ∷ ts) b ≡
      ruling i (fault b (part quiet (sign 19))) (then_reads (one_in rows len ts (note b (part quiet (sign 19)))) (λ x ts b. then_reads (more_in rows len ts b) (λ xs ts b. got (x ∷ xs) ts b)))
  unfolding sequence find lines skips
  item_turn true i ts b = rw (reader_token len row_items) refl
  item_turn false i ts b = rw (reader_token len items) refl

  pub item-stops : (rows : Bool) (t : Piece) (b : Book) → (kind_number t.kind ≡ 19 → ⊥) → more_in rows len (listed text t) b ≡ got [] (listed text t) b
  unfolding skips find lines
  item-stops true t b h = passed text t row_items len b refl (rw (ne_eqb 19 (kind_number t.kind) (λ z. h (sym z))) refl) refl
  item-stops false t b h = passed text t items len b refl (rw (ne_eqb 19 (kind_number t.kind) (λ z. h (sym z))) refl) refl

  pub item_nil : (rows : Bool) (k : ℕ) → items_words text names l rows k [] ≡ numbered [] k
  unfolding items_words row_items_of row_items_code items_of items_code
  item_nil true k = refl
  item_nil false k = refl

  pub item_cons : (rows : Bool) (k : ℕ) (x : ItemIn rows) (xs : List (ItemIn rows)) → items_words text names l rows k (x ∷ xs) ≡
      numbered ((item_words text names l rows k x).is ++ (items_words text names l rows (item_words text names l rows k x).next xs).is)
      (items_words text names l rows (item_words text names l rows k x).next xs).next
  unfolding item_words items_words row_items_of row_items_code items_of items_code
  item_cons true k x xs = refl
  item_cons false k x xs = refl

  pub item-some : (rows : Bool) (k : ℕ) (x : ItemIn rows) → 1 ≤ length (item_words text names l rows k x).is
  unfolding item_words row_item_of row_item_code item_of item_code
  item-some true k RowItem.skip' = omega arith
  item-some true k (RowItem.set' n e) = simp length-append (omega arith)
  item-some false k Item.skip' = omega arith
  item-some false k (Item.set' n e) = simp length-append (omega arith)
  item-some false k (for' e xs ys) = simp length-append (omega arith)

  abbrev pub item_series : (rows : Bool) → Series (ItemIn rows) text names l
  item_series rows = record {
    one = one_in rows len;
    more = more_in rows len;
    word = item_words text names l rows;
    words = items_words text names l rows;
    turn = item_turn rows;
    stops = item-stops rows;
    nil = item_nil rows;
    cons = item_cons rows;
    some = item-some rows;
  }
