-- Whether a word is a declared name of some kinds: whether it is among the words of those kinds.
-- Assumes nothing.
use mathlib.Core.Path.{◌≡◌, refl, sym, ◌∙◌}
use mathlib.Core.Bool.{Bool, true, false, ◌&&◌, ◌||◌, or-false, or_assoc, and-false, and-or_distrib_left}
use mathlib.Core.List.{List, [], ◌∷◌}
use Prim.Native.Nat.{ℕ, ◌+◌}
use native.Mathlib.Nat.{zero-add}
use Rattle.notation.specs.Bytes.{same_word}
use Rattle.notation.specs.Tokens.{Word}
use Rattle.notation.specs.Notation.{Kind, shared_name, row_name, command_name}
use Rattle.notation.specs.Rules.{has}
use Rattle.notation.specs.Texts.{among}
use Rattle.notation.proofs.Scopes.{has_both}
use Rattle.lexer.specs.working.Names.{words_in}
use Rattle.lexer.proofs.Lookup.{among-append, words_append}
use Rattle.statements.specs.declared.cursor.Ledger.{Ledger}
use Rattle.statements.specs.working.Names.{shared_words, row_words, command_words, kinded, names_kept}

module _ (f : Kind → Bool) (w : Word) where
  pub has-kinded : (k : Kind) (ws : List Word) → has (kinded k ws) f w ≡ f k && among w ws
  unfolding has among
  has-kinded k [] = sym (and-false (f k))
  has-kinded k (v ∷ ws) = rw (has-kinded k ws) (sym (and-or_distrib_left (f k) (same_word w v) (among w ws)))

module _ (text names : List ℕ) (l : Ledger) (f : Kind → Bool) (w : Word) where
  has_kept : (x y z : Bool) → f shared_name ≡ x → f row_name ≡ y → f command_name ≡ z → has (names_kept text names l) f w ≡
      (x && among w (shared_words text names l)) || ((y && among w (row_words text names l)) || (z && among w (command_words text names l)))
  unfolding names_kept
  has_kept x y z p q r = simp (has_both, has-kinded, p, q, r)

  pub shared-name : f shared_name ≡ true → f row_name ≡ false → f command_name ≡ false → has (names_kept text names l) f w ≡ among w (shared_words text names l)
  shared-name p q r = has_kept true false false p q r ∙ or-false _

  pub row-name : f shared_name ≡ false → f row_name ≡ true → f command_name ≡ false → has (names_kept text names l) f w ≡ among w (row_words text names l)
  row-name p q r = has_kept false true false p q r ∙ or-false _

  pub table-name : f shared_name ≡ true → f row_name ≡ true → f command_name ≡ false → has (names_kept text names l) f w ≡ among w (words_in text names 0 (l.shared + l.row))
  table-name p q r = has_kept true true false p q r ∙ simp (words_append, among-append, zero-add, or-false)

pub any_name : (text names : List ℕ) (l : Ledger) (w : Word) → has (names_kept text names l) (λ s. true) w ≡ among w (words_in text names 0 (l.shared + l.row + l.commands))
any_name text names l w = has_kept text names l (λ s. true) w true true true refl refl refl ∙ simp (words_append, among-append, zero-add, or_assoc)
