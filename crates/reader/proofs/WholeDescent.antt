-- A whole text: its descent in the order in which it is read.
-- Assumes nothing.
use mathlib.Core.Path.{◌≡◌, refl, sym, ap, ◌∙◌}
use mathlib.Core.Bool.{Bool, true, false, cond}
use mathlib.Core.List.{List, [], ◌∷◌}
use mathlib.Core.Option.{none, some}
use Prim.Native.Nat.{ℕ}
use native.Mathlib.Omega.{arith}
use lib.Dec.{eqb}
use lib.ListN.{length}
use borrow.Author.Tests.{ne_eqb}
use Rattle.notation.specs.Tokens.{sign, name, Name, Lexeme, at}
use Rattle.notation.specs.Notation.{shared_name, row_name, part, quiet, Clause, Command, Tree, tree'}
use Rattle.notation.specs.working.Lexing.{tokens, tokens_from}
use Rattle.notation.specs.working.Ledger.{Book, blank_book, note, fault}
use Rattle.notation.specs.working.Table as T
use Rattle.notation.specs.working.Table.{find, lines, skips}
use Rattle.notation.specs.working.Machine.{Outcome, read, refused, reading}
use Rattle.notation.specs.working.Descent.{Got, got, stop, then_reads, taken, reader, sequence}
use Rattle.notation.proofs.Descents.{follow, at_close, descent}
use Rattle.notation.proofs.Readers.{reader_token, reader-end, reader_byte, then_then, then_ruling}
use Rattle.refusals.specs.Reasons.{number_of}
use Rattle.lexer.specs.working.Kinds.{kind_number}
use Rattle.lexer.specs.declared.pieces.Piece.{Piece}
use Rattle.statements.specs.declared.cursor.Cursor.{Cursor}
use Rattle.statements.specs.declared.cursor.Ledger.{Ledger}
use Rattle.lexer.specs.working.Pieces.{misplaced, name_in, token_of, listed, Fresh}
use Rattle.statements.specs.working.Cursors.{book_of}
use Rattle.statements.specs.working.Sequences.{Pair, pairing}
use Rattle.reader.specs.working.Whole.{head_reader, heads_reader, heads_at, clauses_at}
use Rattle.reader.specs.working.Commands.{commands_at}
use Rattle.statements.proofs.Symbols.{listed-sign, missing, fault_number}

-- ---- symbols that begin with a sign of their own

-- Such a symbol is its sign and what follows it, whatever stands there.
first-sign : (len : ℕ) (n : T.Sym) (k : ℕ) (α : List T.Sym) (f : T.Cont α (T.Val n)) → ((j : ℕ) → find (lines n) (sign j) ≡ cond (eqb k j) (some (record { role = quiet; next = α; act = f })) none) →
    ((w : Name) → find (lines n) (name w) ≡ none) → skips n ≡ none → (ts : List Lexeme) (b : Book) → reader len n ts b
    ≡ then_reads (reader len (T.lit k) ts b) (λ u ts b. sequence (reader len) α f ts b)
unfolding find lines skips sequence
first-sign len n k α f hs hn out [] b = rw (reader-end len n b, reader-end len (T.lit k) b, out)
first-sign len n k α f hs hn out (at i none ∷ ts) b = rw (reader_byte len n i ts b, reader_byte len (T.lit k) i ts b, out)
first-sign len n k α f hs hn out (at i (some (name w)) ∷ ts) b = rw (reader_token len n i (name w) ts b, reader_token len (T.lit k) i (name w) ts b, hn w, out)
first-sign len n k α f hs hn out (at i (some (sign j)) ∷ ts) b = rw (reader_token len n i (sign j) ts b, reader_token len (T.lit k) i (sign j) ts b, hs j, out) (go (eqb k j))
  where
    go : (x : Bool) → taken {n = n} (reader len) i (cond x (some (record { role = quiet; next = α; act = f })) none) (sign j) ts b (stop 3 i) ≡
        then_reads (taken {n = T.lit k} (reader len) i (cond x (some (record { role = quiet; next = []; act = tt })) none) (sign j) ts b (stop 3 i)) (λ u ts b. sequence (reader len) α f ts b)
    go true = sym (then_ruling i (fault b (part quiet (sign j))) (got tt ts (note b (part quiet (sign j)))) (λ u ts b. sequence (reader len) α f ts b))
    go false = refl

module _ (len : ℕ) where
  rows_is : (ts : List Lexeme) (b : Book) → reader len T.rows ts b ≡ head_reader len true 1 ts b
  unfolding find lines skips sequence
  rows_is ts b = first-sign len T.rows 1 (T.names row_name ∷ T.lit 18 ∷ []) (λ ws _. ws) (λ j. refl) (λ w. refl) refl ts b

  -- What follows the declarations, and what follows the clauses.
  abbrev commands_rest : (List Command → Tree) → List Lexeme → Book → Got Tree
  commands_rest f ts b = then_reads (reader len T.one_command ts b) (λ x ts b. then_reads (reader len T.commands ts b) (λ xs ts b. got (f (x ∷ xs)) ts b))

  abbrev clauses_rest : List Name → List Name → List Lexeme → Book → Got Tree
  clauses_rest ws vs ts b =
      then_reads (pairing (reader len (T.clause 2) ts b) (λ ts b. reader len (T.clause 3) ts b)) (λ v ts b. commands_rest (λ xs. tree' ws vs v.one v.two xs) ts b)

  whole_is : (ts : List Lexeme) (b : Book) → reader len T.whole ts b ≡ then_reads (heads_reader len ts b) (λ v ts b. clauses_rest v.one v.two ts b)
  unfolding find lines skips sequence
  whole_is ts b =
      first-sign len T.whole 0 (T.names shared_name ∷ T.lit 18 ∷ T.rows ∷ T.clause 2 ∷ T.clause 3 ∷ T.one_command ∷ T.commands ∷ [])
      (λ ws _ vs s k c cs. tree' ws vs s k (c ∷ cs)) (λ j. refl) (λ w. refl) refl ts b
      ∙ simp (rows_is, then_then)

-- ---- the chain of a text

module _ (text : List ℕ) where
  abbrev len : ℕ
  len = length text

  -- What the whole reading makes of a reader's answer.
  abbrev closing : Got Tree → Outcome
  closing g = follow g (λ x ts b. at_close len x ts)

  text-is : reading len (tokens text) ≡ closing (then_reads (heads_at text) (λ v ts b. clauses_rest len v.one v.two ts b))
  unfolding reader
  text-is = descent len (tokens text) ∙ ap closing (whole_is len (tokens text) blank_book)

  pub heads_bad : (n i : ℕ) → heads_at text ≡ stop n i → reading len (tokens text) ≡ refused n i
  heads_bad n i e = text-is ∙ ap (λ (o : Got (Pair (List Name) (List Name))). closing (then_reads o (λ v ts b. clauses_rest len v.one v.two ts b))) e

  module _ (names : List ℕ) (l : Ledger) (c : Cursor) (v : Pair (List Name) (List Name)) (h : heads_at text ≡ got v (listed text c.next) (book_of text names l c)) where
    after_heads : reading len (tokens text) ≡ closing (then_reads (clauses_at text names l c) (λ k ts b. commands_rest len (λ xs. tree' v.one v.two k.one k.two xs) ts b))
    after_heads = text-is ∙ ap (λ (o : Got (Pair (List Name) (List Name))). closing (then_reads o (λ v ts b. clauses_rest len v.one v.two ts b))) h

    pub clauses_bad : (n i : ℕ) → clauses_at text names l c ≡ stop n i → reading len (tokens text) ≡ refused n i
    clauses_bad n i e = after_heads ∙ ap (λ (o : Got (Pair Clause Clause)). closing (then_reads o (λ k ts b. commands_rest len (λ xs. tree' v.one v.two k.one k.two xs) ts b))) e

    module _ (d : Cursor) (k : Pair Clause Clause) (e : clauses_at text names l c ≡ got k (listed text d.next) (book_of text names l d)) where
      abbrev made : List Command → Tree
      made xs = tree' v.one v.two k.one k.two xs

      after-clauses : reading len (tokens text) ≡ closing (commands_rest len made (listed text d.next) (book_of text names l d))
      after-clauses = after_heads ∙ ap (λ (o : Got (Pair Clause Clause)). closing (then_reads o (λ k ts b. commands_rest len (λ xs. tree' v.one v.two k.one k.two xs) ts b))) e

      pub command_missing : Fresh text d.next → (kind_number d.next.kind ≡ 5 → ⊥) → reading len (tokens text) ≡ refused (number_of (misplaced d.next).reason) d.next.start
      unfolding skips find lines
      command_missing f u =
          after-clauses ∙ ap (λ (o : Got Command). closing (then_reads o (λ x ts b. then_reads (reader len T.commands ts b) (λ xs ts b. got (made (x ∷ xs)) ts b))))
          (missing text d.next T.one_command (book_of text names l d) f refl (rw (ne_eqb 5 (kind_number d.next.kind) (λ z. u (sym z))) refl) (λ z. refl))

      module _ (u : kind_number d.next.kind ≡ 5) where
        -- one command and the rest are the commands
        commands_are : commands_rest len made (listed text d.next) (book_of text names l d) ≡ then_reads (commands_at text names l d) (λ xs ts b. got (made xs) ts b)
        unfolding find lines skips sequence
        commands_are = rw (listed-sign text d.next 5 u (omega arith), reader_token len T.one_command, reader_token len T.commands) (simp (then_ruling, then_then))

        pub commands_bad : (n i : ℕ) → commands_at text names l d ≡ stop n i → reading len (tokens text) ≡ refused n i
        commands_bad n i f = after-clauses ∙ ap closing (commands_are ∙ ap (λ (o : Got (List Command)). then_reads o (λ xs ts b. got (made xs) ts b)) f)

        module _ (t : Piece) (xs : List Command) (b : Book) (f : commands_at text names l d ≡ got xs (listed text t) b) where
          after-commands : reading len (tokens text) ≡ at_close len (made xs) (listed text t)
          after-commands = after-clauses ∙ ap closing (commands_are ∙ ap (λ (o : Got (List Command)). then_reads o (λ xs ts b. got (made xs) ts b)) f)

          pub text-ends : kind_number t.kind ≡ 26 → reading len (tokens text) ≡ read (made xs)
          unfolding listed
          text-ends z = after-commands ∙ rw z refl

          pub text-goes-on : Fresh text t → (kind_number t.kind ≡ 26 → ⊥) → reading len (tokens text) ≡ refused (number_of (misplaced t).reason) t.start
          unfolding listed token_of
          text-goes-on r z = after-commands ∙ rw (ne_eqb (kind_number t.kind) 26 z) (go (eqb (kind_number t.kind) 25) (fault_number text t))
            where
              go : (x : Bool) → number_of (misplaced t).reason ≡ cond x 2 3 → at_close len (made xs)
                  (at t.start (cond x none (some (cond (eqb (kind_number t.kind) 24) (name (name_in text t)) (sign (kind_number t.kind))))) ∷ tokens_from text t.end)
                  ≡ refused (number_of (misplaced t).reason) t.start
              go true e = ap (λ (n : ℕ). refused n t.start) (sym e)
              go false e = ap (λ (n : ℕ). refused n t.start) (sym e)
