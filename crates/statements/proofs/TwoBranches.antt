-- A test and its two branches, as `for` and a command have them: the code words and signs between them.
-- Assumes nothing.
use Rattle.std.specs.Prelude.{Ok, Err}
use mathlib.Core.Path.{ap}
use mathlib.Core.Bool.{Bool}
use mathlib.Core.List.{List}
use Prim.Native.Nat.{ℕ, ◌<◌}
use native.Mathlib.Omega.{arith}
use lib.ListN.{length}
use Rattle.notation.specs.Tokens.{Lexeme}
use Rattle.notation.specs.Notation.{Expr}
use Rattle.notation.specs.Texts.{Numbered}
use Rattle.notation.specs.working.Ledger.{Book}
use Rattle.notation.specs.working.Descent.{Got}
use Rattle.statements.specs.declared.cursor.Cursor.{Cursor}
use Rattle.statements.specs.declared.cursor.Ledger.{Ledger}
use Rattle.refusals.specs.declared.Refusal.{Refusal}
use Rattle.lexer.specs.working.Pieces.{listed}
use Rattle.statements.specs.working.Cursors.{Parsed, book_of, Ready, Done, Says}
use Rattle.statements.specs.working.Expressions.{expr_words, SaysExpr}
use Rattle.statements.specs.working.Items.{ItemIn, items_words, all_in, with_word, Marked}
use Rattle.statements.proofs.StoredCode.{said_ok, says-alike, done-ready}
use Rattle.statements.specs.working.Sequences.{Pair, paired, pairing, signed_by, tested, tested_words}
use Rattle.statements.proofs.Sequences.{says_pair, pair_bad, says-mark, done_room}
use Rattle.statements.proofs.Moves.{ready-less}

module _ (text names : List ℕ) (l : Ledger) (rows : Bool) (last : ℕ) where
  abbrev A : Type 0
  A = ItemIn rows

  abbrev code : ℕ → List A → Numbered (List ℕ)
  code = items_words text names l rows

  abbrev all : List Lexeme → Book → Got (List A)
  all = all_in rows (length text)

  abbrev ending : List Lexeme → Book → Got (List A)
  ending ts b = signed_by (length text) last (all ts b)

  abbrev branches : List Lexeme → Book → Got (Pair (List A) (List A))
  branches ts b = pairing (signed_by (length text) 8 (all ts b)) ending

  abbrev test_words : ℕ → Expr → Numbered (List ℕ)
  test_words = with_word (expr_words text names l) 224

  abbrev first_words : ℕ → List A → Numbered (List ℕ)
  first_words = with_word code 256

  abbrev last_words : ℕ → List A → Numbered (List ℕ)
  last_words = with_word code 288

  abbrev At : Cursor → Got (List A)
  At c = all (listed text c.next) (book_of text names l c)

  -- What the test and the branches answer, read from the cursor d on, where the test gives g.
  abbrev Whole : Cursor → List ℕ → Got Expr → List ℕ → Parsed → Type 0
  Whole d p g z y = Says text names l (tested_words text names l code) 3 d p (tested (length text) all last g) z y

  pub test_bad : {d : Cursor} {p : List ℕ} {g : Got Expr} {a : List ℕ} {q : Refusal} → SaysExpr text names l d p g a (Err q) → Whole d p g a (Err q)
  test_bad s = says-alike s (λ h. ap (tested (length text) all last) h)

  module _ (small : last < 24) {d : Cursor} (r : Ready text l 3 d) {p : List ℕ} {g : Got Expr} {a : List ℕ} {test : Cursor}
      (s₁ : Done text names l (expr_words text names l) 0 d p g a test) where
    pub test_room : test.emitted < 2048
    test_room = done_room 2 r s₁

    module _ (a₁ : List ℕ) where
      marked₁ : (y : Parsed) → Marked text 7 224 test a a₁ y → Says text names l test_words 1 d p (signed_by (length text) 7 g) a₁ y
      marked₁ y m = says-mark s₁ 7 224 (omega arith) m

      pub first_bad : (q : Refusal) → Marked text 7 224 test a a₁ (Err q) → Whole d p g a₁ (Err q)
      first_bad q m = says-alike (marked₁ (Err q) m) (pair_bad branches q)

      module _ (yes : Cursor) (m₁ : Marked text 7 224 test a a₁ (Ok yes)) where
        done₁ : Done text names l test_words 1 d p (signed_by (length text) 7 g) a₁ yes
        done₁ = said_ok (marked₁ (Ok yes) m₁)

        two_ready : Ready text l 2 yes
        two_ready = done-ready done₁ 2 r

        pub yes-ready : Ready text l 0 yes
        yes-ready = ready-less two_ready (omega arith)

        -- what the branches answer, after the test
        after_test : {z : List ℕ} {y : Parsed} → Says text names l (paired first_words last_words) 2 yes a₁ (branches (listed text yes.next) (book_of text names l yes)) z y → Whole d p g z y
        after_test h = says_pair branches done₁ h

        pub done_bad : {b : List ℕ} {q : Refusal} → Says text names l code 0 yes a₁ (At yes) b (Err q) → Whole d p g b (Err q)
        done_bad s = after_test (says-alike s (λ h. ap (λ (o : Got (List A)). pairing (signed_by (length text) 8 o) ending) h))

        module _ {b : List ℕ} {done : Cursor} (s₂ : Done text names l code 0 yes a₁ (At yes) b done) where
          pub mid_room : done.emitted < 2048
          mid_room = done_room 1 two_ready s₂

          module _ (b₁ : List ℕ) where
            marked₂ : (y : Parsed) → Marked text 8 256 done b b₁ y → Says text names l first_words 1 yes a₁ (signed_by (length text) 8 (At yes)) b₁ y
            marked₂ y m = says-mark s₂ 8 256 (omega arith) m

            pub second_bad : (q : Refusal) → Marked text 8 256 done b b₁ (Err q) → Whole d p g b₁ (Err q)
            second_bad q m = after_test (says-alike (marked₂ (Err q) m) (pair_bad ending q))

            module _ (no : Cursor) (m₂ : Marked text 8 256 done b b₁ (Ok no)) where
              done₂ : Done text names l first_words 1 yes a₁ (signed_by (length text) 8 (At yes)) b₁ no
              done₂ = said_ok (marked₂ (Ok no) m₂)

              one-ready : Ready text l 1 no
              one-ready = done-ready done₂ 1 two_ready

              pub no-ready : Ready text l 0 no
              no-ready = ready-less one-ready (omega arith)

              pub rest_bad : {z : List ℕ} {q : Refusal} → Says text names l code 0 no b₁ (At no) z (Err q) → Whole d p g z (Err q)
              rest_bad s = after_test (says_pair ending done₂ (says-alike {code' = last_words} {extra' = 1} s (λ h. ap (signed_by (length text) last) h)))

              module _ {z : List ℕ} {rest : Cursor} (s₃ : Done text names l code 0 no b₁ (At no) z rest) where
                pub rest_room : rest.emitted < 2048
                rest_room = done_room 0 one-ready s₃

                pub tested-says : (z₁ : List ℕ) (y : Parsed) → Marked text last 288 rest z z₁ y → Whole d p g z₁ y
                tested-says z₁ y m₃ = after_test (says_pair ending done₂ (says-mark s₃ last 288 small m₃))
