-- A command's body: `if`, and then a test with its two branches.
-- Assumes nothing.
use Rattle.std.specs.Prelude.{Ok, Err}
use mathlib.Core.Path.{◌≡◌, ap}
use mathlib.Core.Bool.{true, false}
use mathlib.Core.List.{List}
use Prim.Native.Nat.{ℕ}
use native.Mathlib.Omega.{arith}
use lib.ListN.{length}
use Rattle.notation.specs.Notation.{free_shared, Item}
use Rattle.notation.specs.working.Descent.{Got, then_reads, or_reader}
use Rattle.statements.specs.declared.cursor.Cursor.{Cursor}
use Rattle.statements.specs.declared.cursor.Ledger.{Ledger}
use Rattle.statements.specs.declared.cursor.Scope.{Scope}
use Rattle.refusals.specs.declared.Refusal.{Refusal}
use Rattle.lexer.specs.working.Pieces.{listed}
use Rattle.statements.specs.working.Cursors.{Parsed, stopped, book_of, Expected, Ready, Says}
use Rattle.statements.specs.working.Expressions.{or_at}
use Rattle.statements.specs.working.Items.{items_words, all_in}
use Rattle.statements.specs.working.Sequences.{Tested, tested, tested_words}
use Rattle.reader.specs.working.Commands.{body_reader, BodySays}
use Rattle.statements.proofs.Moves.{is-past}
use Rattle.statements.proofs.StoredCode.{says_of}
use Rattle.statements.proofs.Sequences.{expected_ok, expected_bad, says-from, sign-ready}

-- Where a command's test stands.
abbrev pub in_table : Scope
in_table = record { rows = false; stars = true }

module _ (text names : List ℕ) (l : Ledger) (c : Cursor) (r : Ready text l 3 c) where
  abbrev G : Got (Tested Item)
  G = body_reader (length text) (listed text c.next) (book_of text names l c)

  abbrev rest : Got (Unit {0}) → Got (Tested Item)
  rest o = then_reads o (λ u ts b. tested (length text) (all_in false (length text)) 18 (or_reader (length text) free_shared 0 ts b))

  pub body_bad : (q : Refusal) → Expected text c 6 (Err q) → G ≡ stopped q
  body_bad q e = ap rest (expected_bad text names l c 6 q r.fresh e)

  module _ (d : Cursor) (e : Expected text c 6 (Ok d)) where
    pub body-ready : Ready text l 3 d
    body-ready = sign-ready 6 r e

    pub body-says : (p a : List ℕ) (y : Parsed)
        → Says text names l (tested_words text names l (items_words text names l false)) 3 d p
        (tested (length text) (all_in false (length text)) 18 (or_at text names in_table l 16 d)) a y → BodySays text names l c p a y
    unfolding Expected
    body-says p a y h =
        says-from (is-past e.1) (says_of (ap rest (expected_ok text names l c 6 d (omega arith) e)) h) (omega arith) (omega arith) (omega arith)
