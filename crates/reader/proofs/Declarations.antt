-- Declarations, a sign with names and a full stop each, and the two of them that a text begins with.
-- Assumes nothing.
use Rattle.std.specs.Prelude.{Result, Ok, Err}
use mathlib.Core.Path.{◌≡◌, refl, sym, ap, ◌∙◌, subst}
use mathlib.Core.Bool.{Bool, true, false}
use mathlib.Core.List.{List, ◌++◌, append-nil}
use Prim.Native.Nat.{ℕ, ◌+◌, ◌*◌, ◌≤◌, ◌<◌}
use native.Mathlib.Nat.{zero-add}
use native.Mathlib.Omega.{arith}
use lib.ListN.{length}
use Rattle.notation.specs.Tokens.{Word, Name, Lexeme}
use Rattle.notation.specs.Texts.{words_of}
use Rattle.notation.specs.working.Ledger.{Book, blank_book}
use Rattle.notation.specs.working.Table as T
use Rattle.notation.specs.working.Descent.{Got, got, then_reads, reader}
use Rattle.lexer.specs.declared.pieces.Piece.{Piece}
use Rattle.statements.specs.declared.cursor.Cursor.{Cursor}
use Rattle.statements.specs.declared.cursor.Ledger.{Ledger}
use Rattle.refusals.specs.declared.Refusal.{Refusal}
use Rattle.lexer.specs.working.Pieces.{listed}
use Rattle.lexer.specs.working.Names.{words_in}
use Rattle.statements.specs.working.Names.{shared_words, names_kept}
use Rattle.statements.specs.working.Cursors.{reached, stopped, book_of, moved, Expected}
use Rattle.statements.specs.working.Items.{kind_of}
use Rattle.reader.specs.Read.{placed}
use Rattle.reader.specs.working.Clauses.{Declared, reached_with, grown, Listing, list_at, Noted, NamesSay}
use Rattle.statements.specs.working.Sequences.{pair_of, pairing, signed_by}
use Rattle.reader.specs.working.Whole.{head_reader, head_at, heads_at, Heads, HeadsSay}
use Rattle.lexer.proofs.Lexing.{Tokened}
use Rattle.statements.proofs.StoredCode.{then_bad}
use Rattle.statements.proofs.Moves.{Past, is-past}
use Rattle.statements.proofs.Sequences.{expected_ok, expected_bad}
use Rattle.reader.proofs.NameLists.{placed-append, named-same, named_behind, grown-names, listed_ok, listed_bad}

-- The cursor z with the next piece of d.
abbrev onto : Cursor → Cursor → Cursor
onto d z = moved d.next z z.items z.nodes z.stars

-- ---- a sign, names and a full stop

-- Past a sign, names may be declared where they might before it.
past-listing : (text names : List ℕ) (l : Ledger) (rows : Bool) (c d : Cursor) → Listing text names l rows c → Past text c c.items c.nodes c.stars d → Listing text names l rows d
past-listing text names l rows c d g q = record { fits = g.fits; fresh = q.next.fresh; long = g.long; shared = g.shared; row = g.row; few = g.few; commands = g.commands; order = g.order }

module _ (text names : List ℕ) (l : Ledger) (rows : Bool) (kind : ℕ) (c : Cursor) (g : Listing text names l rows c) (small : kind < 24) where
  abbrev At : Got (List Name)
  At = head_at text names l rows kind c

  abbrev SaysAt : List ℕ → Declared → Type 0
  SaysAt m r = NamesSay text names l rows c At m r

  -- The names and the full stop.
  abbrev inside : List Lexeme → Book → Got (List Name)
  inside ts b = signed_by (length text) 18 (reader (length text) (T.names (kind_of rows)) ts b)

  pub head_bad : (q : Refusal) → Expected text c kind (Err q) → SaysAt names (Err q)
  unfolding NamesSay
  head_bad q h = (
    then_bad (λ u ts b. inside ts b) q refl (expected_bad text names l c kind q g.fresh h),
    named-same refl,
  )

  module _ (v : Cursor) (there : Expected text c kind (Ok v)) where
    pub sign-listing : Listing text names l rows v
    unfolding Expected
    sign-listing = past-listing text names l rows c v g (is-past there.1)

    abbrev listed-names : Got (List Name)
    listed-names = list_at text names l rows v

    -- Past its sign, a declaration is its names and a full stop.
    goes : At ≡ signed_by (length text) 18 listed-names
    goes = ap (λ (o : Got (Unit {0})). then_reads o (λ u ts b. inside ts b)) (expected_ok text names l c kind v small there)

    module _ (m : List ℕ) where
      pub list_bad : (q : Refusal) → NamesSay text names l rows v listed-names m (Err q) → SaysAt m (Err q)
      unfolding NamesSay
      list_bad q k = (goes ∙ ap (signed_by (length text) 18) k.0, k.1)

      module _ (a : Cursor) (l' : Ledger) (h : NamesSay text names l rows v listed-names m (Ok (a, l'))) where
        noted : Noted text names l rows v listed-names m a l'
        noted = listed_ok text names l rows v listed-names m a l' h

        ends : (o : Got (Unit {0})) → reader (length text) (T.lit 18) (listed text a.next) (book_of text m l' a) ≡ o → At ≡ then_reads o (λ u ts b. got noted.tree ts b)
        ends o x = goes ∙ ap (signed_by (length text) 18) noted.says ∙ ap (λ (y : Got (Unit {0})). then_reads y (λ u ts b. got noted.tree ts b)) x

        end_bad : (q : Refusal) → Expected text a 18 (Err q) → SaysAt m (Err q)
        unfolding NamesSay
        end_bad q k = (
          ends (stopped q) (expected_bad text m l' a 18 q noted.listing.fresh k),
          record { names = noted.tree; is = noted.stored },
        )

        end_ok : (d : Cursor) → Expected text a 18 (Ok d) → SaysAt m (Ok (d, l'))
        unfolding NamesSay Expected
        end_ok d last =
            let first : Past text c c.items c.nodes c.stars v = is-past there.1 in
            let next : Past text a a.items a.nodes a.stars d = is-past last.1 in
            record {
              tree = noted.tree;
              says = ends (got tt (listed text d.next) (book_of text m l' d)) (expected_ok text m l' a 18 d (omega arith) last);
              stored = noted.stored;
              ledger = noted.ledger;
              shared_are = noted.shared_are;
              row_are = noted.row_are;
              same = next.is ∙ ap (onto d) (noted.same ∙ ap (onto a) first.is);
              listing = past-listing text m l' rows a d noted.listing next;
            }

        -- The full stop is there, or missing.
        pub end_says : (y : Result (Unit {0}) Refusal) (d : Cursor) → Expected text a 18 (reached y d) → SaysAt m (reached_with y d l')
        end_says (Ok u) d k = end_ok d k
        end_says (Err q) d k = end_bad q k

-- ---- the shared names and the row names

module _ (text names : List ℕ) (first : Piece) (t : Tokened text 0 first) where
  -- The front of the text, with nothing declared.
  abbrev front : Cursor
  front = record { next = first; emitted = 0; items = 0; nodes = 0; stars = 0 }

  abbrev bare : Ledger
  bare = record { shared = 0; row = 0; commands = 0 }

  abbrev shared : Got (List Name)
  shared = head_at text names bare false 0 front

  abbrev row : List Lexeme → Book → Got (List Name)
  row ts b = head_reader (length text) true 1 ts b

  heads_are : heads_at text ≡ pairing shared row
  unfolding names_kept words_in
  heads_are = ap (λ (ts : List Lexeme). pairing (head_reader (length text) false 0 ts blank_book) row) t.tokens

  module _ (m : List ℕ) where
    pub shared_bad : (q : Refusal) → NamesSay text names bare false front shared m (Err q) → HeadsSay text names m (Err q)
    unfolding HeadsSay
    shared_bad q h =
        let k = listed_bad text names bare false front shared m q h in
        (heads_are ∙ ap (λ (o : Got (List Name)). pairing o row) k.0, k.1)

    module _ (a : Cursor) (l : Ledger) (h : NamesSay text names bare false front shared m (Ok (a, l))) where
      noted_shared : Noted text names bare false front shared m a l
      noted_shared = listed_ok text names bare false front shared m a l h

      abbrev ws : List Name
      ws = noted_shared.tree

      pub row-listing : Listing text m l true a
      row-listing =
          let g = noted_shared.listing in
          record { fits = g.fits; fresh = g.fresh; long = g.long; shared = g.shared; row = g.row; few = g.few; commands = g.commands; order = λ z. cc }

      -- After the shared names, the row names.
      after-shared : heads_at text ≡ then_reads (head_at text m l true 1 a) (λ vs ts b. got (pair_of ws vs) ts b)
      after-shared = heads_are ∙ ap (λ (o : Got (List Name)). pairing o row) noted_shared.says

      many : l.shared + l.row ≡ 0 + length ws
      many = ap (λ (x : Ledger). x.shared + x.row) noted_shared.ledger ∙ grown-names false (length ws) bare

      both : (m' : List ℕ) (d : Cursor) (l' : Ledger) → Noted text m l true a (head_at text m l true 1 a) m' d l' → Heads text names m' d l'
      unfolding words_in
      both m' d l' r =
          let vs = r.tree in
          let ledger : l' ≡ record { shared = length ws; row = length vs; commands = 0 } = r.ledger ∙ ap (grown true (length vs)) noted_shared.ledger
          ∙ rw (zero-add (length ws), zero-add (length vs)) in
          let same : d ≡ record { next = d.next; emitted = 0; items = 0; nodes = 0; stars = 0 } = r.same ∙ ap (onto d) noted_shared.same in
          record {
            tree = pair_of ws vs;
            says = after-shared ∙ ap (λ (o : Got (List Name)). then_reads o (λ vs ts b. got (pair_of ws vs) ts b)) r.says;
            stored = r.stored ∙ ap (λ (k : ℕ). placed m k vs) many ∙ ap (λ (x : List ℕ). placed x (0 + length ws) vs) noted_shared.stored
                ∙ sym (placed-append ws vs names 0);
            ledger = ledger;
            same = same;
            shared = r.shared_are ∙ append-nil (shared_words text m l) ∙ noted_shared.shared_are;
            row = r.row_are ∙ ap (λ (x : List Word). x ++ words_of vs) noted_shared.row_are;
            naming = record {
              ready = record {
                fits = r.listing.fits;
                fresh = r.listing.fresh;
                names = r.listing.few;
                commands = omega (arith, r.listing.commands);
                items = subst (λ (z : Cursor). z.items ≤ 256) (sym same) (omega arith);
                nodes = subst (λ (z : Cursor). z.nodes ≤ 1024) (sym same) (omega arith);
                stars = subst (λ (z : Cursor). z.stars ≤ 8) (sym same) (omega arith);
                room = subst (λ (z : Cursor). z.emitted + 0 ≤ z.nodes + 3 * z.items + 3 * l'.commands) (sym same) (omega arith);
              };
              long = r.listing.long;
            };
          }

      pub heads_say : (m' : List ℕ) (y : Declared) → NamesSay text m l true a (head_at text m l true 1 a) m' y → HeadsSay text names m' y
      unfolding NamesSay HeadsSay
      heads_say m' (Ok (d, l')) r = both m' d l' r
      heads_say m' (Err q) r = (
        then_bad (λ vs ts b. got (pair_of ws vs) ts b) q after-shared r.0,
        named_behind names m m' 0 (l.shared + l.row) ws noted_shared.stored many r.1,
      )
