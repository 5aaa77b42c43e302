-- A name to declare: what the rules say of it, by the look-up and the counts, and the names and the book with one name more.
-- Assumes nothing.
use Rattle.std.specs.Prelude.{Ok, Err}
use mathlib.Core.Path.{◌≡◌, refl, sym, ap, ◌∙◌, subst}
use mathlib.Core.Bool.{Bool, true, false, cond}
use mathlib.Core.List.{List, [], ◌∷◌, ◌++◌, map-append, append-nil, append_assoc}
use mathlib.Core.Option.{Option, some}
use Prim.Native.Nat.{ℕ, ◌+◌, ◌-◌, ◌≤◌, ◌<◌}
use native.Mathlib.Omega.{arith}
use lib.Dec.{ltb}
use lib.ListN.{set}
use borrow.Author.Tests.{lt-ltb, le-ltb}
use Rattle.notation.specs.Tokens.{Word, Name, name, Lexeme}
use Rattle.notation.specs.Notation.{shared_name, row_name, Part, part, declares}
use Rattle.notation.specs.Rules.{has}
use Rattle.notation.specs.Texts.{place_of, among}
use Rattle.notation.specs.working.Lexing.{tokens_from}
use Rattle.notation.specs.working.Ledger.{Book, note, fault}
use Rattle.notation.specs.working.Descent.{got, ruling}
use Rattle.lexer.specs.declared.pieces.Piece.{Piece}
use Rattle.statements.specs.declared.cursor.Cursor.{Cursor}
use Rattle.statements.specs.declared.cursor.Ledger.{Ledger}
use Rattle.refusals.specs.declared.Reason.{Reason}
use Rattle.refusals.specs.declared.Reason.TheVariants.{Redeclared, TooMany}
use Rattle.refusals.specs.declared.Refusal.{Refusal}
use Rattle.refusals.specs.Reasons.{number_of}
use Rattle.lexer.specs.working.Pieces.{name_in, listed, piece_at}
use Rattle.lexer.specs.working.Names.{words_in}
use Rattle.statements.specs.working.Names.{shared_words, row_words, kinded, names_kept}
use Rattle.statements.specs.working.Cursors.{refused_at, stopped, book_of, moved}
use Rattle.statements.specs.working.Items.{kind_of}
use Rattle.reader.specs.Read.{placed}
use Rattle.reader.specs.working.Clauses.{grown, Listing, name_at, NameSays}
use Rattle.statements.proofs.Moves.{Past, is-past}
use Rattle.reader.proofs.NameRules.{declares-again, declares-many, declares_full, declares-fits, note-declares}
use Rattle.lexer.proofs.Lookup.{piece_word, piece_length, found_among, with_name, with_length, words-kept, words-declared}
use Rattle.statements.proofs.NameKinds.{any_name}

-- ---- one name more, in the ledger and among names with their kinds

grown-row : (rows : Bool) (l : Ledger) → rows ≡ true → record { shared = l.shared; row = l.row + 1; commands = l.commands } ≡ grown rows 1 l
grown-row rows l e = rw e

grown-shared : (rows : Bool) (l : Ledger) → rows ≡ false → record { shared = l.shared + 1; row = l.row; commands = l.commands } ≡ grown rows 1 l
grown-shared rows l e = rw e

row-kinds : (ws vs : List Word) (w : Word) → kinded shared_name ws ++ (kinded row_name (vs ++ w ∷ []) ++ []) ≡ kinded shared_name ws ++ (kinded row_name vs ++ []) ++ (w, row_name) ∷ []
row-kinds ws vs w = simp (map-append, append-nil, append_assoc)

shared-kinds : (ws : List Word) (w : Word) → kinded shared_name (ws ++ w ∷ []) ++ [] ≡ kinded shared_name ws ++ [] ++ (w, shared_name) ∷ []
shared-kinds ws w = simp (map-append, append-nil)

module _ (text names : List ℕ) (l : Ledger) (rows : Bool) (c : Cursor) (g : Listing text names l rows c) where
  abbrev t : Piece
  t = c.next

  abbrev w : Name
  w = name_in text t

  abbrev n : ℕ
  n = l.shared + l.row

  abbrev B : Book
  B = book_of text names l c

  abbrev rest : List Lexeme
  rest = tokens_from text t.end

  abbrev role : Part
  role = part (declares (kind_of rows)) (name w)

  -- The names with one name more.
  abbrev more : List ℕ
  more = with_name names n t.start (t.end - t.start)

  placed_one : more ≡ placed names n (w ∷ [])
  unfolding placed
  placed_one = ap (λ (k : ℕ). set (set names n t.start) (28 + n) k) (sym (piece_length text t g.fresh))

  -- ---- the words of the names

  declared-words : (i m : ℕ) → i + m ≡ n → words_in text more i (m + 1) ≡ words_in text names i m ++ w.word ∷ []
  declared-words i m e = words-declared text names n t.start (t.end - t.start) (omega (arith, g.few)) i m e g.long
      ∙ ap (λ (v : Word). words_in text names i m ++ v ∷ []) (piece_word text t g.fresh)

  kept-words : (i m : ℕ) → i + m ≤ n → words_in text more i m ≡ words_in text names i m
  kept-words i m h = words-kept text names n t.start (t.end - t.start) (omega (arith, g.few)) i m h

  shared-one : shared_words text more (grown rows 1 l) ≡ shared_words text names l ++ cond rows [] (w.word ∷ [])
  shared-one = go rows g.order
    where
      go : (x : Bool) → (x ≡ false → l.row ≡ 0) → shared_words text more (grown x 1 l) ≡ shared_words text names l ++ cond x [] (w.word ∷ [])
      go true o = kept-words 0 l.shared (omega arith) ∙ sym (append-nil (shared_words text names l))
      go false o = declared-words 0 l.shared (omega (arith, o refl))

  row_one : row_words text more (grown rows 1 l) ≡ row_words text names l ++ cond rows (w.word ∷ []) []
  unfolding words_in
  row_one = go rows g.order
    where
      go : (x : Bool) → (x ≡ false → l.row ≡ 0) → row_words text more (grown x 1 l) ≡ row_words text names l ++ cond x (w.word ∷ []) []
      go true o = declared-words l.shared l.row refl
      go false o = rw (o refl)

  module _ (m : List ℕ) (l' : Ledger) (s : m ≡ placed names n (w ∷ [])) (e : l' ≡ grown rows 1 l) where
    pub shared-more : shared_words text m l' ≡ shared_words text names l ++ cond rows [] (w.word ∷ [])
    shared-more = ap (λ (x : List ℕ). shared_words text x l') (s ∙ sym placed_one) ∙ ap (shared_words text more) e ∙ shared-one

    pub row_more : row_words text m l' ≡ row_words text names l ++ cond rows (w.word ∷ []) []
    row_more = ap (λ (x : List ℕ). row_words text x l') (s ∙ sym placed_one) ∙ ap (row_words text more) e ∙ row_one

  named_more : names_kept text more (grown rows 1 l) ≡ names_kept text names l ++ (w.word, kind_of rows) ∷ []
  unfolding names_kept words_in
  named_more = rw (g.commands, shared-one, row_one) (go rows g.order)
    where
      go : (x : Bool) → (x ≡ false → l.row ≡ 0)
          → kinded shared_name (shared_words text names l ++ cond x [] (w.word ∷ [])) ++
          (kinded row_name (row_words text names l ++ cond x (w.word ∷ []) []) ++ [])
          ≡ kinded shared_name (shared_words text names l) ++ (kinded row_name (row_words text names l) ++ []) ++ (w.word, kind_of x) ∷ []
      go true o = rw (append-nil (shared_words text names l)) (row-kinds (shared_words text names l) (row_words text names l) w.word)
      go false o = rw (o refl) (shared-kinds (shared_words text names l) w.word)

  -- ---- the answers

  refuses : (q : Reason) (r : Refusal) → r ≡ refused_at q t → fault B role ≡ some (number_of q) → NameSays text names l rows c names (Err r)
  unfolding NameSays name_at
  refuses q r z e = (ap (λ (o : Option ℕ). ruling t.start o (got w rest (note B role))) e ∙ ap stopped (sym z), refl)

  -- the look-up ended at i
  module _ (i : ℕ) (h : i ≡ 0 + place_of w.word (words_in text names 0 (n - 0))) where
    looked : has (names_kept text names l) (λ s. true) w.word ≡ ltb i n
    looked =
        let e : n + l.commands ≡ n - 0 = omega (arith, g.commands) in
        any_name text names l w.word ∙ ap (λ (k : ℕ). among w.word (words_in text names 0 k)) e ∙ found_among text names w.word n 0 ∙ ap (λ (k : ℕ). ltb k n) (sym h)

    pub name-again : (r : Refusal) → r ≡ refused_at Redeclared t → i < n → NameSays text names l rows c names (Err r)
    unfolding number_of
    name-again r z a = refuses Redeclared r z (declares-again text names l c rows w (looked ∙ lt-ltb i n a))

    module _ (a : n ≤ i) where
      new : has (names_kept text names l) (λ s. true) w.word ≡ false
      new = looked ∙ le-ltb i n a

      pub name-many : (r : Refusal) → r ≡ refused_at TooMany t → 12 ≤ n → NameSays text names l rows c names (Err r)
      unfolding number_of
      name-many r z k = refuses TooMany r z (declares-many text names l c rows w new k)

      pub row_full : (r : Refusal) → r ≡ refused_at TooMany t → rows ≡ true → 10 ≤ l.row → NameSays text names l rows c names (Err r)
      unfolding number_of
      row_full r z e k = refuses TooMany r z (declares_full text names l c rows w new (rw e k))

      pub shared_full : (r : Refusal) → r ≡ refused_at TooMany t → rows ≡ false → 8 ≤ l.shared → NameSays text names l rows c names (Err r)
      unfolding number_of
      shared_full r z e k = refuses TooMany r z (declares_full text names l c rows w new (rw e k))

      module _ (k : n < 12) (d : Cursor) (z : d ≡ moved (piece_at text c.next.end) c c.items c.nodes c.stars) (m : List ℕ) (s : m ≡ more) where
        q : Past text c c.items c.nodes c.stars d
        q = is-past z

        declared : cond rows l.row l.shared < cond rows 10 8 → name_at text names l rows c ≡ got w (listed text d.next) (book_of text more (grown rows 1 l) d)
        unfolding name_at
        declared f = ap (λ (o : Option ℕ). ruling t.start o (got w rest (note B role))) (declares-fits text names l c rows w new k f)
            ∙ ap (λ (b : Book). got w rest b) (note-declares text names l c d.next rows w more named_more ∙ ap (book_of text more (grown rows 1 l)) (sym q.is))
            ∙ ap (λ (ts : List Lexeme). got w ts (book_of text more (grown rows 1 l) d)) q.next.tokens

        listing-more : cond rows l.row l.shared < cond rows 10 8 → Listing text more (grown rows 1 l) rows d
        listing-more f = go rows f g.order
          where
            go : (x : Bool) → cond x l.row l.shared < cond x 10 8 → (x ≡ false → l.row ≡ 0) → Listing text more (grown x 1 l) x d
            go true f o = record {
              fits = g.fits;
              fresh = q.next.fresh;
              long = with_length names n t.start (t.end - t.start) ∙ g.long;
              shared = g.shared;
              row = omega arith;
              few = omega arith;
              commands = g.commands;
              order = λ e. cc;
            }
            go false f o = record {
              fits = g.fits;
              fresh = q.next.fresh;
              long = with_length names n t.start (t.end - t.start) ∙ g.long;
              shared = omega arith;
              row = g.row;
              few = omega arith;
              commands = g.commands;
              order = o;
            }

        name-declared : (l' : Ledger) → l' ≡ grown rows 1 l → cond rows l.row l.shared < cond rows 10 8 → NameSays text names l rows c m (Ok (d, l'))
        unfolding NameSays
        name-declared l' e f =
            subst (λ (x : List ℕ). NameSays text names l rows c x (Ok (d, l'))) (sym s)
            (subst (λ (x : Ledger). NameSays text names l rows c more (Ok (d, x))) (sym e) (declared f, (placed_one, (refl, (z, listing-more f)))))

        pub row-declared : rows ≡ true → l.row < 10 → NameSays text names l rows c m (Ok (d, record { shared = l.shared; row = l.row + 1; commands = l.commands }))
        row-declared e f = name-declared _ (grown-row rows l e) (rw e f)

        pub shared-declared : rows ≡ false → l.shared < 8 → NameSays text names l rows c m (Ok (d, record { shared = l.shared + 1; row = l.row; commands = l.commands }))
        shared-declared e f = name-declared _ (grown-shared rows l e) (rw e f)
