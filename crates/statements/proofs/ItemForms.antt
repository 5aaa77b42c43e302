-- Items by their first token: `skip`, an assignment, and `for` with its two branches.
-- Assumes nothing.
use Rattle.std.specs.Prelude.{Ok, Err}
use mathlib.Core.Path.{◌≡◌, refl, sym, ap, ◌∙◌, subst}
use mathlib.Core.Bool.{Bool, true, false, cond}
use mathlib.Core.List.{List, [], ◌∷◌, append_assoc}
use mathlib.Core.Option.{Option}
use Prim.Native.Nat.{ℕ, ◌+◌, ◌-◌, ◌≤◌, ◌<◌}
use native.Mathlib.Nat.{zero-add}
use native.Mathlib.Omega.{arith}
use lib.ListN.{length, set}
use lib.Seq.{sets}
use borrow.Author.Tests.{ne_eqb}
use Rattle.std.proofs.lemmas.Bool.{false≢true}
use Rattle.notation.specs.Tokens.{sign, name, Word, Lexeme}
use Rattle.notation.specs.Notation.{shared_name, row_name, Mode, free_row, Part, part, target, begins_item, Expr, RowItem, Item, for'}
use Rattle.notation.specs.Rules.{has, same_kind}
use Rattle.notation.specs.Texts.{Numbered, numbered, place_of, among, row_item_of, item_of}
use Rattle.notation.specs.Layout.{row_item_code, item_code}
use Rattle.notation.specs.working.Lexing.{tokens_from}
use Rattle.notation.specs.working.Ledger.{Book, note, fault}
use Rattle.notation.specs.working.Table as T
use Rattle.notation.specs.working.Table.{find, lines, skips}
use Rattle.notation.specs.working.Descent.{Got, got, then_reads, ruling, reader, sequence, or_reader}
use Rattle.notation.proofs.Readers.{reader_token, then_then, then_ruling}
use Rattle.refusals.specs.declared.Reason.TheVariants.{Undeclared, TooMany}
use Rattle.refusals.specs.declared.Refusal.{Refusal}
use Rattle.refusals.specs.Reasons.{number_of}
use Rattle.lexer.specs.working.Kinds.{kind_number}
use Rattle.lexer.specs.declared.pieces.Piece.{Piece}
use Rattle.statements.specs.declared.cursor.Cursor.{Cursor}
use Rattle.statements.specs.declared.cursor.Ledger.{Ledger}
use Rattle.statements.specs.declared.cursor.Scope.{Scope}
use Rattle.lexer.specs.working.Pieces.{misplaced, name_in, listed, piece_at}
use Rattle.lexer.specs.working.Names.{words_in}
use Rattle.statements.specs.working.Names.{shared_words, row_words, names_kept}
use Rattle.statements.specs.working.Cursors.{Parsed, refused_at, stopped, mode_of, book_of, moved, emitted, Expected, Ready, Done, Says, was_read}
use Rattle.statements.specs.working.Expressions.{expr_words, SaysExpr, or_at}
use Rattle.statements.specs.working.Items.{ItemIn, item_words, items_words, with_word, Skipped, kind_of, mode_in, assign_at, bit_in, SaysAssign, all_in, item_at, SaysItem}
use Rattle.statements.proofs.Books.{target-unknown, target_full, target_fits, item_full, item-fits, note-target, note-item}
use Rattle.statements.proofs.Symbols.{listed-sign, listed-name, missing}
use Rattle.lexer.proofs.Lexing.{tokened}
use Rattle.statements.proofs.Moves.{Past, is-past, past-ready}
use Rattle.statements.proofs.StoredCode.{wrote_none, wrote_same, said_as, was_stopped, says_of}
use Rattle.lexer.proofs.Lookup.{words-length}
use Rattle.statements.proofs.NameKinds.{shared-name, row-name}
use Rattle.statements.proofs.Operands.{found_out, found_in_lem}
use Rattle.statements.proofs.Sequences.{expected_ok, expected_bad, says_map, says-from, says-behind, word-done, sign-ready}
use Rattle.statements.specs.working.Sequences.{Tested, tested, tested_words}

-- Where the expressions of a `for` stand.
abbrev pub in_row : Scope
in_row = record { rows = true; stars = true }

-- ---- `skip`

-- The names that may be assigned to are those from the first on.
pub target-ordered : (rows : Bool) (a b from to : ℕ) → from ≡ cond rows a 0 → to ≡ cond rows (a + b) a → from ≤ to
target-ordered true a b from to e f = omega arith
target-ordered false a b from to e f = omega arith

module _ (text names : List ℕ) (l : Ledger) (c : Cursor) (r : Ready text l 0 c) where
  abbrev B : Book
  B = book_of text names l c

  abbrev t : Piece
  t = c.next

  abbrev rest : List Lexeme
  rest = tokens_from text t.end

  pub skip-says : {A : Type 0} (code : ℕ → A → Numbered (List ℕ)) (v : A) (G : Got A) (p a : List ℕ) (y : Parsed) → G
      ≡ ruling t.start (fault B (part begins_item (sign 11))) (got v rest (note B (part begins_item (sign 11)))) →
      code c.stars v ≡ numbered (320 ∷ []) c.stars → Skipped text c p a y → Says text names l code 0 c p G a y
  unfolding Skipped number_of
  skip-says code v G p a (Err q) g one h =
      was_stopped h.1.0
      (g ∙ ap (λ (o : Option ℕ). ruling t.start o (got v rest (note B (part begins_item (sign 11))))) (item_full text names l c (sign 11) h.0))
      (wrote_same h.1.1 wrote_none)
  skip-says code v G p a (Ok d) g one h =
      let u = piece_at text t.end in
      let k = tokened text t.end in
      said_as (ap Ok (sym h.1.0)) (was_read (record {
        tree = v;
        says = g ∙ ap (λ (o : Option ℕ). ruling t.start o (got v rest (note B (part begins_item (sign 11))))) (item-fits text names l c (sign 11) h.0)
            ∙ ap (λ (b : Book). got v rest b) (note-item text names l c u (sign 11))
            ∙ ap (λ (ts : List Lexeme). got v ts (book_of text names l (moved u c (c.items + 1) c.nodes c.stars))) k.tokens;
        stored = h.1.1 ∙ ap (λ (z : Numbered (List ℕ)). sets p c.emitted z.is) (sym one);
        long = ap (λ (z : Numbered (List ℕ)). c.emitted + length z.is) (sym one);
        numbered = ap (λ (z : Numbered (List ℕ)). z.next) (sym one);
        level = omega arith;
        more_nodes = omega arith;
        more_items = omega arith;
        nodes = r.nodes;
        items = omega (arith, h.0);
        stars = r.stars;
        fresh = k.fresh;
      }))

  pub item-skip : (rows : Bool) → kind_number t.kind ≡ 11 → (p a : List ℕ) (y : Parsed) → Skipped text c p a y → SaysItem text names l rows c p a y
  unfolding sequence find lines skips item_words row_item_of row_item_code item_of item_code
  item-skip true u p a y h =
      skip-says (item_words text names l true) RowItem.skip' (item_at text names l true c) p a y (rw (listed-sign text t 11 u (omega arith), reader_token (length text) T.row_item) refl) refl h
  item-skip false u p a y h =
      skip-says (item_words text names l false) Item.skip' (item_at text names l false c) p a y (rw (listed-sign text t 11 u (omega arith), reader_token (length text) T.item) refl) refl h

  -- ---- an item that is none

  pub item_missing : (rows : Bool) → (kind_number t.kind ≡ 11 → ⊥) → (kind_number t.kind ≡ 24 → ⊥) → (kind_number t.kind ≡ 9 → rows ≡ true) → item_at text names l rows c ≡ stopped (misplaced t)
  unfolding skips find lines
  item_missing true h k f = missing text t T.row_item B r.fresh refl (rw (ne_eqb 11 (kind_number t.kind) (λ z. h (sym z))) refl) (λ z. absurd (k z))
  item_missing false h k f =
      let no : (kind_number t.kind ≡ 9 → ⊥) = λ z. false≢true (f z) in
      missing text t T.item B r.fresh refl (rw (ne_eqb 11 (kind_number t.kind) (λ z. h (sym z)), ne_eqb 9 (kind_number t.kind) (λ z. no (sym z))) refl) (λ z. absurd (k z))

  -- ---- an assignment, as an item

  abbrev set_in : (rows : Bool) → Expr → ItemIn rows
  set_in true e = RowItem.set' (name_in text t) e
  set_in false e = Item.set' (name_in text t) e

  assign-is : (rows : Bool) → kind_number t.kind ≡ 24 → item_at text names l rows c ≡ then_reads (assign_at text names l rows c) (λ e ts b. got (set_in rows e) ts b)
  unfolding assign_at sequence find lines skips
  assign-is true u = rw (listed-name text t u, reader_token (length text) T.row_item) (simp (then_ruling, then_then))
  assign-is false u = rw (listed-name text t u, reader_token (length text) T.item) (simp (then_ruling, then_then))

  pub item-assign : (rows : Bool) → kind_number t.kind ≡ 24 → (p a : List ℕ) (y : Parsed) → SaysAssign text names l rows c p a y → SaysItem text names l rows c p a y
  unfolding item_words row_item_of row_item_code item_of item_code expr_words
  item-assign true u p a y h = says_map (set_in true) (assign-is true u) h (λ e. refl)
  item-assign false u p a y h = says_map (set_in false) (assign-is false u) h (λ e. refl)

  -- ---- an assignment: its name, `:=` and its expression

  module _ (rows : Bool) (from to i : ℕ) (ef : from ≡ cond rows l.shared 0) (et : to ≡ cond rows (l.shared + l.row) l.shared)
      (h : i ≡ from + place_of (name_in text t).word (words_in text names from (to - from))) where
    abbrev w : Word
    w = (name_in text t).word

    abbrev words : List Word
    words = cond rows (row_words text names l) (shared_words text names l)

    -- the names that may be assigned to, by the rule and by the look-up
    seen : has (names_kept text names l) (same_kind (kind_of rows)) w ≡ among w words
    unfolding same_kind
    seen = go rows
      where
        go : (x : Bool) → has (names_kept text names l) (same_kind (kind_of x)) w ≡ among w (cond x (row_words text names l) (shared_words text names l))
        go true = row-name text names l (same_kind row_name) w refl refl refl
        go false = shared-name text names l (same_kind shared_name) w refl refl refl

    looked : words_in text names from (to - from) ≡ words
    looked = go rows ef et
      where
        go : (x : Bool) → from ≡ cond x l.shared 0 → to ≡ cond x (l.shared + l.row) l.shared → words_in text names from (to - from) ≡ cond x (row_words text names l) (shared_words text names l)
        go true e f = let z : to - from ≡ l.row = omega arith in ap (λ (k : ℕ). words_in text names k (to - from)) e ∙ ap (λ (k : ℕ). words_in text names l.shared k) z
        go false e f = let z : to - from ≡ l.shared = omega arith in ap (λ (k : ℕ). words_in text names k (to - from)) e ∙ ap (λ (k : ℕ). words_in text names 0 k) z

    many : length words ≡ to - from
    many = ap length (sym looked) ∙ words-length text names from (to - from)

    ordered : from ≤ to
    ordered = target-ordered rows l.shared l.row from to ef et

    found : i - from ≡ place_of w words
    found = let z : i - from ≡ place_of w (words_in text names from (to - from)) = omega arith in z ∙ ap (place_of w) looked

    pub bit_is : i ≡ bit_in text names l rows c
    bit_is = go rows ef (h ∙ ap (λ (v : List Word). from + place_of w v) looked)
      where
        go : (x : Bool) → from ≡ cond x l.shared 0 → i ≡ from + place_of w (cond x (row_words text names l) (shared_words text names l)) → i ≡ bit_in text names l x c
        go true e f = f ∙ ap (λ (k : ℕ). k + place_of w (row_words text names l)) e
        go false e f = f ∙ ap (λ (k : ℕ). k + place_of w (shared_words text names l)) e ∙ zero-add (place_of w (shared_words text names l))

    pub target-few : l.shared + l.row ≤ 12 → (i ≡ to → ⊥) → i < 12
    target-few k z = let f = (found_in_lem w words (to - from) (i - from) many found (λ e. z (omega (arith, ordered)))).1 in go rows et
      where
        go : (x : Bool) → to ≡ cond x (l.shared + l.row) l.shared → i < 12
        go true e = omega (arith, (found_in_lem w words (to - from) (i - from) many found (λ e. z (omega (arith, ordered)))).1)
        go false e = omega (arith, (found_in_lem w words (to - from) (i - from) many found (λ e. z (omega (arith, ordered)))).1)

    abbrev role : Part
    role = part (target (kind_of rows)) (name (name_in text t))

    abbrev valued : Book → Got Expr
    valued b = then_reads (reader (length text) (T.lit 20) rest b) (λ u ts b. or_reader (length text) (mode_in rows) 0 ts b)

    pub assign-unknown : i ≡ to → assign_at text names l rows c ≡ stopped (refused_at Undeclared t)
    unfolding assign_at number_of
    assign-unknown z = ap (λ (o : Option ℕ). ruling t.start o (valued (note B role)))
        (target-unknown text names l c (name_in text t) (kind_of rows) (seen ∙ found_out w words (to - from) (i - from) many found (omega (arith, ordered))))

    module _ (z : i ≡ to → ⊥) where
      known : has (names_kept text names l) (same_kind (kind_of rows)) w ≡ true
      known = seen ∙ (found_in_lem w words (to - from) (i - from) many found (λ e. z (omega (arith, h, ordered)))).0

      pub assign_full : 256 ≤ c.items → assign_at text names l rows c ≡ stopped (refused_at TooMany t)
      unfolding assign_at number_of
      assign_full k = ap (λ (o : Option ℕ). ruling t.start o (valued (note B role))) (target_full text names l c (name_in text t) (kind_of rows) known k)

      module _ (k : c.items < 256) (d : Cursor) (q : Past text c (c.items + 1) c.nodes c.stars d) where
        assign-goes : assign_at text names l rows c ≡ then_reads (reader (length text) (T.lit 20) (listed text d.next) (book_of text names l d)) (λ u ts b. or_reader (length text) (mode_in rows) 0 ts b)
        unfolding assign_at
        assign-goes = ap (λ (o : Option ℕ). ruling t.start o (valued (note B role))) (target_fits text names l c (name_in text t) (kind_of rows) known k)
            ∙ ap valued (note-target text names l c d.next (kind_of rows) (name (name_in text t)) ∙ ap (book_of text names l) (sym q.is))
            ∙ ap (λ (ts : List Lexeme). then_reads (reader (length text) (T.lit 20) ts (book_of text names l d)) (λ u ts b. or_reader (length text) (mode_in rows) 0 ts b)) q.next.tokens

        pub assign_bad : (r : Refusal) → Expected text d 20 (Err r) → assign_at text names l rows c ≡ stopped r
        assign_bad r e = assign-goes ∙ ap (λ (o : Got (Unit {0})). then_reads o (λ u ts b. or_reader (length text) (mode_in rows) 0 ts b)) (expected_bad text names l d 20 r q.next.fresh e)

        module _ (v : Cursor) (e : Expected text d 20 (Ok v)) where
          abbrev sc : Scope
          sc = record { rows = rows; stars = true }

          mode_is : mode_in rows ≡ mode_of sc
          mode_is = go rows
            where
              go : (x : Bool) → mode_in x ≡ record { rows = x; stars = true }
              go true = refl
              go false = refl

          assign-value : assign_at text names l rows c ≡ or_at text names sc l 16 v
          assign-value = assign-goes ∙ ap (λ (o : Got (Unit {0})). then_reads o (λ u ts b. or_reader (length text) (mode_in rows) 0 ts b))
              (expected_ok text names l d 20 v (omega arith) e)
              ∙ ap (λ (m : Mode). or_reader (length text) m 0 (listed text v.next) (book_of text names l v)) mode_is

          pub value-ready : Ready text l 1 v
          value-ready =
              sign-ready 20 (past-ready r q (omega arith) r.nodes r.stars (omega (arith, r.room))) e

          module _ {p a : List ℕ} where
            pub value_bad : {z : Refusal} → SaysExpr text names l v p (or_at text names sc l 16 v) a (Err z) → SaysAssign text names l rows c p a (Err z)
            unfolding Expected
            value_bad s =
                says-behind q (says-behind {code' = expr_words text names l} {y = 0} (is-past e.1) s (λ h. h)) (λ h. assign-value ∙ h)

            pub assign-says : {b : List ℕ} {inner y : Cursor} → Done text names l (expr_words text names l) 0 v p (or_at text names sc l 16 v) a inner →
                (y ≡ emitted inner) × (b ≡ set a inner.emitted (192 + i)) → SaysAssign text names l rows c p b (Ok y)
            unfolding Expected
            assign-says {b = b} {y = y} s f =
                subst (λ (n : ℕ). Says text names l (with_word (expr_words text names l) (192 + n)) 0 c p (assign_at text names l rows c) b (Ok y)) bit_is
                (says_of assign-value (says-from q (says-from {y = 1} (is-past e.1) (said_as (ap Ok (sym f.0)) (was_read (word-done s (192 + i) f.1))) (omega arith) (omega arith) (omega arith)) (omega arith) (omega arith) (omega arith)))

  -- ---- `for`

  module _ (u : kind_number t.kind ≡ 9) where
    abbrev made : Tested RowItem → Item
    made v = for' v.one v.two.one v.two.two

    abbrev loop : Got Expr → Got Item
    loop g = then_reads (tested (length text) (all_in true (length text)) 10 g) (λ v ts b. got (made v) ts b)

    for-is : item_at text names l false c ≡ ruling t.start (fault B (part begins_item (sign 9))) (loop (or_reader (length text) free_row 0 rest (note B (part begins_item (sign 9)))))
    unfolding sequence find lines skips
    for-is = rw (listed-sign text t 9 u (omega arith), reader_token (length text) T.item) (simp then_then)

    pub for_full : 256 ≤ c.items → item_at text names l false c ≡ stopped (refused_at TooMany t)
    unfolding number_of
    for_full h = for-is ∙ ap (λ (o : Option ℕ). ruling t.start o (loop (or_reader (length text) free_row 0 rest (note B (part begins_item (sign 9)))))) (item_full text names l c (sign 9) h)

    module _ (h : c.items < 256) (d : Cursor) (q : Past text c (c.items + 1) c.nodes c.stars d) where
      for-goes : item_at text names l false c ≡ loop (or_at text names in_row l 16 d)
      for-goes = for-is ∙ ap (λ (o : Option ℕ). ruling t.start o (loop (or_reader (length text) free_row 0 rest (note B (part begins_item (sign 9)))))) (item-fits text names l c (sign 9) h)
          ∙ ap (λ (b : Book). loop (or_reader (length text) free_row 0 rest b)) (note-item text names l c d.next (sign 9) ∙ ap (book_of text names l) (sym q.is))
          ∙ ap (λ (ts : List Lexeme). loop (or_reader (length text) free_row 0 ts (book_of text names l d))) q.next.tokens

      pub for-ready : Ready text l 3 d
      for-ready = past-ready r q (omega arith) r.nodes r.stars (omega (arith, r.room))

      abbrev for_words : ℕ → Tested RowItem → Numbered (List ℕ)
      for_words = tested_words text names l (items_words text names l true)

      for-words : (v : Tested RowItem) → item_words text names l false c.stars (made v) ≡ for_words c.stars v
      unfolding item_words item_of item_code expr_words items_words
      for-words v = simp append_assoc

      pub for-says : (p a : List ℕ) (y : Parsed)
          → Says text names l for_words 3 d p (tested (length text) (all_in true (length text)) 10 (or_at text names in_row l 16 d)) a y
          → SaysItem text names l false c p a y
      for-says p a y s =
          says_map made for-goes (says-from q s (omega arith) (omega arith) (omega arith)) for-words
