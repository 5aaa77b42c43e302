-- Names to declare, one after the other: what the loop that reads them has still to do gives what all of it gave where it began.
-- Assumes nothing.
use Rattle.std.specs.Prelude.{Ok, Err}
use mathlib.Core.Path.{◌≡◌, refl, sym, ap, ◌∙◌}
use mathlib.Core.Bool.{Bool, true, false, cond}
use mathlib.Core.List.{List, [], ◌∷◌, ◌++◌, map-append, append-nil, append_assoc}
use Prim.Native.Nat.{ℕ, suc, ◌+◌, ◌-◌, ◌<◌}
use native.Mathlib.Nat.{add-zero, add_assoc}
use native.Mathlib.Omega.{arith}
use lib.ListN.{length, set, length-append}
use Rattle.notation.specs.Tokens.{Word, Name}
use Rattle.notation.specs.Texts.{words_of}
use Rattle.notation.specs.working.Table as T
use Rattle.notation.specs.working.Table.{find, lines, skips}
use Rattle.notation.specs.working.Descent.{Got, got, stop, then_reads, reader, sequence}
use Rattle.notation.proofs.Readers.{reader_token, then_ruling}
use Rattle.statements.specs.declared.cursor.Cursor.{Cursor}
use Rattle.statements.specs.declared.cursor.Ledger.{Ledger}
use Rattle.refusals.specs.declared.Refusal.{Refusal}
use Rattle.lexer.specs.working.Kinds.{kind_number}
use Rattle.lexer.specs.working.Pieces.{name_in, listed}
use Rattle.statements.specs.working.Names.{shared_words, row_words}
use Rattle.statements.specs.working.Cursors.{stopped, book_of, moved}
use Rattle.statements.specs.working.Items.{kind_of}
use Rattle.reader.specs.Read.{placed}
use Rattle.reader.specs.working.Clauses.{grown, Listing, name_at, list_at, Noted, WroteNames, NameSays, NamesSay}
use Rattle.statements.proofs.Symbols.{listed-name, passed_by}
use Rattle.statements.proofs.Moves.{Past, is-past}
use Rattle.reader.proofs.DeclaredNames.{shared-more, row_more}

-- ---- one name behind others: the array, the ledger and the words

pub placed-append : (ws vs : List Name) (names : List ℕ) (i : ℕ) → placed names i (ws ++ vs) ≡ placed (placed names i ws) (i + length ws) vs
unfolding placed
placed-append [] vs names i = rw add-zero
placed-append (w ∷ ws) vs names i =
    let next : List ℕ = set (set names i w.place) (28 + i) (length w.word) in
    placed-append ws vs next (suc i) ∙ ap (λ (k : ℕ). placed (placed next (suc i) ws) k vs) (omega arith)

-- What a refusal leaves of the names: nothing more than before, or names behind others that were stored.
pub named-same : {i : ℕ} {p a : List ℕ} → a ≡ p → WroteNames i p a
unfolding placed
named-same e = record { names = []; is = e }

pub named_behind : (p b m : List ℕ) (e c : ℕ) (ws : List Name) → b ≡ placed p e ws → c ≡ e + length ws → WroteNames c b m → WroteNames e p m
named_behind p b m e c ws h k w = record {
  names = ws ++ w.names;
  is = w.is ∙ ap (λ (x : List ℕ). placed x c w.names) h ∙ ap (λ (i : ℕ). placed (placed p e ws) i w.names) k ∙ sym (placed-append ws w.names p e);
}

grown_none : (rows : Bool) (l : Ledger) → l ≡ grown rows 0 l
grown_none true l = rw add-zero
grown_none false l = rw add-zero

grown-more : (rows : Bool) (k : ℕ) (l : Ledger) → grown rows 1 (grown rows k l) ≡ grown rows (k + 1) l
grown-more true k l = rw add_assoc
grown-more false k l = rw add_assoc

pub grown-names : (rows : Bool) (k : ℕ) (l : Ledger) → (grown rows k l).shared + (grown rows k l).row ≡ l.shared + l.row + k
grown-names true k l = omega arith
grown-names false k l = omega arith

no_words : (x : Bool) (s : List Word) → s ≡ s ++ cond x [] []
no_words true s = sym (append-nil s)
no_words false s = sym (append-nil s)

more-words : (x : Bool) (s a b a' b' : List Word) → s ++ cond x a b ++ cond x a' b' ≡ s ++ cond x (a ++ a') (b ++ b')
more-words true s a b a' b' = append_assoc s a a'
more-words false s a b a' b' = append_assoc s b b'

-- ---- the descent's reader of a list of names

-- What is left to read after the names ws.
abbrev after : List Name → Got (List Name) → Got (List Name)
after ws g = then_reads g (λ vs ts b. got (ws ++ vs) ts b)

after_none : (g : Got (List Name)) → g ≡ after [] g
after_none (got vs ts b) = refl
after_none (stop n i) = refl

after_one : (ws : List Name) (w : Name) (g : Got (List Name)) → after ws (after (w ∷ []) g) ≡ after (ws ++ w ∷ []) g
after_one ws w (got vs ts b) = ap (λ (us : List Name). got us ts b) (sym (append_assoc ws (w ∷ []) vs))
after_one ws w (stop n i) = refl

module _ (text : List ℕ) (rows : Bool) where
  -- One name and the rest.
  abbrev all : Got Name → Got (List Name)
  all g = then_reads g (λ w ts b. after (w ∷ []) (reader (length text) (T.names (kind_of rows)) ts b))

  module _ (names : List ℕ) (l : Ledger) (c : Cursor) where
    list_turn : kind_number c.next.kind ≡ 24 → list_at text names l rows c ≡ all (name_at text names l rows c)
    unfolding name_at sequence find lines skips
    list_turn u = rw (listed-name text c.next u, reader_token (length text) (T.names (kind_of rows))) (simp then_ruling)

    list-stops : (kind_number c.next.kind ≡ 24 → ⊥) → list_at text names l rows c ≡ got [] (listed text c.next) (book_of text names l c)
    unfolding find lines skips
    list-stops u = passed_by text c.next (T.names (kind_of rows)) (length text) (book_of text names l c) refl refl (λ z. absurd (u z))

  -- Some names are read, and what is left to read, from the cursor c on, gives what all of it gave.
  pub record Rest (names₀ : List ℕ) (l₀ : Ledger) (c₀ : Cursor) (names : List ℕ) (l : Ledger) (c : Cursor) : Type 0 where
    pub o : Got (List Name)
    pub noted : Noted text names₀ l₀ rows c₀ o names c l
    pub says : list_at text names₀ l₀ rows c₀ ≡ after noted.tree (list_at text names l rows c)

  pub rest_none : (names : List ℕ) (l : Ledger) (c : Cursor) → Listing text names l rows c → Rest names l c names l c
  unfolding placed
  rest_none names l c g = record {
    o = got [] (listed text c.next) (book_of text names l c);
    noted = record {
      tree = [];
      says = refl;
      stored = refl;
      ledger = grown_none rows l;
      shared_are = no_words rows (shared_words text names l);
      row_are = no_words rows (row_words text names l);
      same = refl;
      listing = g;
    };
    says = after_none (list_at text names l rows c);
  }

  module _ (names₀ : List ℕ) (l₀ : Ledger) (c₀ : Cursor) (names : List ℕ) (l : Ledger) (c : Cursor) (h : Rest names₀ l₀ c₀ names l c) where
    abbrev ws : List Name
    ws = h.noted.tree

    pub rest-stop : (kind_number c.next.kind ≡ 24 → ⊥) → NamesSay text names₀ l₀ rows c₀ (list_at text names₀ l₀ rows c₀) names (Ok (c, l))
    unfolding NamesSay
    rest-stop u = record {
      tree = ws;
      says = h.says ∙ ap (after ws) (list-stops names l c u) ∙ ap (λ (us : List Name). got us (listed text c.next) (book_of text names l c)) (append-nil ws);
      stored = h.noted.stored;
      ledger = h.noted.ledger;
      shared_are = h.noted.shared_are;
      row_are = h.noted.row_are;
      same = h.noted.same;
      listing = h.noted.listing;
    }

    module _ (u : kind_number c.next.kind ≡ 24) (m : List ℕ) where
      goes : list_at text names₀ l₀ rows c₀ ≡ after ws (all (name_at text names l rows c))
      goes = h.says ∙ ap (after ws) (list_turn names l c u)

      pub rest_bad : (r : Refusal) → NameSays text names l rows c m (Err r) → NamesSay text names₀ l₀ rows c₀ (list_at text names₀ l₀ rows c₀) m (Err r)
      unfolding NameSays NamesSay
      rest_bad r k = (goes ∙ ap (λ (g : Got Name). after ws (all g)) k.0, record { names = ws; is = k.1 ∙ h.noted.stored })

      module _ (d : Cursor) (l' : Ledger) (said : NameSays text names l rows c m (Ok (d, l'))) where
        abbrev w : Name
        w = name_in text c.next

        abbrev n : ℕ
        n = l.shared + l.row

        abbrev n₀ : ℕ
        n₀ = l₀.shared + l₀.row

        many : n ≡ n₀ + length ws
        many = ap (λ (x : Ledger). x.shared + x.row) h.noted.ledger ∙ grown-names rows (length ws) l₀

        pub rest_more : Rest names₀ l₀ c₀ m l' d
        unfolding NameSays
        rest_more =
            let stored = said.1.0 in
            let past : Past text c c.items c.nodes c.stars d = is-past said.1.1.1.0 in
            let ledger = said.1.1.0 in
            let g = h.noted.listing in
            let words_are : words_of ws ++ w.word ∷ [] ≡ words_of (ws ++ w ∷ []) = sym (map-append (λ (v : Name). v.word) ws (w ∷ [])) in
            record {
              o = got (ws ++ w ∷ []) (listed text d.next) (book_of text m l' d);
              noted = record {
                tree = ws ++ w ∷ [];
                says = refl;
                stored = stored ∙ ap (λ (x : List ℕ). placed x n (w ∷ [])) h.noted.stored ∙ ap (λ (k : ℕ). placed (placed names₀ n₀ ws) k (w ∷ [])) many
                    ∙ sym (placed-append ws (w ∷ []) names₀ n₀);
                ledger = ledger ∙ ap (grown rows 1) h.noted.ledger ∙ grown-more rows (length ws) l₀ ∙ ap (λ (k : ℕ). grown rows k l₀) (sym (length-append ws (w ∷ [])));
                shared_are = shared-more text names l rows c g m l' stored ledger ∙ ap (λ (v : List Word). v ++ cond rows [] (w.word ∷ [])) h.noted.shared_are
                    ∙ more-words rows (shared_words text names₀ l₀) [] (words_of ws) [] (w.word ∷ []) ∙ ap (λ (v : List Word). shared_words text names₀ l₀ ++ cond rows [] v) words_are;
                row_are = row_more text names l rows c g m l' stored ledger ∙ ap (λ (v : List Word). v ++ cond rows (w.word ∷ []) []) h.noted.row_are
                    ∙ more-words rows (row_words text names₀ l₀) (words_of ws) [] (w.word ∷ []) [] ∙ ap (λ (v : List Word). row_words text names₀ l₀ ++ cond rows v []) words_are;
                same = past.is ∙ ap (λ (z : Cursor). moved d.next z z.items z.nodes z.stars) h.noted.same;
                listing = said.1.1.1.1;
              };
              says = goes ∙ ap (λ (g : Got Name). after ws (all g)) said.0 ∙ after_one ws w (list_at text m l' rows d);
            }

        pub rest-less : 12 - (l'.shared + l'.row) < 12 - n
        unfolding NameSays
        rest-less =
            let k : l'.shared + l'.row ≡ n + 1 = ap (λ (x : Ledger). x.shared + x.row) said.1.1.0 ∙ grown-names rows 1 l in
            omega (arith, said.1.1.1.1.few)

-- ---- the answer of a list, taken apart

module _ (text names : List ℕ) (l : Ledger) (rows : Bool) (c : Cursor) (g : Got (List Name)) (m : List ℕ) where
  pub listed_ok : (d : Cursor) (l' : Ledger) → NamesSay text names l rows c g m (Ok (d, l')) → Noted text names l rows c g m d l'
  unfolding NamesSay
  listed_ok d l' h = h

  pub listed_bad : (r : Refusal) → NamesSay text names l rows c g m (Err r) → (g ≡ stopped r) × WroteNames (l.shared + l.row) names m
  unfolding NamesSay
  listed_bad r h = h
