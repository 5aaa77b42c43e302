-- Readers one after the other: what two answers make together, and what a sign, a code word or another name for the value makes of one.
-- Assumes nothing.
use Rattle.std.specs.Prelude.{Ok, Err}
use mathlib.Core.Path.{◌≡◌, sym, ap, ◌∙◌}
use mathlib.Core.List.{List, [], ◌∷◌, ◌++◌}
use mathlib.Core.Option.{Option}
use Prim.Native.Nat.{ℕ, suc, ◌+◌, ◌*◌, ◌≤◌, ◌<◌}
use native.Mathlib.Omega.{arith}
use lib.ListN.{length, set, length-append}
use lib.Seq.{sets}
use Rattle.notation.specs.Tokens.{sign, Lexeme}
use Rattle.notation.specs.Notation.{part, quiet}
use Rattle.notation.specs.Texts.{Numbered}
use Rattle.notation.specs.working.Lexing.{tokens_from}
use Rattle.notation.specs.working.Ledger.{Book, note}
use Rattle.notation.specs.working.Descent.{Got, got, then_reads, ruling, reader}
use Rattle.notation.specs.working.Table.{lit}
use Rattle.statements.specs.declared.cursor.Cursor.{Cursor}
use Rattle.statements.specs.declared.cursor.Ledger.{Ledger}
use Rattle.refusals.specs.declared.Refusal.{Refusal}
use Rattle.lexer.specs.working.Pieces.{listed, Fresh}
use Rattle.statements.specs.working.Cursors.{Parsed, stopped, book_of, emitted, Expected, Ready, Done, Says, was_read, was_refused}
use Rattle.statements.specs.working.Items.{with_word, Marked}
use Rattle.statements.specs.working.Sequences.{pair_of, paired, pairing, signed_by}
use Rattle.statements.proofs.StoredCode.{stores, wrote_same, wrote_from, said_bad, said_as, done_wrote, done-map, done_then}
use Rattle.statements.proofs.Books.{quiet-fits, note-quiet}
use Rattle.statements.proofs.Symbols.{lit_is, lit_missing}
use Rattle.statements.proofs.Moves.{Past, is-past, past_same}

-- ---- a sign that has to stand

module _ (text names : List ℕ) (l : Ledger) (c : Cursor) (k : ℕ) where
  abbrev signed : Got (Unit {0})
  signed = reader (length text) (lit k) (listed text c.next) (book_of text names l c)

  pub expected_ok : (d : Cursor) → k < 24 → Expected text c k (Ok d) → signed ≡ got tt (listed text d.next) (book_of text names l d)
  unfolding Expected
  expected_ok d h e =
      let q : Past text c c.items c.nodes c.stars d = is-past e.1 in
      lit_is text c.next (length text) k (book_of text names l c) e.0 h
      ∙ ap (λ (o : Option ℕ). ruling c.next.start o (got tt (tokens_from text c.next.end) (note (book_of text names l c) (part quiet (sign k))))) (quiet-fits text names l c (sign k))
      ∙ ap (λ (b : Book). got tt (tokens_from text c.next.end) b) (note-quiet text names l c d.next (sign k) ∙ ap (book_of text names l) (sym q.is))
      ∙ ap (λ (ts : List Lexeme). got tt ts (book_of text names l d)) q.next.tokens

  pub expected_bad : (r : Refusal) → Fresh text c.next → Expected text c k (Err r) → signed ≡ stopped r
  unfolding Expected
  expected_bad r f e = lit_missing text c.next k (book_of text names l c) f e.0 ∙ ap stopped (sym e.1)

-- ---- one after the other

-- Where the first was refused, both are.
pub pair_bad : {A B : Type 0} {g : Got A} (h : List Lexeme → Book → Got B) (r : Refusal) → g ≡ stopped r → pairing g h ≡ stopped r
pair_bad h r e = ap (λ (o : Got _). pairing o h) e

module _ {text names : List ℕ} {l : Ledger} where
  module _ {A B : Type 0} {code : ℕ → A → Numbered (List ℕ)} {more : ℕ → B → Numbered (List ℕ)} {x y : ℕ} {s c : Cursor} {p b : List ℕ} {g : Got A}
      (h : List Lexeme → Book → Got B) (d : Done text names l code x s p g b c) {a : List ℕ} where
    unfoldable pub pair_done : {e : Cursor} → Done text names l more y c b (h (listed text c.next) (book_of text names l c)) a e
        → Done text names l (paired code more) (x + y) s p (pairing g h) a e
    pair_done {e} q =
        let first = (code s.stars d.tree).is in
        let same : more c.stars q.tree ≡ more (code s.stars d.tree).next q.tree = ap (λ (k : ℕ). more k q.tree) d.numbered in
        let long : e.emitted ≡ s.emitted + length (first ++ (more c.stars q.tree).is) = omega (arith, d.long, q.long, length-append first (more c.stars q.tree).is) in
        record {
          tree = pair_of d.tree q.tree;
          says = ap (λ (o : Got A). pairing o h) d.says ∙ ap (λ (o : Got B). then_reads o (λ v ts b. got (pair_of d.tree v) ts b)) q.says;
          stored = stores p b a s.emitted c.emitted first (more c.stars q.tree).is d.stored d.long q.stored
              ∙ ap (λ (z : Numbered (List ℕ)). sets p s.emitted (first ++ z.is)) same;
          long = long ∙ ap (λ (z : Numbered (List ℕ)). s.emitted + length (first ++ z.is)) same;
          numbered = q.numbered ∙ ap (λ (z : Numbered (List ℕ)). z.next) same;
          level = omega (arith, d.level, q.level);
          more_nodes = omega (arith, d.more_nodes, q.more_nodes);
          more_items = omega (arith, d.more_items, q.more_items);
          nodes = q.nodes;
          items = q.items;
          stars = q.stars;
          fresh = q.fresh;
        }

    -- The second after the first.
    pub says_pair : {r : Parsed} → Says text names l more y c b (h (listed text c.next) (book_of text names l c)) a r → Says text names l (paired code more) (x + y) s p (pairing g h) a r
    says_pair (was_read q) = was_read (pair_done q)
    says_pair (was_refused q w) =
        was_refused (ap (λ (o : Got A). pairing o h) d.says ∙ ap (λ (o : Got B). then_reads o (λ v ts b. got (pair_of d.tree v) ts b)) q) (done_then d w)

  module _ {A : Type 0} {code : ℕ → A → Numbered (List ℕ)} {x : ℕ} {s : Cursor} {p : List ℕ} {g : Got A} {b : List ℕ} where
    -- The same code, for the value made of it.
    pub says_map : {B : Type 0} {code' : ℕ → B → Numbered (List ℕ)} {G : Got B} (f : A → B) {r : Parsed} →
        G ≡ then_reads g (λ v ts b. got (f v) ts b) → Says text names l code x s p g b r → ((v : A) → code' s.stars (f v) ≡ code s.stars v) → Says text names l code' x s p G b r
    says_map f e (was_refused h w) same = was_refused (e ∙ ap (λ (o : Got _). then_reads o (λ v ts b. got (f v) ts b)) h) w
    says_map f e (was_read h) same = was_read (done-map h (f h.tree) (same h.tree) (e ∙ ap (λ (o : Got _). then_reads o (λ v ts b. got (f v) ts b)) h.says))

    module _ {c : Cursor} (d : Done text names l code x s p g b c) where
      -- A sign after what was read.
      sign-done : (k : ℕ) → k < 24 → {v : Cursor} → Expected text c k (Ok v) → Done text names l code x s p (signed_by (length text) k g) b v
      unfolding Expected
      sign-done k small {v} e =
          let q : Past text c c.items c.nodes c.stars v = is-past e.1 in
          record {
            tree = d.tree;
            says = ap (λ (o : Got _). signed_by (length text) k o) d.says ∙ ap (λ (o : Got (Unit {0})). then_reads o (λ u ts b. got d.tree ts b)) (expected_ok text names l c k v small e);
            stored = d.stored;
            long = q.place ∙ d.long;
            numbered = q.stars_are ∙ d.numbered;
            level = omega (arith, d.level);
            more_nodes = omega (arith, d.more_nodes);
            more_items = omega (arith, d.more_items);
            nodes = omega (arith, d.nodes);
            items = omega (arith, d.items);
            stars = omega (arith, d.stars);
            fresh = q.next.fresh;
          }

      -- The sign is there, or missing.
      pub says-sign : (k : ℕ) → k < 24 → {y : Parsed} → Expected text c k y → Says text names l code x s p (signed_by (length text) k g) b y
      says-sign k small {y = Ok v} e = was_read (sign-done k small e)
      says-sign k small {y = Err r} e =
          was_refused
          (ap (λ (o : Got _). signed_by (length text) k o) d.says ∙ ap (λ (o : Got (Unit {0})). then_reads o (λ u ts b. got d.tree ts b)) (expected_bad text names l c k r d.fresh e))
          (done_wrote d)

      -- A code word after what was read.
      unfoldable pub word-done : (word : ℕ) {a : List ℕ} → a ≡ set b c.emitted word → Done text names l (with_word code word) (x + 1) s p g a (emitted c)
      word-done word {a} e = record {
        tree = d.tree;
        says = d.says;
        stored = stores p b a s.emitted c.emitted (code s.stars d.tree).is (word ∷ []) d.stored d.long e;
        long = omega (arith, d.long, length-append (code s.stars d.tree).is (word ∷ []));
        numbered = d.numbered;
        level = omega (arith, d.level);
        more_nodes = d.more_nodes;
        more_items = d.more_items;
        nodes = d.nodes;
        items = d.items;
        stars = d.stars;
        fresh = d.fresh;
      }

      -- The same, seen from a cursor one piece before, where what is counted at that piece pays for code words.
      unfoldable pub done-from : {y : ℕ} {c₀ : Cursor} {items nodes : ℕ} → Past text c₀ items nodes c₀.stars s →
          c₀.nodes ≤ nodes → c₀.items ≤ items → x + (c₀.nodes + 3 * c₀.items) ≤ y + (nodes + 3 * items) → Done text names l code y c₀ p g b c
      done-from {c₀ = c₀} q u v w =
          let one : code s.stars d.tree ≡ code c₀.stars d.tree = ap (λ (k : ℕ). code k d.tree) q.stars_are in
          record {
            tree = d.tree;
            says = d.says;
            stored = d.stored ∙ ap (λ (i : ℕ). sets p i (code s.stars d.tree).is) q.place ∙ ap (λ (z : Numbered (List ℕ)). sets p c₀.emitted z.is) one;
            long = d.long ∙ ap (λ (i : ℕ). i + length (code s.stars d.tree).is) q.place ∙ ap (λ (z : Numbered (List ℕ)). c₀.emitted + length z.is) one;
            numbered = d.numbered ∙ ap (λ (z : Numbered (List ℕ)). z.next) one;
            level = omega (arith, d.level);
            more_nodes = omega (arith, d.more_nodes);
            more_items = omega (arith, d.more_items);
            nodes = d.nodes;
            items = d.items;
            stars = d.stars;
            fresh = d.fresh;
          }

  module _ {A : Type 0} {code : ℕ → A → Numbered (List ℕ)} {x : ℕ} {s : Cursor} {p : List ℕ} {g : Got A} {b : List ℕ} where
    -- A sign and a code word after what was read.
    pub says-mark : {c : Cursor} → Done text names l code x s p g b c → (kind word : ℕ) → kind < 24 → {a : List ℕ} {r : Parsed} → Marked text kind word c b a r
        → Says text names l (with_word code word) (x + 1) s p (signed_by (length text) kind g) a r
    unfolding Marked
    says-mark d kind word small {r = Err q} e = let z = said_bad (says-sign d kind small e.0) in was_refused z.0 (wrote_same e.1 z.1)
    says-mark d kind word small {r = Ok v} e = said_as (ap Ok (sym e.1.1.0)) (was_read (word-done (sign-done d kind small e.1.0) word e.1.1.1))

    -- Where the answer is refused, so is what follows the piece before it.
    pub says-behind : {B : Type 0} {code' : ℕ → B → Numbered (List ℕ)} {G : Got B} {y : ℕ} {c : Cursor} {items nodes stars : ℕ} {r : Refusal} → Past text c items nodes stars s →
        Says text names l code x s p g b (Err r) → (g ≡ stopped r → G ≡ stopped r) → Says text names l code' y c p G b (Err r)
    says-behind q h f = let z = said_bad h in was_refused (f z.0) (wrote_from q.place z.1)

    pub says-from : {y : ℕ} {c : Cursor} {items nodes : ℕ} {r : Parsed} → Past text c items nodes c.stars s → Says text names l code x s p g b r →
        c.nodes ≤ nodes → c.items ≤ items → x + (c.nodes + 3 * c.items) ≤ y + (nodes + 3 * items) → Says text names l code y c p g b r
    says-from q (was_refused h k) u v w = was_refused h (wrote_from q.place k)
    says-from q (was_read h) u v w = was_read (done-from h q u v w)

    -- There is room for one code word more.
    pub done_room : (spare : ℕ) {c : Cursor} → Ready text l (x + suc spare) s → Done text names l code x s p g b c → c.emitted < 2048
    done_room spare r h = omega (arith, r.room, h.level, h.nodes, h.items, r.commands)

-- A reader may be called past a sign.
pub sign-ready : {text : List ℕ} {l : Ledger} {spare : ℕ} (k : ℕ) {c d : Cursor} → Ready text l spare c → Expected text c k (Ok d) → Ready text l spare d
unfolding Expected
sign-ready k r h = past_same r (is-past h.1)
