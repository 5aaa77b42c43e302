-- Segments, a sign and an expression each, and clauses, which are two segments and a full stop.
-- Assumes nothing.
use Rattle.std.specs.Prelude.{Ok, Err}
use mathlib.Core.Path.{◌≡◌, refl, sym, ap, ◌∙◌}
use mathlib.Core.Bool.{Bool, true, false}
use mathlib.Core.List.{List, [], ◌∷◌}
use Prim.Native.Nat.{ℕ, ◌+◌, ◌<◌}
use native.Mathlib.Numerals.{add-one}
use native.Mathlib.Omega.{arith}
use lib.Dec.{eqb}
use lib.ListN.{length, set}
use lib.Seq.{sets}
use borrow.Author.Tests.{eqb-true, eqb-false, eq-eqb, ne_eqb}
use Rattle.notation.specs.Tokens.{Lexeme}
use Rattle.notation.specs.Notation.{Mode, fixed_shared, fixed_row, Expr, Clause, clause'}
use Rattle.notation.specs.Texts.{Numbered}
use Rattle.notation.specs.working.Ledger.{Book}
use Rattle.notation.specs.working.Table as T
use Rattle.notation.specs.working.Table.{find, lines, skips}
use Rattle.notation.specs.working.Descent.{Got, got, then_reads, reader, sequence, or_reader}
use Rattle.notation.proofs.Readers.{reader_token, then_then, then_ruling}
use Rattle.statements.specs.declared.cursor.Cursor.{Cursor}
use Rattle.statements.specs.declared.cursor.Ledger.{Ledger}
use Rattle.statements.specs.declared.cursor.Scope.{Scope}
use Rattle.refusals.specs.declared.Refusal.{Refusal}
use Rattle.lexer.specs.working.Kinds.{kind_number}
use Rattle.lexer.specs.working.Pieces.{listed}
use Rattle.statements.specs.working.Cursors.{Parsed, stopped, mode_of, book_of, Expected, Ready, Done, Wrote, Says}
use Rattle.statements.specs.working.Expressions.{expr_words, SaysExpr, or_at}
use Rattle.reader.specs.working.Clauses.{fixed_in, segment_at, SegmentSays, clause_words, clause_ends, clause_at, ClauseSays}
use Rattle.statements.proofs.Symbols.{listed-sign, missing, lit_missing}
use Rattle.statements.proofs.StoredCode.{wrote_none, wrote_same, said_ok, said_bad, says_of, done_then, done-ready, then_bad}
use Rattle.statements.proofs.Moves.{is-past}
use Rattle.statements.specs.working.Sequences.{Pair, pair_of, paired, pairing, signed_by}
use Rattle.statements.proofs.Sequences.{expected_ok, expected_bad, pair_done, pair_bad, says_map, says-sign, says-from, says-behind}

-- ---- a segment

module _ (text names : List ℕ) (l : Ledger) (rows : Bool) (kind i : ℕ) (c : Cursor) (p e : List ℕ) where
  abbrev At : Got Expr
  At = segment_at text names l rows kind c

  abbrev SaysAt : List ℕ → List ℕ → Parsed → Type 0
  SaysAt = SegmentSays text names l rows kind i c p e

  -- An answer taken apart by what it is, and a refusal as an answer.
  segment_ok : (a e' : List ℕ) (d : Cursor) → SaysAt a e' (Ok d) → Done text names l (expr_words text names l) 0 c p At a d × (e' ≡ set e i d.emitted)
  unfolding SegmentSays
  segment_ok a e' d h = h

  segment_bad : (a e' : List ℕ) (q : Refusal) → SaysAt a e' (Err q) → (At ≡ stopped q) × (Wrote c.emitted p a × (e' ≡ e))
  unfolding SegmentSays
  segment_bad a e' q h = h

  segment-stops : (a : List ℕ) (q : Refusal) → At ≡ stopped q → Wrote c.emitted p a → SaysAt a e (Err q)
  unfolding SegmentSays
  segment-stops a q h w = (h, (w, refl))

  module _ (r : Ready text l 0 c) (small : kind < 24) where
    pub sign_bad : (q : Refusal) → Expected text c kind (Err q) → SaysAt p e (Err q)
    sign_bad q h =
        segment-stops p q
        (then_bad (λ u ts b. or_reader (length text) (fixed_in rows) 0 ts b) q refl (expected_bad text names l c kind q r.fresh h))
        wrote_none

    module _ (v : Cursor) (there : Expected text c kind (Ok v)) where
      abbrev sc : Scope
      sc = record { rows = rows; stars = false }

      mode_is : fixed_in rows ≡ mode_of sc
      mode_is = go rows
        where
          go : (x : Bool) → fixed_in x ≡ record { rows = x; stars = false }
          go true = refl
          go false = refl

      -- Past its sign, a segment is its expression.
      goes : At ≡ or_at text names sc l 16 v
      goes =
          ap (λ (o : Got (Unit {0})). then_reads o (λ u ts b. or_reader (length text) (fixed_in rows) 0 ts b)) (expected_ok text names l c kind v small there)
          ∙ ap (λ (m : Mode). or_reader (length text) m 0 (listed text v.next) (book_of text names l v)) mode_is

      module _ (a : List ℕ) where
        pub read_bad : (q : Refusal) → SaysExpr text names l v p (or_at text names sc l 16 v) a (Err q) → SaysAt a e (Err q)
        unfolding Expected
        read_bad q h =
            let s : SaysExpr text names l c p At a (Err q) = says-behind (is-past there.1) h (λ z. goes ∙ z) in
            let k = said_bad s in
            segment-stops a q k.0 k.1

        module _ (d : Cursor) (h : SaysExpr text names l v p (or_at text names sc l 16 v) a (Ok d)) where
          done : Done text names l (expr_words text names l) 0 c p At a d
          unfolding Expected
          done = said_ok (says_of goes (says-from (is-past there.1) h (omega arith) (omega arith) (omega arith)))

          pub read_small : d.emitted < 65536
          read_small = omega (arith, r.room, r.commands, done.level, done.nodes, done.items)

          pub read_ok : SaysAt a (set e i d.emitted) (Ok d)
          unfolding SegmentSays
          read_ok = (done, refl)

-- ---- a clause

-- Two numbers stored one after the other.
two-sets : (e e₁ e₂ : List ℕ) (i x y x' y' : ℕ) → e₁ ≡ set e i x → e₂ ≡ set e₁ (i + 1) y → x ≡ x' → y ≡ y' → e₂ ≡ sets e i (x' ∷ y' ∷ [])
two-sets e e₁ e₂ i x y x' y' f g h k = cc (add-one i)

module _ (text names : List ℕ) (l : Ledger) (kind i : ℕ) (c : Cursor) (r : Ready text l 0 c) (small : kind < 24) where
  abbrev words : ℕ → Expr → Numbered (List ℕ)
  words = expr_words text names l

  -- The reader of the second segment, of both, and of the full stop after them.
  abbrev each : List Lexeme → Book → Got Expr
  each ts b = then_reads (reader (length text) (T.lit 4) ts b) (λ u ts b. or_reader (length text) fixed_row 0 ts b)

  abbrev both : Got (Pair Expr Expr)
  both = pairing (segment_at text names l false kind c) each

  abbrev made : Pair Expr Expr → Clause
  made v = clause' v.one v.two

  abbrev ended : Got (Pair Expr Expr) → Got Clause
  ended g = then_reads (signed_by (length text) 18 g) (λ v ts b. got (made v) ts b)

  -- A clause is its two segments and a full stop; where its first sign is missing, both are refused alike.
  clause-is : clause_at text names l kind c ≡ ended both
  unfolding sequence find lines skips
  clause-is = go (eqb (kind_number c.next.kind) kind) refl
    where
      go : (x : Bool) → eqb (kind_number c.next.kind) kind ≡ x → clause_at text names l kind c ≡ ended both
      go true u = rw (
        listed-sign text c.next kind (eqb-true (kind_number c.next.kind) kind u) small,
        reader_token (length text) (T.clause kind),
        reader_token
            (length text) (T.lit kind),
        eq-eqb kind kind refl,
      ) (simp (then_ruling, then_then))
      go false u =
          let k : (kind_number c.next.kind ≡ kind → ⊥) = eqb-false (kind_number c.next.kind) kind u in
          missing text c.next (T.clause kind) (book_of text names l c) r.fresh refl (rw (ne_eqb kind (kind_number c.next.kind) (λ z. k (sym z))) refl) (λ z. refl)
          ∙ ap (λ (o : Got (Unit {0})). ended (pairing (then_reads o (λ u ts b. or_reader (length text) fixed_shared 0 ts b)) each))
          (sym (lit_missing text c.next kind (book_of text names l c) r.fresh k))

  clause-stops : (p e a e' : List ℕ) (q : Refusal) → both ≡ stopped q → Wrote c.emitted p a → Wrote i e e' → ClauseSays text names l kind i c p e a e' (Err q)
  unfolding ClauseSays
  clause-stops p e a e' q h w v = (clause-is ∙ ap ended h, (w, v))

  module _ (p e a₁ e₁ : List ℕ) where
    pub whole_bad : (q : Refusal) → SegmentSays text names l false kind i c p e a₁ e₁ (Err q) → ClauseSays text names l kind i c p e a₁ e₁ (Err q)
    whole_bad q s =
        let k = segment_bad text names l false kind i c p e a₁ e₁ q s in
        clause-stops p e a₁ e₁ q (pair_bad each q k.0) k.1.0 (wrote_same k.1.1 wrote_none)

    module _ (m : Cursor) (s₁ : SegmentSays text names l false kind i c p e a₁ e₁ (Ok m)) where
      -- What the first segment gave; the second follows below.
      first : Done text names l words 0 c p (segment_at text names l false kind c) a₁ m × (e₁ ≡ set e i m.emitted)
      first = segment_ok text names l false kind i c p e a₁ e₁ m s₁

      pub middle_ready : Ready text l 0 m
      middle_ready = done-ready first.0 0 r

      module _ (a₂ e₂ : List ℕ) where
        pub each_bad : (q : Refusal) → SegmentSays text names l true 4 (i + 1) m a₁ e₁ a₂ e₂ (Err q) → ClauseSays text names l kind i c p e a₂ e₂ (Err q)
        each_bad q s =
            let k = segment_bad text names l true 4 (i + 1) m a₁ e₁ a₂ e₂ q s in
            clause-stops p e a₂ e₂ q
            (ap (λ (o : Got Expr). pairing o each) first.0.says ∙ ap (λ (o : Got Expr). then_reads o (λ v ts b. got (pair_of first.0.tree v) ts b)) k.0)
            (done_then first.0 k.1.0)
            (record { words = m.emitted ∷ []; is = k.1.1 ∙ first.1 })

        module _ (d : Cursor) (s₂ : SegmentSays text names l true 4 (i + 1) m a₁ e₁ a₂ e₂ (Ok d)) where
          second : Done text names l words 0 m a₁ (segment_at text names l true 4 m) a₂ d × (e₂ ≡ set e₁ (i + 1) d.emitted)
          second = segment_ok text names l true 4 (i + 1) m a₁ e₁ a₂ e₂ d s₂

          done_both : Done text names l (paired words words) 0 c p both a₂ d
          done_both = pair_done each first.0 second.0

          says_all : (y : Parsed) → Expected text d 18 y → Says text names l (clause_words text names l) 0 c p (clause_at text names l kind c) a₂ y
          says_all y h =
              says_map made clause-is (says-sign done_both 18 (omega arith) h) (λ v. refl)

          abbrev tree : Clause
          tree = clause' first.0.tree second.0.tree

          tree_is : (v : Cursor) → Expected text d 18 (Ok v) → clause_at text names l kind c ≡ got tree (listed text v.next) (book_of text names l v)
          tree_is v h =
              clause-is ∙ ap (λ (o : Got Expr). ended (pairing o each)) first.0.says ∙ ap (λ (o : Got Expr). ended (then_reads o (λ x ts b. got (pair_of first.0.tree x) ts b))) second.0.says
              ∙ ap (λ (o : Got (Unit {0})). then_reads (then_reads o (λ u ts b. got (pair_of first.0.tree second.0.tree) ts b))
              (λ v ts b. got (made v) ts b)) (expected_ok text names l d 18 v (omega arith) h)

          -- The stored ends.
          ends_are : e₂ ≡ sets e i (clause_ends text names l c.stars c.emitted tree)
          ends_are =
              two-sets e e₁ e₂ i m.emitted d.emitted _ _ first.1 second.1 first.0.long
              (second.0.long ∙ ap (λ (k : ℕ). k + length (words m.stars second.0.tree).is) first.0.long
              ∙ ap (λ (k : ℕ). c.emitted + length (words c.stars first.0.tree).is + length (words k second.0.tree).is) first.0.numbered)

          pub clause-says : (y : Parsed) → Expected text d 18 y → ClauseSays text names l kind i c p e a₂ e₂ y
          unfolding ClauseSays
          clause-says (Err q) h =
              let k = said_bad (says_all (Err q) h) in
              (k.0, (k.1, record { words = clause_ends text names l c.stars c.emitted tree; is = ends_are }))
          clause-says (Ok v) h =
              let q = said_ok (says_all (Ok v) h) in
              let same : q.tree ≡ tree = cc (q.says, tree_is v h) in
              record { done = q; ends = ends_are ∙ ap (λ (x : Clause). sets e i (clause_ends text names l c.stars c.emitted x)) (sym same) }
