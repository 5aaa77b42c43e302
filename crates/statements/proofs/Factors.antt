-- A factor by its first token: an operand, `not` and a factor, or an expression in parentheses.
-- Assumes nothing.
use Rattle.std.specs.Prelude.{Ok, Err}
use mathlib.Core.Path.{◌≡◌, refl, sym, ap, ◌∙◌}
use mathlib.Core.List.{List, [], ◌∷◌}
use mathlib.Core.Option.{Option, none, some}
use Prim.Native.Nat.{ℕ, suc, ◌+◌, ◌-◌, ◌≤◌, ◌<◌}
use native.Mathlib.Omega.{arith}
use lib.ListN.{length, set}
use lib.Seq.{sets}
use Rattle.notation.specs.Tokens.{Token, sign, Lexeme}
use Rattle.notation.specs.Notation.{Mode, Role, part, negates, opens, Expr, not'}
use Rattle.notation.specs.Texts.{expr_of}
use Rattle.notation.specs.Layout.{expr_code}
use Rattle.notation.specs.working.Lexing.{tokens_from}
use Rattle.notation.specs.working.Ledger.{Book, note, fault}
use Rattle.notation.specs.working.Table.{lit, factor}
use Rattle.notation.specs.working.Descent.{Got, got, then_reads, ruling, reader, or_reader}
use Rattle.refusals.specs.declared.Reason.TheVariants.{TooMany}
use Rattle.refusals.specs.declared.Refusal.{Refusal}
use Rattle.refusals.specs.Reasons.{number_of}
use Rattle.lexer.specs.working.Kinds.{kind_number}
use Rattle.lexer.specs.declared.pieces.Piece.{Piece}
use Rattle.statements.specs.declared.cursor.Cursor.{Cursor}
use Rattle.statements.specs.declared.cursor.Ledger.{Ledger}
use Rattle.statements.specs.declared.cursor.Scope.{Scope}
use Rattle.lexer.specs.working.Pieces.{listed, piece_at}
use Rattle.statements.specs.working.Cursors.{Parsed, refused_at, stopped, mode_of, book_of, moved, emitted, Expected, Ready, Done, was_read}
use Rattle.statements.specs.working.Expressions.{expr_words, SaysExpr, SaysOperand, factor_at, or_at, Leaf, Kept}
use Rattle.statements.proofs.Books.{opens_deep, opens-fits, negates_deep, negates_full, negates-fits, note-opens, note-negates}
use Rattle.statements.proofs.Symbols.{open_is, not_is}
use Rattle.lexer.proofs.Lexing.{tokened}
use Rattle.statements.proofs.Moves.{Past}
use Rattle.statements.proofs.StoredCode.{wrote_none, wrote_same, said_as, was_stopped, says_of, done-map}
use Rattle.statements.specs.working.Sequences.{signed_by}
use Rattle.statements.proofs.Sequences.{word-done, done-from, says-sign, says-from, says-behind}

module _ (text names : List ℕ) (sc : Scope) (l : Ledger) (depth : ℕ) (c : Cursor) (r : Ready text l 0 c) where
  abbrev m : Mode
  m = mode_of sc

  abbrev len : ℕ
  len = length text

  abbrev B : Book
  B = book_of text names l c

  abbrev t : Piece
  t = c.next

  abbrev rest : List Lexeme
  rest = tokens_from text t.end

  abbrev G : Got Expr
  G = factor_at text names sc l depth c

  -- One token that is a node: what its role asks, what it leaves in the book, and its code word.
  pub leaf-says : (role : Role) (tok : Token) (e : Expr) (code stars : ℕ) (p a : List ℕ) (y : Parsed) →
      G ≡ ruling t.start (fault B (part role tok)) (got e rest (note B (part role tok))) → (1024 ≤ c.nodes → fault B (part role tok) ≡ some 7)
      → (c.nodes < 1024 → fault B (part role tok) ≡ none) →
      ((u : Piece) → note B (part role tok) ≡ book_of text names l (moved u c c.items (c.nodes + 1) stars)) → (expr_words text names l c.stars e).is
      ≡ code ∷ [] → (expr_words text names l c.stars e).next ≡ stars → stars ≤ 8 →
      Leaf text c code stars p a y → SaysOperand text names l c p G a y
  unfolding Leaf Kept number_of
  leaf-says role tok e code stars p a (Err q) g full fits noted one next few h = (
    was_stopped h.1.0 (g ∙ ap (λ (o : Option ℕ). ruling t.start o (got e rest (note B (part role tok)))) (full h.0)) (wrote_same h.1.1 wrote_none),
    h.1.1,
  )
  leaf-says role tok e code stars p a (Ok d) g full fits noted one next few h =
      let u = piece_at text t.end in
      let k = tokened text t.end in (
        said_as (ap Ok (sym h.1.0)) (was_read (record {
          tree = e;
          says = g ∙ ap (λ (o : Option ℕ). ruling t.start o (got e rest (note B (part role tok)))) (fits h.0) ∙ ap (λ (b : Book). got e rest b) (noted u)
              ∙ ap (λ (ts : List Lexeme). got e ts (book_of text names l (moved u c c.items (c.nodes + 1) stars))) k.tokens;
          stored = h.1.1 ∙ ap (λ (v : List ℕ). sets p c.emitted v) (sym one);
          long = ap (λ (v : List ℕ). c.emitted + length v) (sym one);
          numbered = sym next;
          level = omega arith;
          more_nodes = omega arith;
          more_items = omega arith;
          nodes = omega (arith, h.0);
          items = r.items;
          stars = few;
          fresh = k.fresh;
        })),
        tt,
      )

  -- ---- the open parenthesis

  module _ (h : kind_number t.kind ≡ 21) where
    abbrev inside : Got Expr
    inside = then_reads (or_reader len m (suc (16 - depth)) rest (note B (part (opens (suc (16 - depth))) (sign 21)))) (λ e ts b. then_reads (reader len (lit 22) ts b) (λ u ts b. got e ts b))

    pub open_deep : depth ≡ 0 → G ≡ stopped (refused_at TooMany t)
    unfolding number_of
    open_deep z = open_is text t len m (16 - depth) B h ∙ ap (λ (o : Option ℕ). ruling t.start o inside) (opens_deep text names l c (sign 21) (suc (16 - depth)) (omega arith))

    module _ (deep : depth ≤ 16) (z : depth ≡ 0 → ⊥) (d : Cursor) (q : Past text c c.items c.nodes c.stars d) where
      pub open-goes : G ≡ signed_by len 22 (or_at text names sc l (depth - 1) d)
      open-goes =
          let x : suc (16 - depth) ≡ 16 - (depth - 1) = omega arith in
          open_is text t len m (16 - depth) B h ∙ ap (λ (o : Option ℕ). ruling t.start o inside) (opens-fits text names l c (sign 21) (suc (16 - depth)) (omega arith))
          ∙ ap (λ (b : Book). signed_by len 22 (or_reader len m (suc (16 - depth)) rest b))
          (note-opens text names l c d.next (suc (16 - depth)) (sign 21) ∙ ap (book_of text names l) (sym q.is))
          ∙ ap (λ (ts : List Lexeme). signed_by len 22 (or_reader len m (suc (16 - depth)) ts (book_of text names l d))) q.next.tokens
          ∙ ap (λ (n : ℕ). signed_by len 22 (or_reader len m n (listed text d.next) (book_of text names l d))) x

      module _ {p a : List ℕ} where
        pub open_closes : {v : Cursor} {y : Parsed} → Done text names l (expr_words text names l) 0 d p (or_at text names sc l (depth - 1) d) a v → Expected text v 22 y
            → SaysExpr text names l c p G a y
        open_closes s e = says_of open-goes (says-from q (says-sign s 22 (omega arith) e) (omega arith) (omega arith) (omega arith))

        pub open_bad : {r : Refusal} → SaysExpr text names l d p (or_at text names sc l (depth - 1) d) a (Err r) → SaysExpr text names l c p G a (Err r)
        open_bad s = says-behind q s (λ h. open-goes ∙ ap (signed_by len 22) h)

  -- ---- `not`

  module _ (h : kind_number t.kind ≡ 14) where
    abbrev below : Got Expr
    below = then_reads (reader len (factor m (suc (16 - depth))) rest (note B (part (negates (suc (16 - depth))) (sign 14)))) (λ e ts b. got (not' e) ts b)

    pub not_deep : depth ≡ 0 → G ≡ stopped (refused_at TooMany t)
    unfolding number_of
    not_deep z = not_is text t len m (16 - depth) B h ∙ ap (λ (o : Option ℕ). ruling t.start o below) (negates_deep text names l c (sign 14) (suc (16 - depth)) (omega arith))

    module _ (deep : depth ≤ 16) (z : depth ≡ 0 → ⊥) where
      pub not_full : 1024 ≤ c.nodes → G ≡ stopped (refused_at TooMany t)
      unfolding number_of
      not_full x = not_is text t len m (16 - depth) B h ∙ ap (λ (o : Option ℕ). ruling t.start o below) (negates_full text names l c (sign 14) (suc (16 - depth)) (omega arith) x)

      module _ (x : c.nodes < 1024) (d : Cursor) (q : Past text c c.items (c.nodes + 1) c.stars d) where
        abbrev negated : Got Expr → Got Expr
        negated o = then_reads o (λ e ts b. got (not' e) ts b)

        not-goes : G ≡ negated (factor_at text names sc l (depth - 1) d)
        not-goes =
            let y : suc (16 - depth) ≡ 16 - (depth - 1) = omega arith in
            not_is text t len m (16 - depth) B h ∙ ap (λ (o : Option ℕ). ruling t.start o below) (negates-fits text names l c (sign 14) (suc (16 - depth)) (omega arith) x)
            ∙ ap (λ (b : Book). then_reads (reader len (factor m (suc (16 - depth))) rest b) (λ e ts b. got (not' e) ts b))
            (note-negates text names l c d.next (suc (16 - depth)) (sign 14) ∙ ap (book_of text names l) (sym q.is))
            ∙ ap (λ (ts : List Lexeme). then_reads (reader len (factor m (suc (16 - depth))) ts (book_of text names l d)) (λ e ts b. got (not' e) ts b)) q.next.tokens
            ∙ ap (λ (n : ℕ). then_reads (reader len (factor m n) (listed text d.next) (book_of text names l d)) (λ e ts b. got (not' e) ts b)) y

        module _ {p a : List ℕ} where
          pub not_closes : {b : List ℕ} {v y : Cursor} → Done text names l (expr_words text names l) 0 d p (factor_at text names sc l (depth - 1) d) a v →
              (y ≡ emitted v) × (b ≡ set a v.emitted 96) → SaysExpr text names l c p G b (Ok y)
          unfolding expr_words expr_of expr_code word-done
          not_closes s e =
              said_as (ap Ok (sym e.0)) (was_read (done-from (done-map (word-done s 96 e.1) (not' s.tree) refl (not-goes ∙ ap negated s.says)) q (omega arith) (omega arith) (omega arith)))

          pub not_bad : {r : Refusal} → SaysExpr text names l d p (factor_at text names sc l (depth - 1) d) a (Err r) → SaysExpr text names l c p G a (Err r)
          not_bad s = says-behind q s (λ h. not-goes ∙ ap negated h)
