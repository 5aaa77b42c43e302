-- Operands joined by one operator: what the loop that reads them has still to do gives what all of it gave where it began.
-- Assumes nothing.
use Rattle.std.specs.Prelude.{Err}
use mathlib.Core.Path.{◌≡◌, refl, sym, ap, ◌∙◌, subst}
use mathlib.Core.List.{List, ◌∷◌}
use mathlib.Core.Option.{Option, some}
use Prim.Native.Nat.{ℕ, ◌+◌, ◌≤◌, ◌<◌}
use native.Mathlib.Omega.{arith}
use lib.ListN.{length, set}
use Rattle.notation.specs.Tokens.{sign, AND, OR, Lexeme, at}
use Rattle.notation.specs.Notation.{Mode, part, joins, Expr, and', or'}
use Rattle.notation.specs.Texts.{expr_of}
use Rattle.notation.specs.Layout.{BOTH, EITHER, expr_code}
use Rattle.notation.specs.working.Lexing.{tokens_from}
use Rattle.notation.specs.working.Ledger.{Book, note, fault}
use Rattle.notation.specs.working.Table.{factor}
use Rattle.notation.specs.working.Descent.{Got, got, then_reads, ruling, reader, and_reader, and_loop, or_loop}
use Rattle.notation.proofs.Readers.{and_loop_turn, or_loop_turn}
use Rattle.refusals.specs.declared.Reason.TheVariants.{TooMany}
use Rattle.refusals.specs.declared.Refusal.{Refusal}
use Rattle.refusals.specs.Reasons.{number_of}
use Rattle.lexer.specs.working.Kinds.{kind_number}
use Rattle.lexer.specs.declared.pieces.Piece.{Piece}
use Rattle.statements.specs.declared.cursor.Cursor.{Cursor}
use Rattle.statements.specs.declared.cursor.Ledger.{Ledger}
use Rattle.lexer.specs.working.Pieces.{listed}
use Rattle.statements.specs.working.Cursors.{refused_at, book_of, emitted, Ready, Done, was_refused}
use Rattle.statements.specs.working.Expressions.{expr_words, SaysExpr}
use Rattle.statements.proofs.Moves.{Past, past-node}
use Rattle.statements.proofs.Books.{joins_full, joins-fits, note-joins}
use Rattle.statements.proofs.Symbols.{listed-sign, and-stops, or-stops}
use Rattle.statements.specs.working.Items.{with_word}
use Rattle.statements.specs.working.Sequences.{pair_of, paired}
use Rattle.statements.proofs.StoredCode.{wrote_from, said_bad, was_stopped, done_wrote, done-map, done_then, done-ready}
use Rattle.statements.proofs.Sequences.{pair_done, word-done, done-from}

-- An operator: its sign, its code word, how it joins, and the readers of its operand and of the rest of its operands.
pub record Chain (text names : List ℕ) (l : Ledger) : Type 0 where
  pub op : ℕ
  pub word : ℕ
  pub join : Expr → Expr → Expr
  pub operand : List Lexeme → Book → Got Expr
  pub loop : Expr → List Lexeme → Book → Got Expr
  pub small : op < 24
  pub turn : (e : Expr) (i : ℕ) (ts : List Lexeme) (b : Book) → loop e (at i (some (sign op)) ∷ ts) b
      ≡ ruling i (fault b (part joins (sign op))) (then_reads (operand ts (note b (part joins (sign op)))) (λ f ts b. loop (join e f) ts b))
  pub stops : (t : Piece) (e : Expr) (b : Book) → (kind_number t.kind ≡ op → ⊥) → loop e (listed text t) b ≡ got e (listed text t) b
  pub words : (k : ℕ) (x y : Expr) → expr_words text names l k (join x y) ≡ paired (expr_words text names l) (with_word (expr_words text names l) word) k (pair_of x y)

module _ (text names : List ℕ) (l : Ledger) (k : ℕ) (x y : Expr) where
  pub and-words : expr_words text names l k (and' x y) ≡ paired (expr_words text names l) (with_word (expr_words text names l) BOTH) k (pair_of x y)
  unfolding expr_words expr_of expr_code
  and-words = refl

  pub or-words : expr_words text names l k (or' x y) ≡ paired (expr_words text names l) (with_word (expr_words text names l) EITHER) k (pair_of x y)
  unfolding expr_words expr_of expr_code
  or-words = refl

abbrev pub and_chain : (text names : List ℕ) (l : Ledger) (m : Mode) (d : ℕ) → Chain text names l
and_chain text names l m d = record {
  op = AND;
  word = BOTH;
  join = and';
  operand = λ ts b. reader (length text) (factor m d) ts b;
  loop = λ e ts b. and_loop (length text) m d e ts b;
  small = omega arith;
  turn = and_loop_turn (length text) m d;
  stops = λ t e b h. and-stops text t (length text) m d e b h;
  words = and-words text names l;
}

abbrev pub or_chain : (text names : List ℕ) (l : Ledger) (m : Mode) (d : ℕ) → Chain text names l
or_chain text names l m d = record {
  op = OR;
  word = EITHER;
  join = or';
  operand = λ ts b. and_reader (length text) m d ts b;
  loop = λ e ts b. or_loop (length text) m d e ts b;
  small = omega arith;
  turn = or_loop_turn (length text) m d;
  stops = λ t e b h. or-stops text t (length text) m d e b h;
  words = or-words text names l;
}

-- Operands were read, and their code is stored.
abbrev Read : {text names : List ℕ} {l : Ledger} → Chain text names l → Cursor → List ℕ → Got Expr → List ℕ → Cursor → Type 0
Read {text} {names} {l} K s p g b c = Done text names l (expr_words text names l) 0 s p g b c

-- Some operands are read, and what is left to read, from the cursor c on, gives g.
pub record Rest {text names : List ℕ} {l : Ledger} (K : Chain text names l) (s : Cursor) (p : List ℕ) (g : Got Expr) (b : List ℕ) (c : Cursor) : Type 0 where
  pub o : Got Expr
  pub done : Read K s p o b c
  pub says : g ≡ K.loop done.tree (listed text c.next) (book_of text names l c)

-- The loop's invariant: whatever was being read where it began is being read here.
pub record Turn {text names : List ℕ} {l : Ledger} (K : Chain text names l) (b₀ : List ℕ) (c₀ : Cursor) (b : List ℕ) (c : Cursor) : Type 0 where
  pub ready : Ready text l 0 c
  pub back : (s : Cursor) (p : List ℕ) (g : Got Expr) → Rest K s p g b₀ c₀ → Rest K s p g b c

module _ {text names : List ℕ} {l : Ledger} {K : Chain text names l} where
  pub rest-first : {s : Cursor} {p : List ℕ} {o g : Got Expr} {b : List ℕ} {c : Cursor} → g ≡ then_reads o (λ e ts b. K.loop e ts b) → Read K s p o b c → Rest K s p g b c
  rest-first {o = o} e h = record { o = o; done = h; says = e ∙ ap (λ (x : Got Expr). then_reads x (λ e ts b. K.loop e ts b)) h.says }

  pub turn_none : {s : Cursor} {p : List ℕ} {o : Got Expr} {b₀ : List ℕ} {c₀ : Cursor} → Ready text l 0 s → Read K s p o b₀ c₀ → Turn K b₀ c₀ b₀ c₀
  turn_none r h = record { ready = done-ready h 0 r; back = λ s p g x. x }

  module _ {s : Cursor} {p : List ℕ} {g : Got Expr} {b : List ℕ} {c : Cursor} (h : Rest K s p g b c) where
    pub rest-stop : (kind_number c.next.kind ≡ K.op → ⊥) → Read K s p g b c
    rest-stop u = done-map h.done h.done.tree refl (h.says ∙ K.stops c.next h.done.tree (book_of text names l c) u)

    module _ (u : kind_number c.next.kind ≡ K.op) where
      abbrev joined : Got Expr → Got Expr
      joined o = then_reads o (λ y ts b. K.loop (K.join h.done.tree y) ts b)

      abbrev after : Got Expr
      after = joined (K.operand (tokens_from text c.next.end) (note (book_of text names l c) (part joins (sign K.op))))

      turned : g ≡ ruling c.next.start (fault (book_of text names l c) (part joins (sign K.op))) after
      turned = h.says ∙ ap (λ (ts : List Lexeme). K.loop h.done.tree ts (book_of text names l c)) (listed-sign text c.next K.op u K.small)
          ∙ K.turn h.done.tree c.next.start (tokens_from text c.next.end) (book_of text names l c)

      pub rest_full : 1024 ≤ c.nodes → {r : Refusal} → r ≡ refused_at TooMany c.next → SaysExpr text names l s p g b (Err r)
      unfolding number_of
      rest_full x e = was_stopped e (turned ∙ ap (λ (o : Option ℕ). ruling c.next.start o after) (joins_full text names l c (sign K.op) x)) (done_wrote h.done)

      module _ (x : c.nodes < 1024) {d : Cursor} (q : Past text c c.items (c.nodes + 1) c.stars d) where
        abbrev right : Got Expr
        right = K.operand (listed text d.next) (book_of text names l d)

        goes : g ≡ joined right
        goes = turned ∙ ap (λ (o : Option ℕ). ruling c.next.start o after) (joins-fits text names l c (sign K.op) x)
            ∙ ap (λ (v : Book). joined (K.operand (tokens_from text c.next.end) v)) (note-joins text names l c d.next (sign K.op) ∙ ap (book_of text names l) (sym q.is))
            ∙ ap (λ (ts : List Lexeme). joined (K.operand ts (book_of text names l d))) q.next.tokens

        pub rest_bad : {m : List ℕ} {r : Refusal} → SaysExpr text names l d b right m (Err r) → SaysExpr text names l s p g m (Err r)
        rest_bad z =
            let k = said_bad z in
            was_refused (goes ∙ ap joined k.0) (done_then h.done (wrote_from q.place k.1))

        rest_more : {m a : List ℕ} {v : Cursor} (e : Read K d b right m v) → a ≡ set m v.emitted K.word → Rest K s p g a (emitted v)
        unfolding pair_done word-done done-from done-map
        rest_more {v = v} e z = record {
          o = got (K.join h.done.tree e.tree) (listed text v.next) (book_of text names l v);
          done =
              done-map (pair_done (λ ts b. right) h.done (done-from (word-done e K.word z) {y = 0} q (omega arith) (omega arith) (omega arith)))
              (K.join h.done.tree e.tree) (K.words s.stars h.done.tree e.tree) refl;
          says = goes ∙ ap joined e.says;
        }

  -- ---- the turns of the loop

  module _ {b₀ : List ℕ} {c₀ : Cursor} {b : List ℕ} {c d : Cursor} (i : Turn K b₀ c₀ b c) (x : c.nodes < 1024) (q : Past text c c.items (c.nodes + 1) c.stars d) where
    pub turn_ready : Ready text l 1 d
    turn_ready = past-node i.ready x q

    -- There is room for the operator's code word, and the nodes have grown.
    pub turn_room : {o : Got Expr} {m : List ℕ} {v : Cursor} → Read K d b o m v → (v.emitted < 2048) × (c.nodes < v.nodes) × (v.nodes ≤ 1024)
    turn_room e = (omega (arith, e.level, e.nodes, e.items, turn_ready.room, i.ready.commands), omega (arith, e.more_nodes), e.nodes)

    pub turn_more : kind_number c.next.kind ≡ K.op → {m a : List ℕ} {v y : Cursor} →
        Read K d b (K.operand (listed text d.next) (book_of text names l d)) m v → (y ≡ emitted v) × (a ≡ set m v.emitted K.word) → Turn K b₀ c₀ a y
    turn_more u {a = a} e z = subst (λ (w : Cursor). Turn K b₀ c₀ a w) (sym z.0) (record {
      ready = done-ready (done-from (word-done e K.word z.1) {y = 0} q (omega arith) (omega arith) (omega arith)) 0 i.ready;
      back = λ s p g w. rest_more (i.back s p g w) u x q e z.1;
    })
