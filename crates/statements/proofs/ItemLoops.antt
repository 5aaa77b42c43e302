-- Items joined by semicolons: what the loop that reads them has still to do gives what all of it gave where it began.
-- Assumes nothing.
use Rattle.std.specs.Prelude.{Err}
use mathlib.Core.Path.{◌≡◌, refl, sym, ap, ◌∙◌}
use mathlib.Core.List.{List, [], ◌∷◌, ◌++◌, append_assoc, append-nil}
use mathlib.Core.Option.{Option, some}
use Prim.Native.Nat.{ℕ, ◌+◌, ◌*◌, ◌≤◌, ◌<◌}
use native.Mathlib.Omega.{arith}
use lib.ListN.{length}
use Rattle.notation.specs.Tokens.{sign, SEMI, Lexeme, at}
use Rattle.notation.specs.Notation.{part, quiet}
use Rattle.notation.specs.Texts.{Numbered, numbered}
use Rattle.notation.specs.working.Lexing.{tokens_from}
use Rattle.notation.specs.working.Ledger.{Book, note, fault}
use Rattle.notation.specs.working.Descent.{Got, got, stop, then_reads, ruling}
use Rattle.refusals.specs.declared.Refusal.{Refusal}
use Rattle.lexer.specs.working.Kinds.{kind_number}
use Rattle.lexer.specs.declared.pieces.Piece.{Piece}
use Rattle.statements.specs.declared.cursor.Cursor.{Cursor}
use Rattle.statements.specs.declared.cursor.Ledger.{Ledger}
use Rattle.lexer.specs.working.Pieces.{listed}
use Rattle.statements.specs.working.Cursors.{book_of, Ready, Done, Says, was_refused}
use Rattle.statements.proofs.Moves.{Past, past_same}
use Rattle.statements.proofs.Books.{quiet-fits, note-quiet}
use Rattle.statements.proofs.Symbols.{listed-sign}
use Rattle.statements.proofs.StoredCode.{wrote_from, said_bad, says-alike, done-map, done_then, done-ready}
use Rattle.statements.proofs.Sequences.{pair_done, done-from}

-- A list of things: the reader of one and of the rest, and their codes.
pub record Series (A : Type 0) (text names : List ℕ) (l : Ledger) : Type 0 where
  pub one : List Lexeme → Book → Got A
  pub more : List Lexeme → Book → Got (List A)
  pub word : ℕ → A → Numbered (List ℕ)
  pub words : ℕ → List A → Numbered (List ℕ)
  pub turn : (i : ℕ) (ts : List Lexeme) (b : Book) → more (at i (some (sign SEMI)) ∷ ts) b
      ≡ ruling i (fault b (part quiet (sign SEMI)))
      (then_reads (one ts (note b (part quiet (sign SEMI)))) (λ x ts b. then_reads (more ts b) (λ xs ts b. got (x ∷ xs) ts b)))
  pub stops : (t : Piece) (b : Book) → (kind_number t.kind ≡ SEMI → ⊥) → more (listed text t) b ≡ got [] (listed text t) b
  pub nil : (k : ℕ) → words k [] ≡ numbered [] k
  pub cons : (k : ℕ) (x : A) (xs : List A) → words k (x ∷ xs) ≡ numbered ((word k x).is ++ (words (word k x).next xs).is) (words (word k x).next xs).next
  pub some : (k : ℕ) (x : A) → 1 ≤ length (word k x).is

-- ---- the code of a list

-- The code of x, and then what follows.
abbrev after : Numbered (List ℕ) → Numbered (List ℕ) → Numbered (List ℕ)
after x z = numbered (x.is ++ z.is) z.next

module _ {A : Type 0} {text names : List ℕ} {l : Ledger} (K : Series A text names l) where
  single : (k : ℕ) (x : A) → K.words k (x ∷ []) ≡ K.word k x
  single k x = K.cons k x [] ∙ ap (after (K.word k x)) (K.nil (K.word k x).next) ∙ ap (λ (z : List ℕ). numbered z (K.word k x).next) (append-nil (K.word k x).is)

  append : (k : ℕ) (xs : List A) (x : A) → K.words k (xs ++ x ∷ []) ≡ after (K.words k xs) (K.word (K.words k xs).next x)
  append k [] x = single k x ∙ ap (λ (z : Numbered (List ℕ)). after z (K.word z.next x)) (sym (K.nil k))
  append k (y ∷ xs) x =
      K.cons k y (xs ++ x ∷ []) ∙ ap (after (K.word k y)) (append (K.word k y).next xs x)
      ∙ ap (λ (z : List ℕ). numbered z (K.word (K.words (K.word k y).next xs).next x).next)
      (sym (append_assoc (K.word k y).is (K.words (K.word k y).next xs).is (K.word (K.words (K.word k y).next xs).next x).is))
      ∙ ap (λ (z : Numbered (List ℕ)). after z (K.word z.next x)) (sym (K.cons k y xs))

  abbrev Read : Cursor → List ℕ → Got (List A) → List ℕ → Cursor → Type 0
  Read s p g b c = Done text names l K.words 0 s p g b c

  abbrev ReadOne : Cursor → List ℕ → Got A → List ℕ → Cursor → Type 0
  ReadOne s p g b c = Done text names l K.word 0 s p g b c

  -- All of them, where the first gives g; and what is left to read after the things xs.
  abbrev all : Got A → Got (List A)
  all g = then_reads g (λ x ts b. then_reads (K.more ts b) (λ xs ts b. got (x ∷ xs) ts b))

  abbrev behind : List A → Got (List A) → Got (List A)
  behind xs g = then_reads g (λ ys ts b. got (xs ++ ys) ts b)

  -- Some things are read, and what is left to read, from the cursor c on, gives g.
  pub record Rest (s : Cursor) (p : List ℕ) (g : Got (List A)) (b : List ℕ) (c : Cursor) : Type 0 where
    pub o : Got (List A)
    pub done : Read s p o b c
    pub says : g ≡ behind done.tree (K.more (listed text c.next) (book_of text names l c))

  -- The loop's invariant: whatever was being read where it began is being read here.
  pub record Turn (b₀ : List ℕ) (c₀ : Cursor) (b : List ℕ) (c : Cursor) : Type 0 where
    pub ready : Ready text l 0 c
    pub back : (s : Cursor) (p : List ℕ) (g : Got (List A)) → Rest s p g b₀ c₀ → Rest s p g b c

  pub first_bad : {s : Cursor} {p : List ℕ} {g : Got A} {b : List ℕ} {r : Refusal} → Says text names l K.word 0 s p g b (Err r) → Says text names l K.words 0 s p (all g) b (Err r)
  first_bad h = says-alike h (λ z. ap (λ (o : Got A). all o) z)

module _ {A : Type 0} {text names : List ℕ} {l : Ledger} {K : Series A text names l} where
  module _ {s : Cursor} {p : List ℕ} {g : Got A} {b : List ℕ} {c : Cursor} (d : ReadOne K s p g b c) where
    pub rest-first : Rest K s p (all K g) b c
    unfolding done-map
    rest-first = record {
      o = got (d.tree ∷ []) (listed text c.next) (book_of text names l c);
      done = done-map d (d.tree ∷ []) (single K s.stars d.tree) refl;
      says = ap (λ (o : Got A). all K o) d.says;
    }

    pub turn_none : Ready text l 0 s → Turn K b c b c
    turn_none r = record { ready = done-ready d 0 r; back = λ s p g x. x }

  module _ {s : Cursor} {p : List ℕ} {g : Got (List A)} {b : List ℕ} {c : Cursor} (h : Rest K s p g b c) where
    abbrev xs : List A
    xs = h.done.tree

    pub rest-stop : (kind_number c.next.kind ≡ SEMI → ⊥) → Read K s p g b c
    rest-stop u = done-map h.done xs refl
        (h.says ∙ ap (behind K xs) (K.stops c.next (book_of text names l c) u) ∙ ap (λ (zs : List A). got zs (listed text c.next) (book_of text names l c)) (append-nil xs))

    module _ (u : kind_number c.next.kind ≡ SEMI) {d : Cursor} (q : Past text c c.items c.nodes c.stars d) where
      abbrev next : Got A
      next = K.one (listed text d.next) (book_of text names l d)

      abbrev then : Got A → Got (List A)
      then o = behind K xs (all K o)

      goes : g ≡ then next
      goes = h.says
          ∙ ap (λ (ts : List Lexeme). behind K xs (K.more ts (book_of text names l c))) (listed-sign text c.next SEMI u (omega arith))
          ∙ ap (behind K xs) (K.turn c.next.start (tokens_from text c.next.end) (book_of text names l c)
          ∙ ap (λ (o : Option ℕ). ruling c.next.start o
          (all K (K.one (tokens_from text c.next.end) (note (book_of text names l c) (part quiet (sign SEMI)))))) (quiet-fits text names l c (sign SEMI)))
          ∙ ap (λ (v : Book). then (K.one (tokens_from text c.next.end) v)) (note-quiet text names l c d.next (sign SEMI) ∙ ap (book_of text names l) (sym q.is))
          ∙ ap (λ (ts : List Lexeme). then (K.one ts (book_of text names l d))) q.next.tokens

      pub rest_bad : {m : List ℕ} {r : Refusal} → Says text names l K.word 0 d b next m (Err r) → Says text names l K.words 0 s p g m (Err r)
      rest_bad z =
          let k = said_bad z in
          was_refused (goes ∙ ap then k.0) (done_then h.done (wrote_from q.place k.1))

      rest_more : {m : List ℕ} {v : Cursor} → ReadOne K d b next m v → Rest K s p g m v
      unfolding pair_done done-from done-map
      rest_more {v = v} e = record {
        o = got (xs ++ e.tree ∷ []) (listed text v.next) (book_of text names l v);
        done =
            done-map (pair_done (λ ts b. next) h.done (done-from e {y = 0} q (omega arith) (omega arith) (omega arith))) (xs ++ e.tree ∷ []) (append K s.stars xs e.tree) refl;
        says = goes ∙ ap then e.says ∙ go (K.more (listed text v.next) (book_of text names l v));
      }
        where
          go : (o : Got (List A)) → behind K xs (then_reads o (λ zs ts b. got (e.tree ∷ zs) ts b)) ≡ behind K (xs ++ e.tree ∷ []) o
          go (got zs ts b) = ap (λ (z : List A). got z ts b) (sym (append_assoc xs (e.tree ∷ []) zs))
          go (stop n i) = refl

  -- ---- the turns of the loop

  module _ {b₀ : List ℕ} {c₀ : Cursor} {b : List ℕ} {c d : Cursor} (i : Turn K b₀ c₀ b c) (q : Past text c c.items c.nodes c.stars d) where
    pub turn_ready : Ready text l 0 d
    turn_ready = past_same i.ready q

    -- Nodes and items have grown, and stay within their limits.
    pub turn_less : {g : Got A} {m : List ℕ} {v : Cursor} → ReadOne K d b g m v → (c.nodes + 3 * c.items < v.nodes + 3 * v.items) × (v.nodes ≤ 1024) × (v.items ≤ 256)
    turn_less e = (omega (arith, e.level, e.long, K.some d.stars e.tree), e.nodes, e.items)

    pub turn_more : kind_number c.next.kind ≡ SEMI → {m : List ℕ} {v : Cursor} → ReadOne K d b (K.one (listed text d.next) (book_of text names l d)) m v → Turn K b₀ c₀ m v
    turn_more u e = record { ready = done-ready e 0 turn_ready; back = λ s p g w. rest_more (i.back s p g w) u q e }
