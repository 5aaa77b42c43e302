-- What the descent's reader of a symbol does at the piece that comes next.
-- Assumes nothing.
use mathlib.Core.Path.{◌≡◌, refl, sym, ap, ◌∙◌}
use mathlib.Core.Bool.{Bool, true, false, cond}
use mathlib.Core.List.{List, [], ◌∷◌}
use mathlib.Core.Option.{none, some}
use Prim.Native.Nat.{ℕ, suc, ◌<◌}
use native.Mathlib.Omega.{arith}
use lib.Dec.{eqb}
use lib.ListN.{length}
use borrow.Author.Tests.{eqb-true, eq-eqb, ne_eqb}
use Rattle.notation.specs.Tokens.{sign, name, Lexeme, at}
use Rattle.notation.specs.Notation.{Mode, part, quiet, uses, constant, chance, negates, opens, Expr, false', true', star', name', not'}
use Rattle.notation.specs.working.Lexing.{tokens_from}
use Rattle.notation.specs.working.Ledger.{Book, note, fault}
use Rattle.notation.specs.working.Table.{Sym, lit, factor, ands, ors, find, lines, skips}
use Rattle.notation.specs.working.Descent.{Got, got, then_reads, ruling, reader, sequence, or_reader, and_loop, or_loop}
use Rattle.notation.proofs.Readers.{reader_token, reader-end, reader_byte, then_then}
use Rattle.refusals.specs.declared.Reason.TheVariants.{NoToken, Unexpected}
use Rattle.refusals.specs.Reasons.{number_of}
use Rattle.lexer.specs.working.Kinds.{kind_number}
use Rattle.lexer.specs.declared.pieces.Piece.{Piece}
use Rattle.lexer.specs.working.Pieces.{misplaced, name_in, token_of, listed, Fresh}
use Rattle.statements.specs.working.Cursors.{stopped}

module _ (text : List ℕ) (t : Piece) where
  pub listed-sign : (k : ℕ) → kind_number t.kind ≡ k → k < 24 → listed text t ≡ at t.start (some (sign k)) ∷ tokens_from text t.end
  unfolding listed token_of
  listed-sign k e h = rw (ne_eqb (kind_number t.kind) 26 (λ z. absurd (omega arith)), ne_eqb (kind_number t.kind) 25 (λ z. absurd (omega arith)), ne_eqb (kind_number t.kind) 24 (λ z. absurd (omega arith)), e) refl

  pub listed-name : kind_number t.kind ≡ 24 → listed text t ≡ at t.start (some (name (name_in text t))) ∷ tokens_from text t.end
  unfolding listed token_of
  listed-name e = rw e refl

  -- Where a symbol has no line for the piece: nothing stands for it, if nothing may.
  pub passed_by : (n : Sym) (len : ℕ) (b : Book) {v : _} → skips n ≡ some v → find (lines n) (sign (kind_number t.kind)) ≡ none → (kind_number t.kind ≡ 24 → find (lines n) (name (name_in text t)) ≡ none) →
      reader len n (listed text t) b ≡ got v (listed text t) b
  unfolding listed token_of
  passed_by n len b {v} s f g = go (eqb (kind_number t.kind) 26) (eqb (kind_number t.kind) 25) (eqb (kind_number t.kind) 24) refl
    where
      go : (x y z : Bool) → eqb (kind_number t.kind) 24 ≡ z → reader len n (cond x [] (at t.start (cond y none (some (cond z (name (name_in text t)) (sign (kind_number t.kind))))) ∷ tokens_from text t.end)) b
          ≡ got v (cond x [] (at t.start (cond y none (some (cond z (name (name_in text t)) (sign (kind_number t.kind))))) ∷ tokens_from text t.end)) b
      go true y z u = rw (reader-end len n b, s)
      go false true z u = rw (reader_byte len n t.start (tokens_from text t.end) b, s)
      go false false true u = rw (reader_token len n t.start (name (name_in text t)) (tokens_from text t.end) b, g (eqb-true (kind_number t.kind) 24 u), s)
      go false false false u = rw (reader_token len n t.start (sign (kind_number t.kind)) (tokens_from text t.end) b, f, s)

  pub passed : (n : Sym) (len : ℕ) (b : Book) {v : _} → skips n ≡ some v → find (lines n) (sign (kind_number t.kind)) ≡ none → find (lines n) (name (name_in text t)) ≡ none →
      reader len n (listed text t) b ≡ got v (listed text t) b
  passed n len b s f g = passed_by n len b s f (λ z. g)

  -- The number that a piece is refused by.
  pub fault_number : number_of (misplaced t).reason ≡ cond (eqb (kind_number t.kind) 25) 2 3
  unfolding number_of
  fault_number = go (eqb (kind_number t.kind) 25)
    where
      go : (x : Bool) → number_of (cond x NoToken Unexpected) ≡ cond x 2 3
      go true = refl
      go false = refl

  -- Where a symbol has to stand and has no line for the piece, the text is refused there.
  pub missing : (n : Sym) (b : Book) → Fresh text t → skips n ≡ none → find (lines n) (sign (kind_number t.kind)) ≡ none → (kind_number t.kind ≡ 24 → find (lines n) (name (name_in text t)) ≡ none) →
      reader (length text) n (listed text t) b ≡ stopped (misplaced t)
  unfolding listed token_of
  missing n b k s f g = go (eqb (kind_number t.kind) 26) (eqb (kind_number t.kind) 25) (eqb (kind_number t.kind) 24) (λ e. eqb-true (kind_number t.kind) 26 e) refl refl
    where
      go : (x y z : Bool) → (x ≡ true → kind_number t.kind ≡ 26) → eqb (kind_number t.kind) 25 ≡ y → eqb (kind_number t.kind) 24 ≡ z →
          reader (length text) n (cond x [] (at t.start (cond y none (some (cond z (name (name_in text t)) (sign (kind_number t.kind))))) ∷ tokens_from text t.end)) b ≡ stopped (misplaced t)
      go true y z h e u = let q : kind_number t.kind ≡ 26 = h refl in let v : number_of (misplaced t).reason ≡ 3 = fault_number ∙ rw q refl in rw (reader-end (length text) n b, s, v, k.last q)
      go false true z h e u = let v : number_of (misplaced t).reason ≡ 2 = fault_number ∙ rw e refl in rw (reader_byte (length text) n t.start (tokens_from text t.end) b, s, v)
      go false false true h e u = let v : number_of (misplaced t).reason ≡ 3 = fault_number
          ∙ rw e refl in rw (reader_token (length text) n t.start (name (name_in text t)) (tokens_from text t.end) b, g (eqb-true (kind_number t.kind) 24 u), s, v)
      go false false false h e u = let v : number_of (misplaced t).reason ≡ 3 = fault_number ∙ rw e refl in rw (reader_token (length text) n t.start (sign (kind_number t.kind)) (tokens_from text t.end) b, f, s, v)

  -- ---- signs

  pub lit_is : (len k : ℕ) (b : Book) → kind_number t.kind ≡ k → k < 24 → reader len (lit k) (listed text t) b
      ≡ ruling t.start (fault b (part quiet (sign k))) (got tt (tokens_from text t.end) (note b (part quiet (sign k))))
  unfolding sequence find lines skips
  lit_is len k b e h = rw (listed-sign k e h, reader_token len (lit k), eq-eqb k k refl) refl

  pub lit_missing : (k : ℕ) (b : Book) → Fresh text t → (kind_number t.kind ≡ k → ⊥) → reader (length text) (lit k) (listed text t) b ≡ stopped (misplaced t)
  unfolding skips find lines
  lit_missing k b f h = missing (lit k) b f refl (rw (ne_eqb k (kind_number t.kind) (λ z. h (sym z))) refl) (λ x. refl)

  -- ---- factors

  module _ (len : ℕ) (m : Mode) (d : ℕ) (b : Book) where
    abbrev rest : List Lexeme
    rest = tokens_from text t.end

    pub open_is : kind_number t.kind ≡ 21 → reader len (factor m d) (listed text t) b ≡
        ruling t.start (fault b (part (opens (suc d)) (sign 21)))
        (then_reads (or_reader len m (suc d) rest (note b (part (opens (suc d)) (sign 21))))
        (λ e ts b. then_reads (reader len (lit 22) ts b) (λ u ts b. got e ts b)))
    unfolding sequence find lines skips
    open_is h = rw (listed-sign 21 h (omega arith), reader_token len (factor m d)) (simp then_then)

    pub not_is : kind_number t.kind ≡ 14 → reader len (factor m d) (listed text t) b ≡
        ruling t.start (fault b (part (negates (suc d)) (sign 14))) (then_reads (reader len (factor m (suc d)) rest (note b (part (negates (suc d)) (sign 14)))) (λ e ts b. got (not' e) ts b))
    unfolding sequence find lines skips
    not_is h = rw (listed-sign 14 h (omega arith), reader_token len (factor m d)) refl

    pub zero_is : kind_number t.kind ≡ 15 → reader len (factor m d) (listed text t) b ≡ ruling t.start (fault b (part constant (sign 15))) (got false' rest (note b (part constant (sign 15))))
    unfolding sequence find lines skips
    zero_is h = rw (listed-sign 15 h (omega arith), reader_token len (factor m d)) refl

    pub one-is : kind_number t.kind ≡ 16 → reader len (factor m d) (listed text t) b ≡ ruling t.start (fault b (part constant (sign 16))) (got true' rest (note b (part constant (sign 16))))
    unfolding sequence find lines skips
    one-is h = rw (listed-sign 16 h (omega arith), reader_token len (factor m d)) refl

    pub star-is : kind_number t.kind ≡ 17 → reader len (factor m d) (listed text t) b ≡ ruling t.start (fault b (part (chance m) (sign 17))) (got star' rest (note b (part (chance m) (sign 17))))
    unfolding sequence find lines skips
    star-is h = rw (listed-sign 17 h (omega arith), reader_token len (factor m d)) refl

    pub name-is : kind_number t.kind ≡ 24 → reader len (factor m d) (listed text t) b
        ≡ ruling t.start (fault b (part (uses m) (name (name_in text t)))) (got (name' (name_in text t)) rest (note b (part (uses m) (name (name_in text t)))))
    unfolding sequence find lines skips
    name-is h = rw (listed-name h, reader_token len (factor m d)) refl

  pub factor_missing : (m : Mode) (d : ℕ) (b : Book) → Fresh text t → (kind_number t.kind ≡ 15 → ⊥) → (kind_number t.kind ≡ 16 → ⊥) → (kind_number t.kind ≡ 17 → ⊥) → (kind_number t.kind ≡ 24 → ⊥) → (kind_number t.kind ≡ 14 → ⊥) → (kind_number t.kind ≡ 21 → ⊥) →
      reader (length text) (factor m d) (listed text t) b ≡ stopped (misplaced t)
  unfolding skips find lines
  factor_missing m d b k h1 h2 h3 h4 h5 h6 =
      missing (factor m d) b k refl
      (rw (
        ne_eqb 15 (kind_number t.kind) (λ z. h1 (sym z)),
        ne_eqb 16 (kind_number t.kind) (λ z. h2 (sym z)),
        ne_eqb 17 (kind_number t.kind) (λ z. h3 (sym z)),
        ne_eqb 14 (kind_number t.kind)
            (λ z. h5 (sym z)),
        ne_eqb 21 (kind_number t.kind) (λ z. h6 (sym z)),
      ) refl)
      (λ x. absurd (h4 x))

  -- ---- where the loops end

  module _ (len : ℕ) (m : Mode) (d : ℕ) (x : Expr) (b : Book) where
    pub and-stops : (kind_number t.kind ≡ 12 → ⊥) → and_loop len m d x (listed text t) b ≡ got x (listed text t) b
    unfolding skips find lines
    and-stops h = ap (λ (g : Got (Expr → Expr)). then_reads g (λ a ts b. got (a x) ts b)) (passed (ands m d) len b refl (rw (ne_eqb 12 (kind_number t.kind) (λ z. h (sym z))) refl) refl)

    pub or-stops : (kind_number t.kind ≡ 13 → ⊥) → or_loop len m d x (listed text t) b ≡ got x (listed text t) b
    unfolding skips find lines
    or-stops h = ap (λ (g : Got (Expr → Expr)). then_reads g (λ a ts b. got (a x) ts b)) (passed (ors m d) len b refl (rw (ne_eqb 13 (kind_number t.kind) (λ z. h (sym z))) refl) refl)
