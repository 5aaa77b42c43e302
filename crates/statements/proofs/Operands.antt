-- A factor that is one token: a constant, a star or a name.
-- Assumes nothing.
use Rattle.std.specs.Prelude.{Err}
use mathlib.Core.Path.{◌≡◌, refl, sym, ap, ◌∙◌, subst}
use mathlib.Core.Bool.{Bool, true, false, cond, ◌||◌}
use mathlib.Core.List.{List, [], ◌∷◌, ◌++◌}
use mathlib.Core.Option.{Option}
use Prim.Native.Nat.{ℕ, ◌+◌, ◌-◌, ◌≤◌, ◌<◌}
use native.Mathlib.Numerals.{add-one}
use native.Mathlib.Nat.{zero-add}
use native.Mathlib.Omega.{arith}
use lib.ListN.{length}
use borrow.Author.Tests.{lt-ltb, le-ltb}
use Rattle.notation.specs.Tokens.{sign, name, Word}
use Rattle.notation.specs.Notation.{Mode, part, uses, constant, chance, Expr, false', true', star', name'}
use Rattle.notation.specs.Rules.{has, allowed}
use Rattle.notation.specs.Texts.{place_of, among, name_of, expr_of}
use Rattle.notation.specs.Layout.{expr_code}
use Rattle.notation.specs.Model as M
use Rattle.notation.specs.working.Lexing.{tokens_from}
use Rattle.notation.specs.working.Ledger.{note}
use Rattle.notation.specs.working.Descent.{Got, got, ruling}
use Rattle.refusals.specs.declared.Reason.TheVariants.{Undeclared, StarBarred, TooMany}
use Rattle.refusals.specs.declared.Refusal.{Refusal}
use Rattle.refusals.specs.Reasons.{number_of}
use Rattle.lexer.specs.working.Kinds.{kind_number}
use Rattle.lexer.specs.declared.pieces.Piece.{Piece}
use Rattle.statements.specs.declared.cursor.Cursor.{Cursor}
use Rattle.statements.specs.declared.cursor.Ledger.{Ledger}
use Rattle.statements.specs.declared.cursor.Scope.{Scope}
use Rattle.lexer.specs.working.Pieces.{name_in}
use Rattle.lexer.specs.working.Names.{words_in}
use Rattle.statements.specs.working.Names.{shared_words, row_words, names_kept}
use Rattle.statements.specs.working.Cursors.{Parsed, refused_at, stopped, mode_of, book_of, Ready}
use Rattle.statements.specs.working.Expressions.{expr_words, SaysOperand, factor_at, Leaf, Kept}
use Rattle.statements.proofs.Books.{constant_full, constant-fits, chance-barred, chance-many, chance_full, chance-fits, uses-unknown, uses_full, uses-fits, note-constant, note-chance, note-uses}
use Rattle.statements.proofs.Symbols.{zero_is, one-is, star-is, name-is}
use Rattle.lexer.proofs.Lookup.{words-length, words_append, place-among, place_le, place-front, place-append, among-append}
use Rattle.statements.proofs.NameKinds.{shared-name, table-name}
use Rattle.statements.proofs.StoredCode.{wrote_none, was_stopped}
use Rattle.statements.proofs.Factors.{leaf-says}

-- ---- the name that a look-up finds

-- Where the look-up among n words ended: behind them all, or at the word.
pub found_out : (w : Word) (ws : List Word) (n i : ℕ) → length ws ≡ n → i ≡ place_of w ws → i ≡ n → among w ws ≡ false
found_out w ws n i e h z = place-among w ws ∙ le-ltb (place_of w ws) (length ws) (omega arith)

pub found_in_lem : (w : Word) (ws : List Word) (n i : ℕ) → length ws ≡ n → i ≡ place_of w ws → (i ≡ n → ⊥) → (among w ws ≡ true) × (i < n)
found_in_lem w ws n i e h z =
    let k : place_of w ws ≤ length ws = place_le w ws in
    let m : i < n = lt i n (omega arith) z in
    (place-among w ws ∙ lt-ltb (place_of w ws) (length ws) (omega arith), m)
  where
    lt : (i n : ℕ) → i ≤ n → (i ≡ n → ⊥) → i < n
    lt i n h z = omega arith

-- A look-up from the first name on.
pub from_first : (text names : List ℕ) (w : Word) (n i : ℕ) → i ≡ 0 + place_of w (words_in text names 0 (n - 0)) → i ≡ place_of w (words_in text names 0 n)
from_first text names w n i e = let z : n - 0 ≡ n = omega arith in e ∙ zero-add (place_of w (words_in text names 0 (n - 0))) ∙ ap (λ (k : ℕ). place_of w (words_in text names 0 k)) z

-- The names that an expression sees are few.
pub visible-few : (rows : Bool) (a b n : ℕ) → n ≡ cond rows (a + b) a → a + b ≤ 12 → n ≤ 12
visible-few true a b n e h = omega arith
visible-few false a b n e h = omega arith

pub few-found : (text names : List ℕ) (rows : Bool) (a b : ℕ) (w : Word) (n i : ℕ) → n ≡ cond rows (a + b) a → a + b ≤ 12 → i ≡ 0 + place_of w (words_in text names 0 (n - 0)) → (i ≡ n → ⊥) → i < 12
few-found text names rows a b w n i e h f z =
    let k = visible-few rows a b n e h in
    let m = (found_in_lem w (words_in text names 0 n) n i (words-length text names 0 n) (from_first text names w n i f) z).1 in
    omega arith

module _ (text names : List ℕ) (l : Ledger) (w : Word) where
  abbrev ws : List Word
  ws = shared_words text names l

  abbrev vs : List Word
  vs = row_words text names l

  both_words : words_in text names 0 (l.shared + l.row) ≡ ws ++ vs
  both_words = words_append text names 0 l.shared l.row ∙ ap (λ (k : ℕ). ws ++ words_in text names k l.row) (zero-add l.shared)

  -- The code word of a name that stands among the first n names, n being those that an expression of this kind sees.
  pub name-word : (rows : Bool) (n i : ℕ) → n ≡ cond rows (l.shared + l.row) l.shared → i ≡ place_of w (words_in text names 0 n)
      → among w (words_in text names 0 n) ≡ true → expr_code l.shared (name_of ws vs w) ≡ (32 + i) ∷ []
  unfolding name_of expr_code
  name-word false n i e h a =
      let q : among w ws ≡ true = subst (λ (k : ℕ). among w (words_in text names 0 k) ≡ true) e a in
      let p : i ≡ place_of w ws = h ∙ ap (λ (k : ℕ). place_of w (words_in text names 0 k)) e in
      rw q (ap (λ (k : ℕ). (32 + k) ∷ []) (sym p))
  name-word true n i e h a =
      go (among w ws) refl (sym (among-append w ws vs) ∙ ap (among w) (sym both_words) ∙ subst (λ (k : ℕ). among w (words_in text names 0 k) ≡ true) e a)
      (h ∙ ap (λ (k : ℕ). place_of w (words_in text names 0 k)) e ∙ ap (place_of w) both_words)
    where
      go : (x : Bool) → among w ws ≡ x → x || among w vs ≡ true → i ≡ place_of w (ws ++ vs) → expr_code l.shared (cond x (M.shared (place_of w ws)) (M.row (place_of w vs))) ≡ (32 + i) ∷ []
      go true q t p = ap (λ (k : ℕ). (32 + k) ∷ []) (sym (p ∙ place-front w ws vs q))
      go false q t p = ap (λ (k : ℕ). (32 + k) ∷ []) (sym (p ∙ place-append w ws vs q ∙ ap (λ (k : ℕ). k + place_of w vs) (words-length text names 0 l.shared)))

  -- The names that an expression sees are those that the rule allows.
  pub seen : (sc : Scope) (n : ℕ) → n ≡ cond sc.rows (l.shared + l.row) l.shared → has (names_kept text names l) (allowed (mode_of sc)) w ≡ among w (words_in text names 0 n)
  unfolding allowed
  seen sc n e = go sc.rows refl e
    where
      go : (x : Bool) → sc.rows ≡ x → n ≡ cond x (l.shared + l.row) l.shared → has (names_kept text names l) (allowed (mode_of sc)) w ≡ among w (words_in text names 0 n)
      go false q e = shared-name text names l (allowed (mode_of sc)) w refl q refl ∙ ap (λ (k : ℕ). among w (words_in text names 0 k)) (sym e)
      go true q e = table-name text names l (allowed (mode_of sc)) w refl q refl ∙ ap (λ (k : ℕ). among w (words_in text names 0 k)) (sym e)

-- ---- the operands

module _ (text names : List ℕ) (sc : Scope) (l : Ledger) (depth : ℕ) (c : Cursor) (r : Ready text l 0 c) where
  abbrev m : Mode
  m = mode_of sc

  abbrev t : Piece
  t = c.next

  abbrev G : Got Expr
  G = factor_at text names sc l depth c

  module _ (p a : List ℕ) (y : Parsed) where
    pub zero_says : kind_number t.kind ≡ 15 → Leaf text c 0 c.stars p a y → SaysOperand text names l c p G a y
    unfolding expr_words expr_of expr_code
    zero_says u h =
        leaf-says text names sc l depth c r constant (sign 15) false' 0 c.stars p a y (zero_is text t (length text) m (16 - depth) (book_of text names l c) u)
        (constant_full text names l c (sign 15)) (constant-fits text names l c (sign 15)) (λ v. note-constant text names l c v (sign 15)) refl refl r.stars h

    pub one-says : kind_number t.kind ≡ 16 → Leaf text c 1 c.stars p a y → SaysOperand text names l c p G a y
    unfolding expr_words expr_of expr_code
    one-says u h =
        leaf-says text names sc l depth c r constant (sign 16) true' 1 c.stars p a y (one-is text t (length text) m (16 - depth) (book_of text names l c) u)
        (constant_full text names l c (sign 16)) (constant-fits text names l c (sign 16)) (λ v. note-constant text names l c v (sign 16)) refl refl r.stars h

    pub star-says : kind_number t.kind ≡ 17 → sc.stars ≡ true → c.stars < 8 → Leaf text c (64 + c.stars) (c.stars + 1) p a y → SaysOperand text names l c p G a y
    unfolding expr_words expr_of expr_code
    star-says u s k h =
        leaf-says text names sc l depth c r (chance m) (sign 17) star' (64 + c.stars) (c.stars + 1) p a y (star-is text t (length text) m (16 - depth) (book_of text names l c) u)
        (chance_full text names l c (sign 17) m s) (λ n. chance-fits text names l c (sign 17) m s k n) (λ v. note-chance text names l c v m (sign 17)) refl (sym (add-one c.stars)) (omega arith) h

  -- Refused, with nothing stored.
  pub operand_bad : {p : List ℕ} {y q : Refusal} → y ≡ q → G ≡ stopped q → SaysOperand text names l c p G p (Err y)
  unfolding Kept
  operand_bad e h = (was_stopped e h wrote_none, refl)

  pub star-barred : kind_number t.kind ≡ 17 → sc.stars ≡ false → G ≡ stopped (refused_at StarBarred t)
  unfolding number_of
  star-barred u s = star-is text t (length text) m (16 - depth) (book_of text names l c) u
      ∙ ap (λ (o : Option ℕ). ruling t.start o (got star' (tokens_from text t.end) (note (book_of text names l c) (part (chance m) (sign 17)))))
      (chance-barred text names l c (sign 17) m s)

  pub star-many : kind_number t.kind ≡ 17 → sc.stars ≡ true → 8 ≤ c.stars → G ≡ stopped (refused_at TooMany t)
  unfolding number_of
  star-many u s k = star-is text t (length text) m (16 - depth) (book_of text names l c) u
      ∙ ap (λ (o : Option ℕ). ruling t.start o (got star' (tokens_from text t.end) (note (book_of text names l c) (part (chance m) (sign 17)))))
      (chance-many text names l c (sign 17) m s k)

  -- a name, and where the look-up of it ended
  module _ (u : kind_number t.kind ≡ 24) (n i : ℕ) (e : n ≡ cond sc.rows (l.shared + l.row) l.shared) (h : i ≡ place_of (name_in text t).word (words_in text names 0 n)) where
    pub name-unknown : i ≡ n → G ≡ stopped (refused_at Undeclared t)
    unfolding number_of
    name-unknown z =
        name-is text t (length text) m (16 - depth) (book_of text names l c) u
        ∙ ap (λ (o : Option ℕ). ruling t.start o
        (got (name' (name_in text t)) (tokens_from text t.end) (note (book_of text names l c) (part (uses m) (name (name_in text t))))))
        (uses-unknown text names l c (name_in text t) m
        (seen text names l (name_in text t).word sc n e ∙ found_out (name_in text t).word (words_in text names 0 n) n i (words-length text names 0 n) h z))

    pub name-says : (p a : List ℕ) (y : Parsed) → (i ≡ n → ⊥) → Leaf text c (32 + i) c.stars p a y → SaysOperand text names l c p G a y
    unfolding expr_words expr_of
    name-says p a y z k =
        let f = found_in_lem (name_in text t).word (words_in text names 0 n) n i (words-length text names 0 n) h z in
        let s : has (names_kept text names l) (allowed m) (name_in text t).word ≡ true = seen text names l (name_in text t).word sc n e ∙ f.0 in
        leaf-says text names sc l depth c r (uses m) (name (name_in text t)) (name' (name_in text t)) (32 + i) c.stars p a y (name-is text t (length text) m (16 - depth) (book_of text names l c) u)
        (uses_full text names l c (name_in text t) m s) (uses-fits text names l c (name_in text t) m s) (λ v. note-uses text names l c v m (name (name_in text t)))
        (name-word text names l (name_in text t).word sc.rows n i e h f.0) refl r.stars k
