-- The piece that is made of a run of word bytes, or of a mark, is the next of the lexemes of its text.
-- Assumes nothing.
use mathlib.Core.Path.{◌≡◌, refl, sym, ap, ◌∙◌, subst}
use mathlib.Core.Bool.{Bool, true, false, cond}
use mathlib.Core.List.{List, [], ◌∷◌}
use mathlib.Core.Option.{Option, none, some, none-ne-some, some-injective}
use Prim.Native.Nat.{ℕ, zero, suc, ◌+◌, ◌-◌, ◌≤◌, ◌<◌}
use native.Mathlib.Numerals.{add-one}
use native.Mathlib.Omega.{arith}
use lib.Dec.{eqb, ltb, leb}
use lib.ListN.{length, get_or, drop, take, length-drop}
use lib.Seq.{slice, slice-cons, slice_empty, drop-cons, length-slice, take-add, drop_at, length-take-le}
use borrow.Author.Tests.{eq-eqb, ne_eqb, eqb-true, eqb-false, ltb-true, ltb-false, leb-true, leb-false, le-leb, lt-leb}
use Rattle.notation.specs.Bytes.{letter, word_byte, in_lower_case, begins}
use Rattle.notation.specs.Tokens.{sign, name, Word, reserved, word_in, plain_word, word_token, mark_of, ZERO, ONE, STAR, DOT, SEMI, ASSIGN, OPEN, CLOSE, OTHER, longest_word}
use Rattle.notation.specs.working.Lexing.{span, begins_with, Front, one_byte, sign_of, mark, front, tokens_from}
use Rattle.notation.proofs.Lexes.{from_end, from-token}
use Rattle.lexer.specs.declared.pieces.Piece.{Piece}
use Rattle.lexer.specs.working.Kinds.{kind_number, kind_of}
use Rattle.lexer.specs.working.Pieces.{other_case, piece_of, byte_piece, token_of, listed, Fresh, blanks, known_piece, numbered_piece, word_piece, sign_piece, mark_piece, piece_from, piece_at, NAME, BAD, FINISH}
use Rattle.lexer.proofs.KindNumbers.{number_told}
use Rattle.lexer.proofs.Runs.{word-run, run_step, run-last, run-within, Behind, behind_blanks}
use Rattle.lexer.proofs.Spelling.{fifteen, found_below, token-long, token-reserved, token-other, token-one, token-plain, plain_other, plain-digit}

-- Parts of a text.

cut : (s n : ℕ) (text : List ℕ) → s ≤ length text → slice s (s + n) text ≡ take n (drop s text)
cut s n text h = rw take-add (drop_at (take s text) (take n (drop s text)) s (length-take-le s text h))

begins-drop : (text : List ℕ) (i : ℕ) → begins_with 61 (drop i text) ≡ eqb (get_or text i 0) 61
begins-drop [] zero = refl
begins-drop [] (suc i) = refl
begins-drop (a ∷ text) zero = refl
begins-drop (a ∷ text) (suc i) = begins-drop text i

-- Signs.

module _ (text : List ℕ) (k s e : ℕ) (h : k < NAME) where
  sign-number : kind_number (kind_of k) ≡ k
  sign-number = number_told k (omega arith)

  sign-token : token_of text (piece_of k s e) ≡ some (sign k)
  unfolding token_of
  sign-token = rw (sign-number, ne_eqb k BAD (λ z. absurd (omega arith)), ne_eqb k NAME (λ z. absurd (omega arith)))

-- The word from s to e.

module _ (text : List ℕ) (s e : ℕ) (fits : (s < e) × (e ≤ length text)) where
  size : length (slice s e text) ≡ e - s
  size = length-slice s e text fits.1

  first : begins letter (slice s e text) ≡ letter (get_or text s 0)
  first = ap (begins letter) (slice-cons s e text 0 fits.0 fits.1)

  alone : e - s ≡ 1 → slice s e text ≡ get_or text s 0 ∷ []
  alone n =
      let none_left : slice (suc s) e text ≡ [] = ap (λ (i : ℕ). slice i e text) {x = suc s} {y = e} (omega arith) ∙ slice_empty e text in
      slice-cons s e text 0 fits.0 fits.1 ∙ ap (λ (v : Word). get_or text s 0 ∷ v) none_left

-- The piece is the word from s to e.
record Worded (text : List ℕ) (s e : ℕ) (r : Piece) : Type 0 where
  pub start : r.start ≡ s
  pub ends : r.end ≡ e
  pub token : token_of text r ≡ word_token s (slice s e text)
  pub kind : kind_number r.kind < FINISH
  pub short : kind_number r.kind ≡ NAME → e ≤ s + longest_word

-- The word is short and not reserved in any case.
record Plain (text : List ℕ) (s e : ℕ) : Type 0 where
  pub fits : (s < e) × (e ≤ length text)
  pub short : e - s ≤ longest_word
  pub token : word_token s (slice s e text) ≡ some (plain_word s (slice s e text))

module _ {text : List ℕ} {s e : ℕ} where
  is-sign : (k : ℕ) → k < NAME → word_token s (slice s e text) ≡ some (sign k) → Worded text s e (piece_of k s e)
  is-sign k h t = record {
    start = refl;
    ends = refl;
    token = sign-token text k s e h ∙ sym t;
    kind = omega (arith, sign-number text k s e h);
    short = λ z. absurd (omega (arith, sign-number text k s e h));
  }

  module _ (fits : (s < e) × (e ≤ length text)) where
    word-long : longest_word < e - s → Worded text s e (piece_of BAD s e)
    unfolding token_of kind_of
    word-long h =
        let t : word_token s (slice s e text) ≡ none = token-long s (slice s e text) (omega (arith, size text s e fits)) in
        record { start = refl; ends = refl; token = sym t; kind = omega arith; short = λ z. absurd (omega arith) }

    module _ (h : e - s ≤ longest_word) where
      word-reserved : (k : ℕ) → word_in (slice s e text) reserved 0 ≡ some k → Worded text s e (piece_of k s e)
      word-reserved k is =
          is-sign k (omega (arith, found_below (slice s e text) reserved 0 k is, fifteen)) (token-reserved s (slice s e text) (omega (arith, size text s e fits)) k is)

      module _ (is : word_in (slice s e text) reserved 0 ≡ none) where
        word-recased : other_case (slice s e text) ≡ true → Worded text s e (piece_of OTHER s e)
        word-recased o = is-sign OTHER (omega arith) (token-other s (slice s e text) (omega (arith, size text s e fits)) is o)

        plain : other_case (slice s e text) ≡ false → Plain text s e
        plain o = record { fits = fits; short = h; token = token-plain s (slice s e text) (omega (arith, size text s e fits)) is o }

  module _ (p : Plain text s e) where
    word-name : letter (get_or text s 0) ≡ true → Worded text s e (piece_of NAME s e)
    unfolding token_of kind_of
    word-name h =
        let t : word_token s (slice s e text) ≡ some (name (record { place = s; word = in_lower_case (slice s e text) })) = p.token ∙ rw (first text s e p.fits ∙ h) in
        record { start = refl; ends = refl; token = sym t; kind = omega arith; short = λ z. omega arith }

    module _ (h : letter (get_or text s 0) ≡ false) where
      word-other : (e - s ≡ 1 → ⊥) → Worded text s e (piece_of OTHER s e)
      word-other n =
          is-sign OTHER (omega arith) (p.token ∙ ap some (plain_other s (slice s e text) (first text s e p.fits ∙ h) (λ z. n (sym (size text s e p.fits) ∙ z))))

      module _ (n : e - s ≡ 1) where
        digit : word_token s (slice s e text) ≡ some (cond (eqb (get_or text s 0) 48) (sign ZERO) (cond (eqb (get_or text s 0) 49) (sign ONE) (sign OTHER)))
        digit = p.token ∙ ap some (ap (plain_word s) (alone text s e p.fits n) ∙ plain-digit s (get_or text s 0) h)

        word_zero : get_or text s 0 ≡ 48 → Worded text s e (piece_of ZERO s e)
        word_zero i = is-sign ZERO (omega arith) (digit ∙ rw (eq-eqb _ _ i))

        word-one : (get_or text s 0 ≡ 48 → ⊥) → get_or text s 0 ≡ 49 → Worded text s e (piece_of ONE s e)
        word-one i j = is-sign ONE (omega arith) (digit ∙ rw (ne_eqb _ _ i, eq-eqb _ _ j))

        word-digit : (get_or text s 0 ≡ 48 → ⊥) → (get_or text s 0 ≡ 49 → ⊥) → Worded text s e (piece_of OTHER s e)
        word-digit i j = is-sign OTHER (omega arith) (digit ∙ rw (ne_eqb _ _ i, ne_eqb _ _ j))

  -- By the tests that the definition makes.
  by_test : {t u : Piece} (x : Bool) → (x ≡ true → Worded text s e t) → (x ≡ false → Worded text s e u) → Worded text s e (cond x t u)
  by_test true a b = a refl
  by_test false a b = b refl

  either : {t : Piece} (x : Bool) → (x ≡ true → Worded text s e t) → (x ≡ false → Worded text s e t) → Worded text s e t
  either true a b = a refl
  either false a b = b refl

  by_find : {t : Piece} (o : Option ℕ) → ((k : ℕ) → o ≡ some k → Worded text s e (piece_of k s e)) → (o ≡ none → Worded text s e t) → Worded text s e (known_piece o s e t)
  by_find none a b = b refl
  by_find (some k) a b = a k refl

  byte_worded : (s < e) × (e ≤ length text) → e - s < 2 → Worded text s e (byte_piece (get_or text s 0) s e)
  unfolding byte_piece
  byte_worded fits h =
      let b = get_or text s 0 in
      let one : e - s ≡ 1 = omega arith in
      let word : slice s e text ≡ b ∷ [] = alone text s e fits one in
      let p : Plain text s e = record { fits = fits; short = omega arith; token = rw word (token-one s b) } in
      by_test (letter b) (λ l. word-name p l)
      (λ l. by_test (eqb b 48) (λ z. word_zero p l one (eqb-true b 48 z))
      (λ z. by_test (eqb b 49) (λ o. word-one p l one (eqb-false b 48 z) (eqb-true b 49 o))
      (λ o. word-digit p l one (eqb-false b 48 z) (eqb-false b 49 o))))

  worded : (s < e) × (e ≤ length text) → Worded text s e (word_piece text s e)
  unfolding word_piece numbered_piece
  worded fits =
      let b = get_or text s 0 in
      let w = slice s e text in
      by_test (ltb (e - s) 2) (λ h. byte_worded fits (ltb-true (e - s) 2 h))
      (λ q. by_test (ltb longest_word (e - s)) (λ h. word-long fits (ltb-true longest_word (e - s) h))
      (λ h. let short : e - s ≤ longest_word = ltb-false longest_word (e - s) h in
      by_find (word_in w reserved 0) (λ k f. word-reserved fits short k f)
      (λ f. by_test (letter b)
      (λ l. by_test (other_case w) (λ o. word-recased fits short f o) (λ o. word-name (plain fits short f o) l))
      (λ l. let many : 2 ≤ e - s = ltb-false (e - s) 2 q in either (other_case w) (λ o. word-recased fits short f o)
      (λ o. word-other (plain fits short f o) l (λ z. omega arith))))))

-- The piece that stands at the front.

record Fronts (text : List ℕ) (s : ℕ) (f : Front) (t : Piece) : Type 0 where
  pub start : t.start ≡ s
  pub ends : t.end ≡ suc (s + f.more)
  pub token : token_of text t ≡ f.token
  pub kind : kind_number t.kind < FINISH
  pub fresh : Fresh text t

sign_fronts : {text : List ℕ} {s : ℕ} (k m e : ℕ) → k < NAME → e ≡ suc (s + m) → e ≤ length text → Fronts text s (record { token = some (sign k); more = m }) (piece_of k s e)
sign_fronts {text} {s} k m e h q i = record {
  start = refl;
  ends = q;
  token = sign-token text k s e h;
  kind = omega (arith, sign-number text k s e h);
  fresh = let n = sign-number text k s e h in
      record { last = λ z. absurd (omega arith); ordered = omega arith; inside = i; short = λ z. absurd (omega arith); named = λ z. absurd (omega arith) };
}

either_fronts : {text : List ℕ} {s : ℕ} {f g : Front} {t u : Piece} (x : Bool) → Fronts text s f t → Fronts text s g u → Fronts text s (cond x f g) (cond x t u)
either_fronts true a b = a
either_fronts false a b = b

sign_of_lem : (x : Bool) (n k : ℕ) (o : Option ℕ) → n < 24 → (o ≡ some k → k < 24) → cond x (some n) o ≡ some k → k < 24
sign_of_lem true n k o h g e = subst (λ (i : ℕ). i < 24) (some-injective _ _ e) h
sign_of_lem false n k o h g e = g e

-- The marks of one byte are signs.
mark-sign : (b k : ℕ) → mark_of b ≡ some k → k < 24
mark-sign b k =
    sign_of_lem (eqb b 46) DOT k _ (omega arith) (sign_of_lem (eqb b 59) SEMI k _ (omega arith) (sign_of_lem (eqb b 40) OPEN k _ (omega arith) (sign_of_lem (eqb b 41) CLOSE k _ (omega arith)
    (sign_of_lem (eqb b 42) STAR k _ (omega arith) (sign_of_lem (eqb b 61) OTHER k none (omega arith) (λ e. absurd (none-ne-some _ e)))))))

module _ {text : List ℕ} {s : ℕ} (h : s < length text) where
  one_fronts : (k : ℕ) → k < NAME → Fronts text s (one_byte (some (sign k))) (piece_of k s (s + 1))
  one_fronts k i = sign_fronts k 0 (s + 1) i (omega arith) (omega arith)

  barred_fronts : Fronts text s (one_byte none) (piece_of BAD s (s + 1))
  unfolding token_of kind_of
  barred_fronts = record {
    start = refl;
    ends = omega arith;
    token = refl;
    kind = omega arith;
    fresh = record { last = λ z. absurd (omega arith); ordered = omega arith; inside = omega arith; short = λ z. absurd (omega arith); named = λ z. absurd (omega arith) };
  }

  -- A colon with the bytes that follow, of which `next` is the first.
  colon_fronts : (next : ℕ) (bs : List ℕ) → begins_with 61 bs ≡ eqb next 61 → s + 1 + length bs ≡ length text →
      Fronts text s (cond (begins_with 61 bs) (record { token = some (sign ASSIGN); more = 1 }) (one_byte (some (sign OTHER))))
      (cond (eqb next 61) (piece_of ASSIGN s (s + 2)) (piece_of OTHER s (s + 1)))
  colon_fronts next [] e l = rw (sym e) (one_fronts OTHER (omega arith))
  colon_fronts next (a ∷ bs) e l = rw e (either_fronts (eqb next 61) (sign_fronts ASSIGN 1 (s + 2) (omega arith) (omega arith) (omega arith)) (one_fronts OTHER (omega arith)))

  mark_fronts : (b next : ℕ) (bs : List ℕ) → begins_with 61 bs ≡ eqb next 61 → s + 1 + length bs ≡ length text → Fronts text s (mark b bs) (mark_piece b next s)
  unfolding mark mark_piece
  mark_fronts b next bs e l = either_fronts (eqb b 58) (colon_fronts next bs e l) (go (mark_of b) (mark-sign b))
    where
      go : (o : Option ℕ) → ((k : ℕ) → o ≡ some k → k < 24) → Fronts text s (one_byte (sign_of o)) (sign_piece s o)
      go none h = barred_fronts
      go (some k) h = one_fronts k (h k refl)

-- A byte of a word is not 0.
word_some : (b : ℕ) → word_byte b ≡ true → 0 < b
word_some zero h = let z : ◌≡◌ {A = ℕ} 0 1 = cc in absurd (omega arith)
word_some (suc b) h = omega arith

-- The next piece.

-- The piece is the next one from place i on.
pub record Tokened (text : List ℕ) (i : ℕ) (t : Piece) : Type 0 where
  pub tokens : tokens_from text i ≡ listed text t
  pub fresh : Fresh text t

piece_end : {text : List ℕ} {i s : ℕ} → Behind text i s → length text ≤ s → Tokened text i (piece_of FINISH (length text) (length text))
unfolding listed kind_of
piece_end {text} {s = s} b h =
    record { tokens = b.same ∙ from_end text s h; fresh = record { last = λ z. refl; ordered = omega arith; inside = omega arith; short = λ z. absurd (omega arith); named = λ z. absurd (omega arith) } }

module _ {text : List ℕ} {i s : ℕ} (b : Behind text i s) (within : s < length text) where
  fronts : (t : Piece) → Fronts text s (front s (get_or text s 0) (drop (suc s) text)) t → Tokened text i t
  unfolding listed
  fronts t f = record {
    tokens = b.same ∙ from-token text s within (b.held within) ∙ sym (rw (ne_eqb (kind_number t.kind) FINISH (λ z. absurd (omega arith)), f.token, f.start, f.ends));
    fresh = f.fresh;
  }

  piece_mark : word_byte (get_or text s 0) ≡ false → Tokened text i (mark_piece (get_or text s 0) (get_or text (s + 1) 0) s)
  unfolding front
  piece_mark e =
      let m = mark_fronts {text = text} within (get_or text s 0) (get_or text (s + 1) 0) (drop (suc s) text) (rw add-one (begins-drop text (suc s))) (simp length-drop (omega arith)) in
      fronts (mark_piece (get_or text s 0) (get_or text (s + 1) 0) s) (rw e m)

  piece_word : word_byte (get_or text s 0) ≡ true → Tokened text i (word_piece text s (s + span (drop s text)))
  unfolding front
  piece_word w =
      let e = s + span (drop s text) in
      let run : span (drop s text) ≡ suc (span (drop (suc s) text)) = run_step word-run text s within w in
      let fits : (s < e) × (e ≤ length text) = (omega arith, run-within word-run text s (omega arith)) in
      let q = worded {text = text} fits in
      let word : slice s e text ≡ take (suc (span (drop (suc s) text))) (get_or text s 0 ∷ drop (suc s) text) =
      cut s (span (drop s text)) text (omega arith) ∙ rw (run, drop-cons text s 0 within) in
      fronts (word_piece text s e) (rw w (record {
        start = q.start;
        ends = q.ends ∙ omega (arith, run);
        token = q.token ∙ ap (word_token s) word;
        kind = q.kind;
        fresh = record {
          last = λ z. absurd (omega (arith, q.kind));
          ordered = omega (arith, q.start, q.ends);
          inside = omega (arith, q.ends);
          short = λ z. omega (arith, q.start, q.ends, q.short z);
          named = λ z. (omega (arith, q.start, q.ends), rw q.ends (word_some _ (run-last word-run text (length text) s (omega arith) within w)));
        };
      }))

pub tokened : (text : List ℕ) (i : ℕ) → Tokened text i (piece_at text i)
unfolding piece_at piece_from
tokened text i = go (leb (length text) s) (word_byte (get_or text s 0)) refl refl
  where
    s : ℕ
    s = i + blanks (drop i text)

    b : Behind text i s
    b = behind_blanks text (length text) i (omega arith)

    go : (x y : Bool) → leb (length text) s ≡ x → word_byte (get_or text s 0) ≡ y →
        Tokened text i (cond x (piece_of FINISH (length text) (length text)) (cond y (word_piece text s (s + span (drop s text))) (mark_piece (get_or text s 0) (get_or text (s + 1) 0) s)))
    go true y e f = piece_end b (leb-true (length text) s e)
    go false true e f = piece_word b (leb-false (length text) s e) f
    go false false e f = piece_mark b (leb-false (length text) s e) f

pub is_tokened : {text : List ℕ} {i : ℕ} {t : Piece} → t ≡ piece_at text i → Tokened text i t
is_tokened {text} {i} e = subst (λ (z : Piece). Tokened text i z) (sym e) (tokened text i)

-- A piece made at the place s behind the blanks.
module _ (text : List ℕ) (i s : ℕ) {r : Piece} (is : s ≡ i + blanks (drop i text)) where
  from-here : r ≡ piece_from text s → r ≡ piece_at text i
  unfolding piece_at
  from-here q = q ∙ ap (piece_from text) is

  pub at-end : length text ≤ s → r ≡ piece_of FINISH (length text) (length text) → r ≡ piece_at text i
  unfolding piece_from
  at-end h q = from-here (q ∙ rw (le-leb (length text) s h))

  module _ (within : s < length text) where
    pub at-word : {e : ℕ} → word_byte (get_or text s 0) ≡ true → e ≡ s + span (drop s text) → r ≡ word_piece text s e → r ≡ piece_at text i
    unfolding piece_from
    at-word w k q = from-here (q ∙ ap (word_piece text s) k ∙ rw (lt-leb (length text) s within, w))

    pub at_mark : {next : ℕ} → word_byte (get_or text s 0) ≡ false → next ≡ get_or text (s + 1) 0 → r ≡ mark_piece (get_or text s 0) next s → r ≡ piece_at text i
    unfolding piece_from
    at_mark w k q = from-here (q ∙ ap (λ (b : ℕ). mark_piece (get_or text s 0) b s) k ∙ rw (lt-leb (length text) s within, w))
