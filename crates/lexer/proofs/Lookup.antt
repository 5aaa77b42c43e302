-- Looking a word up among the declared names, byte by byte or eight bytes at a time, finds its place among their words, which says whether it is a name.
-- Assumes nothing.
use mathlib.Core.Path.{◌≡◌, refl, sym, ap, ◌∙◌}
use mathlib.Core.Bool.{Bool, true, false, cond, ◌&&◌, ◌||◌, and-true, and-false, and_assoc, or_assoc}
use mathlib.Core.Logic.{◌⊎◌, inl, inr}
use mathlib.Core.List.{List, [], ◌∷◌, ◌++◌}
use Prim.Native.Nat.{ℕ, zero, suc, ◌+◌, ◌-◌, ◌≤◌, ◌<◌}
use native.Mathlib.Nat.{add-zero, zero-add, suc-add}
use native.Mathlib.Numerals.{add-one}
use native.Mathlib.Omega.{arith}
use lib.Dec.{eqb, leb, ltb, leb-suc-suc}
use lib.ListN.{length, get_or, set, take, drop, length-set}
use lib.Seq.{slice, slice-cons, slice_empty, length-slice, get_or-set_same, get_or-set_other}
use borrow.Author.Tests.{leb-true, ltb-true, ltb-false, lt-ltb, le-ltb, eq-eqb, ne_eqb}
use Rattle.std.specs.Prelude as C
use Rattle.std.specs.Prelude.{Some, None, is_some}
use Rattle.std.specs.Int.{from_le_bytes, w64}
use Rattle.std.proofs.lemmas.List.{drop-take}
use Rattle.std.proofs.lemmas.Nat.{le_bytes_8}
use Rattle.notation.specs.Bytes.{between, lower_case, in_lower_case, same_word, upper_letter}
use Rattle.notation.specs.Tokens.{Word}
use Rattle.notation.specs.Texts.{among, place_of}
use Rattle.notation.proofs.Booleans.{and_split}
use Rattle.notation.proofs.Case.{lower-length, same_word_lem, same_itself}
use Rattle.lexer.specs.declared.pieces.Piece.{Piece}
use Rattle.lexer.specs.working.Pieces.{name_in, Fresh}
use Rattle.lexer.specs.working.Names.{upper_case, Ending, window, same_first, left_to_compare, word_at, words_in, name_found}
use Rattle.lexer.proofs.Spelling.{lengths_differ, upper_le, upper_ge, lower-upper, lower-stays, upper-below, upper-small}

-- ---- windows of the text

window-length : (text : List ℕ) (a n : ℕ) → length (window text a n) ≡ n
unfolding window
window-length text a zero = refl
window-length text a (suc n) = ap suc (window-length text (suc a) n)

window-from : (text : List ℕ) (e s n : ℕ) → s + n ≡ e → e ≤ length text → window text s n ≡ slice s e text
unfolding window
window-from text e s zero h k = let i : s ≡ e = omega arith in rw i (sym (slice_empty e text))
window-from text e s (suc n) h k = rw (window-from text e (suc s) n (omega arith) k) (sym (slice-cons s e text 0 (omega arith) k))

window-slice : (text : List ℕ) (s e : ℕ) → s ≤ e → e ≤ length text → window text s (e - s) ≡ slice s e text
window-slice text s e h k = window-from text e s (e - s) (omega arith) k

-- The word of a piece, and its length.
module _ (text : List ℕ) (t : Piece) (f : Fresh text t) where
  pub piece_word : in_lower_case (window text t.start (t.end - t.start)) ≡ (name_in text t).word
  piece_word = ap in_lower_case (window-slice text t.start t.end f.ordered f.inside)

  pub piece_length : length (name_in text t).word ≡ t.end - t.start
  piece_length = lower-length (slice t.start t.end text) ∙ length-slice t.start t.end text f.inside

-- The piece from s to e against the name i, of n bytes from a on.
module _ (text names : List ℕ) (i s e a n : ℕ) (h : s ≤ e) (k : e ≤ length text) (p : a ≡ get_or names i 0) (q : n ≡ get_or names (28 + i) 0) where
  pub other_name : (e - s ≡ n → ⊥) → false ≡ same_word (in_lower_case (slice s e text)) (word_at text names i)
  unfolding word_at
  other_name d =
      lengths_differ _ _
      (λ z. d (sym (length-slice s e text k) ∙ sym (lower-length _) ∙ z ∙ lower-length _ ∙ window-length text _ _ ∙ sym q))

  pub this_name : e - s ≡ n → same_first text a s n ≡ same_word (in_lower_case (slice s e text)) (word_at text names i)
  unfolding same_first word_at
  this_name g = rw (sym p, sym q, sym g, window-slice text s e h k)

-- ---- two windows, compared from their ends

module _ (text : List ℕ) where
  -- The first k bytes, and the m behind them.
  same_split : (a b k m : ℕ) → same_first text a b (k + m) ≡ same_first text a b k && same_first text (a + k) (b + k) m
  unfolding same_first same_word in_lower_case window
  same_split a b zero m = simp (zero-add, add-zero)
  same_split a b (suc k) m =
      let f : b + suc k ≡ suc b + k = omega arith in
      let g : a + suc k ≡ suc a + k = omega arith in
      rw (suc-add k m, f, g)
      (ap (λ (x : Bool). eqb (lower_case (get_or text b 0)) (lower_case (get_or text a 0)) && x) (same_split (suc a) (suc b) k m) ∙
      sym (and_assoc (eqb (lower_case (get_or text b 0)) (lower_case (get_or text a 0))) (same_first text (suc a) (suc b) k) (same_first text (suc a + k) (suc b + k) m)))

  same-one : (a b : ℕ) → same_first text a b 1 ≡ eqb (lower_case (get_or text b 0)) (lower_case (get_or text a 0))
  unfolding same_first same_word in_lower_case window
  same-one a b = and-true _

  module _ (a b k j : ℕ) (h : j + 1 ≡ k) where
    same-last : same_first text a b k ≡ same_first text a b j && eqb (lower_case (get_or text (b + j) 0)) (lower_case (get_or text (a + j) 0))
    same-last = ap (same_first text a b) (sym h) ∙ same_split a b j 1 ∙ ap (λ (x : Bool). same_first text a b j && x) (same-one (a + j) (b + j))

    pub last-no : eqb (lower_case (get_or text (b + j) 0)) (lower_case (get_or text (a + j) 0)) ≡ false → false ≡ same_first text a b k
    last-no d = sym (same-last ∙ rw d (and-false (same_first text a b j)))

    pub last_more : eqb (lower_case (get_or text (b + j) 0)) (lower_case (get_or text (a + j) 0)) ≡ true → same_first text a b j ≡ same_first text a b k
    last_more d = sym (same-last ∙ rw d (and-true (same_first text a b j)))

  pub none_left : (a b k : ℕ) → k ≤ 0 → true ≡ same_first text a b k
  unfolding same_first same_word in_lower_case window
  none_left a b k h = let e : k ≡ 0 = omega arith in rw e

  -- Eight bytes at once.
  window-fits : (i n : ℕ) → ((j : ℕ) → j < n → get_or text (i + j) 0 < 256) → (k : ℕ) → get_or (window text i n) k 0 < 256
  unfolding window
  window-fits i zero f k = omega arith
  window-fits i (suc n) f zero = rw (add-zero i) at (f 0 (omega arith))
  window-fits i (suc n) f (suc k) =
      window-fits (suc i) n (λ j h. let e : suc i + j ≡ i + suc j = omega arith in rw e (f (suc j) (omega (arith, h)))) k

  -- Eight bytes of the text as the code takes them are those of the window.
  pub eight_taken : (i x : ℕ) → i + 8 ≤ length text → x ≡ from_le_bytes w64 (take 8 (drop i text)) → x ≡ from_le_bytes w64 (window text i 8)
  eight_taken i x h p = p ∙ ap (from_le_bytes w64) (sym (window-from text (i + 8) i 8 refl h ∙ drop-take i 8 text))

  -- Two numbers are the same exactly if their digits are.
  module _ (a b x y : ℕ) (f : (j : ℕ) → j < 8 → get_or text (b + j) 0 < 256) (g : (j : ℕ) → j < 8 → get_or text (a + j) 0 < 256)
      (p : x ≡ from_le_bytes w64 (window text b 8)) (q : y ≡ from_le_bytes w64 (window text a 8)) where
    pub packs_same : eqb x y ≡ same_word (window text b 8) (window text a 8)
    packs_same = go (same_word (window text b 8) (window text a 8)) refl
      where
        go : (s : Bool) → same_word (window text b 8) (window text a 8) ≡ s → eqb x y ≡ s
        go true e = eq-eqb x y (p ∙ ap (from_le_bytes w64) (same_word_lem _ _ e) ∙ sym q)
        go false e =
            let u = le_bytes_8 (window text b 8) x (window-length text b 8) (window-fits b 8 f) p in
            let v = le_bytes_8 (window text a 8) y (window-length text a 8) (window-fits a 8 g) q in
            ne_eqb x y (λ z. let w : window text b 8 ≡ window text a 8 = cc in let n : ◌≡◌ {A = Bool} true false = sym (same_itself (window text a 8)) ∙ ap (λ (v : Word). same_word v (window text a 8)) (sym w) ∙ e in let r : ◌≡◌ {A = ℕ} 0 1 = cc in absurd (omega arith))

  -- The same of eight bytes as the code takes them, of a text whose elements are bytes.
  module _ (fits : (j : ℕ) → get_or text j 0 < 256) where
    module _ (a b x y : ℕ) (h : a + 8 ≤ length text) (k : b + 8 ≤ length text) (p : x ≡ from_le_bytes w64 (take 8 (drop b text))) (q : y ≡ from_le_bytes w64 (take 8 (drop a text))) where
      pub eight_same : eqb x y ≡ same_word (window text b 8) (window text a 8)
      eight_same = packs_same a b x y (λ j _. fits (b + j)) (λ j _. fits (a + j)) (eight_taken b x k p) (eight_taken a y h q)

  -- What is the same as written is the same but for case.
  written_same : (a b n : ℕ) → same_word (window text b n) (window text a n) ≡ true → same_first text a b n ≡ true
  unfolding same_first
  written_same a b n e = rw (same_word_lem (window text b n) (window text a n) e) (same_itself (in_lower_case (window text a n)))

  module _ (a b k : ℕ) where
    pub left_le : left_to_compare text a b k ≤ k
    unfolding left_to_compare
    left_le = go (ltb k 8) (same_word (window text (b + (k - 8)) 8) (window text (a + (k - 8)) 8))
      where
        go : (x y : Bool) → cond x k (cond y (k - 8) k) ≤ k
        go true y = omega arith
        go false true = omega arith
        go false false = omega arith

    pub left_same : same_first text a b (left_to_compare text a b k) ≡ same_first text a b k
    unfolding left_to_compare
    left_same = go (ltb k 8) refl (same_word (window text (b + m) 8) (window text (a + m) 8)) refl
      where
        m : ℕ
        m = k - 8

        go : (x : Bool) → ltb k 8 ≡ x → (y : Bool) → same_word (window text (b + m) 8) (window text (a + m) 8) ≡ y → same_first text a b (cond x k (cond y m k)) ≡ same_first text a b k
        go true e y f = refl
        go false e true f =
            let q : m + 8 ≡ k = omega (arith, ltb-false k 8 e) in
            sym (ap (same_first text a b) (sym q) ∙ same_split a b m 8 ∙ rw (written_same (a + m) (b + m) 8 f) (and-true (same_first text a b m)))
        go false e false f = refl

-- ---- the last byte of a word

-- What is the same but for case is the byte in lower or in upper case.
same-either : (x y : ℕ) → lower_case x ≡ lower_case y → (y ≡ lower_case x) ⊎ (y ≡ upper_case x)
same-either x y h = go (upper_letter y) refl h (upper_letter x) refl
  where
    go : (q : Bool) → upper_letter y ≡ q → lower_case x ≡ cond q (y + 32) y → (p : Bool) → upper_letter x ≡ p → (y ≡ lower_case x) ⊎ (y ≡ upper_case x)
    go false f h p e = inl (sym h)
    go true f h true e =
        let k : x + 32 ≡ y + 32 = lower-upper x e ∙ h in
        let q : y ≡ x = omega arith in
        inr (q ∙ upper-below x (omega (arith, upper_le x e)))
    go true f h false e =
        let k : x ≡ y + 32 = lower-stays x e ∙ h in
        let q : y ≡ x - 32 = omega arith in
        let l = upper_ge y f in
        let m = upper_le y f in
        inr (q ∙ upper-small x (omega arith) (omega arith))

module _ (x : ℕ) {lower upper : ℕ} (l : lower ≡ lower_case x) (u : upper ≡ upper_case x) where
  last_neither : (y : ℕ) → (y ≡ lower → ⊥) → (y ≡ upper → ⊥) → eqb (lower_case x) (lower_case y) ≡ false
  last_neither y a b = ne_eqb (lower_case x) (lower_case y) (λ z. go (same-either x y z))
    where
      go : (y ≡ lower_case x) ⊎ (y ≡ upper_case x) → ⊥
      go (inl e) = a (e ∙ sym l)
      go (inr e) = b (e ∙ sym u)

  -- What is one of the two is not 0 where the byte is not.
  module _ (h : 0 < x) where
    lower-some : 0 < lower
    lower-some = rw l (go (upper_letter x))
      where
        go : (q : Bool) → 0 < cond q (x + 32) x
        go true = omega arith
        go false = h

    upper-some : 0 < upper
    upper-some = rw u (go (between 97 122 x) refl)
      where
        go : (q : Bool) → between 97 122 x ≡ q → 0 < cond q (x - 32) x
        go true e = let k = leb-true 97 x (and_split (leb 97 x) (leb x 122) e).0 in omega arith
        go false e = h

    one-some : (y : ℕ) → ((y ≡ lower → ⊥) × (y ≡ upper)) ⊎ (y ≡ lower) → 0 < y
    one-some y (inl e) = omega (arith, upper-some)
    one-some y (inr e) = omega (arith, lower-some)

-- A byte that is not 0 is one of the text.
byte_inside : (text : List ℕ) (j : ℕ) → 0 < get_or text j 0 → j < length text
byte_inside [] j h = absurd (omega arith)
byte_inside (a ∷ text) zero h = omega arith
byte_inside (a ∷ text) (suc j) h = omega (arith, byte_inside text j h)

-- The byte y at the place where n bytes from a on end, against the last byte of a word as long.
module _ {text : List ℕ} {s e lower upper : ℕ} (E : Ending text s e lower upper) (a n y : ℕ) (g : e - s ≡ n) (q : y ≡ get_or text (a + (n - 1)) 0) where
  pub ending-no : (y ≡ lower → ⊥) → (y ≡ upper → ⊥) → false ≡ same_first text a s n
  ending-no h k =
      let l : s + (n - 1) ≡ e - 1 = omega (arith, E.filled) in
      last-no text a s n (n - 1) (omega (arith, E.filled)) (rw (l, sym q) (last_neither (get_or text (e - 1) 0) E.in_lower E.in_upper y h k))

  pub ending-inside : ((y ≡ lower → ⊥) × (y ≡ upper)) ⊎ (y ≡ lower) → a + n ≤ length text
  ending-inside h =
      let z : a + (n - 1) < length text = byte_inside text (a + (n - 1)) (rw (sym q) (one-some (get_or text (e - 1) 0) E.in_lower E.in_upper E.some y h)) in
      omega (arith, E.filled)

-- ---- the place of a word among words

module _ (w : Word) where
  pub place_le : (ws : List Word) → place_of w ws ≤ length ws
  unfolding place_of
  place_le [] = omega arith
  place_le (v ∷ ws) = go (same_word w v) (place_le ws)
    where
      go : (x : Bool) → place_of w ws ≤ length ws → cond x 0 (suc (place_of w ws)) ≤ suc (length ws)
      go true h = omega arith
      go false h = omega arith

  pub place-among : (ws : List Word) → among w ws ≡ ltb (place_of w ws) (length ws)
  unfolding place_of among
  place-among [] = refl
  place-among (v ∷ ws) = go (same_word w v) (place-among ws)
    where
      go : (x : Bool) → among w ws ≡ ltb (place_of w ws) (length ws) → x || among w ws ≡ ltb (cond x 0 (suc (place_of w ws))) (suc (length ws))
      go true e = sym (lt-ltb 0 (suc (length ws)) (omega arith))
      go false e = e ∙ sym (leb-suc-suc (suc (place_of w ws)) (length ws))

  pub among-append : (ws vs : List Word) → among w (ws ++ vs) ≡ among w ws || among w vs
  unfolding among
  among-append [] vs = refl
  among-append (v ∷ ws) vs = rw (among-append ws vs) (sym (or_assoc (same_word w v) (among w ws) (among w vs)))

  pub place-front : (ws vs : List Word) → among w ws ≡ true → place_of w (ws ++ vs) ≡ place_of w ws
  unfolding place_of among
  place-front [] vs h = cc
  place-front (v ∷ ws) vs h = go (same_word w v) h (place-front ws vs)
    where
      go : (x : Bool) → x || among w ws ≡ true → (among w ws ≡ true → place_of w (ws ++ vs) ≡ place_of w ws) → cond x 0 (suc (place_of w (ws ++ vs))) ≡ cond x 0 (suc (place_of w ws))
      go true h f = refl
      go false h f = ap suc (f h)

  pub place-append : (ws vs : List Word) → among w ws ≡ false → place_of w (ws ++ vs) ≡ length ws + place_of w vs
  unfolding place_of among
  place-append [] vs h = sym (zero-add (place_of w vs))
  place-append (v ∷ ws) vs h = go (same_word w v) h (place-append ws vs)
    where
      go : (x : Bool) → x || among w ws ≡ false → (among w ws ≡ false → place_of w (ws ++ vs) ≡ length ws + place_of w vs)
          → cond x 0 (suc (place_of w (ws ++ vs))) ≡ suc (length ws) + place_of w vs
      go true h f = cc
      go false h f = omega (arith, f h)

-- ---- the words of the names

module _ (text names : List ℕ) where
  pub words-length : (i n : ℕ) → length (words_in text names i n) ≡ n
  unfolding words_in
  words-length i zero = refl
  words-length i (suc n) = ap suc (words-length (suc i) n)

  pub words_append : (i m n : ℕ) → words_in text names i (m + n) ≡ words_in text names i m ++ words_in text names (i + m) n
  unfolding words_in
  words_append i zero n = rw (zero-add, add-zero)
  words_append i (suc m) n =
      let e : i + suc m ≡ suc i + m = omega arith in
      rw (suc-add, e, words_append (suc i) m n)

below_shift : (i p to : ℕ) → ltb p (to - i) ≡ ltb (i + p) to
below_shift i p to = go (ltb p (to - i)) refl
  where
    go : (x : Bool) → ltb p (to - i) ≡ x → ltb p (to - i) ≡ ltb (i + p) to
    go true e = e ∙ sym (lt-ltb (i + p) to (omega (arith, ltb-true p (to - i) e)))
    go false e = e ∙ sym (le-ltb (i + p) to (omega (arith, ltb-false p (to - i) e)))

-- A word looked up among the names up to `to`.
module _ (text names : List ℕ) (w : Word) (to : ℕ) where
  -- The first name from i on that it is.
  abbrev pub found_from : ℕ → ℕ
  found_from i = i + place_of w (words_in text names i (to - i))

  module _ (i : ℕ) (h : i < to) where
    found_turn : place_of w (words_in text names i (to - i)) ≡ cond (same_word w (word_at text names i)) 0 (suc (place_of w (words_in text names (i + 1) (to - (i + 1)))))
    unfolding place_of words_in
    found_turn =
        let e : to - i ≡ suc (to - (i + 1)) = omega arith in
        rw (e, add-one i)

    pub found_here : same_word w (word_at text names i) ≡ true → i ≡ found_from i
    found_here t = rw (found_turn, t) (omega arith)

    pub found_later : same_word w (word_at text names i) ≡ false → found_from (i + 1) ≡ found_from i
    found_later t = rw (found_turn, t) (omega arith)

  pub found_none : (i : ℕ) → to ≤ i → i ≡ found_from i
  unfolding place_of words_in
  found_none i h = let e : to - i ≡ 0 = omega arith in rw e (omega arith)

  -- It is one of the names from i on.
  pub found_among : (i : ℕ) → among w (words_in text names i (to - i)) ≡ ltb (found_from i) to
  found_among i = place-among w (words_in text names i (to - i)) ∙ rw (words-length text names i (to - i)) (below_shift i _ to)

-- What the code tells of it.
pub some_name : {to i k : ℕ} → name_found to i ≡ Some k → (k ≡ i) × (k ≡ to → ⊥)
some_name {to} {i} {k} h = go (ltb i to) refl h
  where
    go : (x : Bool) → ltb i to ≡ x → cond x (Some i) None ≡ Some k → (k ≡ i) × (k ≡ to → ⊥)
    go true e h = let q : k ≡ i = cc in (q, λ z. absurd (omega (arith, ltb-true i to e)))
    go false e h = cc

-- Whether it is one of them.
module _ (to i : ℕ) {r : C.Option ℕ} {b : Bool} (h : r ≡ name_found to i) (k : b ≡ is_some r) where
  told : b ≡ ltb i to
  told = k ∙ ap is_some h ∙ go (ltb i to)
    where
      go : (x : Bool) → is_some (cond x (Some i) None) ≡ x
      go true = refl
      go false = refl

  pub was_named : b ≡ true → i < to
  was_named e = ltb-true i to (sym told ∙ e)

  pub not_named : b ≡ false → to ≤ i
  not_named e = ltb-false i to (sym told ∙ e)

module _ (text names : List ℕ) (w : Word) (to from : ℕ) where
  pub no_name : from ≤ to → name_found to (found_from text names w to from) ≡ None → found_from text names w to from ≡ to
  no_name h n =
      let l = ltb-false (found_from text names w to from) to (go (ltb (found_from text names w to from) to) n) in
      omega (arith, place_le w (words_in text names from (to - from)), words-length text names from (to - from))
    where
      go : (x : Bool) → cond x (Some (found_from text names w to from)) None ≡ None → x ≡ false
      go true h = cc
      go false h = refl

-- ---- one name more

-- The names, and n bytes from s on as the name j.
abbrev pub with_name : List ℕ → ℕ → ℕ → ℕ → List ℕ
with_name names j s n = set (set names j s) (28 + j) n

pub with_length : (names : List ℕ) (j s n : ℕ) → length (with_name names j s n) ≡ length names
with_length names j s n = simp length-set

module _ (text names : List ℕ) (j s n : ℕ) (h : j < 28) where
  entry_kept : (k : ℕ) → (k ≡ j → ⊥) → (k ≡ 28 + j → ⊥) → get_or (with_name names j s n) k 0 ≡ get_or names k 0
  entry_kept k a b = get_or-set_other (set names j s) (28 + j) k n 0 b ∙ get_or-set_other names j k s 0 a

  word_kept : (k : ℕ) → k < j → word_at text (with_name names j s n) k ≡ word_at text names k
  unfolding word_at
  word_kept k u =
      rw (entry_kept k (λ z. omega arith) (λ z. omega arith), entry_kept (28 + k) (λ z. omega arith) (λ z. omega arith))

  pub words-kept : (i m : ℕ) → i + m ≤ j → words_in text (with_name names j s n) i m ≡ words_in text names i m
  unfolding words_in
  words-kept i zero k = refl
  words-kept i (suc m) k = rw (word_kept i (omega arith), words-kept (suc i) m (omega arith))

  word_new : length names ≡ 56 → word_at text (with_name names j s n) j ≡ in_lower_case (window text s n)
  unfolding word_at
  word_new e =
      rw (
        get_or-set_other (set names j s) (28 + j) j n 0 (λ z. omega arith),
        get_or-set_same names j s 0 (omega arith),
        get_or-set_same (set names j s) (28 + j) n 0 (omega (arith, length-set names j s)),
      )

  pub words-declared : (i m : ℕ) → i + m ≡ j → length names ≡ 56 → words_in text (with_name names j s n) i (m + 1) ≡ words_in text names i m ++ (in_lower_case (window text s n) ∷ [])
  unfolding words_in
  words-declared i m k e = words_append text (with_name names j s n) i m 1 ∙ rw (words-kept i m (omega arith), k, word_new e)
