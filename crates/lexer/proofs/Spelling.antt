-- Bytes are tested and words compared as the notation does it, and the table of the reserved words gives the number by which a word is a token.
-- Assumes nothing.
use mathlib.Core.Path.{◌≡◌, refl, sym, ap, ◌∙◌, subst}
use mathlib.Core.Bool.{Bool, true, false, cond, not, ◌&&◌, ◌||◌, or_comm, and-true, and-false}
use mathlib.Core.List.{List, [], ◌∷◌, map}
use mathlib.Core.Option.{Option, none, some}
use Prim.Native.Nat.{ℕ, zero, suc, ◌+◌, ◌*◌, ◌-◌, ◌≤◌, ◌<◌, max}
use native.Mathlib.Numerals.{add-one}
use native.Mathlib.Omega.{arith}
use lib.Dec.{leb, eqb}
use lib.ListN.{length, get_or, take, drop, drop_of_length-le, get_or-map}
use lib.Seq.{slice, drop-cons}
use borrow.Author.Tests.{le-ltb, lt-ltb, le-leb, lt-leb, leb-true, eq-eqb, ne_eqb, eqb-true, eqb-false}
use denote.Ref.{Bor}
use Rattle.std.specs.Prelude.{Some, option_map}
use Rattle.std.specs.Char.{is_ascii_alphabetic, eq_ignore_ascii_case, to_ascii_lowercase, to_ascii_uppercase}
use Rattle.std.specs.List.{find, list_any}
use Rattle.std.proofs.lemmas.Bool.Decides.{nat_tests}
use Rattle.std.proofs.lemmas.List.{drop-take}
use Rattle.notation.specs.Bytes.{bytes, between, letter, lower_case, in_lower_case, begins, same_word, upper_letter}
use Rattle.notation.specs.Tokens.{sign, Word, reserved, word_in, plain_word, sign_or, is_none, other_word, word_token, ZERO, ONE, OTHER, longest_word}
use Rattle.notation.specs.Rules.{elem}
use Rattle.notation.proofs.Booleans.{and_split}
use Rattle.notation.proofs.Case.{lower-length}
use Rattle.lexer.specs.working.Names.{upper_case}
use Rattle.lexer.specs.declared.pieces.Kind.{Kind}
use Rattle.lexer.specs.working.Kinds.{kind_of}
use Rattle.lexer.specs.working.Pieces.{found, kind_in, is_in, other_case, WORDS, LONGEST}

-- Bytes.

pub letter_is : (b : ℕ) → is_ascii_alphabetic b ≡ letter b
letter_is b = or_comm (between 65 90 b) (between 97 122 b)

pub lower_is : (b : ℕ) → to_ascii_lowercase b ≡ lower_case b
lower_is b = grind (arith, nat_tests)

pub upper_is : (b : ℕ) → to_ascii_uppercase b ≡ upper_case b
upper_is b = grind (arith, nat_tests)

pub same_is : (a b : ℕ) → eq_ignore_ascii_case a b ≡ eqb (lower_case a) (lower_case b)
same_is a b = rw (lower_is a, lower_is b)

pub upper_le : (b : ℕ) → upper_letter b ≡ true → b ≤ 90
upper_le b h = leb-true b 90 (and_split (leb 65 b) (leb b 90) h).1

pub upper_ge : (b : ℕ) → upper_letter b ≡ true → 65 ≤ b
upper_ge b h = leb-true 65 b (and_split (leb 65 b) (leb b 90) h).0

-- A byte in lower case, by whether it is of upper case.
pub lower-upper : (b : ℕ) → upper_letter b ≡ true → b + 32 ≡ lower_case b
lower-upper b h = rw h

pub lower-stays : (b : ℕ) → upper_letter b ≡ false → b ≡ lower_case b
lower-stays b h = rw h

-- A byte in upper case, by where it stands among the letters.
pub upper-below : (b : ℕ) → b < 97 → b ≡ upper_case b
upper-below b h = rw (lt-leb 97 b h)

pub upper-small : (b : ℕ) → 97 ≤ b → b ≤ 122 → b - 32 ≡ upper_case b
upper-small b h k = rw (le-leb 97 b h, le-leb b 122 k)

-- A part of a text, as the code cuts it.
pub part_is : (s e : ℕ) (text : List ℕ) → s ≤ e → take (e - s) (drop s text) ≡ slice s e text
part_is s e text h = let k : s + (e - s) ≡ e = omega arith in sym (drop-take s (e - s) text) ∙ ap (λ (n : ℕ). drop s (take n text)) k

-- Two words compared.

pub lengths_differ : (v w : Word) → (length v ≡ length w → ⊥) → false ≡ same_word v w
unfolding same_word
lengths_differ [] [] h = absurd (h refl)
lengths_differ [] (b ∷ w) h = refl
lengths_differ (a ∷ v) [] h = refl
lengths_differ (a ∷ v) (b ∷ w) h = go (eqb a b) (lengths_differ v w (λ e. h (omega arith)))
  where
    go : (x : Bool) → false ≡ same_word v w → false ≡ x && same_word v w
    go true e = e
    go false e = refl

-- The letters of a word in lower case.
pub lower_at : (w : Word) (i : ℕ) → to_ascii_lowercase (get_or w i 0) ≡ get_or (in_lower_case w) i 0
unfolding in_lower_case
lower_at [] i = refl
lower_at (b ∷ w) zero = lower_is b
lower_at (b ∷ w) (suc i) = lower_at w i

-- The words have length n, and what is left of them from place j on decides.
pub record Same (v w : Word) (n j : ℕ) : Type 0 where
  pub left : length v ≡ n
  pub right : length w ≡ n
  pub within : j ≤ n
  pub rest : same_word (drop j v) (drop j w) ≡ same_word v w

module _ {v w : Word} {n j : ℕ} (c : Same v w n j) where
  turn : j < n → same_word v w ≡ eqb (get_or v j 0) (get_or w j 0) && same_word (drop (suc j) v) (drop (suc j) w)
  unfolding same_word
  turn h =
      let l : j < length v = omega arith in
      let r : j < length w = omega arith in
      sym c.rest ∙ rw (drop-cons v j 0, drop-cons w j 0)

  pub same-no : j < n → (get_or v j 0 ≡ get_or w j 0 → ⊥) → false ≡ same_word v w
  same-no h d = sym (turn h ∙ rw (ne_eqb _ _ d))

  pub same_more : j < n → get_or v j 0 ≡ get_or w j 0 → Same v w n (j + 1)
  same_more h e = record { left = c.left; right = c.right; within = omega arith; rest = rw add-one (sym (turn h ∙ rw (eq-eqb _ _ e))) }

  pub same_end : n ≤ j → true ≡ same_word v w
  unfolding same_word
  same_end h =
      let l : length v ≤ j = omega arith in
      let r : length w ≤ j = omega arith in
      sym (sym c.rest ∙ rw (drop_of_length-le v l, drop_of_length-le w r))

-- The reserved words, looked through from the first.

pub fifteen : length reserved ≡ WORDS
unfolding reserved
fifteen = refl

-- What the code tells was found.
pub found_some : (o : Option ℕ) (k : Kind) → found o ≡ Some k → (i : ℕ) × ((o ≡ some i) × (k ≡ kind_of i))
found_some none k h = cc
found_some (some i) k h = (i, (refl, cc))

pub found_none : (o : Option ℕ) → ((k : Kind) → found o ≡ Some k → ⊥) → o ≡ none
found_none none h = refl
found_none (some i) h = absurd (h (kind_of i) refl)

-- The words from number i on, with the kinds of their pieces.
unfoldable pub kinded : List Word → ℕ → List (Word × Kind)
kinded [] i = []
kinded (v ∷ vs) i = (v, kind_of i) ∷ kinded vs (suc i)

-- The table has the words from number i on, with the kinds of their pieces.
pub record Tabled (ps : List (Bor Word × Kind)) (vs : List Word) (i : ℕ) : Type 0 where
  pub rows : map (λ p. (p.0.now, p.1)) ps ≡ kinded vs i

-- A word looked up in a table.
module _ (w : Word) where
  pub kind_found : (ps : List (Bor Word × Kind)) (vs : List Word) (i : ℕ) → Tabled ps vs i → kind_in w ps ≡ found (word_in w vs i)
  unfolding kind_in word_in kinded
  kind_found [] [] i t = refl
  kind_found [] (v ∷ vs) i t = let h = t.rows in cc
  kind_found (p ∷ ps) [] i t = let h = t.rows in cc
  kind_found (p ∷ ps) (v ∷ vs) i t =
      let h = t.rows in
      let q : ◌≡◌ {A = Word × Kind} (p.0.now, p.1) (v, kind_of i) = cc in
      go (same_word w p.0.now) (ap (same_word w) (ap (λ (r : Word × Kind). r.0) q)) (ap (λ (r : Word × Kind). r.1) q) (kind_found ps vs (suc i) (record { rows = cc }))
    where
      go : (x : Bool) → x ≡ same_word w v → p.1 ≡ kind_of i → kind_in w ps ≡ found (word_in w vs (suc i)) →
          option_map (λ p. p.1) (cond x (Some p) (find (λ p. same_word w p.0.now) ps)) ≡ found (cond (same_word w v) (some i) (word_in w vs (suc i)))
      go true a b e = rw (← a) (ap Some b)
      go false a b e = rw (← a) e

  pub is_found : (ps : List (Bor Word × Kind)) (vs : List Word) (i : ℕ) → Tabled ps vs i → is_in w ps ≡ not (is_none (word_in w vs i))
  unfolding is_in word_in kinded
  is_found [] [] i t = refl
  is_found [] (v ∷ vs) i t = let h = t.rows in cc
  is_found (p ∷ ps) [] i t = let h = t.rows in cc
  is_found (p ∷ ps) (v ∷ vs) i t =
      let h = t.rows in
      let q : ◌≡◌ {A = Word × Kind} (p.0.now, p.1) (v, kind_of i) = cc in
      go (same_word w p.0.now) (ap (same_word w) (ap (λ (r : Word × Kind). r.0) q)) (is_found ps vs (suc i) (record { rows = cc }))
    where
      go : (x : Bool) → x ≡ same_word w v → is_in w ps ≡ not (is_none (word_in w vs (suc i))) → x || list_any (λ p. same_word w p.0.now) ps ≡ not (is_none (cond (same_word w v) (some i) (word_in w vs (suc i))))
      go true a e = rw (← a)
      go false a e = rw (← a) e

unfoldable pub greatest : List ℕ → ℕ
greatest [] = 0
greatest (a ∷ l) = max a (greatest l)

pub at_most : (l : List ℕ) (i : ℕ) → get_or l i 0 ≤ greatest l
unfolding greatest
at_most [] i = omega arith
at_most (a ∷ l) zero = omega arith
at_most (a ∷ l) (suc i) = omega (arith, at_most l i)

pub seven : (k : ℕ) → length (get_or reserved k []) ≤ 7
unfolding reserved bytes greatest
seven k = subst (λ (n : ℕ). n ≤ 7) (get_or-map length reserved k []) (at_most (map length reserved) k)

-- A word that is longer than all of them is none.
longer : (w : Word) (vs : List Word) (i : ℕ) → greatest (map length vs) < length w → word_in w vs i ≡ none
unfolding word_in greatest
longer w [] i h = refl
longer w (v ∷ vs) i h = rw (sym (lengths_differ w v (λ e. omega arith))) (longer w vs (suc i) (omega arith))

pub look_long : (w : Word) → LONGEST < length w → word_in w reserved 0 ≡ none
unfolding reserved bytes greatest
look_long w h = longer w reserved 0 h

-- What was found is the number of a word of the list.
pub found_below : (w : Word) (vs : List Word) (i j : ℕ) → word_in w vs i ≡ some j → j < i + length vs
unfolding word_in
found_below w [] i j e = let z : ◌≡◌ {A = ℕ} 0 1 = cc in absurd (omega arith)
found_below w (v ∷ vs) i j e = go (same_word w v) e (λ f. found_below w vs (suc i) j f)
  where
    go : (x : Bool) → cond x (some i) (word_in w vs (suc i)) ≡ some j → (word_in w vs (suc i) ≡ some j → j < suc i + length vs) → j < i + suc (length vs)
    go true h f = let k : i ≡ j = cc in omega arith
    go false h f = omega (arith, f h)

-- Which token a word is.

pub token-long : (i : ℕ) (w : Word) → longest_word < length w → word_token i w ≡ none
unfolding word_token
token-long i w h = rw (lt-ltb longest_word (length w) h)

-- A word without letters of upper case is in lower case.
no-upper : (w : Word) → list_any upper_letter w ≡ false → in_lower_case w ≡ w
unfolding in_lower_case
no-upper [] h = refl
no-upper (b ∷ w) h = go (upper_letter b) h (no-upper w)
  where
    go : (x : Bool) → x || list_any upper_letter w ≡ false → (list_any upper_letter w ≡ false → in_lower_case w ≡ w) → cond x (b + 32) b ∷ in_lower_case w ≡ b ∷ w
    go true h r = cc
    go false h r = ap (λ (v : Word). b ∷ v) (r h)

module _ (i : ℕ) (w : Word) where
  in_other_case : other_case w ≡ true → other_word i w ≡ sign OTHER
  unfolding other_case
  in_other_case h = go (list_any upper_letter w) (is_none (word_in (in_lower_case w) reserved 0)) h
    where
      go : (x y : Bool) → x && not y ≡ true → cond y (plain_word i w) (sign OTHER) ≡ sign OTHER
      go true true h = cc
      go true false h = refl
      go false y h = cc

  in_no_case : other_case w ≡ false → word_in w reserved 0 ≡ none → other_word i w ≡ plain_word i w
  unfolding other_case
  in_no_case h n = go (list_any upper_letter w) refl (is_none (word_in (in_lower_case w) reserved 0)) refl h
    where
      go : (x : Bool) → list_any upper_letter w ≡ x → (y : Bool) → is_none (word_in (in_lower_case w) reserved 0) ≡ y → x && not y ≡ false → other_word i w ≡ plain_word i w
      go true e true f h = rw f
      go true e false f h = cc
      go false e y f h = let g : word_in (in_lower_case w) reserved 0 ≡ none = ap (λ (v : Word). word_in v reserved 0) (no-upper w e) ∙ n in rw g

-- Where nothing is of upper case, no word is reserved in another case; elsewhere it is looked up in lower case.
pub other_none : (w : Word) → list_any upper_letter w ≡ false → false ≡ other_case w
unfolding other_case
other_none w h = rw h

pub other-found : (w : Word) → list_any upper_letter w ≡ true → (ps : List (Bor Word × Kind)) → Tabled ps reserved 0 → is_in (in_lower_case w) ps ≡ other_case w
unfolding other_case
other-found w h ps t = rw h (is_found (in_lower_case w) ps reserved 0 t)

-- No reserved word has one byte.
no_length : (w : Word) (vs : List Word) (i : ℕ) → elem (length w) (map length vs) ≡ false → word_in w vs i ≡ none
unfolding elem word_in
no_length w [] i h = refl
no_length w (v ∷ vs) i h = go (eqb (length v) (length w)) refl h (no_length w vs (suc i))
  where
    go : (x : Bool) → eqb (length v) (length w) ≡ x → x || elem (length w) (map length vs) ≡ false → (elem (length w) (map length vs) ≡ false → word_in w vs (suc i) ≡ none) →
        cond (same_word w v) (some i) (word_in w vs (suc i)) ≡ none
    go true e f rec = cc
    go false e f rec = rw (sym (lengths_differ w v (λ z. eqb-false (length v) (length w) e (sym z)))) (rec f)

one_none : (b : ℕ) → word_in (b ∷ []) reserved 0 ≡ none
unfolding reserved bytes elem
one_none b = no_length (b ∷ []) reserved 0 refl

pub token-one : (i b : ℕ) → word_token i (b ∷ []) ≡ some (plain_word i (b ∷ []))
unfolding word_token in_lower_case
token-one i b = rw (one_none b, one_none (lower_case b))

pub other-long : (w : Word) → LONGEST < length w → false ≡ other_case w
unfolding other_case reserved bytes greatest
other-long w h =
    let n : word_in (in_lower_case w) reserved 0 ≡ none = longer (in_lower_case w) reserved 0 (omega (arith, lower-length w)) in
    rw n (sym (and-false (list_any upper_letter w)))

module _ (i : ℕ) (w : Word) (short : length w ≤ longest_word) where
  by_number : (o : Option ℕ) → word_in w reserved 0 ≡ o → word_token i w ≡ some (sign_or o (other_word i w))
  unfolding word_token
  by_number o e = rw (le-ltb longest_word (length w) short, e)

  pub token-reserved : (k : ℕ) → word_in w reserved 0 ≡ some k → word_token i w ≡ some (sign k)
  token-reserved k e = by_number (some k) e

  module _ (n : word_in w reserved 0 ≡ none) where
    pub token-other : other_case w ≡ true → word_token i w ≡ some (sign OTHER)
    token-other o = by_number none n ∙ ap some (in_other_case i w o)

    pub token-plain : other_case w ≡ false → word_token i w ≡ some (plain_word i w)
    token-plain o = by_number none n ∙ ap some (in_no_case i w o n)

pub plain_other : (i : ℕ) (w : Word) → begins letter w ≡ false → (length w ≡ 1 → ⊥) → plain_word i w ≡ sign OTHER
plain_other i w h n = rw (h, sym (lengths_differ w (48 ∷ []) n), sym (lengths_differ w (49 ∷ []) n))

same-one : (a b : ℕ) → same_word (a ∷ []) (b ∷ []) ≡ eqb a b
unfolding same_word
same-one a b = and-true (eqb a b)

pub plain-digit : (i b : ℕ) → letter b ≡ false → plain_word i (b ∷ []) ≡ cond (eqb b 48) (sign ZERO) (cond (eqb b 49) (sign ONE) (sign OTHER))
plain-digit i b h = rw (h, same-one b 48, same-one b 49)

-- The lowest digits of two numbers, and what is above them.
pub peel : (x y p q : ℕ) → x < 256 → y < 256 → eqb (x + 256 * p) (y + 256 * q) ≡ eqb x y && eqb p q
peel x y p q h k = go (eqb x y) refl (eqb p q) refl
  where
    go : (s : Bool) → eqb x y ≡ s → (t : Bool) → eqb p q ≡ t → eqb (x + 256 * p) (y + 256 * q) ≡ s && t
    go true e true f = eq-eqb (x + 256 * p) (y + 256 * q) (omega (arith, eqb-true x y e, eqb-true p q f))
    go true e false f = ne_eqb (x + 256 * p) (y + 256 * q) (λ z. eqb-false p q f (omega (arith, eqb-true x y e, z)))
    go false e t f = ne_eqb (x + 256 * p) (y + 256 * q) (λ z. eqb-false x y e (omega (arith, z)))

-- A number looked for in a list, from place k on.
module _ (w : ℕ) (js : List ℕ) (k : ℕ) where
  elem_turn : k < length js → elem w (drop k js) ≡ eqb (get_or js k 0) w || elem w (drop (suc k) js)
  unfolding elem
  elem_turn h = ap (elem w) (drop-cons js k 0 h)

  pub elem-here : k < length js → get_or js k 0 ≡ w → true ≡ elem w (drop k js)
  elem-here h e = sym (elem_turn h ∙ rw (eq-eqb _ _ e))

  pub elem_later : k < length js → (get_or js k 0 ≡ w → ⊥) → elem w (drop (k + 1) js) ≡ elem w (drop k js)
  elem_later h e = rw add-one (sym (elem_turn h ∙ rw (ne_eqb _ _ e)))

  pub elem_none : length js ≤ k → false ≡ elem w (drop k js)
  unfolding elem
  elem_none h = sym (ap (elem w) (drop_of_length-le js h))
