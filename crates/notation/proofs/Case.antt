-- Case means nothing: a name is one in every case, and texts that differ only in the case of letters inside names say the same.
-- Assumes nothing.
use mathlib.Core.Path.{◌≡◌, refl, sym, ap, ◌∙◌, subst}
use mathlib.Core.Bool.{Bool, true, false, cond, ◌&&◌}
use mathlib.Core.List.{List, [], ◌∷◌, ◌++◌, map}
use mathlib.Core.Option.{Option, none, some}
use mathlib.Core.Logic.{inl, inr}
use Prim.Native.Nat.{ℕ, zero, suc, ◌+◌, ◌≤◌}
use native.Mathlib.Omega.{arith}
use native.Mathlib.Nat.{not-suc-le-zero, le_of_suc-le-suc, le_refl}
use lib.Dec.{eqb, leb, ltb}
use lib.ListN.{length, drop, length-drop, length-append}
use lib.Seq.{drop-append_seam}
use borrow.Author.Tests.{eqb-true, eq-eqb, le-leb, lt-leb, leb-true, le-ltb}
use Rattle.notation.specs.Bytes.{bytes, letter, word_byte, lower_case, in_lower_case, all, begins, same_word}
use Rattle.notation.specs.Tokens.{Word, Name, Token, sign, name, reserved, word_in, plain_word, sign_or, is_none, other_word, word_token, longest_word, mark_of, ZERO, ONE, ASSIGN, OTHER}
use Rattle.notation.specs.Regular.{Among}
use Rattle.notation.specs.Case.{Alike, Respelt, kept, recased, Recased, ended, other, word}
use Rattle.notation.specs.Promises.{NamesWithoutCase, NamesByLetters, ReservedInLowerCase}
use Rattle.notation.specs.working.Lexing.{begins_with, Front, one_byte, sign_of, mark, front, lexemes, tokens_from, tokens}
use Rattle.notation.proofs.Booleans.{and_split}
use Rattle.notation.proofs.Members.{every-among, all_pass, every-test}
use Rattle.notation.proofs.Cuts.{word-no-blank, all_head, front-run, lexed}

-- Words in lower case.

pub lower-length : (w : Word) → length (in_lower_case w) ≡ length w
unfolding in_lower_case
lower-length [] = refl
lower-length (b ∷ w) = ap suc (lower-length w)

alike-lower : (v w : Word) → Alike v w → in_lower_case v ≡ in_lower_case w
unfolding in_lower_case
alike-lower [] [] h = refl
alike-lower [] (b ∷ w) h = absurd h
alike-lower (a ∷ v) [] h = absurd h
alike-lower (a ∷ v) (b ∷ w) h = rw (h.0, alike-lower v w h.1)

-- A test that does not tell a letter of upper case from its fellow does not tell case.
lower-test : (f : ℕ → Bool) → ((b : ℕ) → 65 ≤ b → b ≤ 90 → f (b + 32) ≡ f b) → (b : ℕ) → f (lower_case b) ≡ f b
lower-test f h b = go (leb 65 b) refl (leb b 90) refl
  where
    go : (x : Bool) → leb 65 b ≡ x → (y : Bool) → leb b 90 ≡ y → f (cond (x && y) (b + 32) b) ≡ f b
    go true e true k = h b (leb-true 65 b e) (leb-true b 90 k)
    go true e false k = refl
    go false e y k = refl

-- A letter is one in both cases, and so is a byte of a word.
lower-letter : (b : ℕ) → letter (lower_case b) ≡ letter b
lower-letter = lower-test letter (λ b h k. rw (le-leb 97 (b + 32) (omega arith), le-leb (b + 32) 122 (omega arith), lt-leb 97 b (omega arith), le-leb 65 b h, le-leb b 90 k))

lower_word : (b : ℕ) → word_byte (lower_case b) ≡ word_byte b
lower_word = lower-test word_byte (λ b h k. rw (le-leb 97 (b + 32) (omega arith), le-leb (b + 32) 122 (omega arith), lt-leb 97 b (omega arith), le-leb 65 b h, le-leb b 90 k))

lower-begins : (w : Word) → begins letter (in_lower_case w) ≡ begins letter w
unfolding in_lower_case
lower-begins [] = refl
lower-begins (b ∷ w) = lower-letter b

pub same_word_lem : (v w : Word) → same_word v w ≡ true → v ≡ w
unfolding same_word
same_word_lem [] [] h = refl
same_word_lem [] (b ∷ w) h = cc
same_word_lem (a ∷ v) [] h = cc
same_word_lem (a ∷ v) (b ∷ w) h =
    let s = and_split (eqb a b) (same_word v w) h in
    rw (eqb-true a b s.0, same_word_lem v w s.1)

-- The reserved words are in lower case, so what is one of them is in lower case too.

found_among : (w : Word) (vs : List Word) (i k : ℕ) → word_in w vs i ≡ some k → Among w vs
unfolding word_in
found_among w [] i k h = let z : ◌≡◌ {A = ℕ} 0 1 = cc in absurd (omega arith)
found_among w (v ∷ vs) i k h = go (same_word w v) refl h (found_among w vs (suc i) k)
  where
    go : (x : Bool) → same_word w v ≡ x → cond x (some i) (word_in w vs (suc i)) ≡ some k → (word_in w vs (suc i) ≡ some k → Among w vs) → Among w (v ∷ vs)
    go true s h r = inl (same_word_lem w v s)
    go false s h r = inr (r h)

lower-among : (v : Word) (vs : List Word) → map in_lower_case vs ≡ vs → Among v vs → in_lower_case v ≡ v
lower-among v [] l h = absurd h
lower-among v (u ∷ vs) l (inl e) = let k : in_lower_case u ≡ u = cc in rw e k
lower-among v (u ∷ vs) l (inr h) = lower-among v vs (cc) h

reserved-lower : map in_lower_case reserved ≡ reserved
unfolding reserved bytes in_lower_case
reserved-lower = refl

reserved_in_lower : (w : Word) (k : ℕ) → word_in w reserved 0 ≡ some k → in_lower_case w ≡ w
reserved_in_lower w k h = lower-among w reserved reserved-lower (found_among w reserved 0 k h)

-- Not reserved in any case.
none_as_written : (w : Word) → word_in (in_lower_case w) reserved 0 ≡ none → word_in w reserved 0 ≡ none
none_as_written w h = go (word_in w reserved 0) refl
  where
    go : (o : Option ℕ) → word_in w reserved 0 ≡ o → o ≡ none
    go none e = refl
    go (some k) e = let l = reserved_in_lower w k e in sym e ∙ ap (λ v. word_in v reserved 0) (sym l) ∙ h

-- A name in another case, at another place.

-- The name that a word is at place i.
abbrev called : ℕ → Word → Token
called i w = name (record { place = i; word = in_lower_case w })

module _ (i j : ℕ) (v w : Word) (n : Name) (l : in_lower_case v ≡ in_lower_case w) where
  lengths : length v ≡ length w
  lengths = sym (lower-length v) ∙ ap length l ∙ lower-length w

  letters : begins letter v ≡ begins letter w
  letters = sym (lower-begins v) ∙ ap (begins letter) l ∙ lower-begins w

  plain-name : plain_word i v ≡ name n → plain_word j w ≡ called j w
  plain-name h = go (begins letter v) refl (same_word v (48 ∷ [])) (same_word v (49 ∷ [])) h
    where
      go : (x : Bool) → begins letter v ≡ x → (y z : Bool) → cond x (called i v) (cond y (sign ZERO) (cond z (sign ONE) (sign OTHER))) ≡ name n → plain_word j w ≡ called j w
      go true e y z h = rw (sym letters ∙ e)
      go false e true z h = cc
      go false e false true h = cc
      go false e false false h = cc

  unreserved_name : other_word i v ≡ name n → (word_in w reserved 0 ≡ none) × (other_word j w ≡ called j w)
  unreserved_name h = go (word_in (in_lower_case v) reserved 0) refl h
    where
      go : (o : Option ℕ) → word_in (in_lower_case v) reserved 0 ≡ o → cond (is_none o) (plain_word i v) (sign OTHER) ≡ name n → (word_in w reserved 0 ≡ none) × (other_word j w ≡ called j w)
      go none e h =
          let f : word_in (in_lower_case w) reserved 0 ≡ none = ap (λ u. word_in u reserved 0) (sym l) ∙ e in
          (none_as_written w f, rw f (plain-name h))
      go (some k) e h = (cc, cc)

  recased-name : word_token i v ≡ some (name n) → word_token j w ≡ some (called j w)
  unfolding word_token
  recased-name h = go (ltb longest_word (length v)) refl (word_in v reserved 0) h
    where
      go : (x : Bool) → ltb longest_word (length v) ≡ x → (o : Option ℕ) → cond x none (some (sign_or o (other_word i v))) ≡ some (name n) →
          cond (ltb longest_word (length w)) none (some (sign_or (word_in w reserved 0) (other_word j w))) ≡ some (called j w)
      go true e o h = cc
      go false e (some k) h = cc
      go false e none h =
          let f : other_word i v ≡ name n = cc in
          let u = unreserved_name f in
          rw (ap (ltb longest_word) (sym lengths) ∙ e, u.0, u.1)

-- At any place a name is the same token in every case.
recased-token : (i j : ℕ) (v w : Word) (n : Name) → in_lower_case v ≡ in_lower_case w → word_token i v ≡ some (name n) → word_token j v ≡ word_token j w
recased-token i j v w n l h = recased-name i j v v n refl h ∙ rw l (sym (recased-name i j v w n l h))

pub names_without_case : NamesWithoutCase
names_without_case i v w n a h = sym (recased-token i i v w n (alike-lower v w a) h) ∙ h

-- Names are the same only if their letters are.

lower-alike : (v w : Word) → in_lower_case v ≡ in_lower_case w → Alike v w
unfolding in_lower_case
lower-alike [] [] h = tt
lower-alike [] (b ∷ w) h = let z : ◌≡◌ {A = ℕ} 0 1 = cc in absurd (omega arith)
lower-alike (a ∷ v) [] h = let z : ◌≡◌ {A = ℕ} 0 1 = cc in absurd (omega arith)
lower-alike (a ∷ v) (b ∷ w) h = (cc, lower-alike v w (cc))

name-word : (i : ℕ) (v : Word) (n : Name) → word_token i v ≡ some (name n) → n.word ≡ in_lower_case v
name-word i v n h = let e = sym h ∙ recased-name i i v v n refl h in cc

pub names_by_letters : NamesByLetters
names_by_letters i j v w n m h k =
    let p = name-word i v n h in
    let q = name-word j w m k in
    (λ e. lower-alike v w (sym p ∙ e ∙ q), λ a. p ∙ alike-lower v w a ∙ sym q)

-- A reserved word in another case.

pub same_itself : (w : Word) → same_word w w ≡ true
unfolding same_word
same_itself [] = refl
same_itself (b ∷ w) = rw (eq-eqb b b refl) (same_itself w)

among-found : (v : Word) (vs : List Word) (i : ℕ) → Among v vs → is_none (word_in v vs i) ≡ false
unfolding word_in
among-found v [] i h = absurd h
among-found v (u ∷ vs) i (inl e) = rw (sym e, same_itself v)
among-found v (u ∷ vs) i (inr h) = go (same_word v u) (among-found v vs (suc i) h)
  where
    go : (x : Bool) → is_none (word_in v vs (suc i)) ≡ false → is_none (cond x (some i) (word_in v vs (suc i))) ≡ false
    go true r = refl
    go false r = r

-- No reserved word is too long.
reserved-fits : all_pass (λ (v : Word). leb (length v) longest_word) reserved ≡ true
unfolding all_pass reserved bytes
reserved-fits = refl

among-fits : (v : Word) → Among v reserved → length v ≤ longest_word
among-fits v h = leb-true (length v) longest_word (every-among _ v reserved (every-test _ reserved reserved-fits) h)

pub reserved_in_lower_case : ReservedInLowerCase
unfolding word_token
reserved_in_lower_case i v w h a d =
    let l : in_lower_case w ≡ v = sym (alike-lower v w a) ∙ lower-among v reserved reserved-lower h in
    let n : is_none (word_in (in_lower_case w) reserved 0) ≡ false = ap (λ u. is_none (word_in u reserved 0)) l ∙ among-found v reserved 0 h in
    let k : length w ≤ longest_word = omega (arith, lower-length w, ap length l, among-fits v h) in
    rw (le-ltb longest_word (length w) k) (go (word_in w reserved 0) refl l n)
  where
    go : (o : Option ℕ) → word_in w reserved 0 ≡ o → in_lower_case w ≡ v → is_none (word_in (in_lower_case w) reserved 0) ≡ false →
        ◌≡◌ {A = Option Token} (some (sign_or o (other_word i w))) (some (sign OTHER))
    go none e l n = rw n
    go (some k) e l n = absurd (d (sym l ∙ reserved_in_lower w k e))

-- Respelt words.

lower-all : (w : Word) → all word_byte (in_lower_case w) ≡ all word_byte w
unfolding in_lower_case
lower-all [] = refl
lower-all (b ∷ w) = rw (lower_word b, lower-all w)

respelt_lower : {v w : Word} → Respelt v w → in_lower_case v ≡ in_lower_case w
respelt_lower kept = refl
respelt_lower {v} {w} (recased i n h a) = alike-lower v w a

respelt_token : (j : ℕ) {v w : Word} → Respelt v w → word_token j v ≡ word_token j w
respelt_token j kept = refl
respelt_token j {v} {w} (recased i n h a) = recased-token i j v w n (alike-lower v w a) h

respelt_length : {v w : Word} → Respelt v w → length v ≡ length w
respelt_length {v} {w} r = sym (lower-length v) ∙ ap length (respelt_lower r) ∙ lower-length w

respelt_all : {v w : Word} → Respelt v w → all word_byte v ≡ all word_byte w
respelt_all {v} {w} r = sym (lower-all v) ∙ ap (all word_byte) (respelt_lower r) ∙ lower-all w

-- Texts.

pub recased-length : {a b : List ℕ} → Recased a b → length a ≡ length b
recased-length ended = refl
recased-length (other e r) = ap suc (recased-length r)
recased-length (word {bs} {cs} b c v w e j s r) = omega (arith, recased-length r, respelt_length s, length-append v bs, length-append w cs)

recased-begins : {a b : List ℕ} → Recased a b → begins word_byte a ≡ begins word_byte b
recased-begins ended = refl
recased-begins (other e r) = refl
recased-begins (word b c v w e j s r) = (all_head b v e).0 ∙ sym (all_head c w (sym (respelt_all s) ∙ e)).0

-- What stands at the front is the same, and so is what is left behind it.
abbrev Goes : Front → Front → List ℕ → List ℕ → Type 0
Goes f g bs cs = (f ≡ g) × Recased (drop f.more bs) (drop f.more cs)

abbrev colon_front : List ℕ → Front
colon_front bs = cond (begins_with 61 bs) (record { token = some (sign ASSIGN); more = 1 }) (one_byte (some (sign OTHER)))

no_equals : (b : ℕ) → word_byte b ≡ true → eqb b 61 ≡ false
no_equals b h = go (eqb b 61) refl
  where
    go : (x : Bool) → eqb b 61 ≡ x → x ≡ false
    go true e = let k : word_byte 61 ≡ true = subst (λ (n : ℕ). word_byte n ≡ true) (eqb-true b 61 e) h in cc
    go false e = refl

colon-goes : {bs cs : List ℕ} → Recased bs cs → Goes (colon_front bs) (colon_front cs) bs cs
colon-goes ended = (refl, ended)
colon-goes (other {b = c} {bs} {cs} e r) = go (eqb c 61)
  where
    go : (x : Bool) → let f = cond x (record { token = some (sign ASSIGN); more = 1 }) (one_byte (some (sign OTHER))) in Goes f f (c ∷ bs) (c ∷ cs)
    go true = (refl, r)
    go false = (refl, other e r)
colon-goes (word b c v w e j s r) =
    rw (no_equals b (all_head b v e).0, no_equals c (all_head c w (sym (respelt_all s) ∙ e)).0) (refl, word b c v w e j s r)

front_goes : (i b : ℕ) {bs cs : List ℕ} → word_byte b ≡ false → Recased bs cs → Goes (front i b bs) (front i b cs) bs cs
unfolding front mark
front_goes i b {bs} {cs} e r = rw e (go (eqb b 58))
  where
    go : (x : Bool) → Goes (cond x (colon_front bs) (one_byte (sign_of (mark_of b)))) (cond x (colon_front cs) (one_byte (sign_of (mark_of b)))) bs cs
    go true = colon-goes r
    go false = (refl, r)

drop_le : (m l : ℕ) (bs : List ℕ) → length bs ≤ l → length (drop m bs) ≤ l
drop_le m l bs h = omega (arith, length-drop m bs)

lexemes-recased : (l i : ℕ) {a b : List ℕ} → length a ≤ l → Recased a b → lexemes l a i ≡ lexemes l b i
unfolding lexemes
lexemes-recased zero i h ended = refl
lexemes-recased zero i h (other e r) = absurd (not-suc-le-zero h)
lexemes-recased zero i h (word b c v w e j s r) = absurd (not-suc-le-zero h)
lexemes-recased (suc l) i h ended = refl
lexemes-recased (suc l) i h (other {b} {bs} {cs} e r) =
    let f = front_goes i b e r in
    let m = (front i b bs).more in
    rw (sym f.0, lexemes-recased l (suc i) (le_of_suc-le-suc h) r, lexemes-recased l (suc (i + m)) (drop_le m l bs (le_of_suc-le-suc h)) f.1)
lexemes-recased (suc l) i h (word {bs} {cs} b c v w e j s r) =
    let e2 : all word_byte (c ∷ w) ≡ true = sym (respelt_all s) ∙ e in
    let n : length v ≡ length w = omega (arith, respelt_length s) in
    lexed l i b (v ++ bs) _ (word-no-blank b (all_head b v e).0) (front-run i b v bs e j)
    ∙ rw (drop-append_seam v bs, lexemes-recased l (suc (i + length v)) (omega (arith, length-append v bs)) r, respelt_token i s, n)
    (sym (lexed l i c (w ++ cs) _ (word-no-blank c (all_head c w e2).0) (front-run i c w cs e2 (sym (recased-begins r) ∙ j)) ∙ rw (drop-append_seam w cs)))

pub tokens-recased : {a b : List ℕ} → Recased a b → tokens a ≡ tokens b
unfolding tokens_from
tokens-recased {a} {b} r = lexemes-recased (length a) 0 (le_refl _) r ∙ ap (λ (l : ℕ). lexemes l b 0) (recased-length r)

-- Such a change can be made: a name in other cases, twice.
recased_example : Recased (bytes "shared Page. row.\nstart page") (bytes "shared pAGE. row.\nstart PAge")
unfolding bytes in_lower_case same_word reserved word_in word_token
recased_example =
    word 115 115 (bytes "hared") (bytes "hared") refl refl kept (other refl
    (word 80 112 (bytes "age") (bytes "AGE") refl refl (recased {v = bytes "Page"} {w = bytes "pAGE"} 7 _ refl (refl, (refl, (refl, (refl, tt))))) (other refl (other refl
    (word 114 114 (bytes "ow") (bytes "ow") refl refl kept (other refl (other refl
    (word 115 115 (bytes "tart") (bytes "tart") refl refl kept (other refl
    (word 112 80 (bytes "age") (bytes "Age") refl refl (recased {v = bytes "page"} {w = bytes "PAge"} 24 _ refl (refl, (refl, (refl, (refl, tt))))) ended))))))))))
