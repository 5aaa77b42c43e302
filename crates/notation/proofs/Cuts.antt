-- A text has the tokens that it is cut into, and no others.
-- Assumes nothing.
use mathlib.Core.Path.{◌≡◌, refl, sym, ◌∙◌, ap, subst}
use mathlib.Core.Bool.{Bool, true, false, cond, not, ◌&&◌, ◌||◌}
use mathlib.Core.List.{List, [], ◌∷◌, ◌++◌}
use mathlib.Core.Option.{Option, none, some}
use mathlib.Core.Logic.{◌↔◌}
use Prim.Native.Nat.{ℕ, zero, suc, ◌+◌, ◌≤◌}
use native.Mathlib.Omega.{arith}
use native.Mathlib.Nat.{not-suc-le-zero, add-zero, add-suc, le_of_suc-le-suc, le_refl}
use lib.Dec.{eqb}
use lib.ListN.{length, drop, length-append}
use lib.Seq.{take-append_seam, drop-append_seam}
use borrow.Author.Tests.{eqb-true}
use Rattle.notation.specs.Bytes.{blank_byte, word_byte, all, begins}
use Rattle.notation.specs.Tokens.{Token, sign, DOT, SEMI, OPEN, CLOSE, STAR, OTHER, ASSIGN, Lexeme, at, word_token, Cut, ended, run, assign, colon, mark_of, is_none, barred, barred_byte, blank}
use Rattle.notation.specs.working.Lexing.{span, mark, front, Front, one_byte, lexemes, tokens_from, tokens}
use Rattle.notation.specs.Tokens as T

-- A byte of a word is no blank.
pub word-no-blank : (b : ℕ) → word_byte b ≡ true → blank_byte b ≡ false
word-no-blank b h = go (eqb b 32) refl (eqb b 10) refl
  where
    go : (x : Bool) → eqb b 32 ≡ x → (y : Bool) → eqb b 10 ≡ y → x || y ≡ false
    go true e y f = let g = eqb-true b 32 e in let k : word_byte 32 ≡ true = subst (λ (n : ℕ). word_byte n ≡ true) g h in cc
    go false e true f = let g = eqb-true b 10 f in let k : word_byte 10 ≡ true = subst (λ (n : ℕ). word_byte n ≡ true) g h in cc
    go false e false f = refl

-- The span of a run is its length.
span_run : (w bs : List ℕ) → all word_byte w ≡ true → begins word_byte bs ≡ false → span (w ++ bs) ≡ length w
unfolding span
span_run [] [] h j = refl
span_run [] (b ∷ bs) h j = rw j
span_run (c ∷ w) bs h j = go (word_byte c) h (λ k. span_run w bs k j)
  where
    go : (x : Bool) → x && all word_byte w ≡ true → (all word_byte w ≡ true → span (w ++ bs) ≡ length w) → cond x (suc (span (w ++ bs))) 0 ≡ suc (length w)
    go true k r = ap suc (r k)
    go false k r = cc

pub all_head : (b : ℕ) (w : List ℕ) → all word_byte (b ∷ w) ≡ true → (word_byte b ≡ true) × (all word_byte w ≡ true)
all_head b w h = go (word_byte b) refl h
  where
    go : (x : Bool) → word_byte b ≡ x → x && all word_byte w ≡ true → (x ≡ true) × (all word_byte w ≡ true)
    go true e k = (refl, k)
    go false e k = (cc, cc)

pub front-run : (i : ℕ) (b : ℕ) (w bs : List ℕ) → all word_byte (b ∷ w) ≡ true → begins word_byte bs ≡ false → front i b (w ++ bs) ≡ record { token = word_token i (b ∷ w); more = length w }
unfolding front
front-run i b w bs h j = rw ((all_head b w h).0, span_run w bs (all_head b w h).1 j, take-append_seam w bs)

-- The byte of a mark.
front-mark : (i : ℕ) (b k : ℕ) (bs : List ℕ) → mark_of b ≡ some k → (blank_byte b ≡ false) × (front i b bs ≡ one_byte (some (sign k)))
unfolding front mark
front-mark i b k bs h = go (eqb b 46) (eqb b 59) (eqb b 40) (eqb b 41) (eqb b 42) (eqb b 61) refl refl refl refl refl refl h
  where
    Goal : ℕ → Type 0
    Goal n = (blank_byte n ≡ false) × (front i n bs ≡ one_byte (some (sign k)))

    go : (x1 x2 x3 x4 x5 x6 : Bool) → eqb b 46 ≡ x1 → eqb b 59 ≡ x2 → eqb b 40 ≡ x3 → eqb b 41 ≡ x4 → eqb b 42 ≡ x5 → eqb b 61 ≡ x6 →
        cond x1 (some DOT) (cond x2 (some SEMI) (cond x3 (some OPEN) (cond x4 (some CLOSE) (cond x5 (some STAR) (cond x6 (some OTHER) none))))) ≡ some k → Goal b
    go true x2 x3 x4 x5 x6 e1 e2 e3 e4 e5 e6 h = subst Goal (sym (eqb-true b 46 e1)) (refl, cc)
    go false true x3 x4 x5 x6 e1 e2 e3 e4 e5 e6 h = subst Goal (sym (eqb-true b 59 e2)) (refl, cc)
    go false false true x4 x5 x6 e1 e2 e3 e4 e5 e6 h = subst Goal (sym (eqb-true b 40 e3)) (refl, cc)
    go false false false true x5 x6 e1 e2 e3 e4 e5 e6 h = subst Goal (sym (eqb-true b 41 e4)) (refl, cc)
    go false false false false true x6 e1 e2 e3 e4 e5 e6 h = subst Goal (sym (eqb-true b 42 e5)) (refl, cc)
    go false false false false false true e1 e2 e3 e4 e5 e6 h = subst Goal (sym (eqb-true b 61 e6)) (refl, cc)
    go false false false false false false e1 e2 e3 e4 e5 e6 h = (cc, cc)

-- A byte that is not allowed.
front_bad : (i : ℕ) (b : ℕ) (bs : List ℕ) → barred_byte b ≡ true → (blank_byte b ≡ false) × (front i b bs ≡ one_byte none)
unfolding front mark
front_bad i b bs h = go (word_byte b) (blank_byte b) (eqb b 58) (mark_of b) refl refl refl refl h
  where
    go : (w n c : Bool) (o : Option ℕ) → word_byte b ≡ w → blank_byte b ≡ n → eqb b 58 ≡ c → mark_of b ≡ o → not (w || (n || c)) && is_none o ≡ true →
        (blank_byte b ≡ false) × (front i b bs ≡ one_byte none)
    go true n c o ew en ec eo h = (cc, cc)
    go false true c o ew en ec eo h = (cc, cc)
    go false false true o ew en ec eo h = (cc, cc)
    go false false false (some k) ew en ec eo h = (cc, cc)
    go false false false none ew en ec eo h = (en, rw (ew, ec, eo))

-- The first token.
pub lexed : (l i b : ℕ) (bs : List ℕ) (f : Front) → blank_byte b ≡ false → front i b bs ≡ f → lexemes (suc l) (b ∷ bs) i ≡ at i f.token ∷ lexemes l (drop f.more bs) (suc (i + f.more))
unfolding lexemes
lexed l i b bs f e plain = rw (e, plain)

one_lexed : (l i b : ℕ) (bs : List ℕ) (t : Option Token) → blank_byte b ≡ false → front i b bs ≡ one_byte t → lexemes (suc l) (b ∷ bs) i ≡ at i t ∷ lexemes l bs (suc i)
one_lexed l i b bs t e plain = lexed l i b bs _ e plain ∙ rw (add-zero i)

front-colon : (i : ℕ) (bs : List ℕ) → begins (eqb 61) bs ≡ false → front i 58 bs ≡ one_byte (some (sign OTHER))
unfolding front mark
front-colon i [] h = refl
front-colon i (c ∷ bs) h = rw (flip c h)
  where
    flip : (c : ℕ) → eqb 61 c ≡ false → eqb c 61 ≡ false
    flip c h = go (eqb c 61) refl
      where
        go : (x : Bool) → eqb c 61 ≡ x → x ≡ false
        go true e = let g = eqb-true c 61 e in let k : eqb 61 61 ≡ false = subst (λ (n : ℕ). eqb 61 n ≡ false) g h in cc
        go false e = refl

lexed_assign : (l i : ℕ) (bs : List ℕ) → lexemes (suc l) (58 ∷ 61 ∷ bs) i ≡ at i (some (sign ASSIGN)) ∷ lexemes l bs (suc (suc i))
unfolding lexemes front mark
lexed_assign l i bs = rw (add-suc i 0, add-zero i)

shorter : (l : ℕ) (w bs : List ℕ) → suc (length (w ++ bs)) ≤ suc l → length bs ≤ l
shorter l w bs h = let g = length-append w bs in omega (arith, g, h)

pub cut-is : {i : ℕ} {bs : List ℕ} {us : List Lexeme} (l : ℕ) → length bs ≤ l → Cut i bs us → lexemes l bs i ≡ us
unfolding lexemes
cut-is {i = i} zero h ended = refl
cut-is {i = i} (suc l) h ended = refl
cut-is {i = i} zero h (blank e c) = absurd (not-suc-le-zero h)
cut-is {i = i} zero h (run b w e j c) = absurd (not-suc-le-zero h)
cut-is {i = i} zero h (T.mark e c) = absurd (not-suc-le-zero h)
cut-is {i = i} zero h (assign c) = absurd (not-suc-le-zero h)
cut-is {i = i} zero h (colon e c) = absurd (not-suc-le-zero h)
cut-is {i = i} zero h (barred e c) = absurd (not-suc-le-zero h)
cut-is {i = i} (suc l) h (blank e c) = rw e (cut-is {i = suc i} l (le_of_suc-le-suc h) c)
cut-is {i = i} (suc l) h (run {bs = bs} {us = us} b w e j c) =
    lexed l i b (w ++ bs) _ (word-no-blank b (all_head b w e).0) (front-run i b w bs e j)
    ∙ rw (drop-append_seam w bs) (ap (λ (r : List Lexeme). at i (word_token i (b ∷ w)) ∷ r) (cut-is {i = suc (i + length w)} l (shorter l w bs h) c))
cut-is {i = i} (suc l) h (T.mark {b = b} {k = k} {bs = bs} e c) = one_lexed l i b bs _ (front-mark i b k bs e).0 (front-mark i b k bs e).1
    ∙ ap (λ (r : List Lexeme). at i (some (sign k)) ∷ r) (cut-is {i = suc i} l (le_of_suc-le-suc h) c)
cut-is {i = i} (suc l) h (assign {bs = bs} c) = lexed_assign l i bs ∙ ap (λ (r : List Lexeme). at i (some (sign ASSIGN)) ∷ r) (cut-is {i = suc (suc i)} l (omega arith) c)
cut-is {i = i} (suc l) h (colon {bs = bs} e c) = one_lexed l i 58 bs _ refl (front-colon i bs e) ∙ ap (λ (r : List Lexeme). at i (some (sign OTHER)) ∷ r) (cut-is {i = suc i} l (le_of_suc-le-suc h) c)
cut-is {i = i} (suc l) h (barred {b = b} {bs = bs} e c) = one_lexed l i b bs _ (front_bad i b bs e).0 (front_bad i b bs e).1 ∙ ap (λ (r : List Lexeme). at i none ∷ r) (cut-is {i = suc i} l (le_of_suc-le-suc h) c)

-- The run at the front of some bytes.
split_run : (bs : List ℕ) → (w r : List ℕ) × (bs ≡ w ++ r) × (all word_byte w ≡ true) × (begins word_byte r ≡ false)
split_run [] = ([], [], refl, refl, refl)
split_run (b ∷ bs) = go (word_byte b) refl (split_run bs)
  where
    go : (x : Bool) → word_byte b ≡ x → (w r : List ℕ) × (bs ≡ w ++ r) × (all word_byte w ≡ true) × (begins word_byte r ≡ false) →
        (w r : List ℕ) × (b ∷ bs ≡ w ++ r) × (all word_byte w ≡ true) × (begins word_byte r ≡ false)
    go true e (w, r, plain, f, g) = (b ∷ w, r, ap (λ (x : List ℕ). b ∷ x) plain, rw (e, f), g)
    go false e y = ([], b ∷ bs, refl, refl, e)

-- Every text is cut into tokens.
abbrev Cuts : ℕ → Type 0
Cuts l = (bs : List ℕ) (i : ℕ) → length bs ≤ l → (us : List Lexeme) × Cut i bs us

cut-more : (l : ℕ) → Cuts l → Cuts (suc l)
cut-more l rec [] i h = ([], ended)
cut-more l rec (b ∷ bs) i h = go (blank_byte b) (word_byte b) (eqb b 58) (mark_of b) refl refl refl refl (split_run bs)
  where
    colons : (c : ℕ) (cs : List ℕ) (x : Bool) → suc (length cs) ≤ l → eqb 61 c ≡ x → (us : List Lexeme) × Cut i (58 ∷ c ∷ cs) us
    colons c cs true h e = let (us, d) = rec cs (suc (suc i)) (omega arith) in (_, subst (λ (n : ℕ). Cut i (58 ∷ n ∷ cs) (at i (some (sign ASSIGN)) ∷ us)) (eqb-true 61 c e) (assign d))
    colons c cs false h e = let (us, d) = rec (c ∷ cs) (suc i) h in (_, colon e d)

    after : (bs : List ℕ) → suc (length bs) ≤ suc l → (us : List Lexeme) × Cut i (58 ∷ bs) us
    after [] h = (_, colon refl ended)
    after (c ∷ cs) h = colons c cs (eqb 61 c) (le_of_suc-le-suc h) refl

    go : (n w c : Bool) (o : Option ℕ) → blank_byte b ≡ n → word_byte b ≡ w → eqb b 58 ≡ c → mark_of b ≡ o →
        (w r : List ℕ) × (bs ≡ w ++ r) × (all word_byte w ≡ true) × (begins word_byte r ≡ false) →
        (us : List Lexeme) × Cut i (b ∷ bs) us
    go true w c o en ew ec eo y = let (us, d) = rec bs (suc i) (le_of_suc-le-suc h) in (us, blank en d)
    go false true c o en ew ec eo (w, r, plain, f, g) =
        let (us, d) = rec r (suc (i + length w)) (shorter l w r (subst (λ (x : List ℕ). suc (length x) ≤ suc l) plain h)) in
        (_, subst (λ (x : List ℕ). Cut i (b ∷ x) (at i (word_token i (b ∷ w)) ∷ us)) (sym plain) (run b w (rw (ew, f)) g d))
    go false false true o en ew ec eo y = subst (λ (n : ℕ). (us : List Lexeme) × Cut i (n ∷ bs) us) (sym (eqb-true b 58 ec)) (after bs h)
    go false false false (some k) en ew ec eo y = let (us, d) = rec bs (suc i) (le_of_suc-le-suc h) in (_, T.mark eo d)
    go false false false none en ew ec eo y = let (us, d) = rec bs (suc i) (le_of_suc-le-suc h) in (_, barred {b = b} (rw (ew, en, ec, eo)) d)

cuts : (l : ℕ) → Cuts l
cuts zero [] i h = ([], ended)
cuts zero (b ∷ bs) i h = absurd (not-suc-le-zero h)
cuts (suc l) bs i h = cut-more l (cuts l) bs i h

-- The tokens of a text are what it is cut into, and it is cut in one way.
pub cut-tokens : (bs : List ℕ) (us : List Lexeme) → Cut 0 bs us ↔ (tokens bs ≡ us)
unfolding tokens_from
cut-tokens bs us = (
  λ c. cut-is (length bs) (le_refl _) c,
  λ e. let (vs, c) = cuts (length bs) bs 0 (le_refl _) in subst (Cut 0 bs) (sym (cut-is (length bs) (le_refl _) c) ∙ e) c,
)
