-- Every name that a text declares stands in the text at its place.
-- Assumes nothing.
use mathlib.Core.Path.{◌≡◌, refl, sym, ap, ◌∙◌}
use mathlib.Core.Bool.{Bool, true, false, cond}
use mathlib.Core.List.{List, [], ◌∷◌, ◌++◌, map, append_assoc}
use mathlib.Core.Option.{Option, none, some}
use Prim.Native.Nat.{ℕ, ◌+◌, ◌≤◌}
use native.Mathlib.Omega.{arith}
use lib.Dec.{ltb}
use lib.ListN.{length, take, drop, length-append}
use lib.Seq.{take-append_seam, drop_at}
use borrow.Author.Tests.{ltb-false}
use Rattle.notation.specs.Bytes.{letter, in_lower_case, begins, same_word}
use Rattle.notation.specs.Tokens.{Name, Token, sign, name, reserved, word_in, plain_word, sign_or, is_none, other_word, longest_word, word_token, Lexeme, at, Cut, ended, blank, run, mark, assign, colon, barred, ZERO, ONE, OTHER}
use Rattle.notation.specs.Notation.{Kind, Part, part, declared, shared_name, row_name, Tree, Command, TextIs, is_text, CommandIs, is_command, Several, final, and_then}
use Rattle.notation.specs.Regular.{Every}
use Rattle.notation.specs.Texts.{Spells, spells_none, spells, TextSaysTree, title_of, names_of}
use Rattle.notation.specs.Case.{spelling}
use Rattle.notation.specs.Promises.{NamesSpelt}
use Rattle.notation.proofs.Members.{joined, weaken}
use Rattle.notation.proofs.Case.{lower-length}
use Rattle.notation.proofs.Parts.{parted, text-parts}

-- A name stands in the text: it is spelt there as its word is but for case, and it is not long.
pub record Stands (text : List ℕ) (n : Name) : Type 0 where
  pub spelt : in_lower_case (spelling text n) ≡ n.word
  pub inside : n.place + length n.word ≤ length text
  pub short : length n.word ≤ longest_word

abbrev Told : List ℕ → Token → Type 0
Told text (sign k) = Unit {0}
Told text (name n) = Stands text n

abbrev ToldAt : List ℕ → Option Token → Type 0
ToldAt text none = Unit {0}
ToldAt text (some t) = Told text t

abbrev ToldLexeme : List ℕ → Lexeme → Type 0
ToldLexeme text (at i t) = ToldAt text t

abbrev ToldPart : List ℕ → Part → Type 0
ToldPart text (part r t) = Told text t

-- A word behind the bytes `pre`.
module _ (text pre post w : List ℕ) (i : ℕ) (e : text ≡ pre ++ (w ++ post)) (l : length pre ≡ i) where
  spelt : spelling text (record { place = i; word = in_lower_case w }) ≡ w
  unfolding spelling
  spelt =
      ap (λ t. take (length (in_lower_case w)) (drop i t)) e ∙ ap (take (length (in_lower_case w))) (drop_at pre (w ++ post) i l) ∙ rw (lower-length w) (take-append_seam w post)

  stands : length w ≤ longest_word → Stands text (record { place = i; word = in_lower_case w })
  stands h =
      record {
        spelt = ap in_lower_case spelt;
        inside = omega (arith, ap length e, length-append pre (w ++ post), length-append w post, lower-length w);
        short = omega (arith, lower-length w);
      }

  plain-told : length w ≤ longest_word → Told text (plain_word i w)
  plain-told h = go (begins letter w) (same_word w (48 ∷ [])) (same_word w (49 ∷ []))
    where
      go : (a b c : Bool) → Told text (cond a (name (record { place = i; word = in_lower_case w })) (cond b (sign ZERO) (cond c (sign ONE) (sign OTHER))))
      go true b c = stands h
      go false true c = tt
      go false false true = tt
      go false false false = tt

  word-told : ToldAt text (word_token i w)
  unfolding word_token
  word-told = go (ltb longest_word (length w)) refl (word_in w reserved 0)
    where
      unreserved_told : (x : Bool) → length w ≤ longest_word → Told text (cond x (plain_word i w) (sign OTHER))
      unreserved_told true h = plain-told h
      unreserved_told false h = tt

      sign-or : (o : Option ℕ) → length w ≤ longest_word → Told text (sign_or o (other_word i w))
      sign-or none h = unreserved_told (is_none (word_in (in_lower_case w) reserved 0)) h
      sign-or (some k) h = tt

      go : (b : Bool) → ltb longest_word (length w) ≡ b → (o : Option ℕ) → ToldAt text (cond b none (some (sign_or o (other_word i w))))
      go true q o = tt
      go false q o = sign-or o (ltb-false longest_word (length w) q)

-- The next bytes belong to what stands before.
further : (text pre bs bs' : List ℕ) → text ≡ pre ++ (bs ++ bs') → text ≡ (pre ++ bs) ++ bs'
further text pre bs bs' e = e ∙ sym (append_assoc pre bs bs')

module _ (text : List ℕ) where
  -- Every name that the text is cut into stands there.
  cut-told : {i : ℕ} {bs : List ℕ} {us : List Lexeme} → Cut i bs us → (pre : List ℕ) → text ≡ pre ++ bs → length pre ≡ i → Every (ToldLexeme text) us
  cut-told ended pre e l = tt
  cut-told (blank {i} {b} {bs} h c) pre e l = cut-told c (pre ++ (b ∷ [])) (further text pre (b ∷ []) bs e) (omega (arith, length-append pre (b ∷ [])))
  cut-told (run {i} {bs} b w h j c) pre e l =
      (word-told text pre bs (b ∷ w) i e l, cut-told c (pre ++ (b ∷ w)) (further text pre (b ∷ w) bs e) (omega (arith, length-append pre (b ∷ w))))
  cut-told (mark {i} {b} {k} {bs} h c) pre e l = (tt, cut-told c (pre ++ (b ∷ [])) (further text pre (b ∷ []) bs e) (omega (arith, length-append pre (b ∷ []))))
  cut-told (assign {i} {bs} c) pre e l =
      (tt, cut-told c (pre ++ (58 ∷ 61 ∷ [])) (further text pre (58 ∷ 61 ∷ []) bs e) (omega (arith, length-append pre (58 ∷ 61 ∷ []))))
  cut-told (colon {i} {bs} h c) pre e l = (tt, cut-told c (pre ++ (58 ∷ [])) (further text pre (58 ∷ []) bs e) (omega (arith, length-append pre (58 ∷ []))))
  cut-told (barred {i} {b} {bs} h c) pre e l = (tt, cut-told c (pre ++ (b ∷ [])) (further text pre (b ∷ []) bs e) (omega (arith, length-append pre (b ∷ []))))

  parts-told : {us : List Lexeme} {ps : List Part} → Spells us ps → Every (ToldLexeme text) us → Every (ToldPart text) ps
  parts-told spells_none h = tt
  parts-told (spells i r t s) h = (h.0, parts-told s h.1)

  title-told : {ps : List Part} {k : Command} → CommandIs ps k → Every (ToldPart text) ps → Stands text (title_of k)
  title-told (is_command w e xs ys) h = h.1.0

  titles_told : {ps : List Part} {ks : List Command} → Several CommandIs ps ks → Every (ToldPart text) ps → Every (Stands text) (map title_of ks)
  titles_told (final o) h = (title-told o h, tt)
  titles_told (and_then {ps} {qs} o more) h = let x = parted (ToldPart text) ps qs h in (title-told o x.0, titles_told more x.1)

  -- The names of a list of declarations.
  names-told : (k : Kind) (ws : List Name) → Every (ToldPart text) (declared k ws) → Every (Stands text) ws
  names-told k [] h = tt
  names-told k (w ∷ ws) h = (h.0, names-told k ws h.1)

form-told : (text : List ℕ) {ps : List Part} {x : Tree} → TextIs ps x → Every (ToldPart text) ps → Every (Stands text) (names_of x)
unfolding names_of
form-told text (is_text {ss} {ks} {cs} ws vs s k o) h =
    let a = parted (ToldPart text) (declared shared_name ws) _ h.1 in
    let b = parted (ToldPart text) (declared row_name vs) _ a.1.1.1 in
    joined (Stands text) ws _ (names-told text shared_name ws a.0)
    (joined (Stands text) vs _ (names-told text row_name vs b.0) (titles_told text o (text-parts (ToldPart text) ws vs ss ks cs h).2))

-- The names of a tree stand in every text that says the tree.
pub names_stand : (text : List ℕ) (x : Tree) → TextSaysTree text x → Every (Stands text) (names_of x)
names_stand text x t = form-told text t.says.form (parts-told text t.says.spelt (cut-told text t.cut [] refl refl))

pub names-spelt : NamesSpelt
names-spelt text x t = weaken (Stands text) _ (λ n k. k.spelt) (names_of x) (names_stand text x t)
