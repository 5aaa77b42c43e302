-- Runs of bytes: how far the bytes that pass a test go from a place on, and what stands behind a run of blanks.
-- Assumes nothing.
use mathlib.Core.Path.{◌≡◌, refl, sym, ap, ◌∙◌, subst}
use mathlib.Core.Bool.{Bool, true, false, cond}
use mathlib.Core.List.{List, [], ◌∷◌}
use Prim.Native.Nat.{ℕ, zero, suc, ◌+◌, ◌-◌, ◌≤◌, ◌<◌}
use native.Mathlib.Numerals.{add-one}
use native.Mathlib.Omega.{arith}
use lib.Dec.{ltb}
use lib.ListN.{length, get_or, drop, drop_of_length-le, length-drop}
use lib.Seq.{drop-cons}
use borrow.Author.Tests.{ltb-true, ltb-false}
use Rattle.notation.specs.Bytes.{word_byte, blank_byte}
use Rattle.notation.specs.working.Lexing.{span, tokens_from}
use Rattle.notation.proofs.Lexes.{from-blank}
use Rattle.lexer.specs.working.Pieces.{blanks}

-- How many bytes at the front pass the test.
pub record Counts (test : ℕ → Bool) (count : List ℕ → ℕ) : Type 0 where
  pub none : count [] ≡ 0
  pub front : (b : ℕ) (bs : List ℕ) → count (b ∷ bs) ≡ cond (test b) (suc (count bs)) 0

pub word-run : Counts word_byte span
unfolding span
word-run = record { none = refl; front = λ b bs. refl }

pub blank-run : Counts blank_byte blanks
unfolding blanks
blank-run = record { none = refl; front = λ b bs. refl }

module _ {test : ℕ → Bool} {count : List ℕ → ℕ} (c : Counts test count) (text : List ℕ) (i : ℕ) where
  pub run_step : i < length text → test (get_or text i 0) ≡ true → count (drop i text) ≡ suc (count (drop (suc i) text))
  run_step h t = ap count (drop-cons text i 0 h) ∙ c.front (get_or text i 0) (drop (suc i) text) ∙ rw t

  pub run_more : i < length text → test (get_or text i 0) ≡ true → i + 1 + count (drop (i + 1) text) ≡ i + count (drop i text)
  run_more h t = rw (run_step h t, add-one) (omega arith)

  pub run-here : i < length text → test (get_or text i 0) ≡ false → i ≡ i + count (drop i text)
  run-here h t =
      let e : count (drop i text) ≡ 0 = ap count (drop-cons text i 0 h) ∙ c.front (get_or text i 0) (drop (suc i) text) ∙ rw t in
      omega arith

  pub run_end : length text ≤ i → i ≡ i + count (drop i text)
  run_end h =
      let e : count (drop i text) ≡ 0 = ap count (drop_of_length-le text h) ∙ c.none in
      omega arith

pub run-grows : {test : ℕ → Bool} {count : List ℕ → ℕ} (c : Counts test count) (text : List ℕ) (i e : ℕ) →
    i < length text → test (get_or text i 0) ≡ true → e ≡ i + count (drop i text) → i < e
run-grows c text i e h t k = omega (arith, run_step c text i h t)

-- The last byte of a run passes the test too. The number bounds how many bytes there are from i on.
pub run-last : {test : ℕ → Bool} {count : List ℕ → ℕ} → Counts test count → (text : List ℕ) (n i : ℕ) → length text ≤ i + n → i < length text → test (get_or text i 0) ≡ true →
    test (get_or text (i + count (drop i text) - 1) 0) ≡ true
run-last c text zero i h k t = absurd (omega arith)
run-last {test} {count} c text (suc n) i h k t = go (ltb (suc i) (length text)) refl (test (get_or text (suc i) 0)) refl (run-last c text n (suc i) (omega arith))
  where
    step : count (drop i text) ≡ suc (count (drop (suc i) text))
    step = run_step c text i k t

    here : count (drop (suc i) text) ≡ 0 → test (get_or text (i + count (drop i text) - 1) 0) ≡ true
    here z = let e : i + count (drop i text) - 1 ≡ i = omega (arith, step) in rw e t

    go : (x : Bool) → ltb (suc i) (length text) ≡ x → (y : Bool) → test (get_or text (suc i) 0) ≡ y →
        (suc i < length text → test (get_or text (suc i) 0) ≡ true → test (get_or text (suc i + count (drop (suc i) text) - 1) 0) ≡ true) →
        test (get_or text (i + count (drop i text) - 1) 0) ≡ true
    go true e true f rec =
        let q : i + count (drop i text) - 1 ≡ suc i + count (drop (suc i) text) - 1 = omega (arith, step) in
        rw q (rec (ltb-true (suc i) (length text) e) f)
    go true e false f rec = here (let z = run-here c text (suc i) (ltb-true (suc i) (length text) e) f in omega (arith, z))
    go false e y f rec = here (let z = run_end c text (suc i) (ltb-false (suc i) (length text) e) in omega (arith, z))

-- A run goes no further than the bytes do.
count_le : {test : ℕ → Bool} {count : List ℕ → ℕ} → Counts test count → (bs : List ℕ) → count bs ≤ length bs
count_le {count = count} c [] = omega (arith, c.none)
count_le {test} {count} c (b ∷ bs) = go (test b) (c.front b bs) (count_le c bs)
  where
    go : (x : Bool) → count (b ∷ bs) ≡ cond x (suc (count bs)) 0 → count bs ≤ length bs → count (b ∷ bs) ≤ suc (length bs)
    go true e h = omega arith
    go false e h = omega arith

pub run-within : {test : ℕ → Bool} {count : List ℕ → ℕ} → Counts test count → (text : List ℕ) (i : ℕ) → i ≤ length text → i + count (drop i text) ≤ length text
run-within c text i h = omega (arith, count_le c (drop i text), length-drop i text)

-- The tokens from i on are those from s on, and no blank stands at s.
pub record Behind (text : List ℕ) (i s : ℕ) : Type 0 where
  pub same : tokens_from text i ≡ tokens_from text s
  pub held : s < length text → blank_byte (get_or text s 0) ≡ false

-- Blanks are part of no token. The first number bounds how many bytes there are from i on.
pub behind_blanks : (text : List ℕ) (n i : ℕ) → length text ≤ i + n → Behind text i (i + blanks (drop i text))
behind_blanks text zero i h =
    let e : length text ≤ i = omega arith in
    subst (λ (s : ℕ). Behind text i s) (run_end blank-run text i e) (record { same = refl; held = λ k. absurd (omega arith) })
behind_blanks text (suc n) i h = go (ltb i (length text)) (blank_byte (get_or text i 0)) refl refl (behind_blanks text n (i + 1) (omega arith))
  where
    go : (x y : Bool) → ltb i (length text) ≡ x → blank_byte (get_or text i 0) ≡ y → Behind text (i + 1) (i + 1 + blanks (drop (i + 1) text)) →
        Behind text i (i + blanks (drop i text))
    go false y e f b =
        let k : length text ≤ i = ltb-false i (length text) e in
        subst (λ (s : ℕ). Behind text i s) (run_end blank-run text i k) (record { same = refl; held = λ j. absurd (omega arith) })
    go true false e f b =
        subst (λ (s : ℕ). Behind text i s) (run-here blank-run text i (ltb-true i (length text) e) f) (record { same = refl; held = λ j. f })
    go true true e f b =
        let k : i < length text = ltb-true i (length text) e in
        subst (λ (s : ℕ). Behind text i s) (run_more blank-run text i k f)
        (record { same = from-blank text i k f ∙ ap (tokens_from text) (sym (add-one i)) ∙ b.same; held = b.held })
