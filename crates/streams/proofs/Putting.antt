-- What a title and numbers behind it put, number by number.
-- Assumes nothing.
use Rattle.std.proofs.Common.{◌≡◌, ℕ, ◌+◌, ◌<◌, ◌≤◌, List, [], ◌∷◌, ◌++◌, length, take, get_or, refl, sym, ap, ◌∙◌, append_assoc, subst}
use mathlib.Core.List.{append-nil}
use Rattle.std.proofs.lemmas.List.{take_more, take_all}
use Rattle.std.specs.List.{AllZip}
use Rattle.lines.specs.declared.Writer.{Writer}
use Rattle.lines.specs.Lines.{word, decimal_of}
use Rattle.lines.specs.Writers.{Writes}
use Rattle.lines.proofs.Writers.{behind}
use Rattle.streams.specs.Values.{words_of, PutsValues}

-- No number, and one more behind the others.
words-none : words_of [] ≡ []
unfolding words_of
words-none = refl

words-more : (ns : List ℕ) (n : ℕ) → words_of (ns ++ (n ∷ [])) ≡ words_of ns ++ word (decimal_of n)
unfolding words_of
words-more [] n = append-nil (word (decimal_of n))
words-more (m ∷ ns) n = ap (λ w. word (decimal_of m) ++ w) (words-more ns n) ∙ sym (append_assoc (word (decimal_of m)) (words_of ns) (word (decimal_of n)))

spelt-more : (title ns : List ℕ) (n : ℕ) → (title ++ words_of ns) ++ word (decimal_of n) ≡ title ++ words_of (ns ++ (n ∷ []))
spelt-more title ns n = append_assoc title (words_of ns) (word (decimal_of n)) ∙ ap (λ w. title ++ w) (sym (words-more ns n))

module _ {A : Type 0} (becomes : A → ℕ → Type 0) where
  one-more : (xs : List A) (ns : List ℕ) (x : A) (n : ℕ) → AllZip becomes xs ns → becomes x n → AllZip becomes (xs ++ (x ∷ [])) (ns ++ (n ∷ []))
  one-more [] [] x n h p = (p, tt)
  one-more [] (m ∷ ns) x n h p = absurd h
  one-more (y ∷ xs) [] x n h p = absurd h
  one-more (y ∷ xs) (m ∷ ns) x n h p = (h.0, one-more xs ns x n h.1 p)

  module _ (title : List ℕ) {s t : Writer} where
    -- No number yet.
    pub values-begun : Writes s title t → PutsValues becomes title [] s t
    values-begun P = ([], tt, subst (λ v. Writes s v t) (sym (ap (λ w. title ++ w) words-none ∙ append-nil title)) P)

    -- A number more.
    pub values-more : {u : Writer} (xs : List A) (i : ℕ) (x : A) (n : ℕ) → i < length xs → x ≡ get_or xs i x → becomes x n → PutsValues becomes title (take i xs) s t → Writes t (word (decimal_of n)) u → PutsValues becomes title (take (i + 1) xs) s u
    values-more {u} xs i x n inside is p so_far put =
        let ns = so_far.0 in
        let cut : take (i + 1) xs ≡ take i xs ++ (x ∷ []) = take_more xs i x inside ∙ ap (λ y. take i xs ++ (y ∷ [])) (sym is) in (
          ns ++ (n ∷ []),
          subst (λ l. AllZip becomes l (ns ++ (n ∷ []))) (sym cut) (one-more (take i xs) ns x n so_far.1 p),
          subst (λ v. Writes s v u) (spelt-more title ns n) (behind so_far.2 put),
        )

    -- All of them.
    pub values-all : (xs : List A) (i : ℕ) → length xs ≤ i → PutsValues becomes title (take i xs) s t → PutsValues becomes title xs s t
    values-all xs i h P = subst (λ l. PutsValues becomes title l s t) (take_all i xs h) P
