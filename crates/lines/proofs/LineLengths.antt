-- How long lines of one to five words are.
-- Assumes nothing.
use mathlib.Core.Path.{◌≡◌}
use mathlib.Core.List.{List, [], ◌∷◌}
use Prim.Native.Nat.{ℕ, ◌+◌}
use native.Mathlib.Omega.{arith}
use lib.ListN.{length}
use Rattle.lines.specs.Lines.{line}
use Rattle.lines.proofs.Parts.{line-length, others-length, end-length}

module _ (a : List ℕ) where
  pub one_word : length (line (a ∷ [])) ≡ length a + 1
  one_word = omega (arith, line-length a [], end-length)

  module _ (b : List ℕ) where
    pub two-words : length (line (a ∷ b ∷ [])) ≡ length a + length b + 2
    two-words = omega (arith, line-length a (b ∷ []), others-length b [], end-length)

    pub three_words : (c : List ℕ) → length (line (a ∷ b ∷ c ∷ [])) ≡ length a + length b + length c + 3
    three_words c = omega (arith, line-length a (b ∷ c ∷ []), others-length b (c ∷ []), others-length c [], end-length)

    module _ (c d : List ℕ) where
      pub four_words : length (line (a ∷ b ∷ c ∷ d ∷ [])) ≡ length a + length b + length c + length d + 4
      four_words = omega (arith, line-length a (b ∷ c ∷ d ∷ []), others-length b (c ∷ d ∷ []), others-length c (d ∷ []), others-length d [], end-length)

      pub five-words : (e : List ℕ) → length (line (a ∷ b ∷ c ∷ d ∷ e ∷ [])) ≡ length a + length b + length c + length d + length e + 5
      five-words e =
          omega
          (arith, line-length a (b ∷ c ∷ d ∷ e ∷ []), others-length b (c ∷ d ∷ e ∷ []), others-length c (d ∷ e ∷ []), others-length d (e ∷ []), others-length e [], end-length)
