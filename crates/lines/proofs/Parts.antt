-- How long a line is, word by word.
-- Assumes nothing.
use mathlib.Core.Path.{◌≡◌, refl}
use mathlib.Core.List.{List, [], ◌∷◌}
use Prim.Native.Nat.{ℕ, ◌+◌, ◌≤◌}
use native.Mathlib.Omega.{arith}
use lib.ListN.{length, length-append}
use Rattle.notation.specs.Bytes.{bytes}
use Rattle.lines.specs.Lines.{decimal_of, word, others, line, refusal_line}
use Rattle.lines.proofs.Digits.{digits-within}

pub line-length : (w : List ℕ) (ws : List (List ℕ)) → length (line (w ∷ ws)) ≡ length w + length (others ws)
unfolding line
line-length w ws = length-append w (others ws)

pub others-length : (w : List ℕ) (ws : List (List ℕ)) → length (others (w ∷ ws)) ≡ 1 + length w + length (others ws)
unfolding others
others-length w ws = omega (arith, length-append (word w) (others ws))

pub end-length : length (others []) ≡ 1
unfolding others
end-length = refl

-- Two numbers of at most 20 digits each.
pub refusal-short : (n p : ℕ) → length (refusal_line n p) ≤ 50
unfolding bytes
refusal-short n p =
    omega (
      arith,
      line-length (bytes "refused") (decimal_of n ∷ decimal_of p ∷ []),
      others-length (decimal_of n) (decimal_of p ∷ []),
      others-length (decimal_of p) [],
      end-length,
      digits-within 19 n,
      digits-within 19 p,
    )
