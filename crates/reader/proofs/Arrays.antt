-- What an array holds: a list, and zeros behind it.
-- Assumes nothing.
use mathlib.Core.Path.{◌≡◌, ap, ◌∙◌}
use mathlib.Core.List.{List, ◌++◌}
use Prim.Native.Nat.{ℕ, ◌+◌, ◌≤◌}
use native.Mathlib.Omega.{arith}
use lib.ListN.{length, drop, replicate, length-replicate}
use lib.Seq.{sets-eq}
use Rattle.reader.specs.Read.{filled}

pub filled-front : (n : ℕ) (l : List ℕ) → length l ≤ n → filled n l ≡ l ++ drop (length l) (replicate n 0)
filled-front n l h =
    sets-eq l (replicate n 0) 0 (omega (arith, length-replicate {A = ℕ} n 0)) ∙ (let q : 0 + length l ≡ length l = omega arith in ap (λ (k : ℕ). l ++ drop k (replicate n 0)) q)
