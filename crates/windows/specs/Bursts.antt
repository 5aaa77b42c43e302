-- How often a command occurs in steps, and where it occurs most often in so many steps on end. Steps stand here by the numbers of their commands.
-- Assumes nothing.
use Rattle.std.specs.Prelude.{cond, List, [], ◌∷◌, map, ℕ, zero, suc, ◌+◌, ◌-◌, eqb, ltb, length, take, drop}
use Rattle.meaning.specs.Bits.{first}
use Rattle.meaning.specs.OneRow.{TraceStep}

-- The commands of the steps, in their order.
abbrev pub commands_of : List TraceStep → List ℕ
commands_of xs = map (λ (x : TraceStep). x.command) xs

-- How often command k occurs.
unfoldable pub occurs : ℕ → List ℕ → ℕ
occurs k [] = 0
occurs k (x ∷ xs) = cond (eqb x k) (occurs k xs + 1) (occurs k xs)

-- How often it occurs in the w steps from place p on. Places count from 1.
unfoldable pub occurs_from : ℕ → ℕ → List ℕ → ℕ → ℕ
occurs_from k w xs p = occurs k (take w (drop (p - 1) xs))

-- The last place where w whole steps begin. Of no more than w steps there is one stretch, from 1.
abbrev pub last_stretch : ℕ → List ℕ → ℕ
last_stretch w xs = length xs - w + 1

-- The most, and the first place where it is reached.
pub record Burst : Type 0 where
  pub most : ℕ
  pub place : ℕ

-- The most of the values at place 1 and the n places after it. A place counts only where there is more than at all places before.
unfoldable pub first_most : (ℕ → ℕ) → ℕ → Burst
first_most f zero = record { most = f 1; place = 1 }
first_most f (suc n) = let b = first_most f n in cond (ltb b.most (f (n + 2))) (record { most = f (n + 2); place = n + 2 }) b

-- Where command k occurs most often in w steps on end.
unfoldable pub burst : ℕ → ℕ → List ℕ → Burst
burst k w xs = first_most (occurs_from k w xs) (length xs - w)

-- How often each of the commands 0 to 15 occurs. No model has more.
unfoldable pub counts_of : List ℕ → List ℕ
counts_of xs = first 16 (λ k. occurs k xs)
