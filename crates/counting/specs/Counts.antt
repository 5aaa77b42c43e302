-- The members of a map for each setting of the shared names, and how many they are; and what it is to count.
-- Assumes nothing.
use Rattle.std.specs.Prelude.{◌≡◌, ◌↔◌, ◌&&◌, List, [], ◌∷◌, ℕ, ◌%◌, ◌^◌, ◌<◌, eqb, ltb, length}
use Rattle.std.specs.Int.Count.{ones}
use Rattle.notation.specs.Model.{Model}
use Rattle.notation.specs.Regular.{Every, Among, sum_over}
use Rattle.meaning.specs.Evidence.{in_map}
use Rattle.exploration.specs.Members.{below}

-- How many settings the shared names of a model have: each is 0 or 1.
abbrev pub setting_count : Model → ℕ
setting_count m = 2 ^ m.shared_names

-- The setting of a state, where there are so many settings. The shared names are the lowest bits of a state's number.
abbrev pub setting_of : ℕ → ℕ → ℕ
setting_of settings s = s % settings

-- The members with the setting j, and how many there are.
abbrev pub members_at : ℕ → ℕ → List ℕ → ℕ → List ℕ
members_at states settings map j = below states (λ s. in_map map s && eqb (setting_of settings s) j)

abbrev pub count_at : ℕ → ℕ → List ℕ → ℕ → ℕ
count_at states settings map j = length (members_at states settings map j)

-- The settings that some member has, ascending.
abbrev pub settings_in : ℕ → ℕ → List ℕ → List ℕ
settings_in states settings map = below settings (λ j. ltb 0 (count_at states settings map j))

-- The number of one bits in bytes.
abbrev pub ones_of : List ℕ → ℕ
ones_of bytes = sum_over ones bytes

-- Each number of the list is below those behind it.
abbrev pub Ascending : List ℕ → Type 0
Ascending [] = Unit {0}
Ascending (n ∷ ns) = Every (λ (k : ℕ). n < k) ns × Ascending ns

-- Exactly n numbers are so: a list of that length has them all, none twice, and no others.
pub record ThereAre (n : ℕ) (P : ℕ → Type 0) : Type 0 where
  pub these : List ℕ
  pub many : length these ≡ n
  pub ascending : Ascending these
  pub exactly : (t : ℕ) → Among t these ↔ P t
