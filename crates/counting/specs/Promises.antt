-- What is promised of the counts of a map, each promise a type that a theorem of proofs/ inhabits.
-- Assumes nothing.
use Rattle.std.specs.Prelude.{◌≡◌, ◌↔◌, List, ℕ, ◌<◌}
use Rattle.notation.specs.Model.{Model}
use Rattle.notation.specs.Regular.{Among, sum_over}
use Rattle.meaning.specs.Bits.{number}
use Rattle.meaning.specs.OneRow.{One, spread, state_count}
use Rattle.meaning.specs.Evidence.{safe, safe_by}
use Rattle.sheets.specs.Sheets.{System, size}
use Rattle.sheets.specs.SheetTexts.{AreBytes, SheetSays}
use Rattle.exploration.specs.Findings.{Reaches, ExactMap, Finds}
use Rattle.exploration.specs.Members.{members, member_count}
use Rattle.counting.specs.Counts.{setting_count, setting_of, count_at, settings_in, ones_of, Ascending, ThereAre}

-- The map that a sheet says has as many members as its record's payload has one bits.
abbrev pub MembersAreOnes : Type 0
MembersAreOnes = (M : System) (b bytes : List ℕ) → AreBytes b → SheetSays M b (safe bytes) → member_count (size M) bytes ≡ ones_of bytes

-- The counts of the settings that occur add up to it.
abbrev pub CountsAddUp : Type 0
CountsAddUp = (states settings : ℕ) (bytes : List ℕ) → 0 < settings → sum_over (count_at states settings bytes) (settings_in states settings bytes) ≡ member_count states bytes

-- A setting is listed exactly if a member has it; the list ascends, so that none is listed twice.
pub record Occur (states settings : ℕ) (bytes : List ℕ) : Type 0 where
  pub ascending : Ascending (settings_in states settings bytes)
  pub exactly : (j : ℕ) → Among j (settings_in states settings bytes) ↔ ((s : ℕ) × Among s (members states bytes) × (setting_of settings s ≡ j))

abbrev pub SettingsOccur : Type 0
SettingsOccur = (states settings : ℕ) (bytes : List ℕ) → 0 < settings → Occur states settings bytes

-- A setting is the number that the shared bits of a state make.
abbrev pub SettingsAreShared : Type 0
SettingsAreShared = (m : Model) (s : ℕ) → number (spread m One s).shared ≡ setting_of (setting_count m) s

-- Where a map has exactly the states that runs reach, its members are as many as there are such states, in all and with each setting.
pub record Counted (m : Model) (bytes : List ℕ) : Type 0 where
  pub all : ThereAre (member_count (state_count m) bytes) (Reaches m)
  pub at : (j : ℕ) → ThereAre (count_at (state_count m) (setting_count m) bytes j) (λ t. Reaches m t × (setting_of (setting_count m) t ≡ j))

abbrev pub ReachableCounted : Type 0
ReachableCounted = (m : Model) (bytes : List ℕ) → ExactMap m bytes → Counted m bytes

-- There is one number of anything.
abbrev pub CountedOnce : Type 1
CountedOnce = (P : ℕ → Type 0) (n k : ℕ) → ThereAre n P → ThereAre k P → n ≡ k

-- All of it, of what is found of a safe model: the counts in its report.
pub record SafeCounts (m : Model) (bytes : List ℕ) : Type 0 where
  pub ones : member_count (state_count m) bytes ≡ ones_of bytes
  pub sum : sum_over (count_at (state_count m) (setting_count m) bytes) (settings_in (state_count m) (setting_count m) bytes) ≡ member_count (state_count m) bytes
  pub occur : Occur (state_count m) (setting_count m) bytes
  pub reached : Counted m bytes

abbrev pub SafeCounted : Type 0
SafeCounted = (m : Model) (bytes : List ℕ) → Finds m (safe_by bytes) → SafeCounts m bytes
