-- The numbers of a map that can be counted.
-- Assumes nothing.
use mathlib.Core.Path.{◌≡◌, refl, sym, ◌∙◌}
use mathlib.Core.List.{List}
use Prim.Native.Nat.{ℕ, ◌*◌, ◌^◌, ◌≤◌}
use native.Mathlib.Omega.{arith}
use lib.ListN.{length}
use lib.Pow.{pow_mono}
use Rattle.evaluation.proofs.Powers.{pow_small}
use Rattle.sheets.specs.Sheets.{map_length}
use Rattle.sheets.proofs.SheetOpened.{eighths}
use Rattle.exploration.specs.Members.{member_count}
use Rattle.counting.specs.Counts.{ones_of}
use Rattle.counting.specs.working.Counting.{Countable}
use Rattle.counting.proofs.Ones.{members-ones}

module _ {bits shared : ℕ} {map : List ℕ} (S : Countable bits shared map) where
  few-states : 2 ^ bits ≤ 4096
  few-states = pow_small bits (2 ^ bits) S.few_bits refl

  pub few_bytes : length map ≤ 512
  unfolding map_length
  few_bytes = omega (arith, S.map.long, few-states)

  pub all_in : 2 ^ bits ≤ 8 * length map
  all_in = omega (arith, S.map.long, eighths bits)

  pub few_settings : 2 ^ shared ≤ 256
  few_settings = pow_mono S.few_shared

  pub total-told : (total : ℕ) → total ≡ ones_of map → total ≡ member_count (2 ^ bits) map
  total-told total e = e ∙ sym (members-ones bits map S.map S.bytes)
