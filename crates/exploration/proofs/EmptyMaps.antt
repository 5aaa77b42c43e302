-- The map without members: where a model is void it has exactly the states that runs reach, of which there are none.
-- Assumes nothing.
use mathlib.Core.Path.{◌≡◌, refl, sym, ap, ◌∙◌}
use mathlib.Core.Bool.{false, true≢false}
use mathlib.Core.List.{[]}
use Prim.Native.Nat.{ℕ, zero, suc, ◌/◌, ◌%◌}
use native.Mathlib.Omega.{arith}
use lib.ListN.{get_or, replicate, length-replicate}
use Rattle.notation.specs.Model.{Model}
use Rattle.meaning.specs.Bits.{bit, number}
use Rattle.meaning.specs.Meaning.{Safe}
use Rattle.meaning.specs.OneRow.{One, state_count}
use Rattle.meaning.specs.Evidence.{in_map, IsVoid}
use Rattle.meaning.proofs.Number.{bit-number}
use Rattle.sheets.specs.Sheets.{map_length}
use Rattle.sheets.proofs.UnusedBits.{unused_bits}
use Rattle.exploration.specs.Findings.{ExactMap, empty_map}

zeros-at : (n i : ℕ) → ◌≡◌ {A = ℕ} (get_or (replicate n 0) i 0) 0
zeros-at zero i = refl
zeros-at (suc n) zero = refl
zeros-at (suc n) (suc i) = zeros-at n i

zero_bit : (j : ℕ) → bit 0 j ≡ false
unfolding number
zero_bit j = bit-number [] j

module _ (m : Model) where
  -- Bit j of any byte.
  empty-bit : (i j : ℕ) → bit (get_or (empty_map m) i 0) j ≡ false
  empty-bit i j = ap (λ (x : ℕ). bit x j) (zeros-at (map_length (state_count m)) i) ∙ zero_bit j

  empty-has : (t : ℕ) → in_map (empty_map m) t ≡ false
  unfolding in_map
  empty-has t = empty-bit (t / 8) (t % 8)

  module _ (v : IsVoid m) where
    -- A run begins at a start state, so there is none.
    pub no_runs : Safe m One
    no_runs s xs r b = v (s, r.start)

    pub void-exact : ExactMap m (empty_map m)
    void-exact =
        record {
          fits =
              record {
                long = length-replicate {A = ℕ} (map_length (state_count m)) 0;
                clear = (unused_bits (state_count m) (get_or (empty_map m) 0 0) (rw (zeros-at (map_length (state_count m)) 0) (omega arith))).1 (λ j p q. empty-bit 0 j);
              };
          bytes = λ i. rw (zeros-at (map_length (state_count m)) i) (omega arith);
          exact = λ t h. (λ e. absurd (true≢false (sym e ∙ empty-has t)), λ r. absurd (v (r.0, r.2.start)));
        }
