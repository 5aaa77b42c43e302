-- A run begins with the same state in every lane, and the number that a lane leaves is that of the one-word machine.
-- Assumes nothing.
use Prim.Native.Nat.{ℕ, zero, suc, ◌+◌, ◌-◌, ◌*◌, ◌%◌, ◌^◌, ◌≤◌, ◌<◌}
use mathlib.Core.Path.{◌≡◌, refl, sym, ap, ap₂, ◌∙◌}
use mathlib.Core.List.{List}
use mathlib.Core.Logic.{◌⊎◌, inl, inr}
use native.Mathlib.Omega.{arith}
use native.Mathlib.Nat.{pow-suc, add-mul, mul_assoc, mul_comm, add_assoc, eq-or-lt_of_le, lt_of_lt_of_le, mod-one}
use native.Mathlib.Numerals.{one-add}
use native.Mathlib.Decide.{dec_lt}
use lib.Pow.{pow_mono, mod-pow-add}
use lib.ListN.{length, get_or, set, replicate, length-set}
use lib.Seq.{get_or-set_same, get_or-set_other}
use Rattle.evaluation.specs.working.CodeMachine.{run_of, start_of}
use Rattle.meaning.specs.working.Digits.{digit}
use Rattle.evaluation.specs.working.Cells.{ones, run_cells, no_tops}
use Rattle.evaluation.specs.working.Ends.{fills, sum_of, start_cells, lane_of}
use Rattle.evaluation.proofs.LaneBits.{lane_all, lane_zero, lane_ones}
use Rattle.evaluation.proofs.Zones.{Zone, bit_out, bit_half}
use Rattle.evaluation.proofs.LaneMoves.{s_at, m_at}
use Rattle.evaluation.proofs.LaneRuns.{Both, run_lane}

-- ---- the beginning

module _ (f : ℕ → ℕ) where
  pub fills-length : (n : ℕ) (c : List ℕ) → length (fills f n c) ≡ length c
  unfolding fills
  fills-length zero c = refl
  fills-length (suc n) c = length-set (fills f n c) n (f n) ∙ fills-length n c

  -- A cell from n up is as it was.
  pub fills-past : (n i : ℕ) (c : List ℕ) → n ≤ i → get_or (fills f n c) i 0 ≡ get_or c i 0
  unfolding fills
  fills-past zero i c h = refl
  fills-past (suc n) i c h = get_or-set_other (fills f n c) n i (f n) 0 (λ e. omega arith) ∙ fills-past n i c (omega arith)

  pub fills-at : (n i : ℕ) (c : List ℕ) → n ≤ length c → i < n → get_or (fills f n c) i 0 ≡ f i
  unfolding fills
  fills-at zero i c l h = absurd (omega arith)
  fills-at (suc n) i c l h = go (eq-or-lt_of_le {n = i} {m = n} (omega arith)) (fills-at n i c (omega arith))
    where
      go : (i ≡ n) ⊎ (i < n) → (i < n → get_or (fills f n c) i 0 ≡ f i) → get_or (set (fills f n c) n (f n)) i 0 ≡ f i
      go (inl e) r =
          ap (λ (k : ℕ). get_or (set (fills f n c) n (f n)) k 0) e
          ∙ get_or-set_same (fills f n c) n (f n) 0 (let q = fills-length n c in omega arith)
          ∙ ap f (sym e)
      go (inr b) r = get_or-set_other (fills f n c) n i (f n) 0 (λ e. omega arith) ∙ r b

zeros : (n i : ℕ) → ◌≡◌ {A = ℕ} (get_or (replicate n 0) i 0) 0
zeros zero i = refl
zeros (suc n) zero = refl
zeros (suc n) (suc i) = zeros n i

abbrev base : List ℕ
base = set (replicate 128 0) 96 ones

base_zero : (i : ℕ) → (i ≡ 96 → ⊥) → get_or base i 0 ≡ 0
base_zero i h = get_or-set_other (replicate 128 0) 96 i ones 0 h ∙ zeros 128 i

base_length : length base ≡ 128
base_length = refl

below_or : (i n : ℕ) → (i < n) ⊎ (n ≤ i)
below_or i n = go (dec_lt i n)
  where
    go : Dec (i < n) → (i < n) ⊎ (n ≤ i)
    go (yes a) = inl a
    go (no a) = inr (omega arith)

-- The one-word machine at the state s, in every lane.
module _ (n s l : ℕ) (hn : n ≤ 32) (hs : s < 2 ^ n) (hl : l < 64) where
  start-state : (i : ℕ) → i < 32 → (i < n) ⊎ (n ≤ i) → digit s i ≡ digit (get_or (start_cells n s) i 0) l
  start-state i h (inl b) = sym (ap (λ (y : ℕ). digit y l) (fills-at (λ k. digit s k * ones) n i base (omega arith) b) ∙ lane_all (digit s i) l (omega arith) hl)
  start-state i h (inr b) =
      bit_out s i (lt_of_lt_of_le hs (pow_mono {i = n} {j = i} b)) ∙ sym (lane_zero l hl)
      ∙ ap (λ (y : ℕ). digit y l) (sym (fills-past (λ k. digit s k * ones) n i base b ∙ base_zero i (λ e. omega arith)))

  start_mask : (i : ℕ) → i < 32 → digit 1 i ≡ digit (get_or (start_cells n s) (m_at 0 i) 0) l
  start_mask zero h =
      sym (lane_ones l hl) ∙ ap (λ (y : ℕ). digit y l) (sym (fills-past (λ k. digit s k * ones) n 96 base (omega arith)))
  start_mask (suc i) h =
      one (suc i) (omega arith) (omega arith) ∙ sym (lane_zero l hl)
      ∙ ap (λ (y : ℕ). digit y l) (sym (fills-past (λ k. digit s k * ones) n (m_at 0 (suc i)) base (omega arith) ∙ base_zero (m_at 0 (suc i)) (λ e. omega arith)))
    where
      one : (i : ℕ) → 0 < i → i < 64 → digit 1 i ≡ 0
      one zero a b = absurd (omega arith)
      one (suc i) a b = sym (bit_half 1 i) ∙ lane_zero i (omega arith)

  pub begins : Both l no_tops (start_cells n s) (start_of s)
  begins =
      record {
        full = fills-length (λ k. digit s k * ones) n base ∙ base_length;
        in_s = omega arith;
        in_m = omega arith;
        of_state_lem = record { small = lt_of_lt_of_le hs (pow_mono {i = n} {j = 32} hn); same = λ i h. start-state i h (below_or i n) };
        of_stack =
            record {
              small = omega arith;
              same = λ i h. lane_zero i h ∙ sym (lane_zero l hl)
                  ∙ ap (λ (y : ℕ). digit y l) (sym (fills-past (λ k. digit s k * ones) n (s_at 0 i) base (omega arith) ∙ base_zero (s_at 0 i) (λ e. omega arith)));
            };
        of_mask = record { small = omega arith; same = start_mask };
      }

-- ---- a lane's number

-- The digits from the top down: what is read so far, then what is left.
module _ (f : ℕ → ℕ) where
  pub sum_done : (r : ℕ) → r * 2 ^ 0 + sum_of f 0 ≡ r
  unfolding sum_of
  sum_done r = omega arith

  sum-suc : (i : ℕ) → sum_of f (suc i) ≡ f i * 2 ^ i + sum_of f i
  unfolding sum_of
  sum-suc i = refl

  pub sum-next : (r i : ℕ) → 0 < i → (r * 2 + f (i - 1)) * 2 ^ (i - 1) + sum_of f (i - 1) ≡ r * 2 ^ i + sum_of f i
  sum-next r zero h = absurd (omega arith)
  sum-next r (suc i) h = let e : suc i - 1 ≡ i = omega arith in rw e (go i)
    where
      go : (i : ℕ) → (r * 2 + f i) * 2 ^ i + sum_of f i ≡ r * 2 ^ suc i + sum_of f (suc i)
      go i =
          rw (sum-suc i, pow-suc 2 i)
          (ap (λ (x : ℕ). x + sum_of f i) (add-mul (r * 2) (f i) (2 ^ i)) ∙ add_assoc (r * 2 * 2 ^ i) (f i * 2 ^ i) (sum_of f i)
          ∙ ap (λ (x : ℕ). x + (f i * 2 ^ i + sum_of f i)) (mul_assoc r 2 (2 ^ i) ∙ ap (λ (x : ℕ). r * x) (mul_comm 2 (2 ^ i))))

-- The cells' state bits in lane l are those of x: the lane's number is x, cut to n bits.
pub lane_number : (c : List ℕ) (l x n : ℕ) → n ≤ 32 → Zone c (λ i. i) 32 l x → lane_of c n l ≡ x % 2 ^ n
unfolding sum_of
lane_number c l x zero h z = sym (mod-one x)
lane_number c l x (suc i) h z =
    ap₂ (λ (a b : ℕ). a * 2 ^ i + b) (sym (z.same i (omega arith))) (lane_number c l x i (omega arith) z)
    ∙ sym (ap (λ (k : ℕ). x % 2 ^ k) (sym (one-add i)) ∙ mod-pow-add x 1 i)

-- The number in lane l is the state that the one-word machine leaves with word 64 * b + l.
pub lanes_right : (os : List ℕ) (b s n l : ℕ) → n ≤ 32 → s < 2 ^ n → l < 64
    → lane_of (run_cells os b no_tops (start_cells n s)) n l ≡ (run_of os (64 * b + l) (start_of s)).state % 2 ^ n
lanes_right os b s n l hn hs hl =
    lane_number (run_cells os b no_tops (start_cells n s)) l (run_of os (64 * b + l) (start_of s)).state n hn
    (run_lane l b os no_tops (start_cells n s) (start_of s) hl (begins n s l hn hs hl))
