-- A push, a pop and a store in the cells are those of the one-word machine in each lane.
-- Assumes nothing.
use Prim.Native.Nat.{ℕ, suc, ◌+◌, ◌*◌, ◌/◌, ◌%◌, ◌^◌, ◌<◌}
use mathlib.Core.Path.{◌≡◌, sym, ap, ◌∙◌}
use mathlib.Core.List.{List}
use native.Mathlib.Omega.{arith}
use lib.ListN.{length, get_or, set, length-set}
use Rattle.evaluation.specs.working.CodeMachine.{push}
use Rattle.meaning.specs.working.Digits.{digit, put}
use Rattle.evaluation.specs.working.Cells.{up, down, mup, mdown}
use Rattle.evaluation.proofs.Zones.{Zone, zone_apart, zone_push, zone_pop, zone_top, zone_put, zone_keep, bit_zero}

-- The cells of the values and of the masks, from the top down.
abbrev pub s_at : ℕ → ℕ → ℕ
s_at sp i = 32 + (sp + i) % 64

abbrev pub m_at : ℕ → ℕ → ℕ
m_at mp i = 96 + (mp + i) % 32

pub record Sim (l sp mp : ℕ) (c : List ℕ) (stack mask state : ℕ) : Type 0 where
  pub full : length c ≡ 128
  pub in_s : sp < 64
  pub in_m : mp < 32
  pub of_state_lem : Zone c (λ i. i) 32 l state
  pub of_stack : Zone c (s_at sp) 64 l stack
  pub of_mask : Zone c (m_at mp) 32 l mask

module _ (l sp mp : ℕ) (c : List ℕ) (st on s : ℕ) (hl : l < 64) (z : Sim l sp mp c st on s) where
  same_place : (a b : ℕ) → a ≡ b → digit (get_or c a 0) l ≡ digit (get_or c b 0) l
  same_place a b e = ap (λ (k : ℕ). digit (get_or c k 0) l) e

  -- The values on top.
  pub top : st % 2 ≡ digit (get_or c (32 + sp) 0) l
  top = sym (bit_zero st) ∙ z.of_stack.same 0 (omega arith) ∙ same_place (s_at sp 0) (32 + sp) (go sp z.in_s)
    where
      go : (x : ℕ) → x < 64 → 32 + (x + 0) % 64 ≡ 32 + x
      go x h = omega arith

  pub mask_top : on % 2 ≡ digit (get_or c (96 + mp) 0) l
  mask_top = sym (bit_zero on) ∙ z.of_mask.same 0 (omega arith) ∙ same_place (m_at mp 0) (96 + mp) (go mp z.in_m)
    where
      go : (x : ℕ) → x < 32 → 96 + (x + 0) % 32 ≡ 96 + x
      go x h = omega arith

  pub second : st / 2 % 2 ≡ digit (get_or c (32 + down sp) 0) l
  second = z.of_stack.same 1 (omega arith)

  pub mask_second : on / 2 % 2 ≡ digit (get_or c (96 + mdown mp) 0) l
  mask_second = z.of_mask.same 1 (omega arith)

  -- Push a value.
  pub pushed : (v b : ℕ) → digit v l ≡ b → b < 2 → Sim l (up sp) mp (set c (32 + up sp) v) (push st b) on s
  pushed v b val hb =
      record {
        full = length-set c (32 + up sp) v ∙ z.full;
        in_s = omega arith;
        in_m = z.in_m;
        of_state_lem = zone_apart c l (λ i. i) 32 s (32 + up sp) v (λ i h e. omega arith) z.of_state_lem;
        of_stack =
            zone_push c l (s_at sp) (s_at (up sp)) 63 st (32 + up sp) v b (let f = z.full in omega arith) (at0 sp) (λ i h. next sp i z.in_s h) (λ i h e. apart sp i z.in_s h e) val hb
            z.of_stack;
        of_mask = zone_apart c l (m_at mp) 32 on (32 + up sp) v (λ i h e. omega arith) z.of_mask;
      }
    where
      at0 : (x : ℕ) → 32 + ((x + 63) % 64 + 0) % 64 ≡ 32 + (x + 63) % 64
      at0 x = omega arith

      next : (x i : ℕ) → x < 64 → i < 63 → 32 + ((x + 63) % 64 + suc i) % 64 ≡ 32 + (x + i) % 64
      next x i a b = omega arith

      apart : (x i : ℕ) → x < 64 → i < 63 → 32 + (x + i) % 64 ≡ 32 + (x + 63) % 64 → ⊥
      apart x i a b e = omega arith

  -- Pop a value.
  pub popped : Sim l (down sp) mp (set c (32 + sp) 0) (st / 2) on s
  popped =
      record {
        full = length-set c (32 + sp) 0 ∙ z.full;
        in_s = omega arith;
        in_m = z.in_m;
        of_state_lem = zone_apart c l (λ i. i) 32 s (32 + sp) 0 (λ i h e. omega arith) z.of_state_lem;
        of_stack =
            zone_pop c l (s_at sp) (s_at (down sp)) 63 st (32 + sp) hl (let f = z.full in let g = z.in_s in omega arith) (last sp z.in_s)
            (λ i h. next sp i z.in_s h) (λ i h e. apart sp i z.in_s h e)
            z.of_stack;
        of_mask = zone_apart c l (m_at mp) 32 on (32 + sp) 0 (λ i h e. let g = z.in_s in omega arith) z.of_mask;
      }
    where
      last : (x : ℕ) → x < 64 → 32 + ((x + 1) % 64 + 63) % 64 ≡ 32 + x
      last x h = omega arith

      next : (x i : ℕ) → x < 64 → i < 63 → 32 + ((x + 1) % 64 + i) % 64 ≡ 32 + (x + suc i) % 64
      next x i a b = omega arith

      apart : (x i : ℕ) → x < 64 → i < 63 → 32 + (x + suc i) % 64 ≡ 32 + x → ⊥
      apart x i a b e = omega arith

  -- Another value on top.
  pub topped : (v b : ℕ) → digit v l ≡ b → b < 2 → Sim l sp mp (set c (32 + sp) v) (st / 2 * 2 + b) on s
  topped v b val hb =
      record {
        full = length-set c (32 + sp) v ∙ z.full;
        in_s = z.in_s;
        in_m = z.in_m;
        of_state_lem = zone_apart c l (λ i. i) 32 s (32 + sp) v (λ i h e. omega arith) z.of_state_lem;
        of_stack =
            zone_top c l (s_at sp) 63 st (32 + sp) v b (let f = z.full in let g = z.in_s in omega arith) (at0 sp z.in_s) (λ i h e. apart sp i z.in_s h e) val hb z.of_stack;
        of_mask = zone_apart c l (m_at mp) 32 on (32 + sp) v (λ i h e. let g = z.in_s in omega arith) z.of_mask;
      }
    where
      at0 : (x : ℕ) → x < 64 → 32 + (x + 0) % 64 ≡ 32 + x
      at0 x h = omega arith

      apart : (x i : ℕ) → x < 64 → i < 63 → 32 + (x + suc i) % 64 ≡ 32 + x → ⊥
      apart x i a b e = omega arith

  -- Push, pop and change a mask.
  pub mask_pushed : (v b : ℕ) → digit v l ≡ b → b < 2 → Sim l sp (mup mp) (set c (96 + mup mp) v) st (on * 2 % 2 ^ 32 + b) s
  mask_pushed v b val hb =
      record {
        full = length-set c (96 + mup mp) v ∙ z.full;
        in_s = z.in_s;
        in_m = omega arith;
        of_state_lem = zone_apart c l (λ i. i) 32 s (96 + mup mp) v (λ i h e. omega arith) z.of_state_lem;
        of_stack = zone_apart c l (s_at sp) 64 st (96 + mup mp) v (λ i h e. omega arith) z.of_stack;
        of_mask =
            zone_push c l (m_at mp) (m_at (mup mp)) 31 on (96 + mup mp) v b (let f = z.full in omega arith) (at0 mp) (λ i h. next mp i z.in_m h) (λ i h e. apart mp i z.in_m h e) val hb
            z.of_mask;
      }
    where
      at0 : (x : ℕ) → 96 + ((x + 31) % 32 + 0) % 32 ≡ 96 + (x + 31) % 32
      at0 x = omega arith

      next : (x i : ℕ) → x < 32 → i < 31 → 96 + ((x + 31) % 32 + suc i) % 32 ≡ 96 + (x + i) % 32
      next x i a b = omega arith

      apart : (x i : ℕ) → x < 32 → i < 31 → 96 + (x + i) % 32 ≡ 96 + (x + 31) % 32 → ⊥
      apart x i a b e = omega arith

  pub mask_popped : Sim l sp (mdown mp) (set c (96 + mp) 0) st (on / 2) s
  mask_popped =
      record {
        full = length-set c (96 + mp) 0 ∙ z.full;
        in_s = z.in_s;
        in_m = omega arith;
        of_state_lem = zone_apart c l (λ i. i) 32 s (96 + mp) 0 (λ i h e. omega arith) z.of_state_lem;
        of_stack = zone_apart c l (s_at sp) 64 st (96 + mp) 0 (λ i h e. omega arith) z.of_stack;
        of_mask =
            zone_pop c l (m_at mp) (m_at (mdown mp)) 31 on (96 + mp) hl (let f = z.full in let g = z.in_m in omega arith) (last mp z.in_m)
            (λ i h. next mp i z.in_m h) (λ i h e. apart mp i z.in_m h e)
            z.of_mask;
      }
    where
      last : (x : ℕ) → x < 32 → 96 + ((x + 1) % 32 + 31) % 32 ≡ 96 + x
      last x h = omega arith

      next : (x i : ℕ) → x < 32 → i < 31 → 96 + ((x + 1) % 32 + i) % 32 ≡ 96 + (x + suc i) % 32
      next x i a b = omega arith

      apart : (x i : ℕ) → x < 32 → i < 31 → 96 + (x + suc i) % 32 ≡ 96 + x → ⊥
      apart x i a b e = omega arith

  pub mask_topped : (v b : ℕ) → digit v l ≡ b → b < 2 → Sim l sp mp (set c (96 + mp) v) st (on / 2 * 2 + b) s
  mask_topped v b val hb =
      record {
        full = length-set c (96 + mp) v ∙ z.full;
        in_s = z.in_s;
        in_m = z.in_m;
        of_state_lem = zone_apart c l (λ i. i) 32 s (96 + mp) v (λ i h e. omega arith) z.of_state_lem;
        of_stack = zone_apart c l (s_at sp) 64 st (96 + mp) v (λ i h e. omega arith) z.of_stack;
        of_mask =
            zone_top c l (m_at mp) 31 on (96 + mp) v b (let f = z.full in let g = z.in_m in omega arith) (at0 mp z.in_m) (λ i h e. apart mp i z.in_m h e) val hb z.of_mask;
      }
    where
      at0 : (x : ℕ) → x < 32 → 96 + (x + 0) % 32 ≡ 96 + x
      at0 x h = omega arith

      apart : (x i : ℕ) → x < 32 → i < 31 → 96 + (x + suc i) % 32 ≡ 96 + x → ⊥
      apart x i a b e = omega arith

  -- A bit of the state.
  pub stored : (j v b : ℕ) → j < 32 → digit v l ≡ b → b < 2 → Sim l sp mp (set c j v) st on (put s j b)
  stored j v b hj val hb =
      record {
        full = length-set c j v ∙ z.full;
        in_s = z.in_s;
        in_m = z.in_m;
        of_state_lem = zone_put c l 32 s j v b (let f = z.full in omega arith) hj val hb z.of_state_lem;
        of_stack = zone_apart c l (s_at sp) 64 st j v (λ i h e. omega arith) z.of_stack;
        of_mask = zone_apart c l (m_at mp) 32 on j v (λ i h e. omega arith) z.of_mask;
      }

  pub kept : (j v : ℕ) → j < 32 → digit v l ≡ digit (get_or c j 0) l → Sim l sp mp (set c j v) st on s
  kept j v hj val =
      record {
        full = length-set c j v ∙ z.full;
        in_s = z.in_s;
        in_m = z.in_m;
        of_state_lem = zone_keep c l 32 s j v (let f = z.full in omega arith) hj val z.of_state_lem;
        of_stack = zone_apart c l (s_at sp) 64 st j v (λ i h e. omega arith) z.of_stack;
        of_mask = zone_apart c l (m_at mp) 32 on j v (λ i h e. omega arith) z.of_mask;
      }
