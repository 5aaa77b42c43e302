-- The outcomes for a map and for a trace, one turn at a time; and the steps that stand in a sheet that was not refused.
-- Assumes nothing.
use mathlib.Core.Path.{◌≡◌, sym, ap, ◌∙◌}
use mathlib.Core.Bool.{true, false}
use mathlib.Core.List.{List}
use Prim.Native.Nat.{ℕ, zero, suc, ◌+◌, ◌-◌, ◌*◌, ◌^◌, ◌<◌, ◌≤◌}
use native.Mathlib.Omega.{arith}
use lib.ListN.{length, get_or}
use lib.Dec.{eqb}
use borrow.Author.Tests.{eq-eqb, ne_eqb}
use Rattle.meaning.specs.OneRow.{TraceStep, last_of}
use Rattle.meaning.specs.Evidence.{InRange}
use Rattle.sheets.specs.Sheets.{System}
use Rattle.sheets.specs.SheetTexts.{two_at, is_record, step_in, step_fits}
use Rattle.sheets.specs.working.SheetReading.{steps_in, step_count, StepsStand, TraceStands}
use Rattle.meaning.specs.working.Conditions.{test_e}
use Rattle.conditions.specs.working.Judging.{walk, trace_answer}
use Rattle.conditions.specs.declared.outcome.Outcome.{Outcome}
use Rattle.conditions.specs.declared.outcome.Outcome.TheVariants.{TraceHolds, FailsE, FailsF}
use Rattle.sheets.proofs.SheetLaws.{record_fits, step-parts}

-- What is known of step i, where n steps stand from p on.
module _ (states commands : ℕ) (stars : ℕ → ℕ) (b : List ℕ) where
  stood : (p n i : ℕ) → StepsStand states commands stars b p n → i < n
      → (is_record b (p + 10 * i) 4 4 ≡ true) × (step_fits states commands stars (step_in b (p + 10 * i + 6)) ≡ true)
  unfolding StepsStand
  stood p zero i S h = absurd (omega (arith, h))
  stood p (suc n) zero S h = let q : p ≡ p + 10 * 0 = omega arith in rw (← q) (S.0, S.1)
  stood p (suc n) (suc i) S h = let q : p + 10 + 10 * i ≡ p + 10 * suc i = omega arith in rw (← q) (stood (p + 10) n i S.2 (omega (arith, h)))

  -- The same in a whole trace.
  module _ (p n i : ℕ) (T : TraceStands states commands stars b p) (e : n ≡ step_count b (p + 8)) (h : i < n) where
    here : (is_record b (p + 8 + 10 * i) 4 4 ≡ true) × (step_fits states commands stars (step_in b (p + 8 + 10 * i + 6)) ≡ true)
    here = stood (p + 8) _ i T.steps (omega (arith, e, h))

    pub stood_room : p + 18 + 10 * i ≤ length b
    stood_room = omega (arith, record_fits _ _ _ _ here.0)

    fits : InRange states commands (λ k. 2 ^ stars k) (step_in b (p + 14 + 10 * i))
    fits = let q : p + 8 + 10 * i + 6 ≡ p + 14 + 10 * i = omega arith in step-parts _ _ _ _ (rw q at here.1)

    pub stood_command : get_or b (p + 14 + 10 * i) 0 < commands
    unfolding step_in
    stood_command = fits.command

    pub stood_after : two_at b (p + 14 + 10 * i + 2) < states
    unfolding step_in
    stood_after = fits.after

-- The outcome for a trace, one step at a time.
pub goes : (M : System) (s x : ℕ) (xs : List TraceStep) (a : Outcome) → x ≡ s → M.starts x ≡ true → a ≡ walk M x xs → a ≡ trace_answer M s xs
unfolding trace_answer
goes M s x xs a e h f = let z : M.starts s ≡ true = rw e at h in rw (z, ← e) f

module _ (M : System) (b : List ℕ) where
  module _ (s at x n i c w t u : ℕ) (h : i < n) (ex : x ≡ at + 6) (ec : c ≡ get_or b x 0) (ew : w ≡ get_or b (x + 1) 0) (et : t ≡ two_at b (x + 2)) (eu : u ≡ M.step s c w) where
    still-more : n - i ≡ suc (n - (i + 1))
    still-more = omega arith

    taken : M.step s c w ≡ M.step s (get_or b x 0) (get_or b (x + 1) 0)
    taken = ap (λ (y : ℕ). M.step s y w) ec ∙ ap (λ (y : ℕ). M.step s (get_or b x 0) y) ew

    pub walk-next : t ≡ u → (q : ℕ) → q ≡ at + 10 → walk M t (steps_in b q (n - (i + 1))) ≡ walk M s (steps_in b at (n - i))
    unfolding walk test_e steps_in step_in last_of
    walk-next k q eq =
        let z : eqb (two_at b (x + 2)) (M.step s (get_or b x 0) (get_or b (x + 1) 0)) ≡ true = eq-eqb _ _ (sym et ∙ k ∙ eu ∙ taken) in
        rw (still-more, ← ex, z, et, eq)

    pub walk_fails : (t ≡ u → ⊥) → FailsE ≡ walk M s (steps_in b at (n - i))
    unfolding walk test_e steps_in step_in
    walk_fails q =
        let z : eqb (two_at b (x + 2)) (M.step s (get_or b x 0) (get_or b (x + 1) 0)) ≡ false = ne_eqb _ _ (λ k. q (et ∙ k ∙ sym (eu ∙ taken))) in
        rw (still-more, ← ex, z)

  module _ (s at n i : ℕ) (h : n ≤ i) where
    none_left : n - i ≡ 0
    none_left = omega arith

    pub walk-breaks : M.breaks s ≡ true → TraceHolds ≡ walk M s (steps_in b at (n - i))
    unfolding walk test_e steps_in last_of
    walk-breaks k = rw (none_left, k)

    pub walk-keeps : M.breaks s ≡ false → FailsF ≡ walk M s (steps_in b at (n - i))
    unfolding walk test_e steps_in last_of
    walk-keeps k = rw (none_left, k)
