-- Steps of a trace and their bytes: one more step at the end.
-- Assumes nothing.
use mathlib.Core.Path.{◌≡◌, refl, sym, ap, ◌∙◌}
use mathlib.Core.Bool.{true}
use mathlib.Core.List.{List, [], ◌∷◌, ◌++◌, append_assoc, append-nil}
use Prim.Native.Nat.{ℕ, suc, ◌+◌, ◌*◌}
use native.Mathlib.Omega.{arith}
use lib.ListN.{length, length-append}
use lib.Dec.{eqb}
use borrow.Author.Tests.{eq-eqb}
use Rattle.meaning.specs.OneRow.{TraceStep, last_of}
use Rattle.meaning.specs.working.Conditions.{test_e}
use Rattle.sheets.specs.Sheets.{little, record_bytes, start_bytes, step_bytes, steps_bytes}
use Rattle.sheets.proofs.SheetWritten.{steps-length}
use Rattle.exploration.specs.working.Transitions.{Transitions, Move}
use Rattle.exploration.specs.working.Runs.{Run, starts_at, goes_on, final, steps, start_of, step_of, steps_of}
use Rattle.exploration.specs.working.Written.{run_bytes}
use Rattle.notation.proofs.Booleans.{and_split, and_join}

pub last_snoc : (s : ℕ) (l : List TraceStep) (x : TraceStep) → last_of s (l ++ x ∷ []) ≡ x.after
unfolding last_of
last_snoc s [] x = refl
last_snoc s (y ∷ l) x = last_snoc y.after l x

pub tests_snoc : (step : ℕ → ℕ → ℕ → ℕ) (s : ℕ) (l : List TraceStep) (x : TraceStep) → test_e step s l ≡ true
    → x.after ≡ step (last_of s l) x.command x.word → test_e step s (l ++ x ∷ []) ≡ true
unfolding test_e last_of
tests_snoc step s [] x h e = and_join _ _ (eq-eqb _ _ e) refl
tests_snoc step s (y ∷ l) x h e =
    let leads = eqb y.after (step s y.command y.word) in
    let t = and_split leads (test_e step y.after l) h in
    and_join leads (test_e step y.after (l ++ x ∷ [])) t.0 (tests_snoc step y.after l x t.1 e)

pub steps-count : (T : Transitions) (r : Run) → length (steps_of T r) ≡ steps r
unfolding steps_of
steps-count T (starts_at s) = refl
steps-count T (goes_on r k) = length-append (steps_of T r) (_ ∷ []) ∙ sum _ _ (steps-count T r)
  where
    sum : (a b : ℕ) → a ≡ b → a + 1 ≡ suc b
    sum a b e = omega arith

bytes_snoc : (l : List TraceStep) (x : TraceStep) → steps_bytes (l ++ x ∷ []) ≡ steps_bytes l ++ step_bytes x
unfolding steps_bytes
bytes_snoc [] x = append-nil (step_bytes x)
bytes_snoc (y ∷ l) x = ap (λ (u : List ℕ). step_bytes y ++ u) (bytes_snoc l x) ∙ sym (append_assoc (step_bytes y) (steps_bytes l) (step_bytes x))

-- The bytes of a run.
module _ (T : Transitions) where
  pub run_snoc : (r : Run) (k : Move) → run_bytes T (goes_on r k) ≡ run_bytes T r ++ step_bytes (step_of k (final T (goes_on r k)))
  unfolding run_bytes steps_of
  run_snoc r k =
      ap (λ (u : List ℕ). start_bytes (start_of r) ++ u) (bytes_snoc (steps_of T r) _)
      ∙ sym (append_assoc (start_bytes (start_of r)) (steps_bytes (steps_of T r)) (step_bytes (step_of k (final T (goes_on r k)))))

  pub run_length : (r : Run) → length (run_bytes T r) ≡ 8 + 10 * steps r
  unfolding run_bytes start_bytes record_bytes little
  run_length r = omega (arith, steps-length (steps_of T r), steps-count T r)
