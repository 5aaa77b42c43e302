-- A run that comes before another from the front comes before it from the back too.
-- Assumes nothing.
use mathlib.Core.Path.{◌≡◌, refl, sym, ap, ◌∙◌, subst}
use mathlib.Core.Logic.{inl, inr}
use mathlib.Core.List.{List, [], ◌∷◌, ◌++◌}
use Prim.Native.Nat.{ℕ, ◌+◌}
use native.Mathlib.Omega.{arith}
use lib.ListN.{length}
use Rattle.meaning.specs.OneRow.{TraceStep}
use Rattle.exploration.specs.Order.{StepsBefore, RunBefore}
use Rattle.exploration.specs.working.Transitions.{Transitions, Move, move_of}
use Rattle.exploration.specs.working.Runs.{Run, starts_at, goes_on, Before, steps, start_of, steps_of}
use Rattle.exploration.proofs.Order.{shorter}
use Rattle.exploration.proofs.TraceSteps.{steps-count}
use Rattle.exploration.proofs.RunsOfModels.{on_by}

-- A step without the state after it.
abbrev move_in : TraceStep → Move
move_in x = move_of x.command x.word

on-length : (r : Run) (xs : List TraceStep) → steps (on_by r xs) ≡ steps r + length xs
unfolding on_by
on-length r [] = omega arith
on-length r (x ∷ xs) = omega (arith, on-length (goes_on r (move_in x)) xs)

-- A run goes on from its start by its steps.
on_snoc : (r : Run) (xs : List TraceStep) (x : TraceStep) → on_by r (xs ++ x ∷ []) ≡ goes_on (on_by r xs) (move_in x)
unfolding on_by
on_snoc r [] x = refl
on_snoc r (y ∷ xs) x = on_snoc (goes_on r (move_in y)) xs x

pub on-steps : (T : Transitions) (r : Run) → on_by (starts_at (start_of r)) (steps_of T r) ≡ r
unfolding on_by steps_of
on-steps T (starts_at s) = refl
on-steps T (goes_on r k) = on_snoc (starts_at (start_of r)) (steps_of T r) _ ∙ ap (λ (q : Run). goes_on q k) (on-steps T r)

-- The order stays where both go on by as many steps, and the first steps that differ decide it.
on-before : (q r : Run) → Before q r → (xs ys : List TraceStep) → length xs ≡ length ys → Before (on_by q xs) (on_by r ys)
unfolding on_by
on-before q r h [] [] e = h
on-before q r h [] (y ∷ ys) e = absurd (omega arith)
on-before q r h (x ∷ xs) [] e = absurd (omega arith)
on-before q r h (x ∷ xs) (y ∷ ys) e = on-before (goes_on q (move_in x)) (goes_on r (move_in y)) (inl h) xs ys (omega arith)

on-first : (q : Run) (xs ys : List TraceStep) → length xs ≡ length ys → StepsBefore xs ys → Before (on_by q xs) (on_by q ys)
unfolding on_by
on-first q [] ys e h = absurd h
on-first q (x ∷ xs) [] e h = absurd h
on-first q (x ∷ xs) (y ∷ ys) e (inl h) = on-before (goes_on q (move_in x)) (goes_on q (move_in y)) (inr (refl, h)) xs ys (omega arith)
on-first q (x ∷ xs) (y ∷ ys) e (inr (c, w, h)) =
    subst (λ (k : Move). Before (on_by (goes_on q (move_in x)) xs) (on_by (goes_on q k) ys)) (λ i. move_of (c i) (w i))
    (on-first (goes_on q (move_in x)) xs ys (omega arith) h)

pub run-before : (T : Transitions) (s : ℕ) (xs : List TraceStep) (r : Run) → RunBefore s xs (start_of r) (steps_of T r) → Before (on_by (starts_at s) xs) r
run-before T s xs r h = go h
  where
    by_steps : Before (on_by (starts_at s) xs) (on_by (starts_at (start_of r)) (steps_of T r)) → Before (on_by (starts_at s) xs) r
    by_steps k = subst (Before (on_by (starts_at s) xs)) (on-steps T r) k

    go : RunBefore s xs (start_of r) (steps_of T r) → Before (on_by (starts_at s) xs) r
    go (inl h) = shorter (on_by (starts_at s) xs) r (omega (arith, on-length (starts_at s) xs, steps-count T r))
    go (inr (e, inl h)) = by_steps (on-before (starts_at s) (starts_at (start_of r)) h xs (steps_of T r) e)
    go (inr (e, inr (f, h))) =
        subst (λ (t : ℕ). Before (on_by (starts_at t) xs) r) (sym f)
        (subst (Before (on_by (starts_at (start_of r)) xs)) (on-steps T r) (on-first (starts_at (start_of r)) xs (steps_of T r) e h))
