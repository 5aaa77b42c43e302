-- The steps that the bytes of a sheet have, as records of a list, and their commands.
-- Assumes nothing.
use mathlib.Core.Path.{◌≡◌, refl, sym, ap, ◌∙◌}
use mathlib.Core.List.{List, [], ◌∷◌, map}
use Prim.Native.Nat.{ℕ, zero, suc, ◌+◌, ◌*◌}
use native.Mathlib.Omega.{arith}
use Rattle.meaning.specs.Bits.{first}
use Rattle.meaning.proofs.Number.{first-same}
use Rattle.meaning.specs.OneRow.{TraceStep}
use Rattle.sheets.specs.SheetTexts.{step_in}
use Rattle.sheets.specs.working.SheetReading.{steps_in}
use Rattle.traces.specs.working.Passing.{header}
use Rattle.windows.specs.Bursts.{commands_of}
use Rattle.windows.specs.Questions.{record_of}
use Rattle.windows.specs.working.Sliding.{commands_in}
use Rattle.windows.specs.working.Surveying.{step_at, commands_at}
use Rattle.windows.specs.declared.record.Step.{Step}
use Rattle.windows.proofs.FirstValues.{map_first}

-- A step has the same command as a record.
pub commands-kept : (xs : List TraceStep) → commands_in (map record_of xs) ≡ commands_of xs
commands-kept [] = refl
commands-kept (x ∷ xs) = ap (λ (l : List ℕ). x.command ∷ l) (commands-kept xs)

-- Ten bytes further for each step.
steps-from : (b : List ℕ) (p n : ℕ) → map record_of (steps_in b p n) ≡ first n (λ i. record_of (step_in b (p + 10 * i + 6)))
unfolding steps_in
steps-from b p zero = refl
steps-from b p (suc n) =
    let f : ℕ → Step = λ i. record_of (step_in b i) in
    let here : p + 6 ≡ p + 10 * 0 + 6 = omega arith in
    let next : (j : ℕ) → p + 10 + 10 * j + 6 ≡ p + 10 * suc j + 6 = λ j. omega arith in
    ap (λ (l : List Step). f (p + 6) ∷ l) (steps-from b (p + 10) n ∙ first-same n _ _ (λ j l. ap f (next j)))
    ∙ ap (λ (k : ℕ). f k ∷ first n (λ j. f (p + 10 * suc j + 6))) here

step-there : (b : List ℕ) (i : ℕ) → record_of (step_in b (header + 8 + 10 * i + 6)) ≡ step_at header b i
unfolding step_in step_at
step-there b i =
    let e : 17 + 10 * i + 6 + 1 ≡ 17 + 10 * i + 7 = omega arith in
    let f : 17 + 10 * i + 6 + 2 ≡ 17 + 10 * i + 8 = omega arith in
    rw (e, f) refl

-- Behind the header and the start state: the list's records, and their commands.
pub steps_records : (b : List ℕ) (n : ℕ) → map record_of (steps_in b (header + 8) n) ≡ first n (step_at header b)
steps_records b n = steps-from b (header + 8) n ∙ first-same n _ _ (λ i l. step-there b i)

pub steps-commands : (b : List ℕ) (n : ℕ) → commands_of (steps_in b (header + 8) n) ≡ commands_at header b n
steps-commands b n = sym (commands-kept (steps_in b (header + 8) n)) ∙ ap commands_in (steps_records b n) ∙ map_first (λ (s : Step). s.command) n (step_at header b)
