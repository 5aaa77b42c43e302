-- The counts of a trace that passes add up to its steps.
-- Assumes nothing.
use mathlib.Core.Path.{◌≡◌, ◌∙◌}
use mathlib.Core.List.{List, [], ◌∷◌}
use Prim.Native.Nat.{ℕ, ◌<◌, ◌≤◌}
use native.Mathlib.Omega.{arith}
use lib.ListN.{length, length-map}
use Rattle.notation.specs.Model.{Model}
use Rattle.notation.specs.Regular.{Every}
use Rattle.notation.proofs.Regular.{all_regular}
use Rattle.meaning.specs.OneRow.{TraceStep}
use Rattle.meaning.specs.Evidence.{StepFits}
use Rattle.traces.proofs.PassedTold.{the_trace_lem}
use Rattle.windows.specs.Bursts.{commands_of}
use Rattle.windows.specs.Promises.{SheetsAddUp}
use Rattle.windows.proofs.BurstLaws.{counts-add-up, counts-sum}

-- The commands of steps that fit a model are below any number that its commands are not more than.
commands-below : (m : Model) (n : ℕ) → length m.commands ≤ n → (xs : List TraceStep) → Every (StepFits m) xs → Every (λ x. x < n) (commands_of xs)
commands-below m n h [] fits = tt
commands-below m n h (x ∷ xs) fits = (omega (arith, h, fits.0.command), commands-below m n h xs fits.1)

pub sheets_add-up : SheetsAddUp
sheets_add-up text m says b hb holds =
    let (s, xs, w, t) = the_trace_lem text m says b hb holds in
    let long : length (commands_of xs) ≡ length xs = length-map xs (λ (x : TraceStep). x.command) in
    let below : (n : ℕ) → length m.commands ≤ n → Every (λ x. x < n) (commands_of xs) = λ n h. commands-below m n h xs t.1.steps_fit in (
      s,
      xs,
      w,
      record {
        given = counts-sum (commands_of xs) (below 16 (all_regular text m says).few_commands) ∙ long;
        of_model = counts-add-up (length m.commands) (commands_of xs) (below (length m.commands) (omega arith)) ∙ long;
      },
    )
