-- The parts of a report over flat form and sheet, as the code puts them one behind the other.
-- Assumes nothing.
use mathlib.Core.Path.{◌≡◌, sym, ap, ◌∙◌, subst}
use mathlib.Core.List.{List, ◌++◌}
use Prim.Native.Nat.{ℕ, ◌+◌}
use lib.ListN.{get_or}
use Rattle.sheets.specs.SheetTexts.{two_at, step_in}
use Rattle.lines.specs.declared.Writer.{Writer}
use Rattle.lines.specs.Writers.{HasRoom, Writes}
use Rattle.lines.proofs.Writers.{behind, first-room, rest-room}
use Rattle.names.specs.working.Arrays.{name_in, Named}
use Rattle.reporting.specs.Reports.{unsafe_line, start_line, step_line}
use Rattle.reporting.specs.working.Writing.{record_line, start_in, steps_of, steps_shown, run_lines}

-- A step's line, from what was read.
module _ (text names : List ℕ) (base : ℕ) (sheet : List ℕ) (p : ℕ) where
  pub record-told : (number command : ℕ) (called : List ℕ) (chosen after : ℕ) → command ≡ get_or sheet p 0 → called ≡ name_in text names (base + command)
      → chosen ≡ get_or sheet (p + 1) 0 → after ≡ two_at sheet (p + 2) → step_line number called chosen after ≡ record_line text names base number (step_in sheet p)
  unfolding step_in
  record-told number command called chosen after e c f g =
      ap (λ w. step_line number w chosen after) (c ∙ ap (λ a. name_in text names (base + a)) e)
      ∙ ap (λ b. step_line number (name_in text names (base + get_or sheet p 0)) b after) f
      ∙ ap (λ t. step_line number (name_in text names (base + get_or sheet p 0)) (get_or sheet (p + 1) 0) t) g

  pub command-told : (command : ℕ) → command ≡ get_or sheet p 0 → Named text names (base + (step_in sheet p).command) → Named text names (base + command)
  unfolding step_in
  command-told command e h = subst (λ a. Named text names (base + a)) (sym e) h

-- The verdict, the start state and the steps.
module _ (text names : List ℕ) (base : ℕ) (sheet : List ℕ) {out : Writer} where
  pub verdict-room : HasRoom out (run_lines text names base sheet) → HasRoom out (unsafe_line (steps_of sheet))
  verdict-room f = first-room (unsafe_line (steps_of sheet)) (start_line (start_in sheet) ++ steps_shown text names base sheet) f

  module _ {next : Writer} {s : ℕ} (verdict : Writes out (unsafe_line (steps_of sheet)) next) (e : s ≡ start_in sheet) where
    after-verdict : HasRoom out (run_lines text names base sheet) → HasRoom next (start_line s ++ steps_shown text names base sheet)
    after-verdict f =
        subst (λ t. HasRoom next (start_line t ++ steps_shown text names base sheet)) (sym e) (rest-room (start_line (start_in sheet) ++ steps_shown text names base sheet) verdict f)

    pub start-room : HasRoom out (run_lines text names base sheet) → HasRoom next (start_line s)
    start-room f = first-room (start_line s) (steps_shown text names base sheet) (after-verdict f)

    module _ {first : Writer} (S : Writes next (start_line s) first) where
      pub steps-room : HasRoom out (run_lines text names base sheet) → HasRoom first (steps_shown text names base sheet)
      steps-room f = rest-room (steps_shown text names base sheet) S (after-verdict f)

      pub run-written : {end : Writer} → Writes first (steps_shown text names base sheet) end → Writes out (run_lines text names base sheet) end
      run-written {end} P = behind verdict (subst (λ k. Writes next (start_line k ++ steps_shown text names base sheet) end) e (behind S P))
