-- What a call's contract says of its answer and of the buffers that are lent to it.
-- Assumes nothing.
use Rattle.std.specs.Prelude.{◌≡◌, Bool, cond, List, ℕ, Result, Ok, Err}
use Rattle.refusals.specs.declared.Refusal.{Refusal}
use Rattle.refusals.specs.Reasons.{refusal_of}
use Rattle.reader.specs.working.Commands.{Lent}
use Rattle.evaluation.specs.declared.plan.Plan.{Plan}
use Rattle.sheets.specs.working.FlatSystem.{system_in}
use Rattle.exploration.specs.working.Exploring.{progress}
use Rattle.exploration.specs.working.Tables.{seen}
use Rattle.exploration.specs.working.CodeTransitions.{transitions_in}
use Rattle.traversal.specs.declared.exploring.Reach.{Reach}
use Rattle.verdicts.specs.Answers.{Searched}
use Rattle.verdicts.specs.Left.{Left, Leaves}
use Rattle.verdicts.specs.working.Searching.{left_by}

-- What is told of the room that was tested for.
abbrev pub room_told : Bool → Result (Unit {0}) Refusal
room_told b = cond b (Ok tt) (Err (refusal_of 8 0))

-- A call ends with this answer and these contents.
abbrev pub Ends : Left → Searched → List ℕ → List ℕ → List ℕ → Type 0
Ends L r first second sheet = (r ≡ L.answer) × Leaves L first second sheet

-- A call whose contract names these two tables and this buffer ends with what is left of them as they were lent.
abbrev pub EndsWith : (List ℕ → List ℕ → List ℕ → Left) → Searched → Lent → Lent → Lent → Type 0
EndsWith left r first second sheet =
    Ends (left first.entry.now second.entry.now sheet.entry.now) r first.exit.now second.exit.now sheet.exit.now

-- What is left by a search that reached so far, and whose tables hold what it met.
abbrev pub concludes : List ℕ → Plan → Reach → List ℕ → List ℕ → List ℕ → Left
concludes ops plan reach first second sheet =
    left_by (system_in ops plan) (progress reach.found (seen (transitions_in ops plan) first reach.count second)) reach.trials first second sheet
