-- The transitions that a model's flat form gives.
-- Assumes nothing.
use Rattle.std.specs.Prelude.{Bool, List, ℕ}
use Rattle.evaluation.specs.declared.plan.Plan.{Plan}
use Rattle.evaluation.specs.declared.one_row.OneRow.{OneRow}
use Rattle.sheets.specs.working.FlatSystem.{system_in}
use Rattle.exploration.specs.working.Transitions.{Transitions}
use Rattle.exploration.specs.working.Found.{transitions_of}
use Rattle.exploration.specs.working.Tables.{Explored}

abbrev pub transitions_in : List ℕ → Plan → Transitions
transitions_in ops plan = transitions_of (system_in ops plan)

abbrev pub transitions_at : OneRow → Transitions
transitions_at table = transitions_in table.ops.now table.plan

-- `Explored`, of the transitions of a flat form: the contract of a loop with twelve numbers and lists stays in one line by it.
abbrev pub ExploredIn : List ℕ → Plan → ℕ → ℕ → List ℕ → ℕ → List ℕ → List ℕ → ℕ → List ℕ → Bool → ℕ → ℕ → Type 0
ExploredIn ops plan = Explored (transitions_in ops plan)
