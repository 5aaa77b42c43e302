-- The system of a model from its flat form.
-- Assumes nothing.
use Rattle.std.specs.Prelude.{List, ℕ}
use Rattle.evaluation.specs.working.CodeSystem.{starts_in, breaks_in, next_in, stars_in}
use Rattle.evaluation.specs.declared.plan.Plan.{Plan}
use Rattle.evaluation.specs.declared.one_row.OneRow.{OneRow}
use Rattle.sheets.specs.Sheets.{System}
use Rattle.sheets.specs.working.SheetReading.{counts_in}

-- The system that a model's flat form gives.
abbrev pub system_in : List ℕ → Plan → System
system_in ops plan =
    record {
      bits = plan.bits;
      kind = 1;
      counts = counts_in plan;
      commands = plan.commands;
      stars = stars_in plan.stars;
      starts = starts_in ops plan.ends;
      breaks = breaks_in ops plan.ends;
      step = next_in ops plan.ends plan.bits;
    }

abbrev pub system_at : OneRow → System
system_at table = system_in table.ops.now table.plan
