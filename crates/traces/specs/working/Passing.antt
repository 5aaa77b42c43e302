-- A trace that passes, as a program takes it from the outcome of the test and the bytes of the sheet.
-- Assumes nothing.
use Rattle.std.specs.Prelude.{cond, Bool, true, false, List, ℕ, ◌+◌, Result, Ok, Err}
use Rattle.sheets.specs.working.SheetReading.{step_count}
use Rattle.conditions.specs.Outcomes.{Tested, declined}
use Rattle.conditions.specs.declared.outcome.Outcome.TheVariants.{SafeHolds, Void, TraceHolds, FailsA, FailsB, FailsC, FailsD, FailsE, FailsF}
use Rattle.conditions.specs.declared.outcome.Declined.{Declined}
use Rattle.acceptance.specs.working.Test.{test_of}

-- Whether what the test answers is that of a trace that passes.
abbrev pub trace_passed : Tested → Bool
trace_passed (Ok SafeHolds) = false
trace_passed (Ok Void) = false
trace_passed (Ok TraceHolds) = true
trace_passed (Ok FailsA) = false
trace_passed (Ok FailsB) = false
trace_passed (Ok FailsC) = false
trace_passed (Ok FailsD) = false
trace_passed (Ok FailsE) = false
trace_passed (Ok FailsF) = false
trace_passed (Err r) = false

-- In a sheet with a trace, behind a header of h bytes: the last place, which is the number of steps.
abbrev pub last_place : ℕ → List ℕ → ℕ
last_place h b = step_count b (h + 8)

-- How many bytes a header has, as the code takes it; that of every model's system is as long.
abbrev pub header : ℕ
header = 9

-- Of a trace that passes its number of steps; else what the test answers.
unfoldable pub steps_after : Tested → List ℕ → Result ℕ Declined
steps_after o b = cond (trace_passed o) (Ok (last_place header b)) (Err (declined o))

abbrev pub passed_steps_of : List ℕ → List ℕ → Result ℕ Declined
passed_steps_of text b = steps_after (test_of text b) b
