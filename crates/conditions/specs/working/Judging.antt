-- The outcome for the bytes of a sheet, computed over a system.
-- Assumes nothing.
use Rattle.std.specs.Prelude.{cond, List, ℕ, ◌+◌, Ok, Err}
use Rattle.refusals.specs.Reasons.{refusal_of}
use Rattle.meaning.specs.OneRow.{TraceStep, last_of}
use Rattle.meaning.specs.Evidence.{Sheet, safe, trace}
use Rattle.meaning.specs.working.Conditions.{test_void, test_a, test_b, test_c, test_e}
use Rattle.sheets.specs.Sheets.{System, size}
use Rattle.sheets.specs.SheetTexts.{two_at}
use Rattle.sheets.specs.working.SheetReading.{Reading, refused, holds, steps_in, step_count, sheet_of}
use Rattle.conditions.specs.declared.outcome.Outcome.{Outcome}
use Rattle.conditions.specs.declared.outcome.Outcome.TheVariants.{SafeHolds, Void, TraceHolds, FailsA, FailsB, FailsC, FailsD, FailsE, FailsF}
use Rattle.conditions.specs.Outcomes.{Tested}

-- The outcome for a map that passes: void where there is no start state.
unfoldable pub passed_answer : System → Outcome
passed_answer M = cond (test_void (size M) M.starts) Void SafeHolds

-- The outcome for a map: the first failure in the order A, B, C, if there is one.
unfoldable pub map_answer : System → List ℕ → Outcome
map_answer M map =
    cond (test_a (size M) M.starts map)
    (cond (test_b (size M) M.breaks map) (cond (test_c (size M) M.commands M.stars M.step map) (passed_answer M) FailsC) FailsB) FailsA

-- The outcome by E and F, for the steps from s on.
unfoldable pub walk : System → ℕ → List TraceStep → Outcome
walk M s xs = cond (test_e M.step s xs) (cond (M.breaks (last_of s xs)) TraceHolds FailsF) FailsE

-- The outcome for a trace: the first failure in the order D, E, F, if there is one.
unfoldable pub trace_answer : System → ℕ → List TraceStep → Outcome
trace_answer M s xs = cond (M.starts s) (walk M s xs) FailsD

-- The outcome for contents.
unfoldable pub answer_in : System → Sheet → Outcome
answer_in M (safe map) = map_answer M map
answer_in M (trace s xs) = trace_answer M s xs

-- The outcome for what was read.
unfoldable pub judge : System → Reading → Tested
judge M (refused n p) = Err (refusal_of n p)
judge M (holds x) = Ok (answer_in M x)

-- The outcome for bytes.
unfoldable pub outcome_of : System → List ℕ → Tested
outcome_of M b = judge M (sheet_of M b)

-- The outcome for the trace whose first record stands at p.
abbrev pub trace_from : System → List ℕ → ℕ → Outcome
trace_from M b p = trace_answer M (two_at b (p + 6)) (steps_in b (p + 8) (step_count b (p + 8)))
