-- The reply for a text, the bytes of a sheet and a state.
-- Assumes nothing.
use Rattle.std.specs.Prelude.{Bool, true, false, cond, List, ℕ, ◌+◌, ltb, Result, Ok, Err}
use Rattle.refusals.specs.Reasons.{refusal_of}
use Rattle.notation.specs.Texts.{model_of}
use Rattle.notation.specs.working.Machine as N
use Rattle.notation.specs.working.Answer.{answer}
use Rattle.meaning.specs.Evidence.{in_map}
use Rattle.sheets.specs.Sheets.{System, size, system_of, header_length, map_length}
use Rattle.sheets.specs.working.SheetReading.{map_in}
use Rattle.conditions.specs.Outcomes.{Tested, declined}
use Rattle.conditions.specs.declared.outcome.Outcome.TheVariants.{SafeHolds, Void, TraceHolds, FailsA, FailsB, FailsC, FailsD, FailsE, FailsF}
use Rattle.conditions.specs.declared.outcome.Declined.{Declined}
use Rattle.conditions.specs.declared.outcome.Declined.TheVariants.{Refused}
use Rattle.conditions.specs.working.Judging.{outcome_of}

-- Whether what the test answers is that of a map that passes.
abbrev pub map_passed : Tested → Bool
map_passed (Ok SafeHolds) = true
map_passed (Ok Void) = true
map_passed (Ok TraceHolds) = false
map_passed (Ok FailsA) = false
map_passed (Ok FailsB) = false
map_passed (Ok FailsC) = false
map_passed (Ok FailsD) = false
map_passed (Ok FailsE) = false
map_passed (Ok FailsF) = false
map_passed (Err r) = false

-- The bytes of the map in a sheet that has one.
abbrev pub map_of : System → List ℕ → List ℕ
map_of M sheet = map_in sheet (header_length M + 6) (map_length (size M))

-- What a map of so many states replies: whether the state is a member, if there is such a state.
unfoldable pub member_reply : ℕ → List ℕ → ℕ → Result Bool Declined
member_reply states map state = cond (ltb state states) (Ok (in_map map state)) (Err (Refused (refusal_of 10 0)))

-- For a system and a sheet: where the sheet is no map that passes, what the test answers.
unfoldable pub asked_of : System → List ℕ → ℕ → Result Bool Declined
asked_of M sheet state = cond (map_passed (outcome_of M sheet)) (member_reply (size M) (map_of M sheet) state) (Err (declined (outcome_of M sheet)))

-- For a text that was read or refused.
unfoldable pub reached_in : N.Outcome → List ℕ → ℕ → Result Bool Declined
reached_in (N.read x) sheet state = asked_of (system_of (model_of x)) sheet state
reached_in (N.refused n p) sheet state = Err (Refused (refusal_of n p))

-- For a text. What it is on every input is said by `ReachedTells` and `RefusalTells`, which are proved of it.
unfoldable pub reached_of : List ℕ → List ℕ → ℕ → Result Bool Declined
reached_of text sheet state = reached_in (answer text) sheet state
