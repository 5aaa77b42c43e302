-- What the calls of a search in portions leave, as computations.
-- Assumes nothing.
use Rattle.std.specs.Prelude.{Bool, true, false, cond, ◌&&◌, List, ℕ, ◌-◌, leb, ltb, length, get_or, Result, Ok, Err}
use Rattle.refusals.specs.Reasons.{refusal_of}
use Rattle.notation.specs.working.Machine as N
use Rattle.notation.specs.working.Answer.{answer}
use Rattle.sheets.specs.Sheets.{System, size}
use Rattle.sheets.specs.working.FlatSystem.{system_in}
use Rattle.acceptance.specs.working.Test.{plan_of}
use Rattle.reader.specs.Read.{read_code}
use Rattle.exploration.specs.Pause.{Pause}
use Rattle.exploration.specs.working.Transitions.{Transitions}
use Rattle.exploration.specs.working.Exploring.{Seen, Progress, broke, through}
use Rattle.exploration.specs.working.Pauses.{Stand, seen_in, opened, further, pause_of, stand_in, over, intact, records_to}
use Rattle.exploration.specs.working.Found.{transitions_of}
use Rattle.verdicts.specs.Left.{Left}
use Rattle.verdicts.specs.working.Searching.{roomy, left_by, left_alone, found_by}
use Rattle.conditions.specs.declared.outcome.Declined.{Declined}
use Rattle.conditions.specs.declared.outcome.Declined.TheVariants.{Refused}
use Rattle.pauses.specs.Answers.{paused, returned}
use Rattle.pauses.specs.Held.{Held}

-- The system of a text's model, by its flat form.
abbrev pub flat_of : List ℕ → System
flat_of text = system_in (read_code text).ops (plan_of (read_code text))

-- Whether the lent tables have an entry for each state.
unfoldable pub tabled : System → List ℕ → List ℕ → Bool
tabled M first second = leb (size M) (length first) && leb (size M) (length second)

-- After a refusal both tables are as they were.
abbrev pub held_alone : ℕ → ℕ → List ℕ → List ℕ → Held
held_alone n p first second = record { answer = returned n p; first = first; second = second }

-- Where a search stands: the position, and the tables with what is met at their fronts.
abbrev pub held_by : Stand → List ℕ → List ℕ → Held
held_by s first second =
    record { answer = paused (pause_of s); first = over (seen_in s.went).queue first; second = over (seen_in s.went).parent second }

-- A search that has nothing left to expand, which is what a portion makes of a position that its tables do not bear out.
abbrev pub nothing_left : Pause
nothing_left = record { expanded = 0; met = 0; broke = false; trials = 0 }

-- For a system: a search opened.
unfoldable pub open_for : System → List ℕ → List ℕ → Held
open_for M first second = cond (tabled M first second) (held_by (opened (transitions_of M)) first second) (held_alone 8 0 first second)

-- A portion of k states, where the tables have room.
unfoldable pub portion_in : System → Pause → ℕ → List ℕ → List ℕ → Held
portion_in M p k first second =
    cond (intact (size M) p first second)
    (held_by (further (transitions_of M) k (stand_in (transitions_of M) p first second)) first second)
    (record { answer = paused nothing_left; first = first; second = second })

unfoldable pub portion_for : System → Pause → ℕ → List ℕ → List ℕ → Held
portion_for M p k first second = cond (tabled M first second) (portion_in M p k first second) (held_alone 8 0 first second)

-- The last state met, and whether the table of parents records a run to it.
abbrev pub last_met : Seen → ℕ
last_met x = get_or x.queue (length x.queue - 1) 0

unfoldable pub last_recorded : Transitions → Seen → Bool
last_recorded T x = ltb 0 (length x.queue) && records_to T x.parent T.size (last_met x)

-- Whether the tables tell the sheet of a search that went so.
abbrev pub can_close : Transitions → Progress → Bool
can_close T (through x) = true
can_close T (broke x) = last_recorded T x

-- What is left by a search that went so; where its tables do not tell the sheet, what a search from the beginning leaves.
unfoldable pub closed_by : System → Progress → ℕ → List ℕ → List ℕ → List ℕ → Left
closed_by M o made first second sheet = cond (can_close (transitions_of M) o) (left_by M o made first second sheet) (found_by M first second sheet)

-- Where a search stands when all states that are left are expanded.
abbrev pub all_from : System → Pause → List ℕ → List ℕ → Stand
all_from M p first second = further (transitions_of M) (size M) (stand_in (transitions_of M) p first second)

-- A search finished, where there is room; from the beginning, where the tables do not bear the position out.
unfoldable pub finish_in : System → Pause → List ℕ → List ℕ → List ℕ → Left
finish_in M p first second sheet =
    cond (intact (size M) p first second)
    (closed_by M (all_from M p first second).went (all_from M p first second).trials first second sheet)
    (found_by M first second sheet)

unfoldable pub finish_for : System → Pause → List ℕ → List ℕ → List ℕ → Left
finish_for M p first second sheet = cond (roomy M first second sheet) (finish_in M p first second sheet) (left_alone 8 0 first second sheet)

-- For a text that was read or refused: what is due for its system, or every table as it was.
abbrev pub held_in : N.Outcome → (List ℕ → List ℕ → Held) → List ℕ → List ℕ → Held
held_in (N.read x) due first second = due first second
held_in (N.refused n p) due first second = held_alone n p first second

abbrev pub left_in : N.Outcome → (List ℕ → List ℕ → List ℕ → Left) → List ℕ → List ℕ → List ℕ → Left
left_in (N.read x) due first second sheet = due first second sheet
left_in (N.refused n p) due first second sheet = left_alone n p first second sheet

-- For a text: a search opened, a portion of k states, a search finished.
unfoldable pub open_of : List ℕ → List ℕ → List ℕ → Held
open_of text = held_in (answer text) (open_for (flat_of text))

unfoldable pub portion_of : List ℕ → Pause → ℕ → List ℕ → List ℕ → Held
portion_of text p k = held_in (answer text) (portion_for (flat_of text) p k)

unfoldable pub finish_of : List ℕ → Pause → List ℕ → List ℕ → List ℕ → Left
finish_of text p = left_in (answer text) (finish_for (flat_of text) p)

-- Whether a state is met: its entry in the table of parents is not 0.
unfoldable pub met_for : System → ℕ → List ℕ → List ℕ → Result Bool Declined
met_for M t first second =
    cond (tabled M first second)
    (cond (ltb t (size M)) (Ok (ltb 0 (get_or second t 0))) (Err (Refused (refusal_of 10 0))))
    (Err (Refused (refusal_of 8 0)))

unfoldable pub met_in : N.Outcome → (List ℕ → List ℕ → Result Bool Declined) → List ℕ → List ℕ → Result Bool Declined
met_in (N.read x) due first second = due first second
met_in (N.refused n p) due first second = Err (Refused (refusal_of n p))

unfoldable pub met_of : List ℕ → ℕ → List ℕ → List ℕ → Result Bool Declined
met_of text t = met_in (answer text) (met_for (flat_of text) t)
