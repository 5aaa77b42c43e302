-- What opening and moves answer to a text, the bytes of a sheet and a record, and the record afterwards.
-- Assumes nothing.
use Rattle.std.specs.Prelude.{cond, List, ℕ, ◌+◌, ◌*◌, eqb, leb, Option, Some, None, Result, Ok, Err}
use Rattle.notation.specs.Texts.{model_of}
use Rattle.notation.specs.working.Machine as N
use Rattle.notation.specs.working.Answer.{answer}
use Rattle.sheets.specs.Sheets.{system_of, header_length}
use Rattle.sheets.specs.SheetTexts.{two_at}
use Rattle.refusals.specs.Reasons.{refusal_of}
use Rattle.conditions.specs.Outcomes.{Tested, declined}
use Rattle.conditions.specs.declared.outcome.Declined.{Declined}
use Rattle.conditions.specs.declared.outcome.Declined.TheVariants.{Refused}
use Rattle.conditions.specs.working.Judging.{outcome_of}
use Rattle.traces.specs.working.Passing.{trace_passed, last_place}
use Rattle.player.specs.Places.{leads}
use Rattle.player.specs.declared.record.Player.{Player}
use Rattle.player.specs.declared.record.Direction.{Direction}
use Rattle.player.specs.declared.record.Answer.{Answer}
use Rattle.player.specs.declared.record.Answer.TheVariants as A
use Rattle.player.specs.declared.record.Move.{Move}

-- In a sheet with a trace, behind a header of h bytes: the record at a place.
abbrev pub record_at : ℕ → List ℕ → ℕ → Player
record_at h b k = record { place = k; state = two_at b (h + 6 + 10 * k) }

-- A record that stays, with the answer.
abbrev pub stays : Player → Result Answer Declined → Move
stays p a = record { player = p; answer = a }

-- A record that a move leads to a place, or to none.
unfoldable pub led_to : ℕ → List ℕ → Player → Option ℕ → Move
led_to h b p (Some k) = record { player = record_at h b k; answer = Ok A.Moved }
led_to h b p None = stays p (Ok A.AtEnd)

-- A move on a sheet with a trace that passes.
unfoldable pub move_in : ℕ → Direction → List ℕ → Player → Move
move_in h d b p =
    cond (leb p.place (last_place h b))
    (cond (eqb p.state (record_at h b p.place).state) (led_to h b p (leads d (last_place h b) p.place)) (stays p (Ok A.Foreign)))
    (stays p (Ok A.Foreign))

-- A move where the test has this outcome, and opening.
unfoldable pub move_after : Tested → ℕ → Direction → List ℕ → Player → Move
move_after o h d b p = cond (trace_passed o) (move_in h d b p) (stays p (Err (declined o)))

unfoldable pub open_after : Tested → ℕ → List ℕ → Result Player Declined
open_after o h b = cond (trace_passed o) (Ok (record_at h b 0)) (Err (declined o))

-- Both for a text that was read or refused: over the system of its model.
unfoldable pub move_for : N.Outcome → Direction → List ℕ → Player → Move
move_for (N.read x) d b p = let M = system_of (model_of x) in move_after (outcome_of M b) (header_length M) d b p
move_for (N.refused n i) d b p = stays p (Err (Refused (refusal_of n i)))

unfoldable pub open_for : N.Outcome → List ℕ → Result Player Declined
open_for (N.read x) b = let M = system_of (model_of x) in open_after (outcome_of M b) (header_length M) b
open_for (N.refused n i) b = Err (Refused (refusal_of n i))

-- A move on a text and a sheet. What it is on every input is said by `MovesTell` and `RefusalTells`, which are proved of it.
unfoldable pub move_of : Direction → List ℕ → List ℕ → Player → Move
move_of d text b p = move_for (answer text) d b p

-- Opening on a text and a sheet, likewise by `OpeningsTell` and `RefusalTells`.
unfoldable pub open_of : List ℕ → List ℕ → Result Player Declined
open_of text b = open_for (answer text) b
