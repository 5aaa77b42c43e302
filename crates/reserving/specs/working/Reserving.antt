-- The reservation of a text, and what the code reckons it from.
-- Assumes nothing.
use Rattle.std.specs.Prelude.{List, ℕ, ◌+◌, ◌*◌, ◌^◌, Ok, Err}
use Rattle.refusals.specs.Reasons.{refusal_of}
use Rattle.notation.specs.Model.{Model}
use Rattle.notation.specs.Texts.{model_of}
use Rattle.notation.specs.working.Machine as N
use Rattle.notation.specs.working.Answer.{answer}
use Rattle.meaning.specs.OneRow.{state_count}
use Rattle.evaluation.specs.declared.plan.Plan.{Plan}
use Rattle.evaluation.specs.working.CodeSystem.{stars_in}
use Rattle.sheets.specs.Sheets.{system_of, sheet_room}
use Rattle.exploration.specs.Trials.{most_trials}
use Rattle.exploration.specs.working.Trials.{words_of}
use Rattle.reserving.specs.declared.Reservation.{Reservation}
use Rattle.reserving.specs.Answers.{Reserved}

-- How many choice words the commands of a model's flat form have, and what a search over it needs.
abbrev pub all_words : Plan → ℕ
all_words plan = words_of (λ k. 2 ^ stars_in plan.stars k) 0 plan.commands

abbrev pub needs_in : Plan → Reservation
needs_in plan = record { entries = 2 ^ plan.bits; bytes = 7 + 10 * 2 ^ plan.bits; trials = 2 ^ plan.bits * all_words plan }

-- What a search of a model needs.
abbrev pub needs_of : Model → Reservation
needs_of m = record { entries = state_count m; bytes = sheet_room (system_of m); trials = most_trials m }

-- For a text that was read or refused.
unfoldable pub reserve_in : N.Outcome → Reserved
reserve_in (N.read x) = Ok (needs_of (model_of x))
reserve_in (N.refused n p) = Err (refusal_of n p)

-- For a text. What it is on every input is said by `ReserveTells` and `RefusalTells`, which are proved of it.
unfoldable pub reserve_of : List ℕ → Reserved
reserve_of text = reserve_in (answer text)
