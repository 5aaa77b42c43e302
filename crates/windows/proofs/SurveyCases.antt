-- The table of cases holds: the definitions compute every row of it, from the bytes of the text and of the sheet.
-- Assumes nothing.
use mathlib.Core.Path.{refl}
use Rattle.acceptance.proofs.TestCases.{answering}
use Rattle.refusals.specs.Reasons.{number_of, reason_of}
use Rattle.conditions.specs.Outcomes.{wording_of_declined}
use Rattle.windows.specs.Bursts.{occurs, occurs_from, first_most, burst, counts_of}
use Rattle.windows.specs.Questions.{fault_of, refusal_of, wording_of}
use Rattle.windows.specs.Cases.{cases, AllCases}
use Rattle.windows.specs.working.Sliding.{tally_of, fresh}
use Rattle.windows.specs.working.Surveying.{step_at, filled, tally_for, begin_in, begin_after, begin_for, begin_of, answered_by, survey_in, survey_of}

pub all-cases : AllCases
unfolding answering number_of reason_of wording_of_declined occurs occurs_from first_most burst counts_of fault_of refusal_of wording_of cases tally_of fresh step_at filled tally_for begin_in begin_after begin_for begin_of answered_by survey_in survey_of
all-cases =
    ((refl, refl, refl), ((refl, refl, refl), ((refl, refl, refl), ((refl, refl, refl), ((refl, refl, refl), ((refl, refl, refl), ((refl, refl, refl), ((refl, refl, refl), ((refl, refl, refl), ((refl, refl, refl), ((refl, refl, refl), ((refl, refl, refl), ((refl, refl, refl), ((refl, refl, refl), ((refl, refl, refl), ((refl, refl, refl), ((refl, refl, refl), ((refl, refl, refl), ((refl, refl), ((refl, refl), ((refl, refl), ((refl, refl), ((refl, refl), ((refl, refl), ((refl, refl), ((refl, refl), ((refl, refl), ((refl, refl), ((refl, refl), tt)))))))))))))))))))))))))))))
