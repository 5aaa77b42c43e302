-- The table of cases holds: the definitions compute every row of it, from the bytes of the text and of the sheet.
-- Assumes nothing.
use mathlib.Core.Path.{refl}
use Rattle.sheets.specs.Sheets.{little, record_bytes, header_bytes, map_bytes, start_bytes, step_bytes, steps_bytes, sheet_bytes}
use Rattle.acceptance.proofs.TestCases.{answering}
use Rattle.exploration.specs.working.Transitions.{words_from, moves_from}
use Rattle.exploration.specs.working.Exploring.{try_moves, explore, take_in, search}
use Rattle.exploration.specs.working.Trials.{trials_with, trials_from, trials}
use Rattle.exploration.specs.working.Runs.{first_move, run_to, steps_of}
use Rattle.exploration.specs.working.Results.{result}
use Rattle.exploration.specs.working.Written.{bit_at, map_from}
use Rattle.exploration.specs.working.Found.{any_set, verdict_for, found_in}
use Rattle.verdicts.specs.Answers.{wording_of}
use Rattle.verdicts.specs.Cases.{cases, AllCases}
use Rattle.verdicts.specs.working.Searching.{roomy, verdict_of, search_for, search_in, search_of}

-- To unfold this is to unfold all that finds a verdict on the model of a text.
unfoldable pub finding : Unit {0}
unfolding answering words_from moves_from try_moves explore take_in search trials_with trials_from trials first_move run_to steps_of result bit_at map_from any_set verdict_for found_in
finding = tt

pub all-cases : AllCases
unfolding finding little record_bytes header_bytes map_bytes start_bytes step_bytes steps_bytes sheet_bytes wording_of cases
    roomy verdict_of search_for search_in search_of
all-cases = ((refl, refl), ((refl, refl), (refl, (refl, (refl, (refl, (refl, ((refl, refl), ((refl, refl), (refl, tt))))))))))
