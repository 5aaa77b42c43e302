-- The table of cases holds: the definitions compute every row of it, from the bytes of the text.
-- Assumes nothing.
use mathlib.Core.Path.{refl}
use Rattle.notation.specs.Layout as L
use Rattle.reader.specs.Read as R
use Rattle.meaning.specs.working.Digits.{put}
use Rattle.evaluation.specs.working.Batches.{after_of}
use Rattle.evaluation.specs.working.CodeMachine as K
use Rattle.evaluation.specs.working.CodeSystem.{begin_of, segment_of, holds_in, clause_in, starts_in, breaks_in, next_in, stars_in}
use Rattle.refusals.specs.Reasons.{number_of, reason_of}
use Rattle.conditions.specs.Outcomes as O
use Rattle.verdicts.proofs.SearchCases.{finding}
use Rattle.exploration.specs.working.Exploring.{place_from}
use Rattle.exploration.specs.working.Tables.{marked}
use Rattle.exploration.specs.working.Pauses.{further, all_states, intact}
use Rattle.questions.specs.Answers as Q
use Rattle.pauses.specs.Promises.{portions_from}
use Rattle.pauses.specs.Cases.{cases, AllCases}
use Rattle.pauses.specs.working.Pausing.{tabled, open_for, portion_in, portion_for, open_of, portion_of, met_for, met_in, met_of}

pub all-cases : AllCases
unfolding finding put after_of K.node_kind K.kind_of begin_of segment_of holds_in clause_in starts_in breaks_in next_in stars_in place_from marked further all_states intact
    number_of reason_of Q.wording_of O.wording_of O.wording_of_declined portions_from cases tabled open_for portion_in portion_for open_of portion_of met_for met_in met_of R.reading_in R.code_of R.placed
    L.expr_code L.row_item_code L.row_items_code L.item_code L.items_code L.command_code L.segments L.joined L.ends_from L.layout_of
all-cases = (refl, (refl, (refl, (refl, (refl, (refl, (refl, (refl, (refl, (refl, (refl, (refl, (refl, (refl, tt))))))))))))))
