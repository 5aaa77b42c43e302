-- `survey` meets its contract: the front of the list is filled with as many steps as are counted, and the tally of their commands answers; where there is no answer, the list stays.
use mathlib.Core.Path.{◌≡◌, sym, ap, ◌∙◌}
use native.Mathlib.Omega.{arith}
use lib.ListN.{length, take}
use Rattle.std.proofs.lemmas.List.{length-take-le}
use Rattle.windows.proofs.AskLaws.{Counting, counting_as}
use Rattle.windows.proofs.Filled.{length-filled}
use Rattle.windows.proofs.SurveyLaws.{surveyed_list, surveyed_reply, unanswered_list, unanswered_reply}
use Rattle.windows.proofs.survey.Goals as goal
use Rattle.windows.proofs.survey.Goals.{In-Ok}

-- What is known where steps are counted, and how many places the front has.
ready : (c : In-Ok) → Counting c.args.sheet.now (length c.args.list.now) c.in-Ok.begun
ready c =
    counting_as c.args.question c.args.text.now c.args.sheet.now (length c.args.list.now) c.in-Ok.begun c.in-Ok.ensures.0

front : (c : In-Ok) → length (take c.in-Ok.begun.steps c.args.list.now) ≡ c.in-Ok.begun.steps
front c = length-take-le _ _ (ready c).room

pub slice_bounds-steps-end : goal.slice_bounds-steps-end
slice_bounds-steps-end c =
    (ready (goal.at.slice_bounds-steps-end c).In-Ok).room

pub slice_bounds-steps-end-in-Ok : goal.slice_bounds-steps-end-in-Ok
slice_bounds-steps-end-in-Ok c =
    sym (front (goal.at.slice_bounds-steps-end-in-Ok c).In-Ok)

pub fill-requires : goal.fill-requires
fill-requires c =
    let start = (goal.at.fill-requires c).In-Ok in
    let known = ready start in
    (omega (arith, front start, known.few), omega (arith, front start, known.there))

pub count-tally-requires : goal.count-tally-requires
count-tally-requires c =
    let start = (goal.at.count-tally-requires c).In-Ok in
    let known = ready start in
    let long : length c.fill.new.list ≡ length (take c.in-Ok.begun.steps c.args.list.now) = ap length c.fill.ensures ∙ length-filled _ _ _ in
    (omega (arith, long, front start, known.few), known.width, known.unseen)

pub returns-in-Ok : goal.returns-in-Ok
returns-in-Ok c =
    let room = (ready (goal.at.returns-in-Ok c).In-Ok).room in (
      surveyed_list _ _ _ _ _ c.in-Ok.ensures.0 room _ c.fill.ensures,
      surveyed_reply _ _ _ _ _ c.in-Ok.ensures.0 room _ c.fill.ensures _ c.count-tally.ensures _ c.answered.ensures,
      c.in-Ok.ensures.1,
    )

pub returns-in-Err : goal.returns-in-Err
returns-in-Err c = (unanswered_list _ _ _ _ _ c.in-Err.ensures.0, unanswered_reply _ _ _ _ _ c.in-Err.ensures.0, c.in-Err.ensures.1)
