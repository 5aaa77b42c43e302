-- `put_table` meets its contract: the line of the answer at hand is the next one.
use mathlib.Core.Path.{◌≡◌, ap, ◌∙◌}
use Prim.Native.Nat.{◌+◌}
use native.Mathlib.Omega.{arith}
use Rattle.names.specs.working.Arrays.{name_in}
use Rattle.windows.specs.Questions.{wording_of}
use Rattle.bursts.specs.working.Writing.{line_for, answer_line}
use Rattle.bursts.proofs.LinesLeft.{lines-begun, next-room, next-put}
use Rattle.bursts.proofs.LinesPut.{line_as}
use Rattle.bursts.proofs.put_table.Goals as goal
use Rattle.bursts.proofs.put_table.Goals.{After-from}

pub commands-init : goal.commands-init
commands-init c = lines-begun _

next-line : (c : After-from) →
    let a = c.args in
    line_for c.name-called.result.now c.from.result (wording_of c.survey_of-reply.result.answer)
    ≡ answer_line (λ j. name_in a.text.now a.code.now.names (a.code.now.shared + a.code.now.row + j)) a.counts.now a.text.now a.sheet.now a.width c.commands.k
next-line c =
    let a = c.args in
    ap (λ v. line_for v c.from.result (wording_of c.survey_of-reply.result.answer)) c.name-called.ensures
    ∙ line_as (λ j. name_in a.text.now a.code.now.names (a.code.now.shared + a.code.now.row + j)) a.counts.now a.text.now a.sheet.now a.width c.commands.k
    c.from.result c.survey_of-reply.result c.from.ensures c.survey_of-reply.ensures.0

pub put_answer-requires : goal.put_answer-requires
put_answer-requires c = next-room _ c.commands.k c.commands.invariant _ (next-line (goal.at.put_answer-requires c).After-from) _ (omega arith) c.requires.1

pub commands-preserved : goal.commands-preserved
commands-preserved c = next-put _ c.commands.k c.commands.invariant _ (next-line (goal.at.commands-preserved c).After-from) c.put_answer.ensures
