-- `put_run` meets its contract: the line of the step at hand is the next one.
use mathlib.Core.Path.{◌≡◌, subst}
use Prim.Native.Nat.{◌+◌, ◌*◌}
use native.Mathlib.Omega.{arith}
use Rattle.notation.specs.Bytes.{bytes}
use Rattle.meaning.specs.OneRow.{TraceStep}
use Rattle.sheets.specs.SheetTexts.{step_in}
use Rattle.lines.specs.Writers.{Writes}
use Rattle.names.specs.working.Arrays.{name_in, Named}
use Rattle.reporting.specs.Reports.{step_line}
use Rattle.reporting.specs.working.Writing.{header_end, steps_of, record_line}
use Rattle.reporting.proofs.Parts.{record-told, command-told, verdict-room, start-room, steps-room, run-written}
use Rattle.reporting.proofs.StepsLeft.{lines, lines-begun, next-room, next-put, each-step}
use Rattle.reporting.proofs.run.put_run.Goals as goal
use Rattle.reporting.proofs.run.put_run.Goals.{After-two_at-in-steps}

pub put_number_line-requires : goal.put_number_line-requires
unfolding bytes
put_number_line-requires c =
    let a = c.args in
    let code = a.code.now in
    verdict-room a.text.now code.names (code.shared + code.row) a.sheet.now c.requires.1

pub put_number_line-requires-2 : goal.put_number_line-requires-2
unfolding bytes
put_number_line-requires-2 c =
    let a = c.args in
    let code = a.code.now in
    start-room a.text.now code.names (code.shared + code.row) a.sheet.now c.put_number_line.ensures c.two_at.ensures.0 c.requires.1

pub steps-init : goal.steps-init
steps-init c = lines-begun _ _ _

pub name-called-requires : goal.name-called-requires
name-called-requires c =
    let a = c.args in
    let code = a.code.now in
    command-told a.text.now code.names (code.shared + code.row) a.sheet.now (header_end + 8 + 10 * c.steps.i + 6) _ c.wide.ensures.0
    (each-step (λ (x : TraceStep). Named a.text.now code.names (code.shared + code.row + x.command)) a.sheet.now (header_end + 8) (steps_of a.sheet.now) c.steps.i (omega arith) c.requires.0.named)

-- What was read is the step's line.
line-told : (c : After-two_at-in-steps) →
    let a = c.args in
    let code = a.code.now in
    let i = c.steps.i in
    step_line (i + 1) c.name-called.result.now c.wide-in-steps.result c.two_at-in-steps.result
    ≡ record_line a.text.now code.names (code.shared + code.row) (i + 1) (step_in a.sheet.now (header_end + 8 + 10 * i + 6))
line-told c =
    let a = c.args in
    let code = a.code.now in
    record-told a.text.now code.names (code.shared + code.row) a.sheet.now (header_end + 8 + 10 * c.steps.i + 6) (c.steps.i + 1) c.wide.result c.name-called.result.now
    c.wide-in-steps.result c.two_at-in-steps.result c.wide.ensures.0 c.name-called.ensures c.wide-in-steps.ensures.0 c.two_at-in-steps.ensures.0

pub put_step-requires : goal.put_step-requires
unfolding bytes
put_step-requires c =
    let a = c.args in
    let code = a.code.now in
    next-room _ _ _ c.steps.i c.steps.invariant _ (line-told (goal.at.put_step-requires c).After-two_at-in-steps) (steps_of a.sheet.now) (omega arith)
    (steps-room a.text.now code.names (code.shared + code.row) a.sheet.now c.put_number_line.ensures c.two_at.ensures.0 c.put_number_line-2.ensures c.requires.1)

pub steps-preserved : goal.steps-preserved
steps-preserved c =
    next-put _ _ _ c.steps.i c.steps.invariant _ (line-told (goal.at.steps-preserved c).After-two_at-in-steps) c.put_step.ensures

pub returns : goal.returns
unfolding bytes
returns c =
    let a = c.args in
    let code = a.code.now in
    let all : c.steps.i ≡ steps_of a.sheet.now = omega arith in
    run-written a.text.now code.names (code.shared + code.row) a.sheet.now c.put_number_line.ensures c.two_at.ensures.0 c.put_number_line-2.ensures
    (subst (λ k. Writes c.put_number_line-2.new.self (lines (λ j. name_in a.text.now code.names (code.shared + code.row + j)) a.sheet.now (header_end + 8) k) c.steps.out) all c.steps.invariant)
