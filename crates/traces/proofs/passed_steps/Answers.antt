-- `passed_steps` meets its contract: where the trace passes, all of it stands in the sheet.
use mathlib.Core.Bool.{true}
use native.Mathlib.Omega.{arith}
use Rattle.traces.proofs.TracesPassed.{HasTrace, text_passed, judged_so}
use Rattle.traces.proofs.passed_steps.Goals as goal
use Rattle.traces.proofs.passed_steps.Goals.{Else-not-trace_passed}

ready : (c : Else-not-trace_passed) → HasTrace c.args.sheet.now
ready c =
    text_passed c.args.text.now _ (judged_so c.args.text.now _ _ c.in_ok-outcome.ensures.value _ c.trace_passed.ensures true c.if-not-trace_passed.false)

pub step_count-requires : goal.step_count-requires
step_count-requires c =
    let H = ready (goal.at.step_count-requires c).Else-not-trace_passed in
    (omega (arith, H.room), H.short)

pub returns-clause-there : goal.returns-clause-there
returns-clause-there c =
    let H = ready (goal.at.returns-clause-there c).Else-not-trace_passed in
    (omega (arith, H.room, c.step_count.ensures.0), H.short)
