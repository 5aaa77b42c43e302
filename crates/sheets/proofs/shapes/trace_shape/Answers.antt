-- `trace_shape` meets its contract: what is left to demand from a record on gives what all of it gave from the first.
use mathlib.Core.Path.{sym, ◌∙◌}
use native.Mathlib.Omega.{arith}
use Rattle.refusals.specs.Reasons.{reason_of}
use Rattle.sheets.proofs.SheetLaws.{trace-fault, steps-kind, steps_range, steps_left}
use Rattle.sheets.proofs.shapes.trace_shape.Goals as goal

pub returns-then-not-is_record : goal.returns-then-not-is_record
unfolding reason_of
returns-then-not-is_record c =
    trace-fault _ _ _ _ _ _ c.two_at.ensures.0 c.if-states-two_at.false _ _
    (λ rest. steps-kind _ _ _ _ _ _ rest (omega arith)
    (sym c.is_record.ensures ∙ c.if-not-is_record.true) ∙ c.loop-i.invariant rest) _ c.at-then-not-is_record.ensures

pub returns-then-not-step_fits : goal.returns-then-not-step_fits
unfolding reason_of
returns-then-not-step_fits c =
    trace-fault _ _ _ _ _ _ c.two_at.ensures.0 c.if-states-two_at.false _ _
    (λ rest. steps_range _ _ _ _ _ _ rest (omega arith)
    (sym c.is_record.ensures ∙ c.if-not-is_record.false)
    (sym c.step_fits.ensures ∙ c.if-not-step_fits.true) ∙ c.loop-i.invariant rest) _ c.at-then-not-step_fits.ensures

pub loop-i-preserved : goal.loop-i-preserved
loop-i-preserved c rest =
    steps_left _ _ _ _ _ _ _ _ rest (omega arith) (omega arith) (sym c.is_record.ensures ∙ c.if-not-is_record.false)
    (sym c.step_fits.ensures ∙ c.if-not-step_fits.false) ∙ c.loop-i.invariant rest
