-- `test_trace` meets its contract: what is left of the trace has the outcome that all of it had.
use mathlib.Core.Path.{sym, ◌∙◌, subst}
use Prim.Native.Nat.{ℕ, ◌+◌, ◌*◌, ◌^◌, ◌≤◌, ◌<◌}
use native.Mathlib.Omega.{arith}
use lib.ListN.{length}
use Rattle.conditions.proofs.TraceLaws.{stood_room, stood_after, goes, walk-next, walk_fails, walk-breaks, walk-keeps}
use Rattle.conditions.proofs.traces.test_trace.Goals as goal
use Rattle.conditions.proofs.traces.test_trace.Goals.{In-steps}

-- The record of the step at hand has its ten bytes.
room : (c : In-steps) → c.args.p + 18 + 10 * c.steps.i ≤ length c.args.b.now
room c = stood_room _ _ _ _ _ _ _ c.requires.1 c.step_count-i-end.ensures.0 c.steps-test.true

pub two_at-after-requires : goal.two_at-after-requires
two_at-after-requires c = omega (arith, room (goal.at.two_at-after-requires c).In-steps)

pub bounds-b-x : goal.bounds-b-x
bounds-b-x c = omega (arith, room (goal.at.bounds-b-x c).In-steps)

pub bounds-b-x-in-steps : goal.bounds-b-x-in-steps
bounds-b-x-in-steps c = omega (arith, room (goal.at.bounds-b-x-in-steps c).In-steps)

pub returns-then-after-step : goal.returns-then-after-step
returns-then-after-step c =
    goes _ _ _ _ _ c.two_at-first.ensures.0 (sym c.starts.ensures ∙ c.if-not-starts.false)
    (walk_fails _ _ _ _ _ _ _ _ _ _ _ c.steps-test.true (omega arith) c.from.ensures c.from-in-steps.ensures c.two_at-after.ensures.0 c.step.ensures c.if-after-step.true
    ∙ c.steps.invariant.1)

pub steps-preserved : goal.steps-preserved
steps-preserved c = (
  subst (λ (x : ℕ). x < 2 ^ c.args.table.now.plan.bits) (sym c.two_at-after.ensures.0)
      (stood_after _ _ _ _ _ _ _ c.requires.1 c.step_count-i-end.ensures.0 c.steps-test.true),
  walk-next _ _ _ _ _ _ _ _ _ _ _ c.steps-test.true (omega arith) c.from.ensures c.from-in-steps.ensures c.two_at-after.ensures.0 c.step.ensures c.if-after-step.false
      _ (omega arith) ∙ c.steps.invariant.1,
)

pub returns-then-breaks : goal.returns-then-breaks
returns-then-breaks c =
    goes _ _ _ _ _ c.two_at-first.ensures.0 (sym c.starts.ensures ∙ c.if-not-starts.false)
    (walk-breaks _ _ _ _ _ _ c.steps-test.false (sym c.breaks.ensures ∙ c.if-breaks.true) ∙ c.steps.invariant.1)

pub returns-else-breaks : goal.returns-else-breaks
returns-else-breaks c =
    goes _ _ _ _ _ c.two_at-first.ensures.0 (sym c.starts.ensures ∙ c.if-not-starts.false)
    (walk-keeps _ _ _ _ _ _ c.steps-test.false (sym c.breaks.ensures ∙ c.if-breaks.false) ∙ c.steps.invariant.1)
