-- `take_in` meets its contract: the start states before s are taken in, and the states from s on are not met.
use Prim.Native.Nat.{◌+◌, ◌^◌, ◌<◌}
use mathlib.Core.Path.{◌≡◌, refl, sym, ◌∙◌}
use mathlib.Core.Bool.{true}
use native.Mathlib.Omega.{arith}
use lib.ListN.{get_or, set}
use Rattle.evaluation.proofs.Powers.{pow_small}
use Rattle.exploration.specs.working.Tables.{Took}
use Rattle.exploration.specs.working.CodeTransitions.{transitions_in}
use Rattle.exploration.proofs.CodeSteps.{unmet_first, unmet_next}
use Rattle.exploration.proofs.Laws.{taking_refl, taking_end, taking_skip, taking_next, taking_broke, meets_new}
use Rattle.exploration.proofs.Laws.{room}
use Rattle.traversal.proofs.exploring.take_in.Goals as goal
use Rattle.traversal.proofs.exploring.take_in.Goals.{In-states, Then-breaks}
use Rattle.traversal.proofs.exploring.take_in.Goals.{then-starts+else-breaks, else-starts}

-- The state at hand is not met yet; where it violates `keep`, the start states are taken in up to it.
s-below : (c : In-states) →
    c.states.s < 2 ^ c.args.table.now.plan.bits
s-below c =
    omega (arith, c.states-test.true, c.requires.0)

few-states : (c : In-states) → c.states.s < 4096
few-states c =
    let bits = c.args.table.now.plan.bits in
    omega (arith, s-below c, pow_small bits (2 ^ bits) c.args.table.now.sound.few_bits refl)

unmet : (c : In-states) → get_or c.states.parent c.states.s 0 ≡ 0
unmet c = c.states.invariant.2 c.states.s (omega arith) (s-below c)

broken : (c : Then-breaks) →
    Took (transitions_in c.args.table.now.ops.now c.args.table.now.plan) c.args.queue.now
    c.args.parent.now (set c.states.queue c.states.count c.states.s)
    (c.states.count + 1) (set c.states.parent c.states.s (c.states.s + 1))
    true
broken c =
    let i : In-states = search in
    taking_broke c.states.invariant.1 (s-below i)
    (sym c.starts.ensures ∙ c.if-starts.true)
    (meets_new c.states.invariant.1.kept.ready (s-below i) (unmet i)
    c.breaks.ensures)
    c.if-breaks.true

pub states-init : goal.states-init
states-init c =
    (refl, taking_refl _ _ _ c.requires.1, unmet_first _ _ _ c.requires.1)

pub starts-requires : goal.starts-requires
starts-requires c =
    few-states (goal.at.starts-requires c).In-states

pub bounds-queue-count : goal.bounds-queue-count
bounds-queue-count c =
    let K = c.states.invariant.1.kept in
    omega (
      arith,
      room _ _ _ _ K.ready 0 _ (s-below (goal.at.bounds-queue-count c).In-states)
          (c.states.invariant.2 c.states.s (omega arith) (s-below (goal.at.bounds-queue-count c).In-states)),
      K.ready.queue-room,
    )

pub breaks-requires : goal.breaks-requires
breaks-requires c =
    few-states (goal.at.breaks-requires c).In-states

pub states-preserved : goal.states-preserved
states-preserved c =
    let i = (goal.at.states-preserved c).In-states in
    elim c.if-starts.branch [
      | then-starts+else-breaks w ↦ (
        c.states.invariant.0,
        rw (w.queue-is, w.count-is, w.parent-is)
            (taking_next c.states.invariant.1 (s-below i) (sym c.starts.ensures ∙ w.if-starts.true)
            (meets_new c.states.invariant.1.kept.ready (s-below i) (unmet i) w.breaks.ensures) w.if-breaks.false),
        rw w.parent-is (unmet_next c.states.parent c.states.s (c.states.s + 1) _ c.states.invariant.2),
      )
      | else-starts w ↦ (
        c.states.invariant.0,
        rw (w.queue-is, w.count-is, w.parent-is) (taking_skip c.states.invariant.1 (s-below i) (sym c.starts.ensures ∙ w.if-starts.false)),
        rw w.parent-is (λ j a h. c.states.invariant.2 j (omega arith) h),
      )
    ]

pub returns-after-states-clause-took : goal.returns-after-states-clause-took
returns-after-states-clause-took c = rw c.states.invariant.0 (taking_end c.states.invariant.1 (omega (arith, c.states-test.false, c.requires.0)))

pub returns-then-breaks-clause-took : goal.returns-then-breaks-clause-took
returns-then-breaks-clause-took c = broken (goal.at.returns-then-breaks-clause-took c).Then-breaks
