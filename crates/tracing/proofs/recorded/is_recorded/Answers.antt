-- `is_recorded` meets its contract: what is left to test from the state at hand is what was to be tested from t.
use Prim.Native.Nat.{ℕ, ◌+◌, ◌-◌, ◌<◌}
use mathlib.Core.Path.{◌≡◌, sym, ap, ◌∙◌}
use Rattle.std.specs.Option.{is_some}
use native.Mathlib.Omega.{arith}
use lib.ListN.{get_or, take}
use lib.Seq.{get_or-take}
use Rattle.evaluation.proofs.Powers.{pow_small}
use Rattle.exploration.specs.working.CodeTransitions.{transitions_in}
use Rattle.exploration.specs.working.Pauses.{leads, records_to}
use Rattle.exploration.specs.working.Transitions.{move_of}
use Rattle.exploration.proofs.Recorded.{records_none, records_start, records_out, records_lost, records_on, records_end, some-found, leads-found}
use Rattle.tracing.proofs.recorded.is_recorded.Goals as goal
use Rattle.tracing.proofs.recorded.is_recorded.Goals.{In-Some, After-move_to, In-back}

-- There is a state left to go back to.
left : (c : In-back) → 0 < c.args.states - c.back.counter
left c = omega (arith, c.back-test.true)

-- Its entry, as the part of the table that belongs to states has it, is the number of the state before, plus 1.
before : (c : In-Some) →
    get_or (take c.args.states c.args.parent.now) c.back.s 0 ≡ c.in-Some.before + 1
before c =
    omega (
      arith,
      get_or-take c.args.states c.args.parent.now c.back.s 0 c.back.invariant.0,
      c.in-Some.ensures.0,
      c.in-Some.ensures.1,
    )

-- Whether a move leads from there.
found : (c : After-move_to) →
    is_some c.move_to.result ≡ leads (transitions_in c.args.table.now.ops.now c.args.table.now.plan) c.in-Some.before c.back.s
found c =
    some-found (λ x. move_of x.command x.word) c.move_to.result c.move_to.ensures
    ∙ leads-found (transitions_in c.args.table.now.ops.now c.args.table.now.plan) c.in-Some.before c.back.s

pub returns-in_default : goal.returns-in_default
returns-in_default c =
    let i = (goal.at.returns-in_default c).In-back in
    sym
    (sym c.back.invariant.1
    ∙ records_none (transitions_in c.args.table.now.ops.now c.args.table.now.plan) (take c.args.states c.args.parent.now) (c.args.states - c.back.counter)
    c.back.s (left i) (omega (arith, get_or-take c.args.states c.args.parent.now c.back.s 0 c.back.invariant.0, c.in_default.ensures)))

pub starts-requires : goal.starts-requires
starts-requires c =
    omega (arith, c.back.invariant.0, pow_small c.args.table.now.plan.bits c.args.states c.args.table.now.sound.few_bits c.requires.0)

pub returns-then-before-s : goal.returns-then-before-s
returns-then-before-s c =
    let T = transitions_in c.args.table.now.ops.now c.args.table.now.plan in
    let table = take c.args.states c.args.parent.now in
    let at = goal.at.returns-then-before-s c in
    c.starts.ensures
    ∙ sym (sym c.back.invariant.1 ∙ records_start T table (c.args.states - c.back.counter) c.back.s (left at.In-back) _ (before at.In-Some) c.if-before-s.true)

pub returns-then-states-before : goal.returns-then-states-before
returns-then-states-before c =
    let T = transitions_in c.args.table.now.ops.now c.args.table.now.plan in
    let table = take c.args.states c.args.parent.now in
    let at = goal.at.returns-then-states-before c in
    sym
    (sym c.back.invariant.1
    ∙ records_out T table (c.args.states - c.back.counter) c.back.s (left at.In-back) _ (before at.In-Some) c.if-before-s.false
    (omega (arith, c.if-states-before.true, c.requires.0)))

pub returns-then-is_none : goal.returns-then-is_none
returns-then-is_none c =
    let T = transitions_in c.args.table.now.ops.now c.args.table.now.plan in
    let table = take c.args.states c.args.parent.now in
    let at = goal.at.returns-then-is_none c in
    sym
    (sym c.back.invariant.1
    ∙ records_lost T table (c.args.states - c.back.counter) c.back.s (left at.In-back) _ (before at.In-Some) c.if-before-s.false
    (omega (arith, c.if-states-before.false, c.requires.0))
    (sym (found at.After-move_to) ∙ c.if-is_none.ensures))

pub back-preserved : goal.back-preserved
back-preserved c =
    let T = transitions_in c.args.table.now.ops.now c.args.table.now.plan in
    let table = take c.args.states c.args.parent.now in
    let at = goal.at.back-preserved c in
    let k : c.args.states - (c.back.counter + 1) ≡ c.args.states - c.back.counter - 1 = omega arith in (
      omega (arith, c.if-states-before.false),
      rw k
          (sym
          (records_on T table (c.args.states - c.back.counter) c.back.s (left at.In-back) _ (before at.In-Some) c.if-before-s.false
          (omega (arith, c.if-states-before.false, c.requires.0))
          (sym (found at.After-move_to) ∙ c.if-is_none.ensures))
          ∙ c.back.invariant.1),
    )

pub returns : goal.returns
returns c =
    let T = transitions_in c.args.table.now.ops.now c.args.table.now.plan in
    let table = take c.args.states c.args.parent.now in
    let e : c.args.states - c.back.counter ≡ 0 = omega (arith, c.back-test.false) in
    sym (sym c.back.invariant.1 ∙ ap (λ (k : ℕ). records_to T table k c.back.s) e ∙ records_end T table c.back.s)
