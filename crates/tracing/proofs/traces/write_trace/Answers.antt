-- `write_trace` meets its contract: one walk back counts the steps, another writes them.
use Prim.Native.Nat.{ℕ, ◌+◌, ◌*◌, ◌^◌, ◌<◌}
use mathlib.Core.Path.{◌≡◌, ◌∙◌, ap}
use native.Mathlib.Omega.{arith}
use lib.ListN.{take}
use Rattle.exploration.specs.working.CodeTransitions.{transitions_in}
use Rattle.exploration.specs.working.Runs.{run_to, steps}
use Rattle.exploration.specs.working.Transitions.{move_of}
use Rattle.exploration.proofs.CodeSteps.{code_lawful, words-within}
use Rattle.exploration.proofs.Trace.{recorded-short, recorded-below, recorded-one, walking_start, walking_end, walking_next}
use Rattle.exploration.proofs.Trace.{writing_start, writing_parent, Turn, writing_next, writing_end}
use Rattle.tracing.proofs.traces.write_trace.Goals as goal
use Rattle.tracing.proofs.traces.write_trace.Goals.{After-first_move-x, At-count, In-write, Start, Then-p-s}

-- The states on the way back are states; the first loop counts the run's steps, and a turn of the second writes one.
s-below : (c : At-count) →
    c.count.s < 2 ^ c.args.table.now.plan.bits
s-below c =
    recorded-below (transitions_in _ c.args.table.now.plan) (code_lawful _ c.args.table.now.plan) _ c.count.invariant.here

counted : (c : Then-p-s) →
    let bits = c.args.table.now.plan.bits in
    c.count.n ≡ steps
    (run_to
    (transitions_in c.args.table.now.ops.now c.args.table.now.plan)
    (take (2 ^ bits) c.args.parent.now) (2 ^ bits) c.args.t)
counted c =
    walking_end (transitions_in _ c.args.table.now.plan) (code_lawful _ c.args.table.now.plan) _ _ _ _ c.count.invariant c.if-p-s.true

u-below : (c : In-write) →
    c.write.u < 2 ^ c.args.table.now.plan.bits
u-below c =
    recorded-below (transitions_in _ c.args.table.now.plan) (code_lawful _ c.args.table.now.plan) _ c.write.invariant.here

turn : (c : After-first_move-x) →
    Turn
    (transitions_in c.args.table.now.ops.now c.args.table.now.plan)
    (code_lawful _ c.args.table.now.plan) _ _ _ _ _ _ _ c.write.invariant
    (move_of c.first_move-x.result.command c.first_move-x.result.word)
turn c =
    writing_next (transitions_in _ c.args.table.now.plan) (code_lawful _ c.args.table.now.plan) _ _ _ _ _ _ _ c.write.invariant
    c.write-test.true _ c.first_move-x.ensures

pub count-init : goal.count-init
count-init c =
    walking_start (transitions_in _ c.args.table.now.plan) (code_lawful _ c.args.table.now.plan) _ _ c.requires.1

pub bounds-parent-s : goal.bounds-parent-s
bounds-parent-s c =
    omega (arith, s-below (goal.at.bounds-parent-s c).At-count, c.requires.0)

pub overflow_sub-p : goal.overflow_sub-p
overflow_sub-p c =
    recorded-one (transitions_in _ c.args.table.now.plan) (code_lawful _ c.args.table.now.plan) _ c.count.invariant.here

pub count-preserved : goal.count-preserved
count-preserved c =
    walking_next (transitions_in _ c.args.table.now.plan) (code_lawful _ c.args.table.now.plan) _ _ _ _ c.count.invariant c.if-p-s.false

pub write-init : goal.write-init
write-init c =
    writing_start (transitions_in _ c.args.table.now.plan) (code_lawful _ c.args.table.now.plan) _ _ _ _ c.count.n c.requires.1 (counted (goal.at.write-init c).Then-p-s)
    (omega (arith, counted (goal.at.write-init c).Then-p-s, recorded-short (transitions_in _ c.args.table.now.plan) _ _ c.requires.1, c.requires.2))

pub bounds-parent-u : goal.bounds-parent-u
bounds-parent-u c =
    omega (arith, u-below (goal.at.bounds-parent-u c).In-write, c.requires.0)

pub overflow_sub-p-in-write : goal.overflow_sub-p-in-write
overflow_sub-p-in-write c =
    recorded-one (transitions_in _ c.args.table.now.plan) (code_lawful _ c.args.table.now.plan) _ c.write.invariant.here

pub first_move-x-requires : goal.first_move-x-requires
first_move-x-requires c =
    writing_parent (transitions_in _ c.args.table.now.plan) (code_lawful _ c.args.table.now.plan) _ _ _ _
    _ _ _ c.write.invariant c.write-test.true

pub put_step-requires : goal.put_step-requires
put_step-requires c = (
  omega (arith, c.write.invariant.room),
  omega (arith, (turn (goal.at.put_step-requires c).After-first_move-x).move.0, c.args.table.now.sound.few_commands),
  omega (
    arith,
    (turn (goal.at.put_step-requires c).After-first_move-x).move.1,
    words-within c.args.table.now.sound c.first_move-x.result.command
        (turn (goal.at.put_step-requires c).After-first_move-x).move.0,
  ),
)

pub write-preserved : goal.write-preserved
write-preserved c =
    rw c.put_step.ensures (turn (goal.at.write-preserved c).After-first_move-x).next

pub returns : goal.returns
returns c =
    record {
      bytes =
          c.put_start.ensures
          ∙ writing_end (transitions_in _ c.args.table.now.plan) (code_lawful _ c.args.table.now.plan) _ _ _ _ _ _ _ c.write.invariant c.write-test.false;
      ends = ap (λ (n : ℕ). c.args.at + 8 + 10 * n) (counted (goal.at.returns c).Then-p-s);
    }
