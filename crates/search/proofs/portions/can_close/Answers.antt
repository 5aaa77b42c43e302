-- `can_close` meets its contract: a map can always be told, and a trace where its run is recorded.
use Prim.Native.Nat.{◌^◌}
use mathlib.Core.Path.{refl, sym, ◌∙◌}
use native.Mathlib.Omega.{arith}
use borrow.Author.Tests.{not-false}
use Rattle.evaluation.proofs.Powers.{pow_small}
use Rattle.exploration.specs.working.CodeTransitions.{transitions_in}
use Rattle.exploration.proofs.Laws.{count_le}
use Rattle.search.proofs.PausesHeld.{close_nothing, close_recorded}
use Rattle.search.proofs.portions.can_close.Goals as goal

pub returns-then-reach-eq0 : goal.returns-then-reach-eq0
returns-then-reach-eq0 c =
    sym (close_nothing (transitions_in c.args.table.now.ops.now c.args.table.now.plan) c.args.reach.found c.args.reach.count c.args.first.now c.args.second.now (not-false _ c.if-not-reach.false) c.if-reach-eq0.true)

pub offset_bounds-first-reach : goal.offset_bounds-first-reach
offset_bounds-first-reach c =
    let bits = c.args.table.now.plan.bits in
    omega (arith, count_le (transitions_in c.args.table.now.ops.now c.args.table.now.plan) _ _ _ c.requires.1, pow_small bits (2 ^ bits) c.args.table.now.sound.few_bits refl)

pub bounds-first-reach : goal.bounds-first-reach
bounds-first-reach c =
    omega (arith, count_le (transitions_in c.args.table.now.ops.now c.args.table.now.plan) _ _ _ c.requires.1, c.requires.1.queue-room, c.if-reach-eq0.false)

pub returns : goal.returns
returns c =
    c.is_recorded.ensures
    ∙ sym (close_recorded (transitions_in c.args.table.now.ops.now c.args.table.now.plan) c.args.reach.found c.args.reach.count c.args.first.now c.args.second.now _ c.requires.0 c.requires.1 (not-false _ c.if-not-reach.false) (omega (arith, c.if-reach-eq0.false)))
