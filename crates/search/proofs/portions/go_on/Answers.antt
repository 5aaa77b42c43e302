-- `go_on` meets its contract: nothing changes behind a break, and else the queue is gone through.
use Prim.Native.Nat.{◌^◌}
use mathlib.Core.Path.{refl}
use native.Mathlib.Omega.{arith}
use Rattle.evaluation.proofs.Powers.{pow_small}
use Rattle.exploration.proofs.CodeSteps.{moves-few}
use Rattle.exploration.proofs.Portions.{gone_nowhere, gone_further}
use Rattle.exploration.proofs.Pauses.{explored_within, explored_few}
use Rattle.search.proofs.portions.go_on.Goals as goal

pub returns-then-reach : goal.returns-then-reach
returns-then-reach c =
    gone_nowhere c.requires c.if-reach.true

pub overflow_add-result : goal.overflow_add-result
overflow_add-result c =
    let bits = c.args.table.now.plan.bits in
    omega (
      arith,
      c.requires.few,
      explored_few c.explore-next.ensures c.requires.ready c.requires.within (pow_small bits (2 ^ bits) c.args.table.now.sound.few_bits refl)
          (moves-few c.args.table.now.ops.now c.args.table.now.plan c.args.table.now.sound),
    )

pub returns : goal.returns
returns c =
    let bits = c.args.table.now.plan.bits in
    gone_further c.requires c.if-reach.false c.explore-next.ensures
    (explored_within c.explore-next.ensures c.requires.ready c.requires.within)
    (explored_few c.explore-next.ensures c.requires.ready c.requires.within (pow_small bits (2 ^ bits) c.args.table.now.sound.few_bits refl)
    (moves-few c.args.table.now.ops.now c.args.table.now.plan c.args.table.now.sound))
