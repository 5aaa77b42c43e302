-- `closed_at` meets its contract: `all` asks of each command what C asks of it.
use Prim.Native.Nat.{◌^◌}
use mathlib.Core.Path.{refl}
use Rattle.std.proofs.Common.{rules}
use borrow.Author.Tests.{tests}
use Rattle.meaning.specs.working.Conditions.{closed_at, words_stay}
use Rattle.evaluation.specs.working.CodeSystem.{next_in, stars_in}
use Rattle.conditions.proofs.Loops.{every-told}
use Rattle.conditions.proofs.maps.closed_at.Goals as goal

pub returns : goal.returns
unfolding closed_at
returns c =
    let plan = c.args.table.now.plan in
    let step = next_in c.args.table.now.ops.now plan.ends plan.bits in
    every-told (λ k. words_stay step c.args.map.now c.args.s k (2 ^ stars_in plan.stars k)) _ _ _ _ _ refl
    c.all.ensures.ran (λ x b q k. search (rules, tests))
