-- `holds_c` meets its contract: `all` asks of each state what C asks of it.
use Rattle.std.proofs.Common.{rules}
use borrow.Author.Tests.{tests}
use Rattle.meaning.specs.Evidence.{in_map}
use Rattle.meaning.specs.working.Conditions.{implies, closed_at, test_c}
use Rattle.evaluation.specs.working.CodeSystem.{next_in, stars_in}
use Rattle.conditions.proofs.Loops.{every-told}
use Rattle.conditions.proofs.maps.holds_c.Goals as goal

pub returns : goal.returns
unfolding test_c implies
returns c =
    let plan = c.args.table.now.plan in
    let step = next_in c.args.table.now.ops.now plan.ends plan.bits in
    every-told (λ s. implies (in_map c.args.map.now s) (closed_at plan.commands (stars_in plan.stars) step c.args.map.now s)) _ _ _ _ _ c.power.ensures
    c.all.ensures.ran (λ x b q k. search (rules, tests))
