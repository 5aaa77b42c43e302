-- `holds_b` meets its contract: `all` asks of each state what B asks of it.
use mathlib.Core.Bool.{not}
use Rattle.std.proofs.Common.{rules, ◌≤◌}
use Rattle.evaluation.proofs.Powers.{pow_small}
use Rattle.std.proofs.iter.Serving.{serving}
use Rattle.conditions.proofs.Loops.{every-told}
use borrow.Author.Tests.{tests}
use Rattle.meaning.specs.Evidence.{in_map}
use Rattle.meaning.specs.working.Conditions.{implies, test_b}
use Rattle.evaluation.specs.working.CodeSystem.{breaks_in}
use Rattle.conditions.proofs.maps.holds_b.Goals as goal

pub all-requires-clause-callable : goal.all-requires-clause-callable
all-requires-clause-callable c =
    let few : c.power.result ≤ 4096 = pow_small c.args.table.now.plan.bits c.power.result c.args.table.now.sound.few_bits c.power.ensures in
    grind serving

pub returns : goal.returns
unfolding test_b implies
returns c =
    every-told (λ s. implies (in_map c.args.map.now s) (not (breaks_in c.args.table.now.ops.now c.args.table.now.plan.ends s))) _ _ _ _ _ c.power.ensures
    c.all.ensures.ran (λ x b q k. search (rules, tests))
