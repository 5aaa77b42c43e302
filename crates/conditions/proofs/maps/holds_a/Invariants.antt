-- `holds_a` meets its contract: A has been found to hold of the states before s, and `found` tells whether a start state was among them.
use Rattle.std.specs.Prelude.{cond, Some, None}
use mathlib.Core.Path.{◌≡◌}
use mathlib.Core.Bool.{true}
use Rattle.meaning.specs.working.Conditions.{test_void, test_a}
use Rattle.evaluation.specs.working.CodeSystem.{starts_in}
use Rattle.conditions.proofs.maps.holds_a.Given as goal

abbrev pub invariant-states : goal.invariant-states
invariant-states l =
    let starts = starts_in l.table.ops.now l.table.plan.ends in
    (test_a l.s starts l.map ≡ true) × (l.found ≡ cond (test_void l.s starts) None (Some true))
