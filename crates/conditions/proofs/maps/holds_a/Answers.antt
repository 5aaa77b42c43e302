-- `holds_a` meets its contract: A has been found to hold of the states before s, and `found` tells whether a start state was among them.
use mathlib.Core.Path.{sym, ◌∙◌}
use Rattle.conditions.proofs.Loops.{start_outside}
use Rattle.conditions.proofs.maps.holds_a.Goals as goal

pub returns-then-not-in_map : goal.returns-then-not-in_map
returns-then-not-in_map c =
    start_outside _ _ _ _ _ c.states-test.true c.power-s-end.ensures (sym c.starts.ensures ∙ c.if-starts.true) (sym c.in_map.ensures ∙ c.if-not-in_map.true)
