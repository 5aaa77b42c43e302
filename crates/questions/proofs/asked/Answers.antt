-- `asked` meets its contract: what the test answers, or what the map replies.
use mathlib.Core.Path.{◌≡◌, sym, ap, ◌∙◌}
use mathlib.Core.Bool.{true}
use Prim.Native.Nat.{◌<◌}
use native.Mathlib.Omega.{arith}
use Rattle.std.specs.Prelude.{Ok}
use Rattle.std.proofs.lemmas.List.{length-take, length-drop}
use Rattle.sheets.specs.Sheets.{size}
use Rattle.sheets.specs.working.FlatSystem.{system_at}
use Rattle.questions.specs.working.Asking.{map_passed}
use Rattle.questions.proofs.MapsAsked.{asked_told, stands, has_bit, asked_member}
use Rattle.questions.proofs.asked.Goals as goal
use Rattle.questions.proofs.asked.Goals.{Else-state-states}

-- A map that passes is asked for a state that there is.
passed : (c : Else-state-states) → map_passed (Ok c.in_ok-outcome.outcome) ≡ true
passed c = sym c.map_passed.ensures ∙ c.if-not-map_passed.false

below : (c : Else-state-states) → c.args.state < size (system_at c.args.table.now)
below c = omega (arith, c.power-states.ensures, c.if-state-states.false)

pub returns-then-not-map_passed : goal.returns-then-not-map_passed
returns-then-not-map_passed c =
    sym (asked_told _ _ _ _ c.in_ok-outcome.ensures (sym c.map_passed.ensures ∙ c.if-not-map_passed.true))

pub slice_bounds-in_map-count : goal.slice_bounds-in_map-count
slice_bounds-in_map-count c =
    stands _ _ c.args.state _ c.in_ok-outcome.ensures (passed (goal.at.slice_bounds-in_map-count c).Else-state-states)

pub slice_bounds-in_map-start : goal.slice_bounds-in_map-start
slice_bounds-in_map-start c =
    stands _ _ c.args.state _ c.in_ok-outcome.ensures (passed (goal.at.slice_bounds-in_map-start c).Else-state-states)

pub in_map-requires : goal.in_map-requires
in_map-requires c =
    let asks = (goal.at.in_map-requires c).Else-state-states in
    let there = has_bit (system_at c.args.table.now) c.args.b.now _ _ c.in_ok-outcome.ensures (passed asks) (below asks) in
    simp (length-take, length-drop) (omega (arith, there))

pub returns : goal.returns
returns c =
    let asks = (goal.at.returns c).Else-state-states in
    ap Ok c.in_map.ensures ∙ sym (asked_member _ _ _ _ c.in_ok-outcome.ensures (passed asks) (below asks))
