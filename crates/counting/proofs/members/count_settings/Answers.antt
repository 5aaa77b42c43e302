-- `count_settings` meets its contract: a member is counted at its setting.
use Prim.Native.Nat.{ℕ, ◌%◌, ◌≤◌, ◌<◌}
use mathlib.Core.Path.{refl, sym, ◌∙◌}
use native.Mathlib.Omega.{arith}
use native.Mathlib.Nat.{mod-lt}
use Rattle.counting.proofs.Tables.{table-begun, not-counted, count_small, counted}
use Rattle.counting.proofs.members.count_settings.Goals as goal
use Rattle.counting.proofs.members.count_settings.Goals.{then-in_map, else-in_map}

small : (s settings : ℕ) → 0 < settings → settings ≤ 256 → s % settings < 256
small s settings h g = omega (arith, mod-lt s h)

pub states-init : goal.states-init
states-init c = table-begun _ _

pub overflow_add-counts : goal.overflow_add-counts
overflow_add-counts c =
    let a = c.args in
    let setting = c.states.s % a.settings in
    record { fits = omega (arith, count_small a.settings a.map.now c.states.s c.states.counts c.states.invariant setting (small c.states.s a.settings c.requires.2 c.requires.3)) }

pub states-preserved : goal.states-preserved
states-preserved c = elim c.if-in_map.branch [
  | then-in_map w ↦ counted _ _ _ _ c.states.invariant (sym c.in_map.ensures ∙ w.if-in_map.true) (c.states.s % c.args.settings)
      (small c.states.s c.args.settings c.requires.2 c.requires.3) refl _ w.counts-is
  | else-in_map w ↦ not-counted _ _ _ _ c.states.invariant (sym c.in_map.ensures ∙ w.if-in_map.false) _ w.counts-is
]
