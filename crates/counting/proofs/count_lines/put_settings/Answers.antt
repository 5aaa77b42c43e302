-- `put_settings` meets its contract: a setting has a line if it occurs.
use Prim.Native.Nat.{◌+◌}
use mathlib.Core.Path.{sym, subst}
use native.Mathlib.Omega.{arith}
use Rattle.lines.specs.Writers.{Writes}
use Rattle.counting.specs.working.Counting.{table_lines}
use Rattle.counting.proofs.TableLines.{lines-begun, line_none, line-room, line-put}
use Rattle.counting.proofs.count_lines.put_settings.Goals as goal
use Rattle.counting.proofs.count_lines.put_settings.Goals.{then-n-gt0, else-n-gt0}

pub settings-init : goal.settings-init
settings-init c = lines-begun c.args.counts.now

pub put_setting-requires : goal.put_setting-requires
put_setting-requires c =
    line-room c.args.counts.now c.settings.j _ c.settings.invariant c.from-n.ensures c.if-n-gt0.true _ (omega arith) c.requires

pub settings-preserved : goal.settings-preserved
settings-preserved c = elim c.if-n-gt0.branch [
  | then-n-gt0 w ↦ subst (λ out. Writes c.args.out.now (table_lines c.args.counts.now (c.settings.j + 1)) out) (sym w.out-is)
      (line-put c.args.counts.now c.settings.j _ c.settings.invariant c.from-n.ensures w.if-n-gt0.true w.put_setting.ensures)
  | else-n-gt0 w ↦ subst (λ out. Writes c.args.out.now (table_lines c.args.counts.now (c.settings.j + 1)) out) (sym w.out-is)
      (line_none c.args.counts.now c.settings.j _ c.settings.invariant c.from-n.ensures w.if-n-gt0.false)
]
