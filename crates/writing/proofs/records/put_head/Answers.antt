-- `put_head` meets its contract: the bytes of one number, and behind them those of the other.
use Prim.Native.Nat.{◌+◌, ◌-◌}
use mathlib.Core.Path.{refl, ◌∙◌}
use native.Mathlib.Omega.{arith}
use Rattle.sheets.specs.Sheets.{little}
use Rattle.writing.proofs.Stored.{part, behind, four}
use Rattle.writing.proofs.records.put_head.Goals as goal

pub returns : goal.returns
unfolding little
returns c =
    let at = c.args.at in
    behind c.args.out.now _ at (at + 4) (at + 6 - (at + 4)) (little 4 c.args.len) _ (little 2 c.args.kind)
    (part c.args.out.now at (at + 4 - at) _ (little 4 c.args.len) (c.copy_from_slice.ensures.after ∙ rw c.to_le_bytes.ensures (four c.args.len)) (omega arith) (omega arith)) refl (c.copy_from_slice-2.ensures.after ∙ rw c.to_le_bytes-2.ensures refl) (omega arith) (omega arith)
