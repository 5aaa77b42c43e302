-- `put_record` meets its contract: the payload stands behind the head.
use Prim.Native.Nat.{◌+◌, ◌-◌}
use mathlib.Core.Path.{refl}
use native.Mathlib.Omega.{arith}
use lib.ListN.{length}
use Rattle.sheets.specs.Sheets.{record_bytes, little}
use Rattle.exploration.specs.working.Written.{head_bytes}
use Rattle.writing.proofs.Stored.{behind}
use Rattle.writing.proofs.records.put_record.Goals as goal

pub returns : goal.returns
unfolding record_bytes little
returns c =
    let n = length c.args.payload.now in
    behind c.args.out.now _ c.args.at (c.args.at + 6) (c.args.at + 6 + n - (c.args.at + 6)) (head_bytes n c.args.kind) _ c.args.payload.now
    c.put_head.ensures refl c.copy_from_slice.ensures.after (omega arith) (omega arith)
