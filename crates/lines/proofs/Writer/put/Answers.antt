-- `put` meets its contract: the part of the buffer that is filled has the bytes.
use mathlib.Core.Path.{refl}
use Rattle.lines.proofs.Stores.{part_filled}
use Rattle.lines.proofs.Writer.put.Goals as goal

pub returns : goal.returns
returns c =
    let out = c.args.self.now in
    record {
      same = refl;
      puts = record { stored = part_filled out.room.now c.args.bytes.now _ out.len c.requires.room c.copy_from_slice.ensures.after; ends = refl };
    }
