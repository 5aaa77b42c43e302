-- `put_start` meets its contract: a record of the bytes that start_bytes names.
use mathlib.Core.Path.{refl}
use Rattle.sheets.specs.Sheets.{little, start_bytes}
use Rattle.writing.proofs.records.put_start.Goals as goal

pub returns : goal.returns
unfolding start_bytes little
returns c = rw (c.put_record.ensures, c.to_le_bytes.ensures) refl
