-- `put_step` meets its contract: a record of the bytes that step_bytes names.
use mathlib.Core.Path.{refl}
use Rattle.sheets.specs.Sheets.{little, step_bytes}
use Rattle.writing.proofs.records.put_step.Goals as goal

pub returns : goal.returns
unfolding step_bytes little
returns c = rw (c.put_record.ensures, c.to_le_bytes.ensures) refl
