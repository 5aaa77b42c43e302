-- What the first pass over a sheet finds, before any condition is tested.
-- Assumes nothing.
use Rattle.std.specs.Prelude.{Result, Ok, Err}
use Rattle.refusals.specs.declared.Refusal.{Refusal}
use Rattle.refusals.specs.Reasons.{refusal_of}
use Rattle.meaning.specs.Evidence.{safe, trace}
use Rattle.sheets.specs.working.SheetReading.{Reading, refused, holds}
use Rattle.sheets.specs.declared.shapes.Shape.{Shape}
use Rattle.sheets.specs.declared.shapes.Shape.TheVariants.{Map, Trace}

-- A reading without its contents: its kind, or the refusal.
unfoldable pub shape_of : Reading → Result Shape Refusal
shape_of (refused n p) = Err (refusal_of n p)
shape_of (holds (safe map)) = Ok Map
shape_of (holds (trace s xs)) = Ok Trace
