-- `run` meets its contract: what is left to run from here gives what all of it gives from the beginning.
use mathlib.Core.Path.{◌≡◌}
use lib.ListN.{drop}
use Rattle.evaluation.specs.working.Cells.{run_cells}
use Rattle.evaluation.proofs.CellRuns.{In}
use Rattle.evaluation.proofs.lanes.run.Given as goal

abbrev pub invariant-words : goal.invariant-words
invariant-words l = (l.passes ≡ l.op-index) × In l.t × (run_cells (drop l.op-index l.code) l.batch l.t l.cells ≡ run_cells l.code l.batch l.initial.t l.initial.cells)
