-- `run` meets its contract: what is left to run from here gives what all of it gives from the beginning.
use mathlib.Core.Path.{◌≡◌}
use lib.ListN.{drop}
use Rattle.evaluation.specs.working.CodeMachine.{run_of}
use Rattle.evaluation.proofs.machine.run.Given as goal

abbrev pub invariant-words : goal.invariant-words
invariant-words l = (l.passes ≡ l.op-index) × (run_of (drop l.op-index l.code) l.word l.m ≡ run_of l.code l.word l.initial.m)
