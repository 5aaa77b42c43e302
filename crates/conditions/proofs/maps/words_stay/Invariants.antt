-- `words_stay` meets its contract: the words before w lead to members, and the rows are ready for w.
use mathlib.Core.Path.{◌≡◌}
use mathlib.Core.Bool.{true}
use lib.Seq.{slice}
use Rattle.meaning.specs.working.Conditions.{words_stay}
use Rattle.evaluation.specs.working.CodeSystem.{next_in}
use Rattle.evaluation.proofs.Batches.{Ready}
use Rattle.conditions.proofs.maps.words_stay.Given as goal

abbrev pub invariant-words : goal.invariant-words
invariant-words l =
    (words_stay (next_in l.table.ops.now l.table.plan.ends l.table.plan.bits) l.map l.s l.k l.word ≡ true) × Ready (slice l.code.from l.code.to l.table.ops.now) l.s l.table.plan.bits l.word l.rows
