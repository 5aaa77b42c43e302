-- `search_on` meets its contract: after each portion the search is underway.
use Rattle.search.specs.Answers.{pause_for}
use Rattle.report.specs.working.Underway.{Underway}
use Rattle.report.proofs.progress.search_on.Given as goal

abbrev pub invariant-loop : goal.invariant-loop
invariant-loop g l = Underway l.text (pause_for l.position) l.first l.second
