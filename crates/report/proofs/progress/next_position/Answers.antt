-- `next_position` meets its contract: the portion goes on with the search.
use native.Mathlib.Omega.{arith}
use mathlib.Core.Path.{sym, ap, ◌∙◌}
use Rattle.search.specs.Answers.{wording_of}
use Rattle.report.proofs.Portions.{portioned_underway, never_refused}
use Rattle.report.proofs.progress.next_position.Goals as goal

pub unwrap-requires : goal.unwrap-requires
unwrap-requires c = never_refused _ _ _ _ c.requires _ _ c.portion.ensures.result_value

pub returns : goal.returns
returns c =
    let p = c.portion in
    portioned_underway _ _ _ _ c.requires _ _ (ap wording_of (sym c.unwrap.ensures) ∙ p.ensures.result_value) p.ensures.left (omega arith) (omega arith)
