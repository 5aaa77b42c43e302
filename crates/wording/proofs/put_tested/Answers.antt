-- `put_tested` meets its contract: each arm puts the line of the answer that it matched.
use mathlib.Core.Path.{◌≡◌, sym, subst}
use Rattle.std.specs.Prelude.{Ok}
use Rattle.std.proofs.Common.{rules}
use Rattle.notation.specs.Bytes.{bytes}
use Rattle.conditions.specs.declared.outcome.Outcome.TheVariants.{TraceHolds}
use Rattle.conditions.specs.Outcomes.{wording_of}
use Rattle.lines.specs.Lines.{others, line}
use Rattle.lines.specs.Writers.{Writes}
use Rattle.wording.specs.Lines.{spelt, line_of}
use Rattle.wording.proofs.put_tested.Goals as goal

pub returns-in-Ok-TraceHolds : goal.returns-in-Ok-TraceHolds
unfolding spelt line others bytes wording_of
returns-in-Ok-TraceHolds c =
    let put = c.put-in-Ok-TraceHolds in
    let is : c.args.tested ≡ Ok TraceHolds = search rules in
    subst (λ t. Writes c.args.out.now (line_of t) put.new.self) (sym is) put.ensures
