-- `first_move` meets its contract: it is the move that is found, else that of command 0 and word 0.
use mathlib.Core.Path.{sym, ap, ◌∙◌}
use Rattle.exploration.specs.working.CodeTransitions.{transitions_in}
use Rattle.exploration.specs.working.Transitions.{moves, move_of}
use Rattle.exploration.proofs.Recorded.{or-found, first-found}
use Rattle.tracing.proofs.traces.first_move.Goals as goal

pub returns : goal.returns
returns c =
    let T = transitions_in c.args.table.now.ops.now c.args.table.now.plan in
    ap (λ x. move_of x.command x.word) c.unwrap_or.ensures
    ∙ or-found (λ x. move_of x.command x.word) c.move_to.result _ c.move_to.ensures
    ∙ sym (first-found T c.args.s c.args.t (moves T))
