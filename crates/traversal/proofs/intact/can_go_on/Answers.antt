-- `can_go_on` meets its contract: one test after the other.
use native.Mathlib.Omega.{arith}
use mathlib.Core.Path.{◌∙◌, sym}
use lib.Dec.{ltb}
use lib.ListN.{take, length-take}
use Rattle.std.proofs.lemmas.List.Sums.{count_by-le-length}
use Rattle.exploration.proofs.Judging.{never_stood, other_marks, only_states}
use Rattle.traversal.proofs.intact.can_go_on.Goals as goal

pub returns-then-reach-gt-TRIALS : goal.returns-then-reach-gt-TRIALS
returns-then-reach-gt-TRIALS c = never_stood c.args.states _ c.args.queue.now c.args.parent.now c.then-reach-gt-TRIALS.either

pub returns-then-count_marked-reach : goal.returns-then-count_marked-reach
returns-then-count_marked-reach c =
    other_marks c.args.states _ c.args.queue.now c.args.parent.now c.if-reach-gt-TRIALS.false c.if-reach.false
    (λ e. c.if-count_marked-reach.true (c.count_marked.ensures ∙ e))

pub returns : goal.returns
returns c =
    c.all_states.ensures
    ∙ only_states c.args.states _ c.args.queue.now c.args.parent.now c.if-reach-gt-TRIALS.false c.if-reach.false
    (sym c.count_marked.ensures ∙ c.if-count_marked-reach.false)
    (omega (arith, c.count_marked.ensures, count_by-le-length (ltb 0) (take c.args.states c.args.parent.now), length-take c.args.states c.args.parent.now))
