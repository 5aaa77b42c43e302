-- `finish_roomy` meets its contract: what is left is expanded and the search concluded, or it is made from the beginning.
use Prim.Native.Nat.{ℕ}
use mathlib.Core.Path.{◌≡◌, sym, ◌∙◌, subst}
use native.Mathlib.Omega.{arith}
use Rattle.exploration.specs.working.CodeTransitions.{transitions_in}
use Rattle.exploration.specs.working.Pauses.{intact}
use Rattle.exploration.proofs.Portions.{judged}
use Rattle.search.specs.working.Pausing.{pause_in}
use Rattle.search.proofs.PausesHeld.{finish-anew, finish_unclosed, finish-closed, can_close_lem}
use Rattle.search.proofs.portions.finish_roomy.Goals as goal
use Rattle.search.proofs.portions.finish_roomy.Goals.{After-can_go_on}

-- The judgement is that over as many states as the transitions have.
judgement : (c : After-can_go_on) →
    intact (transitions_in c.args.table.now.ops.now c.args.table.now.plan).size (pause_in c.args.reach) c.args.first.now c.args.second.now ≡ c.can_go_on.result
judgement c =
    sym
    (subst (λ (n : ℕ). c.can_go_on.result ≡ intact n (pause_in c.args.reach) c.args.first.now c.args.second.now) c.requires.0
    c.can_go_on.ensures)

pub returns-then-not-can_go_on : goal.returns-then-not-can_go_on
returns-then-not-can_go_on c =
    finish-anew c.args.table.now.ops.now c.args.table.now.plan c.args.table.now.sound _ c.requires.0 _ c.requires.3 (pause_in c.args.reach) _ _ (judgement (goal.at.returns-then-not-can_go_on c).After-can_go_on ∙ c.if-not-can_go_on.true)
    c.search_roomy.ensures

pub go_on-all-requires : goal.go_on-all-requires
go_on-all-requires c =
    judged (transitions_in c.args.table.now.ops.now c.args.table.now.plan) (pause_in c.args.reach) _ _ (omega (arith, c.requires.0, c.requires.1)) (omega (arith, c.requires.0, c.requires.2))
    (judgement (goal.at.go_on-all-requires c).After-can_go_on ∙ c.if-not-can_go_on.false)

pub returns-then-not-can_close : goal.returns-then-not-can_close
returns-then-not-can_close c =
    finish_unclosed c.args.table.now.ops.now c.args.table.now.plan c.args.table.now.sound _ c.requires.0 _ c.requires.3 (pause_in c.args.reach) _ _ (judgement (goal.at.returns-then-not-can_close c).After-can_go_on ∙ c.if-not-can_go_on.false)
    (pause_in c.go_on-all.result) c.go_on-all.ensures (sym c.can_close.ensures ∙ c.if-not-can_close.true)
    c.search_roomy-then-not-can_close.ensures

pub conclude-requires : goal.conclude-requires
conclude-requires c = (
  c.requires.0,
  can_close_lem (transitions_in c.args.table.now.ops.now c.args.table.now.plan) c.go_on-all.result.found c.go_on-all.result.count _ _ c.go_on-all.ensures.kept.ready
      (sym c.can_close.ensures ∙ c.if-not-can_close.false),
  c.requires.3,
)

pub returns : goal.returns
returns c =
    finish-closed c.args.table.now.ops.now c.args.table.now.plan c.args.table.now.sound _ c.requires.0 _ c.requires.3 (pause_in c.args.reach) _ _ (judgement (goal.at.returns c).After-can_go_on ∙ c.if-not-can_go_on.false)
    (pause_in c.go_on-all.result) c.go_on-all.ensures (sym c.can_close.ensures ∙ c.if-not-can_close.false)
    c.conclude.ensures
