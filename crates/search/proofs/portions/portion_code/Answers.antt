-- `portion_code` meets its contract: the call is refused where a table has no room, and goes on from what is judged to be intact.
use mathlib.Core.Path.{◌≡◌, sym, ◌∙◌, subst}
use Prim.Native.Nat.{ℕ}
use native.Mathlib.Omega.{arith}
use Rattle.std.proofs.lemmas.Result.{err_from_is_err_and}
use Rattle.sheets.specs.working.FlatSystem.{system_in}
use Rattle.exploration.specs.working.CodeTransitions.{transitions_in}
use Rattle.exploration.specs.working.Pauses.{intact}
use Rattle.exploration.proofs.Portions.{judged}
use Rattle.pauses.specs.working.Pausing.{portion_in, portion_for}
use Rattle.search.specs.Answers.{wording_of}
use Rattle.search.specs.working.Pausing.{pause_in}
use Rattle.search.proofs.PausesHeld.{tables-fit, told-refused, told_due, portion_held, portion_lost}
use Rattle.search.proofs.portions.portion_code.Goals as goal
use Rattle.search.proofs.portions.portion_code.Goals.{After-can_go_on}

-- The judgement is that over as many states as the transitions have.
judgement : (c : After-can_go_on) →
    intact (transitions_in c.args.table.now.ops.now c.args.table.now.plan).size (pause_in c.args.reach) c.args.first.now c.args.second.now ≡ c.can_go_on.result
judgement c =
    sym
    (subst (λ (n : ℕ). c.can_go_on.result ≡ intact n (pause_in c.args.reach) c.args.first.now c.args.second.now) c.power-states.ensures
    c.can_go_on.ensures)

pub returns-in_err-table_room : goal.returns-in_err-table_room
unfolding portion_for wording_of
returns-in_err-table_room c =
    let M = system_in c.args.table.now.ops.now c.args.table.now.plan in
    let p = err_from_is_err_and c.from_residual.result c.from_residual.ensures.1 in
    rw (p.1, p.2) (told-refused M _ c.power-states.ensures _ _ (portion_in M (pause_in c.args.reach) c.args.most _ _) c.in_err-table_room.ensures)

pub returns-then-not-can_go_on : goal.returns-then-not-can_go_on
unfolding portion_for wording_of
returns-then-not-can_go_on c =
    let M = system_in c.args.table.now.ops.now c.args.table.now.plan in
    let zero = c.default.ensures in
    rw (zero.0, zero.1.0, zero.1.1.0, zero.1.1.1)
    (told_due M _ c.power-states.ensures _ _ (portion_in M (pause_in c.args.reach) c.args.most _ _) c.in_ok-table_room.ensures
    (portion_lost c.args.table.now.ops.now c.args.table.now.plan _ _ _ _ (judgement (goal.at.returns-then-not-can_go_on c).After-can_go_on ∙ c.if-not-can_go_on.true)))

pub go_on-next-requires : goal.go_on-next-requires
go_on-next-requires c =
    let fit = tables-fit (system_in c.args.table.now.ops.now c.args.table.now.plan) _ c.power-states.ensures c.args.first.now c.args.second.now c.in_ok-table_room.ensures in
    judged (transitions_in c.args.table.now.ops.now c.args.table.now.plan) (pause_in c.args.reach) _ _ (omega (arith, c.power-states.ensures, fit.0)) (omega (arith, c.power-states.ensures, fit.1))
    (judgement (goal.at.go_on-next-requires c).After-can_go_on ∙ c.if-not-can_go_on.false)

pub returns : goal.returns
unfolding portion_for wording_of
returns c =
    let M = system_in c.args.table.now.ops.now c.args.table.now.plan in
    rw (c.from.ensures)
    (told_due M _ c.power-states.ensures _ _ (portion_in M (pause_in c.args.reach) c.args.most _ _) c.in_ok-table_room.ensures
    (portion_held c.args.table.now.ops.now c.args.table.now.plan _ _ _ _ (judgement (goal.at.returns c).After-can_go_on ∙ c.if-not-can_go_on.false) _ c.go_on-next.ensures))
