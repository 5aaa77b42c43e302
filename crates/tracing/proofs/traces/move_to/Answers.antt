-- `move_to` meets its contract: the first of the moves left is the first of all.
use mathlib.Core.Path.{◌≡◌, sym, ◌∙◌}
use native.Mathlib.Omega.{arith}
use Rattle.evaluation.specs.working.CodeSystem.{next_in}
use Rattle.evaluation.proofs.Batches as B
use Rattle.exploration.specs.working.CodeTransitions.{transitions_in}
use Rattle.exploration.proofs.CodeSteps.{step_picked}
use Rattle.exploration.proofs.Laws.{look_start, look_next, look_found, look_end, look_last}
use Rattle.tracing.proofs.traces.move_to.Goals as goal
use Rattle.tracing.proofs.traces.move_to.Goals.{After-pick}

-- What is picked is the step under the word at hand.
reached : (c : After-pick) →
    c.pick.result ≡ next_in c.args.table.now.ops.now c.args.table.now.plan.ends c.args.table.now.plan.bits c.args.s
    c.commands.k c.words.w
reached c =
    step_picked _ c.args.table.now.plan.bits _ _ _ c.segment-code.ensures
    (c.pick.ensures ∙ B.picked _ _ c.args.table.now.plan.bits _ _ _ (omega (arith, c.args.table.now.sound.few_bits)) c.requires
    c.fill.ensures c.words.invariant.1)

pub words-init : goal.words-init
words-init c = (
  look_start (transitions_in _ c.args.table.now.plan) _ _
      _ _ _ c.word_count-words.ensures.0 c.commands-test.true
      c.commands.invariant,
  B.ready-first _ _ _ _ c.first_rows-rows.ensures,
)

pub words-preserved : goal.words-preserved
words-preserved c = (
  look_next (transitions_in _ c.args.table.now.plan) _ _ _ _ _ _
      c.words-test.true (λ e. c.if-pick-sought.false (reached (goal.at.words-preserved c).After-pick ∙ e)) c.words.invariant.0,
  B.ready-next
      _ _ _ _ _ _ c.fill.ensures c.words.invariant.1,
)

pub commands-preserved : goal.commands-preserved
commands-preserved c =
    look_end (transitions_in _ c.args.table.now.plan) _ _ _ _ _ _
    c.words.auto.w-end c.words-test.false c.words.invariant.0

pub returns : goal.returns
returns c = look_last (transitions_in _ c.args.table.now.plan) _ _ _ _ c.commands.auto.k-end c.commands-test.false c.commands.invariant

pub returns-then-pick-sought : goal.returns-then-pick-sought
returns-then-pick-sought c =
    look_found (transitions_in _ c.args.table.now.plan) _ _ _ _ _ _ c.words-test.true
    (sym (reached (goal.at.returns-then-pick-sought c).After-pick) ∙ c.if-pick-sought.true) c.words.invariant.0
