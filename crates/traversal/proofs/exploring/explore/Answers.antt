-- `explore` meets its contract: what is left to try, from what the tables hold, goes as all of it went from where each loop began.
use Prim.Native.Nat.{◌+◌, ◌-◌, ◌^◌, ◌<◌}
use mathlib.Core.Path.{◌≡◌, refl, sym, ◌∙◌}
use native.Mathlib.Omega.{arith}
use lib.ListN.{get_or, set}
use Rattle.evaluation.specs.working.CodeSystem.{next_in}
use Rattle.evaluation.proofs.Batches as B
use Rattle.evaluation.proofs.Powers.{pow_small}
use Rattle.exploration.specs.working.CodeTransitions.{transitions_in}
use Rattle.exploration.specs.working.Transitions.{moves}
use Rattle.exploration.proofs.CodeSteps.{step_picked, step-below}
use Rattle.exploration.proofs.Laws.{Broke, gone_refl, gone_next, gone_broke, gone_end, gone_enough, tried-old}
use Rattle.exploration.proofs.Laws.{tried_new, tried-broke, words-start, command-done, command-broke, commands-done}
use Rattle.exploration.proofs.Laws.{room}
use Rattle.traversal.proofs.exploring.explore.Goals as goal
use Rattle.traversal.proofs.exploring.explore.Goals.{then-parent-at-eq0+else-breaks, else-parent-at-eq0}
use Rattle.traversal.proofs.exploring.explore.Goals.{After-pick-t, In-commands, Then-breaks}

-- The state at hand is a state; what is picked is its step under the word at hand, and a state again.
reached : (c : After-pick-t) →
    c.pick-t.result ≡ next_in c.args.table.now.ops.now c.args.table.now.plan.ends c.args.table.now.plan.bits
    (get_or c.search.queue c.search.head 0) c.commands.k c.words.w
reached c =
    step_picked _ c.args.table.now.plan.bits _ _ _ c.segment-code.ensures
    (c.pick-t.ensures ∙ B.picked _ _ c.args.table.now.plan.bits _ _ _ (omega (arith, c.args.table.now.sound.few_bits))
    (c.search.invariant.1.kept.ready.below c.search.head c.if-count-head.false) c.fill.ensures c.words.invariant.2)

t-below : (c : After-pick-t) →
    c.pick-t.result < 2 ^ c.args.table.now.plan.bits
t-below c = step-below _ _ _ _ _ _ _ (reached c)

-- Where the search breaks off, three loops deep.
broken : (c : Then-breaks) →
    let M = transitions_in c.args.table.now.ops.now c.args.table.now.plan in
    let old = c.search in
    let s = get_or old.queue old.head 0 in
    let new = c.words in
    let t = c.pick-t.result in
    Broke M s (moves M) old.queue old.count old.parent old.trials (set new.queue new.count t) (new.count + 1)
    (set new.parent t (s + 1)) (new.trials + (new.w + 1))
broken c =
    let after-pick : After-pick-t = search in
    rw c.words.invariant.3
    (command-broke _ _ _ c.word_count-words.ensures.0
    c.commands-test.true c.commands.invariant.1
    (tried-broke _ _ _ c.words.invariant.1 c.words-test.true _ (reached after-pick)
    (t-below after-pick) c.if-parent-at-eq0.true (sym c.breaks.ensures ∙ c.if-breaks.true)))

pub search-init : goal.search-init
search-init c =
    let e : c.args.most - 0 ≡ c.args.most = omega arith in
    (refl, rw e (gone_refl _ _ _ _ _ _ c.requires), omega arith)

pub words-init : goal.words-init
words-init c =
    (refl, words-start _ _ c.commands.invariant.1.kept.ready, B.ready-first _ _ _ _ c.first_rows-rows.ensures, refl)

pub bounds-parent-at : goal.bounds-parent-at
bounds-parent-at c =
    omega (arith, t-below (goal.at.bounds-parent-at c).After-pick-t, c.words.invariant.1.kept.ready.parent-room)

pub bounds-parent-at-then-parent-at-eq0 : goal.bounds-parent-at-then-parent-at-eq0
bounds-parent-at-then-parent-at-eq0 c =
    omega (arith, t-below (goal.at.bounds-parent-at-then-parent-at-eq0 c).After-pick-t, c.words.invariant.1.kept.ready.parent-room)

pub bounds-queue-count : goal.bounds-queue-count
bounds-queue-count c =
    let K = c.words.invariant.1.kept in
    omega (arith, room _ _ _ _ K.ready 0 _ (t-below (goal.at.bounds-queue-count c).After-pick-t) c.if-parent-at-eq0.true, K.ready.queue-room)

pub breaks-requires : goal.breaks-requires
breaks-requires c =
    let bits = c.args.table.now.plan.bits in
    omega (arith, t-below (goal.at.breaks-requires c).After-pick-t, pow_small bits (2 ^ bits) c.args.table.now.sound.few_bits refl)

pub words-preserved : goal.words-preserved
words-preserved c =
    let p = (goal.at.words-preserved c).After-pick-t in
    elim c.if-parent-at-eq0.branch [
      | then-parent-at-eq0+else-breaks w ↦ (
        c.words.invariant.0,
        rw (w.queue-is, w.count-is, w.parent-is)
            (tried_new _ _ _ c.words.invariant.1 c.words-test.true _ (reached p) (t-below p) w.if-parent-at-eq0.true (sym w.breaks.ensures ∙ w.if-breaks.false)),
        B.ready-next _ _ _ _ _ _ c.fill.ensures c.words.invariant.2,
        c.words.invariant.3,
      )
      | else-parent-at-eq0 w ↦ (
        c.words.invariant.0,
        rw (w.queue-is, w.count-is, w.parent-is) (tried-old _ _ _ c.words.invariant.1 c.words-test.true _ (reached p) (t-below p) w.if-parent-at-eq0.false),
        B.ready-next _ _ _ _ _ _ c.fill.ensures c.words.invariant.2,
        c.words.invariant.3,
      )
    ]

pub commands-preserved : goal.commands-preserved
commands-preserved c = (
  c.words.invariant.0 ∙ c.commands.invariant.0,
  rw c.words.invariant.3
      (command-done _ _ _ _
      c.word_count-words.ensures.0
      c.commands-test.true c.words.auto.w-end c.words-test.false
      c.commands.invariant.1 c.words.invariant.1),
  omega (arith, c.words.invariant.3, c.commands.invariant.2, c.word_count-words.ensures.1),
)

pub search-preserved : goal.search-preserved
search-preserved c = (
  c.commands.invariant.0 ∙ c.search.invariant.0,
  (let e : c.args.most - (c.search.counter + 1) ≡ c.args.most - c.search.counter - 1 = omega arith in
      rw e
      (gone_next c.search.invariant.1 (omega (arith, c.search-test.true)) c.if-count-head.false
      (commands-done _ _ c.commands.auto.k-end c.commands-test.false c.commands.invariant.1))),
  omega (arith, c.commands.auto.k-end, c.commands.invariant.2, c.search.invariant.2, c.args.table.now.sound.few_commands),
)

pub returns-after-search : goal.returns-after-search
returns-after-search c = rw c.search.invariant.0 (gone_enough c.search.invariant.1 (omega (arith, c.search-test.false)))

pub returns-then-count-head : goal.returns-then-count-head
returns-then-count-head c =
    rw c.search.invariant.0 (gone_end c.search.invariant.1 c.if-count-head.true)

pub returns-then-breaks : goal.returns-then-breaks
returns-then-breaks c =
    gone_broke c.search.invariant.1 (omega (arith, c.search-test.true)) c.if-count-head.false (broken (goal.at.returns-then-breaks c).Then-breaks)
