-- `words_stay` meets its contract: the words before w lead to members, and the rows are ready for w.
use mathlib.Core.Path.{◌≡◌, sym, ◌∙◌, ap}
use native.Mathlib.Omega.{arith}
use Rattle.meaning.specs.Evidence.{in_map}
use Rattle.meaning.specs.working.Conditions.{words_stay}
use Rattle.evaluation.specs.working.CodeSystem.{next_in}
use Rattle.evaluation.proofs.Batches.{ready-first, ready-next, picked}
use Rattle.conditions.proofs.Loops.{next-told, member-room, every_none, every-next, every_fail}
use Rattle.conditions.proofs.maps.words_stay.Goals as goal
use Rattle.conditions.proofs.maps.words_stay.Goals.{After-pick-after}

-- What is picked is the state after the word at hand.
reached : (c : After-pick-after) → c.pick-after.result ≡ next_in c.args.table.now.ops.now c.args.table.now.plan.ends c.args.table.now.plan.bits c.args.s c.args.k c.words.word
reached c =
    c.pick-after.ensures ∙ picked _ _ c.args.table.now.plan.bits _ _ _ (omega arith) c.requires.1 c.fill.ensures c.words.invariant.1
    ∙ next-told _ _ _ _ _ c.segment-code.ensures

pub words-init : goal.words-init
unfolding words_stay
words-init c = (every_none _, ready-first _ _ _ _ c.first_rows-rows.ensures)

pub in_map-requires : goal.in_map-requires
in_map-requires c =
    member-room _ _ _ _ _ _ _ _ (reached (goal.at.in_map-requires c).After-pick-after) c.requires.0

pub returns-then-not-in_map : goal.returns-then-not-in_map
unfolding words_stay
returns-then-not-in_map c =
    every_fail _ _ _ (omega (arith, c.word_count-word-end.ensures.0))
    (ap (in_map _) (sym (reached (goal.at.returns-then-not-in_map c).After-pick-after)) ∙ sym c.in_map.ensures ∙ c.if-not-in_map.true)

pub words-preserved : goal.words-preserved
unfolding words_stay
words-preserved c = (
  every-next _ _ c.words.invariant.0
      (ap (in_map _) (sym (reached (goal.at.words-preserved c).After-pick-after)) ∙ sym c.in_map.ensures ∙ c.if-not-in_map.false),
  ready-next _ _ _ _ _ _ c.fill.ensures c.words.invariant.1,
)
