-- `moved` meets its contract: the record is foreign, or goes where it is led.
use mathlib.Core.Path.{◌∙◌}
use native.Mathlib.Omega.{arith}
use Rattle.player.specs.working.Playing.{led_to}
use Rattle.player.proofs.MoveLaws.{foreign_beyond, foreign_elsewhere, leads_on}
use Rattle.player.proofs.moves.moved.Goals as goal
use Rattle.player.proofs.moves.moved.Goals.{then-last-place-via-then-last-place, then-last-place-via-else-last-place+then-ne}

pub returns-then-last-place : goal.returns-then-last-place
returns-then-last-place c =
    elim c.then-last-place.branch [
      | then-last-place-via-then-last-place w ↦
          let t = foreign_beyond _ _ _ c.in_ok-last.ensures.value _ _ (omega (arith, w.if-last-place.true)) in
          (t.0, t.1, c.in_ok-last.ensures.bytes)
      | then-last-place-via-else-last-place+then-ne w ↦
          let t = foreign_elsewhere _ _ _ c.in_ok-last.ensures.value _ _ (omega (arith, w.if-last-place.false)) _ w.record_at.ensures _ w.ne.ensures w.if-ne.true in
          (t.0, t.1, c.in_ok-last.ensures.bytes)
    ]

pub returns-in-Some : goal.returns-in-Some
unfolding led_to
returns-in-Some c =
    let t = leads_on _ _ _ c.in_ok-last.ensures.value _ _ (omega (arith, c.if-last-place.false)) _ c.record_at.ensures _ c.ne.ensures c.if-ne.false _ c.in-Some.ensures.value in
    (c.record_at-in-Some.ensures ∙ t.0, t.1, c.in_ok-last.ensures.bytes)

pub returns-in-None : goal.returns-in-None
unfolding led_to
returns-in-None c =
    let t = leads_on _ _ _ c.in_ok-last.ensures.value _ _ (omega (arith, c.if-last-place.false)) _ c.record_at.ensures _ c.ne.ensures c.if-ne.false _ c.in-None.ensures.value in
    (t.0, t.1, c.in_ok-last.ensures.bytes)
