-- `met_bit` meets its contract: a state was met where its entry is not 0.
use mathlib.Core.Path.{◌≡◌, refl, sym, ◌∙◌}
use mathlib.Core.Bool.{Bool, true, false, cond}
use mir.Val.{bool_byte}
use borrow.Author.Tests.{le-ltb}
use Rattle.exploration.proofs.Map.{bit_within, bit_past}
use Rattle.writing.proofs.maps.met_bit.Goals as goal
use Rattle.writing.proofs.maps.met_bit.Goals.{then-s-states, else-s-states}

byte_of : (b : Bool) → bool_byte b ≡ cond b 1 0
byte_of true = refl
byte_of false = refl

pub returns-clause-value : goal.returns-clause-value
returns-clause-value c =
    c.from.ensures ∙ byte_of c.if-s-states.from ∙ elim c.if-s-states.branch [
      | then-s-states w ↦ rw w.from-is (sym (bit_within c.args.states c.args.parent.now c.args.s w.if-s-states.true))
      | else-s-states w ↦
          rw (w.from-is, le-ltb c.args.s c.args.states w.if-s-states.false) (sym (bit_past c.args.states c.args.parent.now c.args.s w.if-s-states.false))
    ]
