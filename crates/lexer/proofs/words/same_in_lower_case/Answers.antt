-- The words have one length, and what is left of them decides.
use mathlib.Core.Path.{refl, sym, ◌∙◌}
use native.Mathlib.Omega.{arith}
use Rattle.notation.proofs.Case.{lower-length}
use Rattle.lexer.proofs.Spelling.{lower_at, lengths_differ, same-no, same_more, same_end}
use Rattle.lexer.proofs.words.same_in_lower_case.Goals as goal

pub returns-then-word-other : goal.returns-then-word-other
returns-then-word-other c = lengths_differ _ _ (λ z. c.if-word-other.true (sym (lower-length c.args.word.now) ∙ z))

pub loop-i-init : goal.loop-i-init
loop-i-init c = record { left = lower-length c.args.word.now; right = sym c.if-word-other.false; within = omega arith; rest = refl }

pub returns-then-to_ascii_lowercase-other : goal.returns-then-to_ascii_lowercase-other
returns-then-to_ascii_lowercase-other c =
    same-no c.loop-i.invariant c.loop-i-test.true (λ z. c.if-to_ascii_lowercase-other.true (c.to_ascii_lowercase.ensures.value ∙ lower_at c.args.word.now c.loop-i.i ∙ z))

pub loop-i-preserved : goal.loop-i-preserved
loop-i-preserved c =
    same_more c.loop-i.invariant c.loop-i-test.true (sym (c.to_ascii_lowercase.ensures.value ∙ lower_at c.args.word.now c.loop-i.i) ∙ c.if-to_ascii_lowercase-other.false)

pub returns : goal.returns
returns c = same_end c.loop-i.invariant c.loop-i-test.false
