-- The words have one length, and what is left of them decides.
use mathlib.Core.Path.{refl, sym}
use native.Mathlib.Omega.{arith}
use Rattle.lexer.proofs.Spelling.{lengths_differ, same-no, same_more, same_end}
use Rattle.lexer.proofs.words.same.Goals as goal

pub returns-then-word-other : goal.returns-then-word-other
returns-then-word-other c = lengths_differ _ _ c.if-word-other.true

pub loop-i-init : goal.loop-i-init
loop-i-init c = record { left = refl; right = sym c.if-word-other.false; within = omega arith; rest = refl }

pub returns-then-b-other : goal.returns-then-b-other
returns-then-b-other c = same-no c.loop-i.invariant c.loop-i-test.true c.if-b-other.true

pub loop-i-preserved : goal.loop-i-preserved
loop-i-preserved c = same_more c.loop-i.invariant c.loop-i-test.true c.if-b-other.false

pub returns : goal.returns
returns c = same_end c.loop-i.invariant c.loop-i-test.false
