-- The invariant: the blanks from i on end where those from `at` on do.
use mathlib.Core.Path.{sym, ◌∙◌}
use Rattle.lexer.proofs.Runs.{blank-run, run_more, run-here, run_end}
use Rattle.lexer.proofs.pieces.skip_blanks.Goals as goal

pub loop-i-preserved : goal.loop-i-preserved
loop-i-preserved c = run_more blank-run _ _ c.loop-i-test.true (sym c.is_blank.ensures ∙ c.if-is_blank.true) ∙ c.loop-i.invariant

pub returns-else-is_blank : goal.returns-else-is_blank
returns-else-is_blank c = run-here blank-run _ _ c.loop-i-test.true (sym c.is_blank.ensures ∙ c.if-is_blank.false) ∙ c.loop-i.invariant

pub returns-after-loop-i : goal.returns-after-loop-i
returns-after-loop-i c = run_end blank-run _ _ c.loop-i-test.false ∙ c.loop-i.invariant
