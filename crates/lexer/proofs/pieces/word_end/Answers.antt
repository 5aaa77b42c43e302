-- The invariant: the run from i on ends where the run from `from` on does.
use mathlib.Core.Path.{sym, ◌∙◌}
use native.Mathlib.Omega.{arith}
use Rattle.lexer.proofs.Runs.{word-run, run_more, run-here, run_end}
use Rattle.lexer.proofs.pieces.word_end.Goals as goal

pub returns-then-not-is_word : goal.returns-then-not-is_word
returns-then-not-is_word c = (
  run-here word-run _ _ c.loop-i-test.true (sym c.is_word.ensures ∙ c.if-not-is_word.true) ∙ c.loop-i.invariant,
  omega arith,
)

pub loop-i-preserved : goal.loop-i-preserved
loop-i-preserved c = run_more word-run _ _ c.loop-i-test.true (sym c.is_word.ensures ∙ c.if-not-is_word.false) ∙ c.loop-i.invariant

pub returns : goal.returns
returns c =
    let n = run_end word-run _ _ c.loop-i-test.false ∙ c.loop-i.invariant in
    (omega arith, omega arith)
