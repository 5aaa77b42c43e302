-- The last eight bytes are the same exactly if they are as written.
use mathlib.Core.Path.{sym, ◌∙◌}
use native.Mathlib.Omega.{arith}
use borrow.Author.Tests.{lt-ltb, le-ltb, eq-eqb, ne_eqb}
use Rattle.lexer.specs.working.Names.{left_to_compare}
use Rattle.lexer.proofs.Lookup.{eight_same}
use Rattle.lexer.proofs.names.left_to_compare.Goals as goal

pub returns-then-k-lt8 : goal.returns-then-k-lt8
unfolding left_to_compare
returns-then-k-lt8 c = rw (lt-ltb _ _ c.if-k-lt8.true)

pub returns-then-eight : goal.returns-then-eight
unfolding left_to_compare
returns-then-eight c =
    let same = sym (eight_same c.args.text.now (λ j. (c.type_inv.text j).fits) _ _ _ _ (omega arith) (omega arith) c.eight.ensures c.eight-2.ensures) ∙ eq-eqb _ _ c.if-eight.true in
    rw (le-ltb _ _ c.if-k-lt8.false, same)

pub returns : goal.returns
unfolding left_to_compare
returns c =
    let same = sym (eight_same c.args.text.now (λ j. (c.type_inv.text j).fits) _ _ _ _ (omega arith) (omega arith) c.eight.ensures c.eight-2.ensures) ∙ ne_eqb _ _ c.if-eight.false in
    rw (le-ltb _ _ c.if-k-lt8.false, same)
