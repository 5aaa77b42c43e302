-- The first k bytes are the same but for case exactly if all are, since those behind them are.
use mathlib.Core.Path.{refl, sym, ap, ◌∙◌}
use Prim.Native.Nat.{◌≤◌, ◌+◌, ◌-◌}
use lib.ListN.{get_or}
use native.Mathlib.Omega.{arith}
use Rattle.lexer.specs.working.Names.{same_first}
use Rattle.lexer.proofs.Spelling.{same_is}
use Rattle.lexer.proofs.Lookup.{last-no, last_more, none_left, left_le, left_same}
use Rattle.lexer.proofs.names.same_bytes.Goals as goal
use Rattle.lexer.proofs.names.same_bytes.Goals.{After-left_to_compare-m}

-- No more are left than there were.
fewer : (c : After-left_to_compare-m) →
    c.left_to_compare-m.result ≤ c.loop-k.k
fewer c =
    let a = c.args in
    rw c.left_to_compare-m.ensures (left_le a.text.now a.a a.b c.loop-k.k)

pub loop-k-init : goal.loop-k-init
loop-k-init c = (omega arith, refl)

pub returns-then-not-eq_ignore_ascii_case : goal.returns-then-not-eq_ignore_ascii_case
returns-then-not-eq_ignore_ascii_case c =
    let a = c.args in
    let q = same_is (get_or a.text.now (a.b + (c.loop-k.k - 1)) 0) (get_or a.text.now (a.a + (c.loop-k.k - 1)) 0) in
    last-no _ _ _ _ (c.loop-k.k - 1) (omega arith) (sym q ∙ sym c.eq_ignore_ascii_case.ensures ∙ c.if-not-eq_ignore_ascii_case.true) ∙ c.loop-k.invariant.1

pub loop-k-preserved-else-not-eq_ignore_ascii_case : goal.loop-k-preserved-else-not-eq_ignore_ascii_case
loop-k-preserved-else-not-eq_ignore_ascii_case c =
    let a = c.args in
    let q = same_is (get_or a.text.now (a.b + (c.loop-k.k - 1)) 0) (get_or a.text.now (a.a + (c.loop-k.k - 1)) 0) in
    (omega arith, last_more _ _ _ _ (c.loop-k.k - 1) (omega arith) (sym q ∙ sym c.eq_ignore_ascii_case.ensures ∙ c.if-not-eq_ignore_ascii_case.false) ∙ c.loop-k.invariant.1)

pub loop-k-smaller : goal.loop-k-smaller
loop-k-smaller c = let l = fewer (goal.at.loop-k-smaller c).After-left_to_compare-m in omega (arith, l)

pub loop-k-preserved : goal.loop-k-preserved
loop-k-preserved c =
    let a = c.args in
    let l = fewer (goal.at.loop-k-preserved c).After-left_to_compare-m in (
      omega (arith, l),
      ap (same_first a.text.now a.a a.b) c.left_to_compare-m.ensures ∙ left_same a.text.now a.a a.b c.loop-k.k ∙ c.loop-k.invariant.1,
    )

pub returns : goal.returns
returns c = none_left _ _ _ _ (omega arith) ∙ c.loop-k.invariant.1
