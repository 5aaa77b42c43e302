-- The first name from i on is the first of all, since the piece is none of those before i.
use mathlib.Core.Path.{refl, sym, ◌∙◌}
use Prim.Native.Nat.{◌-◌}
use native.Mathlib.Omega.{arith}
use lib.ListN.{get_or}
use borrow.Author.Tests.{lt-ltb, le-ltb}
use Rattle.lexer.proofs.Spelling.{lower_is, upper_is}
use Rattle.lexer.proofs.Lookup.{found_here, found_later, found_none}
use Rattle.lexer.proofs.names.find_name.Goals as goal

pub overflow_sub-last : goal.overflow_sub-last
overflow_sub-last c =
    let h = (c.requires.1.1.0.named c.requires.1.1.1).0 in
    omega (arith, h)

pub bounds-text-e : goal.bounds-text-e
bounds-text-e c =
    let h = (c.requires.1.1.0.named c.requires.1.1.1).0 in
    let k = c.requires.1.1.0.inside in
    omega (arith, h, k)

pub loop-i-init : goal.loop-i-init
loop-i-init c = refl

pub is_name-requires : goal.is_name-requires
is_name-requires c =
    let fresh = c.requires.1.1.0 in
    let named = fresh.named c.requires.1.1.1 in (
      omega arith,
      record {
        filled = named.0;
        inside = fresh.inside;
        some = named.1;
        in_lower = c.to_ascii_lowercase-lower.ensures.value ∙ lower_is (get_or c.args.text.now (c.args.t.end - 1) 0);
        in_upper = c.to_ascii_uppercase-upper.ensures.value ∙ upper_is (get_or c.args.text.now (c.args.t.end - 1) 0);
      },
    )

pub returns-then-is_name : goal.returns-then-is_name
returns-then-is_name c =
    let e = found_here _ _ _ _ _ (omega arith) (sym c.is_name.ensures ∙ c.if-is_name.true) ∙ c.loop-i.invariant in
    rw (← e) (rw (lt-ltb _ _ c.loop-i-test.true))

pub loop-i-preserved : goal.loop-i-preserved
loop-i-preserved c =
    found_later _ _ _ _ _ (omega arith) (sym c.is_name.ensures ∙ c.if-is_name.false) ∙ c.loop-i.invariant

pub returns : goal.returns
returns c =
    let e = found_none _ _ _ _ _ c.loop-i-test.false ∙ c.loop-i.invariant in
    rw (← e) (rw (le-ltb _ _ c.loop-i-test.false))
