-- `operand` meets its contract, by the kind of its token.
use mathlib.Core.Path.{refl, sym, ap, ◌∙◌}
use Prim.Native.Nat.{◌<◌}
use native.Mathlib.Omega.{arith}
use borrow.Author.Tests.{not-true, not-false}
use Rattle.lexer.specs.declared.pieces.Kind.TheVariants.{Zero, One, Star, Name}
use Rattle.lexer.specs.working.Kinds.{kind_number}
use Rattle.lexer.proofs.KindNumbers.{same_kind}
use Rattle.lexer.proofs.Lookup.{some_name, no_name}
use Rattle.statements.proofs.Symbols.{factor_missing}
use Rattle.statements.proofs.Operands.{operand_bad, from_first, visible-few, few-found, zero_says, one-says, star-says}
use Rattle.statements.proofs.Operands.{star-barred, star-many, name-unknown, name-says}
use Rattle.statements.proofs.expressions.operand.Goals as goal
use Rattle.statements.proofs.expressions.operand.Goals.{In-Some}

-- The name's number is small.
few : (c : In-Some) → c.in-Some.i < 12
few c =
    let l = c.args.l in
    let s = some_name (sym c.find_name.ensures ∙ c.in-Some.is) in
    few-found c.args.text.now c.args.names.now c.args.sc.rows l.shared l.row _ _ _ c.visible-limit.ensures c.requires.0.names s.0 s.1

pub returns-in-Zero : goal.returns-in-Zero
returns-in-Zero c =
    zero_says _ _ _ _ _ _ c.requires.0 _ _ _ (ap kind_number c.in-Zero.is) c.leaf.ensures

pub returns-in-One : goal.returns-in-One
returns-in-One c =
    one-says _ _ _ _ _ _ c.requires.0 _ _ _ (ap kind_number c.in-One.is) c.leaf-in-One.ensures

pub returns-then-not-sc : goal.returns-then-not-sc
returns-then-not-sc c =
    operand_bad _ _ _ _ _ _ c.requires.0 c.at.ensures
    (star-barred _ _ _ _ _ _ c.requires.0 (ap kind_number c.in-Star.is) (not-true _ c.if-not-sc.true))

pub returns-then-s-ge-MAX_STARS : goal.returns-then-s-ge-MAX_STARS
returns-then-s-ge-MAX_STARS c =
    operand_bad _ _ _ _ _ _ c.requires.0 c.at-then-s-ge-MAX_STARS.ensures
    (star-many _ _ _ _ _ _ c.requires.0 (ap kind_number c.in-Star.is) (not-false _ c.if-not-sc.false) c.if-s-ge-MAX_STARS.true)

pub returns-else-s-ge-MAX_STARS : goal.returns-else-s-ge-MAX_STARS
returns-else-s-ge-MAX_STARS c =
    star-says _ _ _ _ _ _ c.requires.0 _ _ _ (ap kind_number c.in-Star.is) (not-false _ c.if-not-sc.false) c.if-s-ge-MAX_STARS.false
    c.leaf-in-Star.ensures

pub find_name-requires : goal.find_name-requires
find_name-requires c =
    let l = c.args.l in (
      omega arith,
      (
        omega
            (arith, visible-few c.args.sc.rows l.shared l.row _ c.visible-limit.ensures c.requires.0.names),
        (c.requires.0.fresh, ap kind_number c.in-Name.is),
      ),
    )

pub returns-in_default-find_name : goal.returns-in_default-find_name
returns-in_default-find_name c =
    operand_bad _ _ _ _ _ _ c.requires.0 c.at-in_default-find_name.ensures
    (name-unknown _ _ _ _ _ _ c.requires.0 (ap kind_number c.in-Name.is) _ _ c.visible-limit.ensures
    (from_first _ _ _ _ _ refl) (no_name _ _ _ _ _ (omega arith) (sym c.find_name.ensures ∙ c.in_default-find_name.is)))

pub overflow_cast-i : goal.overflow_cast-i
overflow_cast-i c = let f = few (goal.at.overflow_cast-i c).In-Some in omega arith

pub overflow_add-i : goal.overflow_add-i
overflow_add-i c = let f = few (goal.at.overflow_add-i c).In-Some in omega arith

pub returns-in-Some : goal.returns-in-Some
returns-in-Some c =
    let s = some_name (sym c.find_name.ensures ∙ c.in-Some.is) in
    name-says _ _ _ _ _ _ c.requires.0 (ap kind_number c.in-Name.is) _ _ c.visible-limit.ensures
    (from_first _ _ _ _ _ s.0) _ _ _ s.1 c.leaf-in-Name.ensures

pub returns-in_default : goal.returns-in_default
returns-in_default c =
    operand_bad _ _ _ _ _ _ c.requires.0 c.misplaced.ensures
    (factor_missing _ _ _ _ _ c.requires.0.fresh (λ z. c.in_default.not-Zero (same_kind _ Zero z)) (λ z. c.in_default.not-One (same_kind _ One z)) (λ z. c.in_default.not-Star (same_kind _ Star z))
    (λ z. c.in_default.not-Name (same_kind _ Name z)) c.requires.1.0 c.requires.1.1)
