-- `row_item` meets its contract, by the kind of its first token.
use mathlib.Core.Bool.{true}
use mathlib.Core.Path.{refl, ap}
use Rattle.lexer.specs.declared.pieces.Kind.TheVariants.{Skip, Name}
use Rattle.lexer.specs.working.Kinds.{kind_number}
use Rattle.lexer.proofs.KindNumbers.{same_kind}
use Rattle.statements.proofs.StoredCode.{wrote_none, was_stopped}
use Rattle.statements.proofs.ItemForms.{item-skip, item-assign, item_missing}
use Rattle.statements.proofs.items.row_item.Goals as goal

pub returns-in-Skip : goal.returns-in-Skip
returns-in-Skip c =
    item-skip _ c.args.names.now _ _ c.requires true (ap kind_number c.in-Skip.is) _ _ _ c.skip_item.ensures

pub returns-in-Name : goal.returns-in-Name
returns-in-Name c =
    item-assign _ _ _ _ c.requires true (ap kind_number c.in-Name.is) _ _ _ c.assignment.ensures

pub returns-in_default : goal.returns-in_default
returns-in_default c =
    was_stopped c.misplaced.ensures
    (item_missing _ c.args.names.now _ _ c.requires true (λ z. c.in_default.not-Skip (same_kind _ Skip z)) (λ z. c.in_default.not-Name (same_kind _ Name z)) (λ z. refl))
    wrote_none
