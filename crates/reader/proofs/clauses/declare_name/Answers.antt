-- `declare_name` meets its contract: the look-up says whether the name is declared already, the counts whether it is one too many, and else it is stored as the next name.
use mathlib.Core.Path.{refl}
use Rattle.lexer.proofs.Lookup.{was_named, not_named}
use Rattle.reader.proofs.DeclaredNames.{name-again, name-many, row_full, shared_full, row-declared, shared-declared}
use Rattle.reader.proofs.clauses.declare_name.Goals as goal

pub returns-then-is_some : goal.returns-then-is_some
returns-then-is_some c =
    name-again _ _ _ _ _ c.requires.0 _ refl _ c.at.ensures (was_named _ _ c.find_name.ensures c.is_some.ensures c.if-is_some.true)

pub returns-then-n-ge-MAX_NAMES : goal.returns-then-n-ge-MAX_NAMES
returns-then-n-ge-MAX_NAMES c =
    name-many _ _ _ _ _ c.requires.0 _ refl (not_named _ _ c.find_name.ensures c.is_some.ensures c.if-is_some.false) _ c.at-then-n-ge-MAX_NAMES.ensures c.if-n-ge-MAX_NAMES.true

pub returns-then-l-ge-MAX_ROW : goal.returns-then-l-ge-MAX_ROW
returns-then-l-ge-MAX_ROW c =
    row_full _ _ _ _ _ c.requires.0 _ refl (not_named _ _ c.find_name.ensures c.is_some.ensures c.if-is_some.false)
    _ c.at-then-l-ge-MAX_ROW.ensures c.if-rows.true c.if-l-ge-MAX_ROW.true

pub returns-then-rows : goal.returns-then-rows
returns-then-rows c =
    row-declared _ _ _ _ _ c.requires.0 _ refl (not_named _ _ c.find_name.ensures c.is_some.ensures c.if-is_some.false) c.if-n-ge-MAX_NAMES.false
    _ c.pass.ensures _ c.declare.ensures c.if-rows.true c.if-l-ge-MAX_ROW.false

pub returns-then-l-ge-MAX_SHARED : goal.returns-then-l-ge-MAX_SHARED
returns-then-l-ge-MAX_SHARED c =
    shared_full _ _ _ _ _ c.requires.0 _ refl (not_named _ _ c.find_name.ensures c.is_some.ensures c.if-is_some.false)
    _ c.at-then-l-ge-MAX_SHARED.ensures c.if-rows.false c.if-l-ge-MAX_SHARED.true

pub returns : goal.returns
returns c =
    shared-declared _ _ _ _ _ c.requires.0 _ refl (not_named _ _ c.find_name.ensures c.is_some.ensures c.if-is_some.false)
    c.if-n-ge-MAX_NAMES.false _ c.pass-2.ensures _ c.declare-2.ensures c.if-rows.false c.if-l-ge-MAX_SHARED.false
