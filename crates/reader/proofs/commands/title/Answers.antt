-- `title` meets its contract: the count of commands is tested, a name asked for, looked up and stored.
use mathlib.Core.Path.{refl}
use native.Mathlib.Omega.{arith}
use Rattle.lexer.specs.declared.pieces.Kind.TheVariants.{Name}
use Rattle.lexer.proofs.KindNumbers.{other_kind, same_kinds}
use Rattle.lexer.proofs.Lookup.{was_named, not_named}
use Rattle.reader.proofs.Titles.{title_bad, title_full, title_missing, title_twice, title-says}
use Rattle.statements.proofs.Moves.{Past, is-past}
use Rattle.reader.proofs.commands.title.Goals as goal
use Rattle.reader.proofs.commands.title.Goals.{After-pass}

-- The name is the piece behind `command`.
past : (c : After-pass) → Past c.args.text.now c.args.c.now c.args.c.now.items c.args.c.now.nodes 0 c.pass.new.self
past c = is-past c.pass.ensures

pub returns-then-k-ge-MAX_COMMANDS : goal.returns-then-k-ge-MAX_COMMANDS
returns-then-k-ge-MAX_COMMANDS c = title_bad _ _ _ _ _ _ c.at.ensures (title_full _ _ _ _ c.if-k-ge-MAX_COMMANDS.true)

pub returns-then-ne : goal.returns-then-ne
returns-then-ne c =
    title_bad _ _ _ _ _ _ c.misplaced.ensures (title_missing _ _ _ _ c.if-k-ge-MAX_COMMANDS.false _ (is-past c.pass.ensures) (other_kind c.pass.new.self.next.kind Name c.ne.ensures c.if-ne.true))

pub overflow_add-n : goal.overflow_add-n
overflow_add-n c =
    omega (arith, c.requires.0.ready.names, c.requires.0.ready.commands)

pub overflow_add-n-2 : goal.overflow_add-n-2
overflow_add-n-2 c =
    omega (arith, c.requires.0.ready.names, c.requires.0.ready.commands)

pub find_name-requires : goal.find_name-requires
find_name-requires c = (
  omega arith,
  (
    omega (arith, c.requires.0.ready.names, c.requires.0.ready.commands),
    ((past (goal.at.find_name-requires c).After-pass).next.fresh, same_kinds c.pass.new.self.next.kind Name c.ne.ensures c.if-ne.false),
  ),
)

pub returns-then-is_some : goal.returns-then-is_some
returns-then-is_some c =
    title_bad _ _ _ _ _ _ c.at-then-is_some.ensures
    (title_twice _ _ _ _ c.if-k-ge-MAX_COMMANDS.false _ (is-past c.pass.ensures) (same_kinds c.pass.new.self.next.kind Name c.ne.ensures c.if-ne.false) _ _ refl
    refl (was_named _ _ c.find_name.ensures c.is_some.ensures c.if-is_some.true))

pub declare-requires : goal.declare-requires
declare-requires c = (
  omega (arith, c.requires.0.ready.names, c.if-k-ge-MAX_COMMANDS.false),
  (
    (past (goal.at.declare-requires c).After-pass).next.fresh.ordered,
    omega
        (arith, (past (goal.at.declare-requires c).After-pass).next.fresh.inside, c.requires.0.ready.fits),
  ),
)

pub returns : goal.returns
returns c =
    title-says _ _ _ _ c.if-k-ge-MAX_COMMANDS.false _ (is-past c.pass.ensures) (same_kinds c.pass.new.self.next.kind Name c.ne.ensures c.if-ne.false) _ _ refl
    refl (not_named _ _ c.find_name.ensures c.is_some.ensures c.if-is_some.false) c.requires.0.long c.requires.0.ready.names _
    (is-past c.pass-2.ensures) _ c.declare.ensures
