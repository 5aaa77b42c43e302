-- The readers of an expression's three levels meet their contracts: each answers what the descent answers at its level.
use mathlib.Core.Path.{◌≡◌, ap}
use Rattle.lexer.specs.declared.pieces.Kind.TheVariants.{And, Or, Open, Not}
use Rattle.lexer.specs.working.Kinds.{kind_number}
use Rattle.lexer.proofs.KindNumbers.{same_kind, is_kind, no_kind}
use native.Mathlib.Omega.{arith}
use Rattle.statements.proofs.Moves.{is-past, ready-less, past_same, past-node}
use Rattle.notation.proofs.Readers.{and-level-is, or-level-is}
use Rattle.statements.specs.declared.cursor.Cursor.{Cursor}
use Rattle.statements.specs.working.Cursors.{was_read}
use Rattle.statements.proofs.StoredCode.{wrote_none, passed, said_ok, was_stopped, says-alike, then_bad}
use Rattle.statements.proofs.OperatorLoops.{rest-first, rest-stop, rest_full, rest_bad, turn_none}
use Rattle.statements.proofs.OperatorLoops.{turn_ready, turn_room, turn_more}
use Rattle.statements.proofs.Factors.{open_deep, open_bad, open_closes, not_deep, not_full, not_bad, not_closes}
use Rattle.statements.proofs.Sequences.{done_room}
use Rattle.statements.proofs.expressions.+and_level_factor_or_level.Goals as goal

pub and_level-returns-in_err-factor : goal.and_level-returns-in_err-factor
and_level-returns-in_err-factor t c =
    rw (passed c.from_residual.result c.from_residual.ensures.1)
    (says-alike c.in_err-factor.ensures
    (then_bad _ _ (and-level-is _ _ _ _ _)))

pub and_level-ands-init : goal.and_level-ands-init
and_level-ands-init t c =
    turn_none c.requires.1 (said_ok c.in_ok-factor.ensures)

pub and_level-returns-then-c-ge-MAX_NODES : goal.and_level-returns-then-c-ge-MAX_NODES
and_level-returns-then-c-ge-MAX_NODES t c =
    rest_full
    (c.ands.invariant.back _ _ _
    (rest-first (and-level-is _ _ _ _ _)
    (said_ok c.in_ok-factor.ensures)))
    (is_kind c.ands.c.next.kind And c.eq.ensures c.ands-test.true) c.if-c-ge-MAX_NODES.true c.at.ensures

pub and_level-factor-requires-in-ands : goal.and_level-factor-requires-in-ands
and_level-factor-requires-in-ands t c = (
  omega (arith, c.decreases),
  (
    c.requires.0,
    ready-less (turn_ready c.ands.invariant c.if-c-ge-MAX_NODES.false (is-past c.pass.ensures)) (omega arith),
  ),
)

pub and_level-returns-in_err-factor-2 : goal.and_level-returns-in_err-factor-2
and_level-returns-in_err-factor-2 t c =
    rw (passed c.from_residual-in_err-factor-2.result c.from_residual-in_err-factor-2.ensures.1)
    (rest_bad
    (c.ands.invariant.back _ _ _
    (rest-first (and-level-is _ _ _ _ _)
    (said_ok c.in_ok-factor.ensures)))
    (is_kind c.ands.c.next.kind And c.eq.ensures c.ands-test.true) c.if-c-ge-MAX_NODES.false (is-past c.pass.ensures)
    c.in_err-factor-2.ensures)

pub and_level-emit-requires : goal.and_level-emit-requires
and_level-emit-requires t c =
    (turn_room c.ands.invariant c.if-c-ge-MAX_NODES.false (is-past c.pass.ensures)
    (said_ok c.in_ok-factor-2.ensures)).0

pub and_level-ands-smaller : goal.and_level-ands-smaller
and_level-ands-smaller t c =
    let k = turn_room c.ands.invariant c.if-c-ge-MAX_NODES.false (is-past c.pass.ensures)
    (said_ok c.in_ok-factor-2.ensures) in
    let e : c.emit.new.self.nodes ≡ _ = ap (λ (x : Cursor). x.nodes) c.emit.ensures.0 in
    omega (arith, k.1, k.2)

pub and_level-ands-preserved : goal.and_level-ands-preserved
and_level-ands-preserved t c =
    turn_more c.ands.invariant c.if-c-ge-MAX_NODES.false (is-past c.pass.ensures)
    (is_kind c.ands.c.next.kind And c.eq.ensures c.ands-test.true)
    (said_ok c.in_ok-factor-2.ensures) c.emit.ensures

pub and_level-returns : goal.and_level-returns
and_level-returns t c =
    was_read
    (rest-stop
    (c.ands.invariant.back _ _ _
    (rest-first (and-level-is _ _ _ _ _)
    (said_ok c.in_ok-factor.ensures)))
    (no_kind c.ands.c.next.kind And c.eq.ensures c.ands-test.false))

pub factor-returns-then-depth-eq0 : goal.factor-returns-then-depth-eq0
factor-returns-then-depth-eq0 t c =
    was_stopped c.at.ensures (open_deep _ _ _ _ _ _ c.requires.1 (ap kind_number c.in-Open.is) c.if-depth-eq0.true) wrote_none

pub factor-or_level-requires : goal.factor-or_level-requires
factor-or_level-requires t c = (
  omega arith,
  (
    omega (arith, c.requires.0),
    past_same c.requires.1 (is-past c.pass.ensures),
  ),
)

pub factor-returns-in_err-or_level-in-Open : goal.factor-returns-in_err-or_level-in-Open
factor-returns-in_err-or_level-in-Open t c =
    rw (passed c.from_residual.result c.from_residual.ensures.1)
    (open_bad _ _ _ _ _ _ c.requires.1 (ap kind_number c.in-Open.is) c.requires.0 c.if-depth-eq0.false _ (is-past c.pass.ensures) c.in_err-or_level-in-Open.ensures)

pub factor-returns-in_ok-or_level-in-Open : goal.factor-returns-in_ok-or_level-in-Open
factor-returns-in_ok-or_level-in-Open t c =
    open_closes _ _ _ _ _ _ c.requires.1 (ap kind_number c.in-Open.is) c.requires.0 c.if-depth-eq0.false _
    (is-past c.pass.ensures) (said_ok c.in_ok-or_level-in-Open.ensures) c.expect.ensures.says

pub factor-returns-then-depth-eq0-2 : goal.factor-returns-then-depth-eq0-2
factor-returns-then-depth-eq0-2 t c =
    was_stopped c.at-then-depth-eq0-2.ensures (not_deep _ _ _ _ _ _ c.requires.1 (ap kind_number c.in-Not.is) c.if-depth-eq0-2.true) wrote_none

pub factor-returns-then-c-ge-MAX_NODES : goal.factor-returns-then-c-ge-MAX_NODES
factor-returns-then-c-ge-MAX_NODES t c =
    was_stopped c.at-then-c-ge-MAX_NODES.ensures
    (not_full _ _ _ _ _ _ c.requires.1 (ap kind_number c.in-Not.is) c.requires.0 c.if-depth-eq0-2.false c.if-c-ge-MAX_NODES.true)
    wrote_none

pub factor-factor-requires : goal.factor-factor-requires
factor-factor-requires t c = (
  omega arith,
  (
    omega (arith, c.requires.0),
    ready-less (past-node c.requires.1 c.if-c-ge-MAX_NODES.false (is-past c.pass-in-Not.ensures)) (omega arith),
  ),
)

pub factor-returns-in_err-factor-in-Not : goal.factor-returns-in_err-factor-in-Not
factor-returns-in_err-factor-in-Not t c =
    rw (passed c.from_residual-in_err-factor-in-Not.result c.from_residual-in_err-factor-in-Not.ensures.1)
    (not_bad _ _ _ _ _ _ c.requires.1 (ap kind_number c.in-Not.is) c.requires.0 c.if-depth-eq0-2.false
    c.if-c-ge-MAX_NODES.false _ (is-past c.pass-in-Not.ensures) c.in_err-factor-in-Not.ensures)

pub factor-emit-requires : goal.factor-emit-requires
factor-emit-requires t c =
    done_room 0 (past-node c.requires.1 c.if-c-ge-MAX_NODES.false (is-past c.pass-in-Not.ensures))
    (said_ok c.in_ok-factor-in-Not.ensures)

pub factor-returns-in_ok-factor-in-Not : goal.factor-returns-in_ok-factor-in-Not
factor-returns-in_ok-factor-in-Not t c =
    not_closes _ _ _ _ _ _ c.requires.1 (ap kind_number c.in-Not.is) c.requires.0 c.if-depth-eq0-2.false
    c.if-c-ge-MAX_NODES.false _ (is-past c.pass-in-Not.ensures) (said_ok c.in_ok-factor-in-Not.ensures) c.emit.ensures

pub or_level-returns-in_err-and_level : goal.or_level-returns-in_err-and_level
or_level-returns-in_err-and_level t c =
    rw (passed c.from_residual.result c.from_residual.ensures.1)
    (says-alike c.in_err-and_level.ensures
    (then_bad _ _ (or-level-is _ _ _ _ _)))

pub or_level-ors-init : goal.or_level-ors-init
or_level-ors-init t c =
    turn_none c.requires.1 (said_ok c.in_ok-and_level.ensures)

pub or_level-returns-then-c-ge-MAX_NODES : goal.or_level-returns-then-c-ge-MAX_NODES
or_level-returns-then-c-ge-MAX_NODES t c =
    rest_full
    (c.ors.invariant.back _ _ _
    (rest-first (or-level-is _ _ _ _ _)
    (said_ok c.in_ok-and_level.ensures)))
    (is_kind c.ors.c.next.kind Or c.eq.ensures c.ors-test.true) c.if-c-ge-MAX_NODES.true c.at.ensures

pub or_level-and_level-requires-in-ors : goal.or_level-and_level-requires-in-ors
or_level-and_level-requires-in-ors t c = (
  omega (arith, c.decreases),
  (
    c.requires.0,
    ready-less (turn_ready c.ors.invariant c.if-c-ge-MAX_NODES.false (is-past c.pass.ensures)) (omega arith),
  ),
)

pub or_level-returns-in_err-and_level-2 : goal.or_level-returns-in_err-and_level-2
or_level-returns-in_err-and_level-2 t c =
    rw (passed c.from_residual-in_err-and_level-2.result c.from_residual-in_err-and_level-2.ensures.1)
    (rest_bad
    (c.ors.invariant.back _ _ _
    (rest-first (or-level-is _ _ _ _ _)
    (said_ok c.in_ok-and_level.ensures)))
    (is_kind c.ors.c.next.kind Or c.eq.ensures c.ors-test.true) c.if-c-ge-MAX_NODES.false (is-past c.pass.ensures)
    c.in_err-and_level-2.ensures)

pub or_level-emit-requires : goal.or_level-emit-requires
or_level-emit-requires t c =
    (turn_room c.ors.invariant c.if-c-ge-MAX_NODES.false (is-past c.pass.ensures)
    (said_ok c.in_ok-and_level-2.ensures)).0

pub or_level-ors-smaller : goal.or_level-ors-smaller
or_level-ors-smaller t c =
    let k = turn_room c.ors.invariant c.if-c-ge-MAX_NODES.false (is-past c.pass.ensures)
    (said_ok c.in_ok-and_level-2.ensures) in
    let e : c.emit.new.self.nodes ≡ _ = ap (λ (x : Cursor). x.nodes) c.emit.ensures.0 in
    omega (arith, k.1, k.2)

pub or_level-ors-preserved : goal.or_level-ors-preserved
or_level-ors-preserved t c =
    turn_more c.ors.invariant c.if-c-ge-MAX_NODES.false (is-past c.pass.ensures)
    (is_kind c.ors.c.next.kind Or c.eq.ensures c.ors-test.true)
    (said_ok c.in_ok-and_level-2.ensures) c.emit.ensures

pub or_level-returns : goal.or_level-returns
or_level-returns t c =
    was_read
    (rest-stop
    (c.ors.invariant.back _ _ _
    (rest-first (or-level-is _ _ _ _ _)
    (said_ok c.in_ok-and_level.ensures)))
    (no_kind c.ors.c.next.kind Or c.eq.ensures c.ors-test.false))

pub factor-operand-requires : goal.factor-operand-requires
factor-operand-requires t c =
    (c.requires.1, ((λ z. c.in_default.not-Not (same_kind _ Not z)), (λ z. c.in_default.not-Open (same_kind _ Open z))))
