-- `segment` meets its contract: past its sign stands an expression, whose answer is the segment's, and whose end fits where it is stored.
use native.Mathlib.Omega.{arith}
use Rattle.statements.proofs.StoredCode.{passed}
use Rattle.statements.proofs.Sequences.{sign-ready}
use Rattle.reader.proofs.Segments.{sign_bad, read_bad, read_small, read_ok}
use Rattle.reader.proofs.clauses.segment.Goals as goal

pub returns-in_err-expect : goal.returns-in_err-expect
returns-in_err-expect c =
    rw (passed c.from_residual.result c.from_residual.ensures.1)
    (sign_bad _ _ _ _ _ _ _ _ _ c.requires.0 c.requires.1.0 _ c.in_err-expect.ensures.says)

pub or_level-requires : goal.or_level-requires
or_level-requires c =
    (omega arith, sign-ready _ c.requires.0 c.in_ok-expect.ensures.says)

pub returns-in_err-or_level : goal.returns-in_err-or_level
returns-in_err-or_level c =
    rw (passed c.from_residual-in_err-or_level.result c.from_residual-in_err-or_level.ensures.1)
    (read_bad _ _ _ _ _ _ _ _ _ c.requires.0 c.requires.1.0 _ c.in_ok-expect.ensures.says _ _ c.in_err-or_level.ensures)

pub overflow_cast-ends : goal.overflow_cast-ends
overflow_cast-ends c =
    omega (
      arith,
      read_small _ c.args.names.now _ c.args.rows _ c.args.i _ _ c.args.ends.now
          c.requires.0 c.requires.1.0 _ c.in_ok-expect.ensures.says _ _ c.in_ok-or_level.ensures,
    )

pub returns : goal.returns
returns c =
    read_ok _ _ _ _ _ _ _ _ _ c.requires.0 c.requires.1.0 _ c.in_ok-expect.ensures.says _ _ c.in_ok-or_level.ensures
