-- `clause` meets its contract: its answer is that of two segments, the second read and stored behind the first, and of the full stop after them.
use native.Mathlib.Omega.{arith}
use Rattle.statements.proofs.StoredCode.{passed}
use Rattle.reader.proofs.Segments.{whole_bad, middle_ready, each_bad, clause-says}
use Rattle.reader.proofs.clauses.clause.Goals as goal

pub returns-in_err-segment : goal.returns-in_err-segment
returns-in_err-segment c =
    rw (passed c.from_residual.result c.from_residual.ensures.1)
    (whole_bad _ _ _ _ _ _ c.requires.0 c.requires.1.0 _ _ _ _ _ c.in_err-segment.ensures)

pub segment-requires-2 : goal.segment-requires-2
segment-requires-2 c = (
  middle_ready _ _ _ _ _ _ c.requires.0 c.requires.1.0 _ _ _ _ _ c.in_ok-segment.ensures,
  (omega arith, omega (arith, c.requires.1.1)),
)

pub returns-in_err-segment-2 : goal.returns-in_err-segment-2
returns-in_err-segment-2 c =
    rw (passed c.from_residual-in_err-segment-2.result c.from_residual-in_err-segment-2.ensures.1)
    (each_bad _ _ _ _ _ _ c.requires.0 c.requires.1.0 _ _ _ _ _ c.in_ok-segment.ensures _ _ _ c.in_err-segment-2.ensures)

pub returns : goal.returns
returns c =
    clause-says _ _ _ _ _ _ c.requires.0 c.requires.1.0 _ _ _ _ _ c.in_ok-segment.ensures _ _ _ c.in_ok-segment-2.ensures _ c.expect.ensures.says
