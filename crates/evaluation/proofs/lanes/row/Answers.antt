-- `row` meets its contract: the digits read from the top, moved up by the i left, with the lowest i digits, are the row; no field runs over.
use Prim.Native.Nat.{◌-◌, ◌^◌, ◌/◌}
use mathlib.Core.Path.{◌≡◌, sym, ◌∙◌}
use native.Mathlib.Omega.{arith}
use lib.Bits.{bit_and}
use lib.ListN.{get_or}
use Rattle.evaluation.specs.working.Ends.{fours}
use Rattle.evaluation.proofs.LaneEnds.{sum-next, sum_done}
use Rattle.evaluation.proofs.LaneRows.{row_room, row_more, row-bits}
use Rattle.evaluation.proofs.lanes.row.Goals as goal

pub loop-i-preserved : goal.loop-i-preserved
loop-i-preserved c =
    let a = c.args in
    let l = c.loop-i in
    let m = bit_and (get_or a.cells.now (l.i - 1) 0 / 2 ^ a.r) fours in
    let e = row_room l.x a.n l.i (omega arith) (omega arith) (omega arith) l.invariant.0 in (
      rw e
          (row_more l.x m a.n l.i (omega arith) (omega arith) (row-bits (get_or a.cells.now (l.i - 1) 0) a.r)
          l.invariant.0),
      rw e (sum-next (λ k. bit_and (get_or a.cells.now k 0 / 2 ^ a.r) fours) l.x l.i (omega arith) ∙ l.invariant.1),
    )

pub returns : goal.returns
returns c =
    let a = c.args in
    let l = c.loop-i in
    let e : l.i ≡ 0 = omega arith in
    sym (sum_done (λ k. bit_and (get_or a.cells.now k 0 / 2 ^ a.r) fours) l.x) ∙ rw e at l.invariant.1
