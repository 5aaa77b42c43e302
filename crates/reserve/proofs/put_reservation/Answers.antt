-- `put_reservation` meets its contract: there is room for all lines.
use native.Mathlib.Omega.{arith}
use Rattle.lines.proofs.Writers.{front-room, front-put}
use Rattle.reserve.proofs.LinesTold.{lines-short}
use Rattle.reserve.proofs.put_reservation.Goals as goal

pub put_needs-requires : goal.put_needs-requires
put_needs-requires c = front-room _ c.new-out.ensures.room c.new-out.ensures.len (omega (arith, lines-short c.args.needs))

pub returns : goal.returns
returns c =
    let put = front-put _ c.new-out.ensures.room c.new-out.ensures.len (omega (arith, lines-short c.args.needs)) c.put_needs.ensures c.len.ensures in
    record { puts = put.0; within = put.1 }
