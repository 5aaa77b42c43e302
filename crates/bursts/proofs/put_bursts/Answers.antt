-- `put_bursts` meets its contract: there is room for all that is written.
use native.Mathlib.Omega.{arith}
use Rattle.lines.proofs.Writers.{front-room, front-put}
use Rattle.bursts.proofs.LinesPut.{bursts_short}
use Rattle.bursts.proofs.put_bursts.Goals as goal

pub put_all-requires : goal.put_all-requires
put_all-requires c =
    let a = c.args in
    front-room _ c.new-lines.ensures.room c.new-lines.ensures.len (omega (arith, bursts_short a.text.now a.sheet.now a.width))

pub returns : goal.returns
returns c =
    let a = c.args in
    let put = front-put _ c.new-lines.ensures.room c.new-lines.ensures.len (omega (arith, bursts_short a.text.now a.sheet.now a.width)) c.put_all.ensures.0 c.len.ensures in
    record { puts = (put.0, c.put_all.ensures.1); within = put.1 }
