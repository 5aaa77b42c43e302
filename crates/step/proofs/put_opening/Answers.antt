-- `put_opening` meets its contract: there is room for every line.
use native.Mathlib.Omega.{arith}
use Rattle.lines.proofs.Writers.{front-room, front-put}
use Rattle.step.proofs.LinesShort.{opening-short}
use Rattle.step.proofs.put_opening.Goals as goal

pub put_opened-requires : goal.put_opened-requires
put_opened-requires c = front-room _ c.new-out.ensures.room c.new-out.ensures.len (omega (arith, opening-short c.args.opened))

pub returns : goal.returns
returns c =
    let short = opening-short c.args.opened in
    let put = front-put _ c.new-out.ensures.room c.new-out.ensures.len (omega (arith, short)) c.put_opened.ensures c.len.ensures in
    record { line_after = (put.0.stored, omega (arith, put.0.ends), omega (arith, put.0.ends, short)); prefix_len = put.1 }
