-- `put_line` meets its contract: there is room for every line.
use native.Mathlib.Omega.{arith}
use Rattle.lines.proofs.Writers.{front-room, front-put}
use Rattle.wording.proofs.Spelling.{line-short}
use Rattle.wording.proofs.put_line.Goals as goal

pub put_tested-requires : goal.put_tested-requires
put_tested-requires c = front-room _ c.new-out.ensures.room c.new-out.ensures.len (omega (arith, line-short c.args.tested))

pub returns : goal.returns
returns c =
    let short = line-short c.args.tested in
    let put = front-put _ c.new-out.ensures.room c.new-out.ensures.len (omega (arith, short)) c.put_tested.ensures c.len.ensures in
    record { line_after = (put.0.stored, omega (arith, put.0.ends), omega (arith, put.0.ends, short)); prefix_len = put.1 }
