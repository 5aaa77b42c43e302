-- `put_answer` meets its contract: there is room for every line.
use native.Mathlib.Omega.{arith}
use Rattle.lines.proofs.Writers.{front-room, front-put}
use Rattle.step.proofs.LinesShort.{answer-short}
use Rattle.step.proofs.put_answer.Goals as goal

pub put_move-requires : goal.put_move-requires
put_move-requires c = front-room _ c.new-out.ensures.room c.new-out.ensures.len (omega (arith, answer-short c.args.answer c.args.player))

pub returns : goal.returns
returns c =
    let short = answer-short c.args.answer c.args.player in
    let put = front-put _ c.new-out.ensures.room c.new-out.ensures.len (omega (arith, short)) c.put_move.ensures c.len.ensures in
    record { line_after = (put.0.stored, omega (arith, put.0.ends), omega (arith, put.0.ends, short)); prefix_len = put.1 }
