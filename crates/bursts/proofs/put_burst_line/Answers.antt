-- `put_burst_line` meets its contract: its words, one behind the other, are the line.
use Rattle.lines.proofs.Writers.{line-put, word-put, end-put, line-first, line-rest, word-first, word-rest, end-room}
use Rattle.bursts.proofs.put_burst_line.Goals as goal

pub put-requires : goal.put-requires
put-requires c = line-first _ _ c.requires

pub put_number-requires : goal.put_number-requires
put_number-requires c = word-first _ _ (line-rest _ _ c.put.ensures c.requires)

pub put_number-requires-2 : goal.put_number-requires-2
put_number-requires-2 c = word-first _ _ (word-rest _ _ c.put_number.ensures (line-rest _ _ c.put.ensures c.requires))

pub put_number-requires-3 : goal.put_number-requires-3
put_number-requires-3 c =
    word-first _ _ (word-rest _ _ c.put_number-2.ensures (word-rest _ _ c.put_number.ensures (line-rest _ _ c.put.ensures c.requires)))

pub put-requires-2 : goal.put-requires-2
put-requires-2 c =
    end-room
    (word-rest _ _ c.put_number-3.ensures (word-rest _ _ c.put_number-2.ensures (word-rest _ _ c.put_number.ensures (line-rest _ _ c.put.ensures c.requires))))

pub returns : goal.returns
returns c =
    line-put _ _ c.put.ensures
    (word-put _ _ c.put_number.ensures (word-put _ _ c.put_number-2.ensures (word-put _ _ c.put_number-3.ensures (end-put c.put-2.ensures))))
