-- `put_needs` meets its contract: three lines, one behind the other.
use Rattle.notation.specs.Bytes.{bytes}
use Rattle.lines.proofs.Writers.{behind, first-room, rest-room}
use Rattle.reserve.specs.Lines.{needs_lines}
use Rattle.reserve.proofs.LinesTold.{needs-room, needs-put}
use Rattle.reserve.proofs.put_needs.Goals as goal

pub put_number_line-requires-in-Ok : goal.put_number_line-requires-in-Ok
unfolding needs_lines bytes
put_number_line-requires-in-Ok c =
    rest-room _ c.put_number_line.ensures (first-room _ _ (needs-room _ _ c.in-Ok.is c.requires))

pub put_number_line-requires-in-Ok-2 : goal.put_number_line-requires-in-Ok-2
unfolding needs_lines bytes
put_number_line-requires-in-Ok-2 c =
    rest-room _ (behind c.put_number_line.ensures c.put_number_line-in-Ok.ensures) (needs-room _ _ c.in-Ok.is c.requires)

pub returns-in-Ok : goal.returns-in-Ok
unfolding needs_lines bytes
returns-in-Ok c =
    needs-put _ _ c.in-Ok.is (behind (behind c.put_number_line.ensures c.put_number_line-in-Ok.ensures) c.put_number_line-in-Ok-2.ensures)
