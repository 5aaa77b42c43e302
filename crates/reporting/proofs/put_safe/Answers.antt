-- `put_safe` meets its contract: the line of the counts, the verdict, and the lines of the map.
use Rattle.lines.specs.Lines.{others, line}
use Rattle.lines.proofs.Writers.{behind, first-room, rest-room}
use Rattle.notation.specs.Bytes.{bytes}
use Rattle.sheets.specs.working.SheetReading.{map_in}
use Rattle.reporting.proofs.put_safe.Goals as goal

pub put_counts-requires : goal.put_counts-requires
put_counts-requires c = first-room _ _ c.requires.1

pub put-requires : goal.put-requires
unfolding bytes line others
put-requires c = first-room _ _ (rest-room _ c.put_counts.ensures c.requires.1)

pub put_count_lines-requires : goal.put_count_lines-requires
unfolding bytes line others map_in
put_count_lines-requires c = (c.requires.0.map, rest-room _ c.put.ensures (rest-room _ c.put_counts.ensures c.requires.1))

pub returns : goal.returns
unfolding bytes line others map_in
returns c = behind c.put_counts.ensures (behind c.put.ensures c.put_count_lines.ensures)
