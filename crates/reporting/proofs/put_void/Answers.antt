-- `put_void` meets its contract: the line of the counts, and then the verdict.
use Rattle.lines.specs.Lines.{others, line}
use Rattle.lines.proofs.Writers.{behind, rest-room}
use Rattle.notation.specs.Bytes.{bytes}
use Rattle.reporting.proofs.put_void.Goals as goal

pub put-requires : goal.put-requires
unfolding bytes line others
put-requires c = rest-room _ c.put_counts.ensures c.requires

pub returns : goal.returns
unfolding bytes line others
returns c = behind c.put_counts.ensures c.put.ensures
