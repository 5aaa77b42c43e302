-- `put_unsafe` meets its contract: the line of the counts, and then the run.
use Rattle.lines.proofs.Writers.{behind, first-room, rest-room}
use Rattle.reporting.proofs.put_unsafe.Goals as goal

pub put_counts-requires : goal.put_counts-requires
put_counts-requires c = first-room _ _ c.requires.1

pub put_run-requires : goal.put_run-requires
put_run-requires c = (c.requires.0, rest-room _ c.put_counts.ensures c.requires.1)

pub returns : goal.returns
returns c = behind c.put_counts.ensures c.put_run.ensures
