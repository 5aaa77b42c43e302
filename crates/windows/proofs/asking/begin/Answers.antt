-- `begin` meets its contract: a question that is not refused begins with the steps and their counts.
use mathlib.Core.Path.{sym}
use Rattle.windows.proofs.AskLaws.{begin_goes}
use Rattle.windows.proofs.asking.begin.Goals as goal

pub returns-in-None : goal.returns-in-None
returns-in-None c =
    (sym (begin_goes _ _ _ _ _ c.in_ok-steps.ensures.value _ c.wide-commands.ensures.0 c.in-None.ensures _ c.count_each.ensures _ c.tally_for.ensures), c.in_ok-steps.ensures.bytes)
