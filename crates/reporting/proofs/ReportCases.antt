-- The table of cases holds: the definitions compute every report in it from the bytes of its text.
-- Assumes nothing.
use mathlib.Core.Path.{refl}
use Rattle.notation.specs.Case.{spelling}
use Rattle.verdicts.proofs.SearchCases.{finding}
use Rattle.lines.specs.Lines.{digits_up_to, others, line}
use Rattle.meaning.specs.Bits.{bit}
use Rattle.meaning.specs.Evidence.{in_map}
use Rattle.exploration.specs.Members.{below}
use Rattle.counting.specs.CountLines.{setting_lines, count_lines}
use Rattle.names.specs.Names.{command_name}
use Rattle.reporting.specs.Reports.{step_lines, verdict_lines, report_lines}
use Rattle.reporting.specs.Cases.{written, cases, AllCases}
use Rattle.reporting.specs.working.Reporting.{report_in}

pub all-cases : AllCases
unfolding finding spelling digits_up_to others line bit in_map below setting_lines count_lines step_lines command_name verdict_lines report_lines report_in written cases
all-cases = (refl, (refl, (refl, (refl, (refl, (refl, tt))))))
