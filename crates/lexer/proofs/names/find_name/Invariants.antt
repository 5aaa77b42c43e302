-- The first name from i on is the first of all, since the piece is none of those before i.
use mathlib.Core.Path.{◌≡◌}
use lib.Seq.{slice}
use Rattle.notation.specs.Bytes.{in_lower_case}
use Rattle.lexer.proofs.Lookup.{found_from}
use Rattle.lexer.proofs.names.find_name.Given as goal

abbrev pub invariant-loop-i : goal.invariant-loop-i
invariant-loop-i l =
    found_from l.text l.names (in_lower_case (slice l.s l.e l.text)) l.to l.i ≡ found_from l.text l.names (in_lower_case (slice l.s l.e l.text)) l.to l.from
