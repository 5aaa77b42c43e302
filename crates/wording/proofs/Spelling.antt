-- How long the line of an answer of the test is.
-- Assumes nothing.
use Prim.Native.Nat.{◌≤◌}
use native.Mathlib.Omega.{arith}
use lib.ListN.{length}
use Rattle.std.specs.Prelude.{Ok, Err}
use Rattle.notation.specs.Bytes.{bytes}
use Rattle.refusals.specs.Reasons.{number_of}
use Rattle.conditions.specs.declared.outcome.Outcome.TheVariants.{SafeHolds, Void, TraceHolds, FailsA, FailsB, FailsC}
use Rattle.conditions.specs.declared.outcome.Outcome.TheVariants.{FailsD, FailsE, FailsF}
use Rattle.conditions.specs.declared.outcome.Declined.{Declined}
use Rattle.conditions.specs.declared.outcome.Declined.TheVariants as D
use Rattle.conditions.specs.Outcomes.{Tested, wording_of, wording_of_declined}
use Rattle.lines.specs.Lines.{others, line}
use Rattle.lines.proofs.Parts.{refusal-short}
use Rattle.wording.specs.Lines.{spelt, line_of, line_of_declined}

pub line-short : (t : Tested) → length (line_of t) ≤ 50
unfolding spelt line others bytes wording_of
line-short (Ok SafeHolds) = omega arith
line-short (Ok Void) = omega arith
line-short (Ok TraceHolds) = omega arith
line-short (Ok FailsA) = omega arith
line-short (Ok FailsB) = omega arith
line-short (Ok FailsC) = omega arith
line-short (Ok FailsD) = omega arith
line-short (Ok FailsE) = omega arith
line-short (Ok FailsF) = omega arith
line-short (Err r) = refusal-short (number_of r.reason) r.place

pub declined-short : (d : Declined) → length (line_of_declined d) ≤ 50
unfolding wording_of_declined
declined-short (D.Refused r) = line-short (Err r)
declined-short (D.Tested o) = line-short (Ok o)
