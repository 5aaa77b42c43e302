-- What the outcomes of the test are called.
-- Assumes nothing.
use Rattle.std.specs.Prelude.{ℕ, Result, Ok, Err}
use Prim.Native.String.{String}
use Rattle.refusals.specs.declared.Refusal.{Refusal}
use Rattle.refusals.specs.Reasons.{number_of}
use Rattle.conditions.specs.declared.outcome.Outcome.{Outcome}
use Rattle.conditions.specs.declared.outcome.Outcome.TheVariants.{SafeHolds, Void, TraceHolds, FailsA, FailsB, FailsC, FailsD, FailsE, FailsF}
use Rattle.conditions.specs.declared.outcome.Declined.{Declined}
use Rattle.conditions.specs.declared.outcome.Declined.TheVariants as D

-- What the test may answer: words, the letter of the first failure, or a refusal's number with its place.
pub data Wording : Type 0 where
  words : String → Wording
  letter : String → Wording
  returned : ℕ → ℕ → Wording

-- An outcome, or a refusal.
abbrev pub Tested : Type 0
Tested = Result Outcome Refusal

-- What each outcome and each refusal stands for.
unfoldable pub wording_of : Tested → Wording
wording_of (Ok SafeHolds) = words "safe holds"
wording_of (Ok Void) = words "void"
wording_of (Ok TraceHolds) = words "trace holds"
wording_of (Ok FailsA) = letter "A"
wording_of (Ok FailsB) = letter "B"
wording_of (Ok FailsC) = letter "C"
wording_of (Ok FailsD) = letter "D"
wording_of (Ok FailsE) = letter "E"
wording_of (Ok FailsF) = letter "F"
wording_of (Err r) = returned (number_of r.reason) r.place

-- What is told of a test's answer in place of another, and what that stands for.
abbrev pub declined : Tested → Declined
declined (Ok o) = D.Tested o
declined (Err r) = D.Refused r

unfoldable pub wording_of_declined : Declined → Wording
wording_of_declined (D.Tested o) = wording_of (Ok o)
wording_of_declined (D.Refused r) = wording_of (Err r)
