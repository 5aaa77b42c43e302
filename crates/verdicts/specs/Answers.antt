-- What the answers of the search are called.
-- Assumes nothing.
use Rattle.std.proofs.Math.Option.{Option, none, some}
use Rattle.std.specs.Prelude.{ℕ, Result, Ok, Err}
use Prim.Native.String.{String}
use Rattle.refusals.specs.declared.Refusal.{Refusal}
use Rattle.refusals.specs.Reasons.{number_of}
use Rattle.verdicts.specs.declared.finding.Finding.{Finding}
use Rattle.verdicts.specs.declared.finding.Finding.TheVariants.{Safe, Void, Unsafe}

-- What the search may answer: a verdict with the sheet's length and the number of trials, if one is given; or a refusal's number with its place.
pub data Wording : Type 0 where
  verdict : String → ℕ → Option ℕ → Wording
  returned : ℕ → ℕ → Wording

-- A finding, or a refusal.
abbrev pub Searched : Type 0
Searched = Result Finding Refusal

-- What each answer stands for.
unfoldable pub wording_of : Searched → Wording
wording_of (Ok (Safe n t)) = verdict "safe" n (some t)
wording_of (Ok (Void n)) = verdict "void" n (some 0)
wording_of (Ok (Unsafe n)) = verdict "unsafe" n none
wording_of (Err r) = returned (number_of r.reason) r.place
