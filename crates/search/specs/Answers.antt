-- What the answers of a search in portions stand for.
-- Assumes nothing.
use Rattle.std.specs.Prelude.{Result, Ok, Err}
use Rattle.refusals.specs.declared.Refusal.{Refusal}
use Rattle.refusals.specs.Reasons.{number_of}
use Rattle.exploration.specs.Pause.{Pause}
use Rattle.pauses.specs.Answers.{Wording, paused, returned}
use Rattle.search.specs.declared.position.Position.{Position}

-- The numbers of a position.
abbrev pub pause_for : Position → Pause
pause_for p = record { expanded = p.expanded; met = p.met; broke = p.broke; trials = p.trials }

-- A position, or a refusal.
abbrev pub Paused : Type 0
Paused = Result Position Refusal

-- What each answer stands for.
unfoldable pub wording_of : Paused → Wording
wording_of (Ok p) = paused (pause_for p)
wording_of (Err r) = returned (number_of r.reason) r.place
