-- When a sheet is a trace that passes.
-- Assumes nothing.
use Rattle.std.specs.Prelude.{◌≡◌}
use Rattle.conditions.specs.Outcomes.{Wording, words}

-- The test says that the sheet is a trace that passes.
abbrev pub TracePassed : Wording → Type 0
TracePassed tested = tested ≡ words "trace holds"
