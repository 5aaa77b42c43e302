-- What the contracts of a search in portions say of positions and of the tables that are lent.
-- Assumes nothing.
use Rattle.std.specs.Prelude.{◌≡◌, Bool, List, ℕ}
use Rattle.reader.specs.working.Commands.{Lent}
use Rattle.exploration.specs.Pause.{Pause}
use Rattle.exploration.specs.working.Transitions.{Transitions}
use Rattle.exploration.specs.working.Exploring.{progress}
use Rattle.exploration.specs.working.Tables.{seen}
use Rattle.exploration.specs.working.Pauses.{GoneOn}
use Rattle.traversal.specs.declared.exploring.Reach.{Reach}
use Rattle.pauses.specs.Held.{Held, Holding}
use Rattle.pauses.specs.working.Pausing as P
use Rattle.search.specs.Answers.{Paused, wording_of}

-- How far the loops went, as a position.
abbrev pub pause_in : Reach → Pause
pause_in r = record { expanded = r.head; met = r.count; broke = r.found; trials = r.trials }

-- Whether the tables tell the sheet of a search that reached so far.
abbrev pub can_close : Transitions → Reach → List ℕ → List ℕ → Bool
can_close T r first second = P.can_close T (progress r.found (seen T first r.count second))

-- A call goes on from one position to another, over the two tables that are lent to it.
abbrev pub GoesOn : Transitions → ℕ → Reach → Reach → Lent → Lent → Type 0
GoesOn T k a b first second = GoneOn T k (pause_in a) first.entry.now second.entry.now (pause_in b) first.exit.now second.exit.now

-- A call whose contract names these two tables leaves what is due for them as they were lent.
abbrev pub HoldsWith : (List ℕ → List ℕ → Held) → Paused → Lent → Lent → Type 0
HoldsWith due r first second =
    (wording_of r ≡ (due first.entry.now second.entry.now).answer)
    × Holding (due first.entry.now second.entry.now) first.exit.now second.exit.now
