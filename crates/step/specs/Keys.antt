-- What the bytes of the input ask for, and the record after each.
-- Assumes nothing.
use Rattle.std.specs.Prelude.{cond, List, ◌≡◌, ℕ, eqb, Option, Some, None}
use Rattle.player.specs.declared.record.Direction.{Direction}
use Rattle.player.specs.declared.record.Direction.TheVariants.{Forward, Back, Beginning}
use Rattle.player.specs.declared.record.Player.{Player}
use Rattle.player.specs.Promises.{record_after}

-- `f` asks for a step on, `b` for a step back, `0` for the beginning, and no other byte for anything.
unfoldable pub asked_by : ℕ → Option Direction
asked_by b = cond (eqb b 102) (Some Forward) (cond (eqb b 98) (Some Back) (cond (eqb b 48) (Some Beginning) None))

-- The record after what is asked for; where nothing is, it stays.
unfoldable pub record_then : Option Direction → List ℕ → List ℕ → Player → Player
record_then (Some d) text b p = record_after d text b p
record_then None text b p = p

-- A walk that goes on has this record.
abbrev pub GoesOn : Option Player → Player → Type 0
GoesOn (Some q) p = q ≡ p
GoesOn None p = Unit {0}
