-- What came so far stands at the front of the room, which keeps its length.
use Rattle.std.proofs.Common.{◌≡◌, ◌-◌, ◌≤◌, length, take}
use Rattle.std.specs.Io.KnownBytes.{Consumes}
use Rattle.streams.proofs.whole.read_file.Given as goal

abbrev pub invariant-parts : goal.invariant-parts
invariant-parts g l =
    (length l.room ≡ length l.initial.room) × (l.at ≤ length l.room) ×
    Consumes (g.R.Read.remaining l.initial.file) (g.R.Read.remaining l.file) (take l.at l.room)

abbrev pub decreases-parts : goal.decreases-parts
decreases-parts g l = length l.initial.room - l.at
