-- How much a writer puts.
-- Assumes nothing.
use Rattle.std.specs.Prelude.{◌≡◌, ℕ, ◌+◌, ◌≤◌, length}
use Rattle.lines.specs.declared.Writer.{Writer}

-- There is room for k bytes more.
abbrev pub RoomFor : Writer → ℕ → Type 0
RoomFor out k = out.len + k ≤ length out.room.now

-- At most k bytes more stand in the same buffer.
abbrev pub Grows : Writer → ℕ → Writer → Type 0
Grows before k after = (after.room.ghost_name ≡ before.room.ghost_name) × (length after.room.now ≡ length before.room.now) × (after.len ≤ before.len + k)
