-- Bytes put behind those at the front of a lent buffer.
-- Assumes nothing.
use Rattle.std.specs.Prelude.{◌≡◌, List, ℕ, ◌+◌, ◌≤◌, length}
use Rattle.lines.specs.declared.Writer.{Writer}
use Rattle.lines.specs.Puts.{Puts}

-- There is room for more bytes.
pub record HasRoom (out : Writer) (bytes : List ℕ) : Type 0 where
  pub room : out.len + length bytes ≤ length out.room.now

-- They stand behind those that were there, and the buffer is the same.
pub record Writes (before : Writer) (bytes : List ℕ) (after : Writer) : Type 0 where
  pub same : after.room.ghost_name ≡ before.room.ghost_name
  pub puts : Puts before.room.now before.len bytes after.room.now after.len
