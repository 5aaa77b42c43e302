-- What a read leaves in the room that it is lent.
-- Assumes nothing.
use Rattle.std.specs.Prelude.{IfSome, List, Option, ℕ, ◌<◌, length, take}
use Rattle.std.specs.Io.KnownBytes.{Consumes, IsAtEnd}
use Rattle.io.specs.Counts.{IsPrefixLen}

-- The bytes that came stand at the front of the room; after a failure nothing is said of it.
abbrev pub Within : Option ℕ → List ℕ → Type 0
Within came xs = IfSome came (λ n. IsPrefixLen n xs)

-- The n bytes at the front of the room are the file's next, and no more are left where there was room for more.
pub record Fills (before after : Option (List ℕ)) (room : List ℕ) (n : ℕ) : Type 0 where
  pub front : Consumes before after (take n room)
  pub whole : n < length room → IsAtEnd after

-- The same of the bytes that came.
abbrev pub Came : Option ℕ → Option (List ℕ) → Option (List ℕ) → List ℕ → Type 0
Came came before after room = IfSome came (Fills before after room)
