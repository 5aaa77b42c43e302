-- What a writer puts, by its length.
-- Assumes nothing.
use mathlib.Core.List.{List}
use Prim.Native.Nat.{ℕ}
use native.Mathlib.Omega.{arith}
use lib.ListN.{length}
use Rattle.lines.specs.declared.Writer.{Writer}
use Rattle.lines.specs.Lines.{word, decimal_of, refusal_line}
use Rattle.lines.specs.Writers.{HasRoom, Writes}
use Rattle.lines.proofs.Digits.{digits-within}
use Rattle.lines.proofs.Stores.{keeps}
use Rattle.lines.proofs.Parts.{refusal-short}
use Rattle.streams.specs.Growth.{RoomFor, Grows}

-- A number takes 21 bytes at most.
pub number_room : {s : Writer} (n : ℕ) → RoomFor s 21 → HasRoom s (word (decimal_of n))
number_room n h = record { room = omega (arith, digits-within 19 n) }

pub put_grows : {s t : Writer} {v : List ℕ} → Writes s v t → Grows s (length v) t
put_grows P = (P.same, keeps P.puts, omega (arith, P.puts.ends))

-- The line of a refusal 50.
pub refusal_room : {s : Writer} (n p : ℕ) → RoomFor s 50 → HasRoom s (refusal_line n p)
refusal_room n p h = record { room = omega (arith, refusal-short n p) }

pub refusal_grows : {s t : Writer} (n p : ℕ) → Writes s (refusal_line n p) t → Grows s 50 t
refusal_grows n p P = (P.same, keeps P.puts, omega (arith, P.puts.ends, refusal-short n p))

pub ruleset growing = (number_room, put_grows, refusal_room, refusal_grows)
