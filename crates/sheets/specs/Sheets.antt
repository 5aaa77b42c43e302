-- What the bytes of a sheet are: records one after the other, each with its length, its kind and its payload.
-- Assumes nothing.
use Rattle.std.specs.Prelude.{Bool, List, [], ◌∷◌, ◌++◌, ℕ, zero, suc, ◌+◌, ◌*◌, ◌/◌, ◌%◌, ◌^◌, max, length}
use Rattle.notation.specs.Model.{Model, stars}
use Rattle.meaning.specs.Meaning.{command_at}
use Rattle.meaning.specs.OneRow.{starts, breaks, next, TraceStep}
use Rattle.meaning.specs.Evidence.{Sheet, safe, trace}

-- All that the test and the search see of a model: how many bits a state has, the kind and the counts of a sheet's header,
-- how many commands and stars there are, and the table of one row on numbers.
pub record System : Type 0 where
  pub bits : ℕ
  pub kind : ℕ
  pub counts : List ℕ
  pub commands : ℕ
  pub stars : ℕ → ℕ
  pub starts : ℕ → Bool
  pub breaks : ℕ → Bool
  pub step : ℕ → ℕ → ℕ → ℕ

-- How many states it has.
abbrev pub size : System → ℕ
size M = 2 ^ M.bits

-- The system of a model. Its header has kind 1 and counts shared names, row names and commands.
abbrev pub system_of : Model → System
system_of m =
    record {
      bits = m.shared_names + m.row_names;
      kind = 1;
      counts = m.shared_names ∷ m.row_names ∷ length m.commands ∷ [];
      commands = length m.commands;
      stars = λ k. length (stars (command_at m k));
      starts = starts m;
      breaks = breaks m;
      step = next m;
    }

-- How many bytes a header has, and how many the longest sheet that the search writes: after the header a start state and a step for each state but one.
abbrev pub header_length : System → ℕ
header_length M = 6 + length M.counts

abbrev pub sheet_room : System → ℕ
sheet_room M = 4 + length M.counts + 10 * size M

-- A number in so many bytes, little-endian: the lowest byte comes first.
unfoldable pub little : ℕ → ℕ → List ℕ
little zero n = []
little (suc k) n = n % 256 ∷ little k (n / 256)

-- A record: how long its payload is, in four bytes; its kind, in two; its payload.
unfoldable pub record_bytes : ℕ → List ℕ → List ℕ
record_bytes kind payload = little 4 (length payload) ++ little 2 kind ++ payload

-- The header.
unfoldable pub header_bytes : System → List ℕ
header_bytes M = record_bytes M.kind M.counts

-- Kind 2, the map.
unfoldable pub map_bytes : List ℕ → List ℕ
map_bytes map = record_bytes 2 map

-- Kind 3, the state where a trace begins.
unfoldable pub start_bytes : ℕ → List ℕ
start_bytes s = record_bytes 3 (little 2 s)

-- Kind 4, a step of a trace: its command, its choice word, the state after it.
unfoldable pub step_bytes : TraceStep → List ℕ
step_bytes x = record_bytes 4 (x.command ∷ x.word ∷ little 2 x.after)

-- The records of steps, one after the other.
unfoldable pub steps_bytes : List TraceStep → List ℕ
steps_bytes [] = []
steps_bytes (x ∷ xs) = step_bytes x ++ steps_bytes xs

-- A whole sheet: the header, and then a map or a trace.
unfoldable pub sheet_bytes : System → Sheet → List ℕ
sheet_bytes M (safe map) = header_bytes M ++ map_bytes map
sheet_bytes M (trace s xs) = header_bytes M ++ (start_bytes s ++ steps_bytes xs)

-- How many bytes a map has: a bit for each state, and at least one byte.
unfoldable pub map_length : ℕ → ℕ
map_length states = max 1 (states / 8)
