-- A table of one row in numbers: its states, the words of choices, and what happens to them; and the copies of both in every row of a table.
-- Assumes nothing.
use Rattle.std.specs.Prelude.{◌≡◌, ◌↔◌, Bool, true, not, ◌&&◌, List, [], ◌∷◌, ◌++◌, ℕ, ◌+◌, ◌^◌, ◌<◌, length}
use Rattle.std.proofs.Common.{zero-le, suc-le-suc}
use Rattle.notation.specs.Model.{Model, Command, stars}
use Rattle.meaning.specs.Bits.{bit, first, number}
use Rattle.meaning.specs.Meaning.{Row, State, Choice, Move, step, whole_of, each_of, IsStart, Breaks, command_at}

-- The rows of a table of one row, and its only one.
abbrev pub One : Type 0
One = Row 1

abbrev pub the_row : One
the_row = (0, suc-le-suc zero-le)

-- The number of a state of one row: the shared bits come lowest, the row's bits above them.
unfoldable pub state_number : State One → ℕ
state_number s = number (s.shared ++ s.rows the_row)

-- How many states of one row there are.
abbrev pub state_count : Model → ℕ
state_count m = 2 ^ (m.shared_names + m.row_names)

-- The state of the rows I in which every row is the row of the one-row state numbered s.
unfoldable pub spread : Model → (I : Type 0) → ℕ → State I
spread m I s = record { shared = first m.shared_names (bit s); rows = λ i. first m.row_names (λ j. bit s (m.shared_names + j)) }

-- How many choice words a command has: one for each way its stars can come out in one row.
abbrev pub word_count : Command → ℕ
word_count k = 2 ^ length (stars k)

-- The choice in which star j comes out as bit j of the word, in each row alike.
unfoldable pub spread_word : (I : Type 0) → ℕ → Choice I
spread_word I w = record { outer = bit w; inner = λ i. bit w }

-- Whether the one-row state numbered s is a start state.
unfoldable pub starts : Model → ℕ → Bool
starts m s = let q = spread m One s in whole_of m.start q && each_of m.start q the_row

-- Whether it violates `keep`.
unfoldable pub breaks : Model → ℕ → Bool
breaks m s = let q = spread m One s in not (whole_of m.keep q && each_of m.keep q the_row)

-- The number of the state after command k under the word w.
unfoldable pub next : Model → ℕ → ℕ → ℕ → ℕ
next m s k w = state_number (step (command_at m k) (spread_word One w) (spread m One s))

-- One step of a trace: the command's number, its choice word, and the number of the state after it.
pub record TraceStep : Type 0 where
  pub command : ℕ
  pub word : ℕ
  pub after : ℕ

-- The move over the rows I that a step of a trace stands for: word and state copied in every row.
unfoldable pub spread_step : Model → (I : Type 0) → TraceStep → Move I
spread_step m I x = record { command = x.command; choice = spread_word I x.word; after = spread m I x.after }

-- The number of the state where a trace ends.
unfoldable pub last_of : ℕ → List TraceStep → ℕ
last_of s [] = s
last_of s (x ∷ xs) = last_of x.after xs

-- The three computations say what the meaning says of a table of one row, and no step leads out of the numbers of states.
abbrev pub StartsTell : Type 0
StartsTell = (m : Model) (s : ℕ) → (starts m s ≡ true) ↔ IsStart m (spread m One s)

abbrev pub BreaksTell : Type 0
BreaksTell = (m : Model) (s : ℕ) → (breaks m s ≡ true) ↔ Breaks m (spread m One s)

abbrev pub NextTells : Type 0
NextTells = (m : Model) (s k w : ℕ) → spread m One (next m s k w) ≡ step (command_at m k) (spread_word One w) (spread m One s)

abbrev pub NextStays : Type 0
NextStays = (m : Model) (s k w : ℕ) → next m s k w < state_count m
