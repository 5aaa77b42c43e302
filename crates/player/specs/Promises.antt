-- What is promised of players, each promise a type that a theorem of proofs/ inhabits.
-- Assumes nothing.
use Rattle.std.specs.Prelude.{◌≡◌, ◌↔◌, ◌⊎◌, List, [], ◌∷◌, map, ℕ, ◌≤◌, length, take, Some, None}
use Rattle.notation.specs.Model.{Model}
use Rattle.notation.specs.Texts.{TextSays, TextRefused}
use Rattle.notation.specs.Case.{Recased}
use Rattle.meaning.specs.Meaning.{Row, IsRun, last}
use Rattle.meaning.specs.OneRow.{TraceStep, spread, spread_step}
use Rattle.meaning.specs.Evidence.{TracePasses}
use Rattle.sheets.specs.SheetTexts.{AreBytes}
use Rattle.conditions.specs.Outcomes as O
use Rattle.acceptance.specs.Promises as T
use Rattle.acceptance.specs.Promises.{answer_to, TraceThat}
use Rattle.traces.specs.Passed.{TracePassed}
use Rattle.player.specs.Places.{state_at, StandsOn, leads}
use Rattle.player.specs.Answers.{Wording, moved, at_end, foreign, told, wording_of, Opening, opened, unopened, opening_for}
use Rattle.player.specs.working.Playing.{move_of, open_of}
use Rattle.player.specs.declared.record.Player.{Player}
use Rattle.player.specs.declared.record.Direction.{Direction}
use Rattle.player.specs.declared.record.Direction.TheVariants.{Forward, Back, Beginning}

-- What opening answers for a text and a sheet.
abbrev pub opening_of : List ℕ → List ℕ → Opening
opening_of text b = opening_for (open_of text b)

-- What a move of a record answers, and the record after it.
abbrev pub answer_of : Direction → List ℕ → List ℕ → Player → Wording
answer_of d text b p = wording_of (move_of d text b p).answer

abbrev pub record_after : Direction → List ℕ → List ℕ → Player → Player
record_after d text b p = (move_of d text b p).player

-- Opening after the test's answer: on a trace that passes a record at its beginning, with the start state; else that answer.
pub record OpeningMeans (m : Model) (b : List ℕ) (tested : O.Wording) (opening : Opening) : Type 0 where
  pub on_trace : TracePassed tested → TraceThat m b λ s xs. opening ≡ opened (record { place = 0; state = s })
  pub no_trace : ¬ (TracePassed tested) → opening ≡ unopened tested

-- For every text that says a model, and all bytes.
abbrev pub OpeningsTell : Type 0
OpeningsTell = (text : List ℕ) (m : Model) → TextSays text m → (b : List ℕ) → AreBytes b → OpeningMeans m b (answer_to text b) (opening_of text b)

-- A move on a trace. A record that does not stand on it is foreign and stays. One that does, goes where the move leads, and there has the trace's state;
-- where the move leads nowhere it is at an end and stays.
pub record MoveOnTrace (s : ℕ) (xs : List TraceStep) (d : Direction) (p : Player) (answer : Wording) (after : Player) : Type 0 where
  pub elsewhere : ¬ (StandsOn s xs p) → (answer ≡ foreign) × (after ≡ p)
  pub nowhere : StandsOn s xs p → leads d (length xs) p.place ≡ None → (answer ≡ at_end) × (after ≡ p)
  pub somewhere : StandsOn s xs p → (k : ℕ) → leads d (length xs) p.place ≡ Some k → (answer ≡ moved) × (after ≡ record { place = k; state = state_at s xs k })

-- A move after the test's answer: on the trace that passes; else that answer, and the record stays.
pub record MoveMeans (m : Model) (b : List ℕ) (d : Direction) (p : Player) (tested : O.Wording) (answer : Wording) (after : Player) : Type 0 where
  pub on_trace : TracePassed tested → TraceThat m b λ s xs. MoveOnTrace s xs d p answer after
  pub no_trace : ¬ (TracePassed tested) → (answer ≡ told tested) × (after ≡ p)

-- For every text that says a model, all bytes, and every record.
abbrev pub MovesTell : Type 0
MovesTell =
    (text : List ℕ) (m : Model) → TextSays text m → (b : List ℕ) → AreBytes b → (d : Direction) (p : Player)
    → MoveMeans m b d p (answer_to text b) (answer_of d text b p) (record_after d text b p)

-- A text that says no model: its own first refusal, whatever the bytes are; no record, or the record stays.
abbrev pub RefusalTells : Type 0
RefusalTells =
    (text : List ℕ) (n i : ℕ) → TextRefused text n i → (b : List ℕ)
    → (opening_of text b ≡ unopened (O.returned n i))
    × ((d : Direction) (p : Player) → (answer_of d text b p ≡ told (O.returned n i)) × (record_after d text b p ≡ p))

-- Only a move that moved changes the record, on every text, sheet and record.
abbrev pub RecordsStay : Type 0
RecordsStay = (text b : List ℕ) (d : Direction) (p : Player) → ¬ (answer_of d text b p ≡ moved) → record_after d text b p ≡ p

-- A move leads nowhere exactly forward at the last place, or beyond it, and back at place 0.
abbrev pub EndsTell : Type 0
EndsTell = (d : Direction) (n k : ℕ) → (leads d n k ≡ None) ↔ (((d ≡ Forward) × (n ≤ k)) ⊎ ((d ≡ Back) × (k ≡ 0)))

-- Steps on and back undo each other: where the first moved, the second moves too, and the record is what it was, on every text, sheet and record.
pub record Restored (there again : Direction) (text b : List ℕ) (p : Player) : Type 0 where
  pub moves : answer_of there text b p ≡ moved → answer_of again text b (record_after there text b p) ≡ moved
  pub restores : answer_of there text b p ≡ moved → record_after again text b (record_after there text b p) ≡ p

abbrev pub MovesRestore : Type 0
MovesRestore = (text b : List ℕ) (p : Player) → Restored Forward Back text b p × Restored Back Forward text b p

-- A move to the beginning gives place 0, and the record that opening gives.
abbrev pub BeginningTells : Type 0
BeginningTells =
    (text b : List ℕ) (p : Player) → answer_of Beginning text b p ≡ moved
    → ((record_after Beginning text b p).place ≡ 0) × (opening_of text b ≡ opened (record_after Beginning text b p))

-- The record after a list of moves, one after the other.
unfoldable pub record_after_all : List Direction → List ℕ → List ℕ → Player → Player
record_after_all [] text b p = p
record_after_all (d ∷ ds) text b p = record_after_all ds text b (record_after d text b p)

-- A record's state copied in each of n rows: as many of the first moves of the trace's run over n rows as its place says are a run, and lead there.
pub record OnRun (m : Model) (s : ℕ) (xs : List TraceStep) (p : Player) (n : ℕ) : Type 0 where
  pub run : IsRun m (spread m (Row n) s) (take p.place (map (spread_step m (Row n)) xs))
  pub state : last (spread m (Row n) s) (take p.place (map (spread_step m (Row n)) xs)) ≡ spread m (Row n) p.state

-- So it is for every record that stands on a trace that passes, whoever made it.
abbrev pub StandingTells : Type 0
StandingTells = (m : Model) (s : ℕ) (xs : List TraceStep) → TracePasses m s xs → (p : Player) → StandsOn s xs p → (n : ℕ) → 1 ≤ n → OnRun m s xs p n

-- A record in use: it stands on the trace, its state is one of the trace's run over every table of one row or more, and each further move goes or is at an end.
pub record Played (m : Model) (s : ℕ) (xs : List TraceStep) (text b : List ℕ) (p : Player) : Type 0 where
  pub stands : StandsOn s xs p
  pub over_rows : (n : ℕ) → 1 ≤ n → OnRun m s xs p n
  pub goes_on : (d : Direction) → (answer_of d text b p ≡ moved) ⊎ (answer_of d text b p ≡ at_end)

-- And so it is after every list of moves, on the text and the sheet that the player was opened on.
abbrev pub WalksTell : Type 0
WalksTell =
    (text : List ℕ) (m : Model) → TextSays text m → (b : List ℕ) → AreBytes b → (p : Player) → opening_of text b ≡ opened p
    → (ds : List Direction) → TraceThat m b λ s xs. Played m s xs text b (record_after_all ds text b p)

-- The case of letters inside names changes no answer and no record.
abbrev pub PlayedWithoutCase : Type 0
PlayedWithoutCase =
    (text other : List ℕ) → Recased text other → (b : List ℕ)
    → (opening_of text b ≡ opening_of other b)
    × ((d : Direction) (p : Player) → (answer_of d text b p ≡ answer_of d other b p) × (record_after d text b p ≡ record_after d other b p))

-- The numbers in an answer: those of the test's answers.
abbrev pub Bounded : Wording → Type 0
Bounded moved = Unit {0}
Bounded at_end = Unit {0}
Bounded foreign = Unit {0}
Bounded (told tested) = T.Bounded tested

abbrev pub BoundedOpening : Opening → Type 0
BoundedOpening (opened p) = Unit {0}
BoundedOpening (unopened tested) = T.Bounded tested

abbrev pub PlayersBounded : Type 0
PlayersBounded = (text b : List ℕ) → BoundedOpening (opening_of text b) × ((d : Direction) (p : Player) → Bounded (answer_of d text b p))
