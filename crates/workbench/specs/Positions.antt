-- The numbers that stand for positions of a search that is not finished, and for replies about states.
-- Assumes nothing.
use Rattle.std.specs.Prelude.{◌≡◌, Bool, cond, ◌||◌, List, ℕ, ◌+◌, ◌*◌, ◌/◌, ◌%◌, eqb, leb}
use Rattle.exploration.specs.Pause.{Pause}
use Rattle.packing.specs.Packed.{packed, initial}
use Rattle.packing.specs.Outcomes as T
use Rattle.pauses.specs.Answers.{Wording, paused, returned}
use Rattle.pauses.specs.Promises.{met_reply}
use Rattle.pauses.specs.working.Pausing.{open_of, portion_of}
use Rattle.questions.specs.Answers as Q
use Rattle.questions.specs.Promises.{reply_to}

-- Whether a search is at its end: the last state met violates `keep`, or no state is left to expand.
abbrev pub ended : Pause → Bool
ended p = p.broke || leb p.met p.expanded

-- A position: an `e` where the search is at its end, else a `p`; above it a bit that is set where the last state met violates `keep`,
-- 13 bits with the number of states expanded, 13 with that of states met, and above all these the number of trials.
unfoldable pub position_number : Pause → ℕ
position_number p =
    packed (cond (ended p) (initial "ended") (initial "paused")) (cond p.broke 1 0 + 2 * (p.expanded + 8192 * (p.met + 8192 * p.trials)))

-- An answer: a position, or a refusal's number with its place above.
unfoldable pub paused_number : Wording → ℕ
paused_number (paused p) = position_number p
paused_number (returned n i) = packed n i

-- The position that a number stands for, whatever its lowest byte is.
unfoldable pub pause_at : ℕ → Pause
pause_at x = record { expanded = x / 512 % 8192; met = x / 4194304 % 8192; broke = eqb (x / 256 % 2) 1; trials = x / 34359738368 }

-- The answer that a number stands for.
abbrev pub wording_for : ℕ → Wording
wording_for x = let low = x % 256 in cond (eqb low 101 || eqb low 112) (paused (pause_at x)) (returned low (x / 256))

-- The number of an answer tells the answer: so a position is handed back to a later call as it was.
pub record PositionsTold (text : List ℕ) (p : Pause) (k : ℕ) (first second : List ℕ) : Type 0 where
  pub opened : wording_for (paused_number (open_of text first second).answer) ≡ (open_of text first second).answer
  pub portion : wording_for (paused_number (portion_of text p k first second).answer) ≡ (portion_of text p k first second).answer

abbrev pub PositionsTell : Type 0
PositionsTell = (text : List ℕ) (p : Pause) (k : ℕ) (first second : List ℕ) → PositionsTold text p k first second

-- A reply: the first letter of yes or no, or the number of the test's answer.
unfoldable pub reply_number : Q.Wording → ℕ
reply_number Q.yes = packed (initial "yes") 0
reply_number Q.no = packed (initial "no") 0
reply_number (Q.told w) = T.test_number w

-- The reply that a number stands for.
abbrev pub reply_for : ℕ → Q.Wording
reply_for x = let low = x % 256 in cond (eqb low 121) Q.yes (cond (eqb low 110) Q.no (Q.told (T.wording_for x)))

-- The number of a reply tells the reply, whether the tables of a search or a sheet were asked.
pub record RepliesTold (text : List ℕ) (t : ℕ) (first second sheet : List ℕ) : Type 0 where
  pub met : reply_for (reply_number (met_reply text t first second)) ≡ met_reply text t first second
  pub reached : reply_for (reply_number (reply_to text sheet t)) ≡ reply_to text sheet t

abbrev pub RepliesTell : Type 0
RepliesTell = (text : List ℕ) (t : ℕ) (first second sheet : List ℕ) → RepliesTold text t first second sheet
