-- How long the lines of answers are.
-- Assumes nothing.
use mathlib.Core.List.{List}
use Prim.Native.Nat.{ℕ, ◌≤◌}
use native.Mathlib.Omega.{arith}
use lib.ListN.{length}
use Rattle.std.specs.Prelude.{Result, Ok, Err}
use Rattle.notation.specs.Bytes.{bytes}
use Rattle.conditions.specs.declared.outcome.Declined.{Declined}
use Rattle.lines.proofs.Digits.{digits-within}
use Rattle.lines.proofs.LineLengths.{three_words}
use Rattle.player.specs.declared.record.Player.{Player}
use Rattle.player.specs.declared.record.Answer.{Answer}
use Rattle.player.specs.declared.record.Answer.TheVariants.{Moved, AtEnd, Foreign}
use Rattle.player.specs.Answers.{wording_of, opening_for}
use Rattle.wording.proofs.Spelling.{declined-short}
use Rattle.lines.specs.Lines.{decimal_of}
use Rattle.step.specs.Lines.{record_line, line_of, opening_line}

-- A line of a word and two numbers has at most 50 bytes where the word has at most 7.
record-short : (title : List ℕ) (p : Player) → length title ≤ 7 → length (record_line title p) ≤ 50
record-short title p h = omega (arith, three_words title (decimal_of p.place) (decimal_of p.state), digits-within 19 p.place, digits-within 19 p.state)

pub answer-short : (a : Result Answer Declined) (p : Player) → length (line_of (wording_of a) p) ≤ 50
unfolding line_of wording_of bytes
answer-short (Ok Moved) p = record-short (bytes "moved") p (omega arith)
answer-short (Ok AtEnd) p = record-short (bytes "end") p (omega arith)
answer-short (Ok Foreign) p = record-short (bytes "foreign") p (omega arith)
answer-short (Err d) p = declined-short d

pub opening-short : (o : Result Player Declined) → length (opening_line (opening_for o)) ≤ 50
unfolding opening_line opening_for bytes
opening-short (Ok p) = record-short (bytes "opened") p (omega arith)
opening-short (Err d) = declined-short d
