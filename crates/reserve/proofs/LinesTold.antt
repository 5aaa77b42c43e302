-- The lines of a reservation, and how long they are.
-- Assumes nothing.
use mathlib.Core.Path.{◌≡◌, refl}
use mathlib.Core.List.{List, ◌++◌}
use Prim.Native.Nat.{ℕ, ◌≤◌}
use native.Mathlib.Omega.{arith}
use lib.ListN.{length, length-append}
use Rattle.std.specs.Prelude.{Ok, Err}
use Rattle.notation.specs.Bytes.{bytes}
use Rattle.lines.specs.declared.Writer.{Writer}
use Rattle.lines.specs.Lines.{decimal_of, number_line}
use Rattle.lines.specs.Writers.{HasRoom, Writes}
use Rattle.lines.proofs.Digits.{digits-within}
use Rattle.lines.proofs.LineLengths.{two-words}
use Rattle.lines.proofs.Parts.{refusal-short}
use Rattle.refusals.specs.Reasons.{number_of}
use Rattle.reserving.specs.declared.Reservation.{Reservation}
use Rattle.reserving.specs.Answers.{Reserved, wording_of}
use Rattle.reserve.specs.Lines.{needs_lines, lines_of}

-- The lines of what a search needs: there is room for them, and they are put.
module _ (f : Reserved) (r : Reservation) (q : f ≡ Ok r) {s : Writer} where
  pub needs-room : HasRoom s (lines_of (wording_of f)) → HasRoom s (needs_lines r.entries r.bytes r.trials)
  unfolding lines_of wording_of
  needs-room h = rw q at h

  pub needs-put : {t : Writer} → Writes s (needs_lines r.entries r.bytes r.trials) t → Writes s (lines_of (wording_of f)) t
  unfolding lines_of wording_of
  needs-put P = rw q P

-- A line has at most 29 bytes where its word has at most 7.
line-short : (title : List ℕ) (n : ℕ) → length title ≤ 7 → length (number_line title n) ≤ 29
line-short title n h = omega (arith, two-words title (decimal_of n), digits-within 19 n)

-- All of them have at most 87.
pub lines-short : (f : Reserved) → length (lines_of (wording_of f)) ≤ 87
unfolding lines_of wording_of needs_lines bytes
lines-short (Ok r) =
    omega (
      arith,
      line-short (bytes "entries") r.entries (omega arith),
      line-short (bytes "bytes") r.bytes (omega arith),
      line-short (bytes "trials") r.trials (omega arith),
      length-append (number_line (bytes "entries") r.entries ++ number_line (bytes "bytes") r.bytes) (number_line (bytes "trials") r.trials),
      length-append (number_line (bytes "entries") r.entries) (number_line (bytes "bytes") r.bytes),
    )
lines-short (Err r) = omega (arith, refusal-short)
