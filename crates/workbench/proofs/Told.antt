-- The numbers that stand for the search's answers tell them, and fit.
-- Assumes nothing.
use mathlib.Core.Path.{◌≡◌}
use mathlib.Core.List.{List}
use Prim.Native.Nat.{ℕ, ◌+◌, ◌*◌, ◌/◌, ◌%◌, ◌≤◌}
use native.Mathlib.Omega.{arith}
use borrow.Author.Tests.{ne_eqb}
use Rattle.notation.specs.Bytes.{bytes}
use Rattle.std.specs.Prelude.{Ok, Err}
use Rattle.refusals.specs.Reasons.{number_of}
use Rattle.verdicts.specs.declared.finding.Finding.TheVariants.{Safe, Void, Unsafe}
use Rattle.verdicts.specs.Answers.{Wording, verdict, returned, Searched, wording_of}
use Rattle.verdicts.specs.Promises.{Bounded}
use Rattle.pauses.specs.Promises.{FinishBounded}
use Rattle.verdicts.specs.working.Searching.{search_of}
use Rattle.verdicts.proofs.Places.{answers_bounded}
use Rattle.packing.proofs.Packed.{low-back, above_back}
use Rattle.workbench.specs.Numbers.{search_number, wording_for, SearchNumbersTell}

-- The length and the trials that are put together above the letter.
length_back : (n t : ℕ) → n ≤ 40967 → (n + 65536 * t) % 65536 ≡ n
length_back n t h = omega arith

trials-back : (n t : ℕ) → n ≤ 40967 → (n + 65536 * t) / 65536 ≡ t
trials-back n t h = omega arith

told : (f : Searched) → FinishBounded (wording_of f) → wording_for (search_number (wording_of f)) ≡ wording_of f
unfolding wording_of search_number bytes
told (Ok (Safe n t)) b =
    let a = n + 65536 * t in
    rw (low-back 115 a (omega arith), above_back 115 a (omega arith), length_back n t b.0, trials-back n t b.0)
told (Ok (Void n)) b =
    let a = n + 65536 * 0 in
    rw (low-back 118 a (omega arith), above_back 118 a (omega arith), length_back n 0 b.0, trials-back n 0 b.0)
told (Ok (Unsafe n)) b =
    let a = n + 65536 * 0 in
    rw (low-back 117 a (omega arith), above_back 117 a (omega arith), length_back n 0 b.0)
told (Err r) b =
    let n = number_of r.reason in
    let p = r.place in
    let h = b.1 in
    rw (low-back n p (omega arith), above_back n p (omega arith), ne_eqb n 115 (omega arith), ne_eqb n 118 (omega arith), ne_eqb n 117 (omega arith))

-- The numbers of a search in one go are smaller still.
pub search_bounded : (text first second sheet : List ℕ) → FinishBounded (wording_of (search_of text first second sheet).answer)
search_bounded text first second sheet = go (wording_of (search_of text first second sheet).answer) (answers_bounded text first second sheet)
  where
    go : (w : Wording) → Bounded w → FinishBounded w
    go (verdict s n t) b = (b.0, omega (arith, b.1))
    go (returned n i) b = b

pub search_numbers_tell : SearchNumbersTell
search_numbers_tell text first second sheet = told (search_of text first second sheet).answer (search_bounded text first second sheet)
