-- The numbers that stand for the search's answers.
-- Assumes nothing.
use Rattle.std.specs.Prelude.{◌≡◌, cond, List, ℕ, ◌+◌, ◌*◌, ◌/◌, ◌%◌, eqb}
use Rattle.std.proofs.Math.Option.{none, some, get_or}
use Rattle.verdicts.specs.Answers.{Wording, verdict, returned}
use Rattle.verdicts.specs.Promises.{answer_of}
use Rattle.verdicts.specs.working.Searching.{search_of}
use Rattle.packing.specs.Packed.{packed, initial}

-- An answer: the verdict's first letter with the sheet's length in two bytes above, and the number of trials above these, 0 where none is given;
-- or a refusal's number with its place above.
unfoldable pub search_number : Wording → ℕ
search_number (verdict s n t) = packed (initial s) (n + 65536 * get_or t 0)
search_number (returned n p) = packed n p

-- The answer that a number stands for.
abbrev pub wording_for : ℕ → Wording
wording_for x =
    let low = x % 256 in
    let above = x / 256 in
    cond (eqb low 115) (verdict "safe" (above % 65536) (some (above / 65536)))
    (cond (eqb low 118) (verdict "void" (above % 65536) (some (above / 65536)))
    (cond (eqb low 117) (verdict "unsafe" (above % 65536) none)
    (returned low above)))

-- The number of an answer tells the answer.
abbrev pub SearchNumbersTell : Type 0
SearchNumbersTell =
    (text first second sheet : List ℕ) →
    wording_for (search_number (answer_of (search_of text first second sheet))) ≡ answer_of (search_of text first second sheet)
