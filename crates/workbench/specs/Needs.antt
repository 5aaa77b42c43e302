-- What is told of a reservation: a number, and three numbers in a lent list.
-- Assumes nothing.
use Rattle.std.specs.Prelude.{◌≡◌, cond, List, [], ◌∷◌, ℕ, ◌/◌, ◌%◌, ◌≤◌, eqb, ltb, length, get_or}
use Rattle.std.proofs.lemmas.List.Edits.{sets}
use Rattle.reserving.specs.Answers.{Wording, reserved, returned}
use Rattle.reserving.specs.Promises.{answer_for}
use Rattle.packing.specs.Packed.{packed, initial}

-- The number, and what the list holds afterwards.
pub record Told : Type 0 where
  pub number : ℕ
  pub needs : List ℕ

-- A reservation: the letter r, and entries, bytes and trials at the front of the list; but 8 where the list has no room for them.
-- A refusal: its number with its place above. Whatever is refused leaves the list as it was.
unfoldable pub told_of : Wording → List ℕ → Told
told_of (reserved entries bytes trials) needs =
    cond (ltb (length needs) 3)
    (record { number = packed 8 0; needs = needs })
    (record { number = packed (initial "reserved") 0; needs = sets needs 0 (entries ∷ bytes ∷ trials ∷ []) })
told_of (returned n p) needs = record { number = packed n p; needs = needs }

-- The answer that a number and a list stand for.
abbrev pub answer_in : Told → Wording
answer_in x =
    cond (eqb (x.number % 256) 114)
    (reserved (get_or x.needs 0 0) (get_or x.needs 1 0) (get_or x.needs 2 0))
    (returned (x.number % 256) (x.number / 256))

-- Where the list has room, the number and the list tell the answer.
abbrev pub NeedsTell : Type 0
NeedsTell = (text needs : List ℕ) → 3 ≤ length needs → answer_in (told_of (answer_for text) needs) ≡ answer_for text
