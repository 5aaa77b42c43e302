-- What is told of bursts: a number, and the counts of the commands as the first sixteen entries of a lent list.
-- Assumes nothing.
use Rattle.std.specs.Prelude.{◌≡◌, cond, List, ℕ, ◌+◌, ◌*◌, ◌/◌, ◌%◌, ◌≤◌, eqb, ltb, length}
use Rattle.std.proofs.lemmas.List.Edits.{sets}
use Rattle.conditions.specs.Outcomes as O
use Rattle.packing.specs.Packed.{packed, initial}
use Rattle.packing.specs.Outcomes as T
use Rattle.windows.specs.Questions.{Wording, steps, burst, refused, told}
use Rattle.windows.specs.Promises.{answer_of, counts_after}
use Rattle.windows.specs.declared.record.Step.{Step}
use Rattle.windows.specs.declared.record.Question.{Question}
use Rattle.windows.specs.declared.record.Question.TheVariants as Q

-- An answer: the letter n with the number of steps; the letter b with the most, and its place above that; a refusal's number; or the number of the test's answer.
unfoldable pub survey_number : Wording → ℕ
survey_number (steps n) = packed (initial "number") n
survey_number (burst most place) = packed (initial "burst") (most + 65536 * place)
survey_number (refused n) = packed n 0
survey_number (told w) = T.test_number w

-- The number, and what the lent list of counts holds afterwards.
pub record Told : Type 0 where
  pub number : ℕ
  pub entries : List ℕ

-- After an answer with the number of steps the list has the counts at its front, but where it has no room for them; after every other it is as before.
unfoldable pub counts_told : Wording → List ℕ → List ℕ → Told
counts_told (steps n) counts entries =
    cond (ltb (length entries) 16) (record { number = packed 8 0; entries = entries }) (record { number = survey_number (steps n); entries = sets entries 0 counts })
counts_told (burst most place) counts entries = record { number = survey_number (burst most place); entries = entries }
counts_told (refused n) counts entries = record { number = survey_number (refused n); entries = entries }
counts_told (told w) counts entries = record { number = survey_number (told w); entries = entries }

-- The counts of the commands, asked with room for as many entries as the list has.
abbrev pub counts_on : List ℕ → List ℕ → List Step → List ℕ → Told
counts_on text b list entries = let q = Q.Counts (length entries) in counts_told (answer_of q text b list) (counts_after q text b list) entries

-- What can be told of an answer. A refusal of a question has the number that the test's refusal with the same number and place 0 has: the two are told alike.
abbrev pub as_told : Wording → Wording
as_told (steps n) = steps n
as_told (burst most place) = burst most place
as_told (refused n) = told (O.returned n 0)
as_told (told w) = told w

-- The answer that a number stands for.
abbrev pub answer_in : ℕ → Wording
answer_in x =
    let rest = x / 256 in
    cond (eqb (x % 256) 110) (steps rest) (cond (eqb (x % 256) 98) (burst (rest % 65536) (rest / 65536)) (told (T.wording_for x)))

-- The number of an answer tells it; that of the counts too, and the list of counts has them at its front exactly after an answer with the number of steps.
pub record BurstsTold (text b : List ℕ) (list : List Step) (entries : List ℕ) : Type 0 where
  pub answer : (q : Question) → answer_in (survey_number (answer_of q text b list)) ≡ as_told (answer_of q text b list)
  pub number : (counts_on text b list entries).number ≡ survey_number (answer_of (Q.Counts (length entries)) text b list)
  pub counts : (n : ℕ) → answer_of (Q.Counts (length entries)) text b list ≡ steps n
      → ((counts_on text b list entries).entries ≡ sets entries 0 (counts_after (Q.Counts (length entries)) text b list)) × (16 ≤ length entries)
  pub stays : ((n : ℕ) → ¬ (answer_of (Q.Counts (length entries)) text b list ≡ steps n)) → (counts_on text b list entries).entries ≡ entries

abbrev pub BurstsTell : Type 0
BurstsTell = (text b : List ℕ) (list : List Step) (entries : List ℕ) → BurstsTold text b list entries
