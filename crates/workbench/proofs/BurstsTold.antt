-- The numbers that stand for answers about bursts tell them, and the counts stand where they are put.
-- Assumes nothing.
use mathlib.Core.Path.{◌≡◌, refl, sym, ap, ◌∙◌}
use mathlib.Core.Logic.{inl}
use mathlib.Core.Bool.{Bool, true, false, cond}
use mathlib.Core.List.{List, ◌++◌}
use Prim.Native.Nat.{ℕ, ◌+◌, ◌*◌, ◌/◌, ◌%◌, ◌≤◌}
use native.Mathlib.Omega.{arith}
use lib.Dec.{ltb, eqb}
use lib.ListN.{length, drop}
use lib.Seq.{sets, sets-eq, length-sets}
use borrow.Author.Tests.{le-ltb, ne_eqb}
use Rattle.notation.specs.Bytes.{bytes}
use Rattle.packing.specs.Packed.{packed}
use Rattle.packing.proofs.Packed.{low-back, above_back}
use Rattle.packing.proofs.OutcomesTold.{refusal-told, declined_told, declined-letter}
use Rattle.windows.specs.Questions.{Wording, wording_of}
use Rattle.windows.specs.Questions as W
use Rattle.windows.specs.Promises.{answer_of, counts_after, Bounded}
use Rattle.windows.specs.working.Surveying.{survey_of}
use Rattle.windows.proofs.SurveyNumbers.{surveys_bounded}
use Rattle.windows.proofs.CountsRoom.{counts-room}
use Rattle.windows.specs.declared.record.Question.TheVariants as Q
use Rattle.windows.specs.declared.record.Answer.{Answer}
use Rattle.windows.specs.declared.record.Answer.TheVariants as A
use Rattle.windows.specs.declared.record.Unanswered.{Unanswered}
use Rattle.windows.specs.declared.record.Unanswered.TheVariants as U
use Rattle.refusals.specs.Reasons.{number_of}
use Rattle.std.specs.Prelude.{Result, Ok, Err}
use Rattle.workbench.specs.Bursts.{survey_number, Told, counts_told, as_told, answer_in, BurstsTell}

-- Sixteen counts copied to the front of a list.
pub copied : (entries counts front : List ℕ) → front ≡ counts → length counts ≡ 16 → 16 ≤ length entries → front ++ drop 16 entries ≡ sets entries 0 counts
copied entries counts front e long room =
    let at : 0 + length counts ≡ 16 = omega (arith, long) in
    ap (λ (l : List ℕ). l ++ drop 16 entries) e ∙ ap (λ (k : ℕ). counts ++ drop k entries) (sym at)
    ∙ sym (sets-eq counts entries 0 (omega (arith, long, room)))

-- The list of counts is as long as before.
pub told-length : (w : Wording) (counts entries : List ℕ) → length (counts_told w counts entries).entries ≡ length entries
unfolding counts_told
told-length (W.steps n) counts entries = by_room (ltb (length entries) 16)
  where
    by_room : (t : Bool) → length (cond {A = Told} t (record { number = packed 8 0; entries = entries }) (record { number = survey_number (W.steps n); entries = sets entries 0 counts })).entries ≡ length entries
    by_room true = refl
    by_room false = length-sets entries 0 counts
told-length (W.burst most place) counts entries = refl
told-length (W.refused n) counts entries = refl
told-length (W.told w) counts entries = refl

-- The number of an answer tells it.
answer-told : (a : Result Answer Unanswered) → Bounded (wording_of a) → answer_in (survey_number (wording_of a)) ≡ as_told (wording_of a)
unfolding wording_of survey_number bytes
answer-told (Ok (A.Steps n)) h = rw (low-back 110 n (omega arith), above_back 110 n (omega arith)) refl
answer-told (Ok (A.Burst m p)) h =
    let most : (m + 65536 * p) % 65536 ≡ m = omega (arith, h.0) in
    let place : (m + 65536 * p) / 65536 ≡ p = omega (arith, h.0) in
    rw (low-back 98 (m + 65536 * p) (omega arith), above_back 98 (m + 65536 * p) (omega arith), most, place) refl
answer-told (Err (U.Refused r)) h =
    let n = number_of r in
    let few = h.1 in
    let low : packed n 0 % 256 ≡ n = low-back n 0 (omega arith) in
    rw (ap (λ (x : ℕ). eqb x 110) low ∙ ne_eqb n 110 (omega arith), ap (λ (x : ℕ). eqb x 98) low ∙ ne_eqb n 98 (omega arith)) (ap W.told (refusal-told n 0 (omega arith)))
answer-told (Err (U.Declined d)) h = rw (declined-letter d h 110 (inl (omega arith, omega arith)), declined-letter d h 98 (inl (omega arith, omega arith)), declined_told d h) refl

-- What is told of counts, by the answer: with the number of steps there is room for them.
module _ (counts entries : List ℕ) where
  number-told : (w : Wording) → ((n : ℕ) → w ≡ W.steps n → 16 ≤ length entries) → (counts_told w counts entries).number ≡ survey_number w
  unfolding counts_told
  number-told (W.steps n) room = rw (le-ltb (length entries) 16 (room n refl)) refl
  number-told (W.burst m p) room = refl
  number-told (W.refused n) room = refl
  number-told (W.told w) room = refl

  counts-told : (w : Wording) (n : ℕ) → w ≡ W.steps n → 16 ≤ length entries → (counts_told w counts entries).entries ≡ sets entries 0 counts
  unfolding counts_told
  counts-told w n e room = rw (e, le-ltb (length entries) 16 room) refl

  others_stay : (w : Wording) → ((n : ℕ) → ¬ (w ≡ W.steps n)) → (counts_told w counts entries).entries ≡ entries
  unfolding counts_told
  others_stay (W.steps n) h = absurd (h n refl)
  others_stay (W.burst m p) h = refl
  others_stay (W.refused n) h = refl
  others_stay (W.told w) h = refl

pub bursts_tell : BurstsTell
bursts_tell text b list entries =
    let q = Q.Counts (length entries) in
    let counts = counts_after q text b list in
    record {
      answer = λ k. answer-told (survey_of k text b list).reply.answer (surveys_bounded text b k list);
      number = number-told counts entries (answer_of q text b list) (counts-room (length entries) text b list);
      counts = λ n e. let room = counts-room (length entries) text b list n e in (counts-told counts entries (answer_of q text b list) n e room, room);
      stays = others_stay counts entries (answer_of q text b list);
    }
