-- What is reserved is what a search needs, and just enough.
-- Assumes nothing.
use mathlib.Core.Path.{◌≡◌, sym, ap, ◌∙◌, subst}
use mathlib.Core.Logic.{◌⊎◌, inl, inr}
use mathlib.Core.List.{List}
use Prim.Native.Nat.{ℕ, ◌+◌, ◌*◌, ◌≤◌}
use native.Mathlib.Omega.{arith}
use Rattle.std.specs.Prelude.{Ok}
use Rattle.notation.specs.Model.{Model}
use Rattle.notation.specs.Texts.{TextSays, TextRefused}
use Rattle.notation.specs.working.Machine as N
use Rattle.notation.proofs.Places.{refusals_bounded}
use Rattle.notation.proofs.Regular.{all_regular}
use Rattle.notation.proofs.Texts.{says-answer, refused-answer, one_answer, one-model, answers_recased}
use Rattle.meaning.specs.OneRow.{state_count}
use Rattle.exploration.specs.Trials.{most_trials}
use Rattle.exploration.proofs.TrialCounts.{trials-few}
use Rattle.verdicts.specs.Promises.{Room, SearchRefused}
use Rattle.verdicts.specs.working.Searching.{search_of}
use Rattle.verdicts.proofs.Places.{made-within, trials_bounded}
use Rattle.verdicts.proofs.SearchTells.{made_of, of_text, search-tells, searched-not-refused}
use Rattle.verdicts.proofs.SheetsPass.{few}
use Rattle.reserving.specs.Answers.{Wording, reserved, returned, wording_of}
use Rattle.reserving.specs.Promises.{answer_for, ReserveTells, RefusalTells, ReservedWithoutCase, JustEnough, ReservesJustEnough, Bounded, ReservationsBounded}
use Rattle.reserving.specs.working.Reserving.{needs_of, reserve_in, reserve_of}

pub reserve-tells : ReserveTells
unfolding reserve_of reserve_in wording_of
reserve-tells text m s =
    ap (λ (o : N.Outcome). wording_of (reserve_in o)) (says-answer s.says) ∙ ap (λ (n : Model). wording_of (Ok (needs_of n))) s.meant

pub refusal-tells : RefusalTells
unfolding reserve_of reserve_in wording_of
refusal-tells text n i r = ap (λ (o : N.Outcome). wording_of (reserve_in o)) (refused-answer r) ∙ ap (λ k. returned k i) (of_text r)

pub reserved_without_case : ReservedWithoutCase
unfolding reserve_of
reserved_without_case text other r = ap (λ (o : N.Outcome). wording_of (reserve_in o)) (answers_recased r)

-- The numbers in an answer.
abbrev entries_in : Wording → ℕ
entries_in (reserved e b t) = e
entries_in (returned n p) = 0

abbrev bytes_in : Wording → ℕ
bytes_in (reserved e b t) = b
bytes_in (returned n p) = 0

abbrev trials_in : Wording → ℕ
trials_in (reserved e b t) = t
trials_in (returned n p) = 0

module _ (text : List ℕ) (m : Model) (says : TextSays text m) where
  enough-for : JustEnough text (state_count m) (7 + 10 * state_count m) (most_trials m)
  enough-for =
      record {
        enough = λ first second sheet a b c n p e. searched-not-refused text m says first second sheet (a, b, c) n p e;
        first_short = λ first second sheet h. missing first second sheet (λ r. omega (arith, r.0));
        second_short = λ first second sheet h. missing first second sheet (λ r. omega (arith, r.1));
        sheet_short = λ first second sheet h. missing first second sheet (λ r. omega (arith, r.2));
        most = λ first second sheet v n k e. trials_bounded text m says first second sheet v n k e;
        made = λ o said. subst (λ (u : Model). made_of o ≤ most_trials u) (one-model text o m said says) (made-within o);
      }
    where
      missing : (first second sheet : List ℕ) → ¬ (Room m first second sheet) → SearchRefused 8 0 first second sheet (search_of text first second sheet)
      missing first second sheet h = (search-tells text m says first second sheet).room_missing h

  enough-told : (e b t : ℕ) → answer_for text ≡ reserved e b t → JustEnough text e b t
  enough-told e b t h =
      let q = sym (reserve-tells text m says) ∙ h in
      subst (λ (x : ℕ). JustEnough text x b t) (ap entries_in q)
      (subst (λ (x : ℕ). JustEnough text (state_count m) x t) (ap bytes_in q)
      (subst (λ (x : ℕ). JustEnough text (state_count m) (7 + 10 * state_count m) x) (ap trials_in q) enough-for))

-- Which of the two an answer is.
abbrev kind : Wording → ℕ
kind (reserved e b t) = 1
kind (returned n p) = 0

pub reserves_just_enough : ReservesJustEnough
reserves_just_enough text e b t h = go (one_answer text).some
  where
    go : ((m : Model) × TextSays text m) ⊎ ((n i : ℕ) × TextRefused text n i) → JustEnough text e b t
    go (inl (m, says)) = enough-told text m says e b t h
    go (inr (n, i, r)) = let z : ◌≡◌ {A = ℕ} 0 1 = ap kind (sym (refusal-tells text n i r) ∙ h) in absurd (omega arith)

pub reservations_bounded : ReservationsBounded
reservations_bounded text = go (one_answer text).some
  where
    go : ((m : Model) × TextSays text m) ⊎ ((n i : ℕ) × TextRefused text n i) → Bounded (answer_for text)
    go (inl (m, says)) =
        let h = few text m says in
        subst Bounded (sym (reserve-tells text m says)) (h, omega arith, trials-few m (all_regular text m says))
    go (inr (n, i, r)) =
        let B = refusals_bounded text n i r in
        subst Bounded (sym (refusal-tells text n i r)) (B.low, B.high, B.near)
