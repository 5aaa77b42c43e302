-- What is replied to every text, all bytes and every number, in words.
-- Assumes nothing.
use mathlib.Core.Path.{◌≡◌, refl, sym, ap, ◌∙◌, subst}
use mathlib.Core.Logic.{◌↔◌, ◌⊎◌, inl, inr, ⊎_elim}
use mathlib.Core.Bool.{Bool, true, false, cond, true≢false}
use mathlib.Core.List.{List}
use Prim.Native.Nat.{ℕ, ◌<◌, ◌≤◌}
use native.Mathlib.Omega.{arith}
use lib.Dec.{ltb}
use Rattle.notation.specs.Model.{Model}
use Rattle.notation.specs.Texts.{TextSays, TextRefused}
use Rattle.notation.specs.working.Machine as N
use Rattle.notation.proofs.Texts.{says-answer, refused-answer, one_answer, answers_recased}
use Rattle.notation.proofs.Regular.{all_regular}
use Rattle.meaning.specs.OneRow.{state_count}
use Rattle.meaning.specs.Evidence.{safe, in_map}
use Rattle.sheets.specs.Sheets.{System, size, system_of}
use Rattle.sheets.specs.SheetTexts.{AreBytes, SheetSays}
use Rattle.sheets.proofs.SheetOpened.{map_found}
use Rattle.sheets.proofs.SheetSplit.{says_iff_reads}
use Rattle.conditions.specs.Outcomes as O
use Rattle.conditions.specs.Outcomes.{declined}
use Rattle.conditions.specs.declared.outcome.Outcome.TheVariants.{SafeHolds, Void, TraceHolds, FailsA, FailsB, FailsC, FailsD, FailsE, FailsF}
use Rattle.conditions.specs.declared.outcome.Declined.{Declined}
use Rattle.conditions.specs.declared.outcome.Declined.TheVariants.{Refused}
use Rattle.conditions.proofs.Declining.{wording_declined}
use Rattle.std.specs.Prelude.{Result, Ok, Err}
use Rattle.refusals.specs.Reasons.{number_of, reason_of, refusal_of}
use Rattle.refusals.proofs.Texts.{text_reason}
use Rattle.conditions.specs.working.Judging.{outcome_of}
use Rattle.acceptance.specs.Promises as T
use Rattle.acceptance.specs.Promises.{answer_to}
use Rattle.acceptance.specs.working.Test.{test_of}
use Rattle.acceptance.proofs.Claims as C
use Rattle.acceptance.proofs.Places.{answers_bounded}
use Rattle.acceptance.proofs.TestMeans.{numbers_fit, all-given}
use Rattle.questions.specs.Answers.{Wording, yes, no, told, wording_of}
use Rattle.questions.specs.Promises.{reply_to, LetsMapPass, ReachedTells, RefusalTells, AskedWithoutCase, Bounded, RepliesBounded}
use Rattle.questions.specs.working.Asking.{map_passed, map_of, member_reply, asked_of, reached_in, reached_of}
use Rattle.questions.proofs.MapsAsked.{passed_found, member_beyond, member_below, asked-not, asked-map}

-- An outcome is in words one that lets a map pass, or it is not that of a map that passes.
either_way : (o : O.Tested) → LetsMapPass (O.wording_of o) ⊎ (map_passed o ≡ false)
unfolding O.wording_of
either_way (Ok SafeHolds) = inl (inl refl)
either_way (Ok Void) = inl (inr refl)
either_way (Ok TraceHolds) = inr refl
either_way (Ok FailsA) = inr refl
either_way (Ok FailsB) = inr refl
either_way (Ok FailsC) = inr refl
either_way (Ok FailsD) = inr refl
either_way (Ok FailsE) = inr refl
either_way (Ok FailsF) = inr refl
either_way (Err r) = inr refl

-- Which of the two a bit is called.
yes_iff : (x : Bool) → (wording_of (Ok x) ≡ yes) ↔ (x ≡ true)
unfolding wording_of
yes_iff true = (λ e. refl, λ e. refl)
yes_iff false = (λ e. cc, λ e. cc)

no_iff : (x : Bool) → (wording_of (Ok x) ≡ no) ↔ (x ≡ false)
unfolding wording_of
no_iff true = (λ e. cc, λ e. cc)
no_iff false = (λ e. refl, λ e. refl)

-- The reply for a text that says a model is that for the model.
pub said : (text : List ℕ) (m : Model) → TextSays text m → (b : List ℕ) (t : ℕ) → reached_of text b t ≡ asked_of (system_of m) b t
unfolding reached_of reached_in
said text m s b t =
    ap (λ (o : N.Outcome). reached_in o b t) (says-answer s.says) ∙ ap (λ (n : Model). asked_of (system_of n) b t) s.meant

module _ (text : List ℕ) (m : Model) (says : TextSays text m) (b : List ℕ) (hb : AreBytes b) where
  -- What the test's answer in words tells of the outcome for the model.
  passed : LetsMapPass (answer_to text b) → map_passed (outcome_of (system_of m) b) ≡ true
  passed (inl e) = ap map_passed ((all-given m (all_regular text m says) b hb).safe_holds.1 ((C.test-tells text m says b hb).safe_holds.0 e))
  passed (inr e) = ap map_passed ((all-given m (all_regular text m says) b hb).void.1 ((C.test-tells text m says b hb).void.0 e))

  failed : ¬ (LetsMapPass (answer_to text b)) → map_passed (outcome_of (system_of m) b) ≡ false
  failed h = ap map_passed (C.said text m says b) ∙ ⊎_elim (λ p. absurd (h p)) (λ e. e) (either_way (test_of text b))

  pub whether : LetsMapPass (answer_to text b) ⊎ (¬ (LetsMapPass (answer_to text b)))
  whether = ⊎_elim (λ p. inl p) (λ e. inr (λ p. true≢false (sym (passed p) ∙ ap map_passed (C.said text m says b) ∙ e))) (either_way (test_of text b))

  module _ (t : ℕ) where
    of_map : LetsMapPass (answer_to text b) → reply_to text b t ≡ wording_of (member_reply (state_count m) (map_of (system_of m) b) t)
    of_map h = ap wording_of (said text m says b t ∙ asked-map (system_of m) b t (passed h))

    no-map : ¬ (LetsMapPass (answer_to text b)) → reply_to text b t ≡ told (answer_to text b)
    unfolding wording_of
    no-map h = ap wording_of (said text m says b t ∙ asked-not (system_of m) b t (failed h)) ∙ ap told (wording_declined (outcome_of (system_of m) b) ∙ ap O.wording_of (C.said text m says b))

    no-state : LetsMapPass (answer_to text b) → state_count m ≤ t → reply_to text b t ≡ told (O.returned 10 0)
    unfolding wording_of O.wording_of O.wording_of_declined number_of reason_of
    no-state h l = of_map h ∙ ap wording_of (member_beyond (state_count m) (map_of (system_of m) b) t l)

    module _ (h : LetsMapPass (answer_to text b)) (map : List ℕ) (w : SheetSays (system_of m) b (safe map)) (l : t < state_count m) where
      -- The map that the bytes say is the one that is asked.
      same_map : map ≡ map_of (system_of m) b
      same_map =
          let i = (says_iff_reads (system_of m) (numbers_fit m (all_regular text m says)) b hb (safe map)).0 w in
          let j = (map_found (system_of m) b (passed_found (system_of m) b (passed h))).reads in
          cc

      of_member : reply_to text b t ≡ wording_of (Ok (in_map map t))
      of_member =
          of_map h
          ∙ ap wording_of (member_below (state_count m) (map_of (system_of m) b) t l)
          ∙ ap (λ (n : List ℕ). wording_of (Ok (in_map n t))) (sym same_map)

pub reached-tells : ReachedTells
reached-tells text m says b hb t =
    record {
      member = λ h map w l. subst (λ (r : Wording). (r ≡ yes) ↔ (in_map map t ≡ true)) (sym (of_member text m says b hb t h map w l)) (yes_iff (in_map map t));
      no_member = λ h map w l. subst (λ (r : Wording). (r ≡ no) ↔ (in_map map t ≡ false)) (sym (of_member text m says b hb t h map w l)) (no_iff (in_map map t));
      no_state = no-state text m says b hb t;
      no_map = no-map text m says b hb t;
    }

pub refusal-tells : RefusalTells
unfolding reached_of reached_in wording_of O.wording_of O.wording_of_declined
refusal-tells text n i r b t =
    let e = refused-answer r in
    ap (λ (o : N.Outcome). wording_of (reached_in o b t)) e ∙ ap (λ (k : ℕ). told (O.returned k i)) (text_reason text n i e)

pub asked_without_case : AskedWithoutCase
unfolding reached_of
asked_without_case text other r b t = ap (λ (o : N.Outcome). wording_of (reached_in o b t)) (answers_recased r)

-- Only a refusal has numbers: 10 and 0 where there is no such state, and else those of the test's answer.
bounded_if : (x y z : Bool) (d : Declined) → T.Bounded (O.wording_of_declined d) → Bounded (wording_of (cond x (cond y (Ok z) (Err (Refused (refusal_of 10 0)))) (Err d)))
unfolding wording_of O.wording_of O.wording_of_declined number_of reason_of
bounded_if true true true d h = tt
bounded_if true true false d h = tt
bounded_if true false z d h = (omega arith, omega arith, omega arith)
bounded_if false y z d h = h

asked_bounded : (M : System) (b : List ℕ) (t : ℕ) → T.Bounded (O.wording_of (outcome_of M b)) → Bounded (wording_of (asked_of M b t))
unfolding asked_of member_reply
asked_bounded M b t h =
    bounded_if (map_passed (outcome_of M b)) (ltb t (size M)) (in_map (map_of M b) t) (declined (outcome_of M b)) (subst T.Bounded (sym (wording_declined (outcome_of M b))) h)

pub replies_bounded : RepliesBounded
replies_bounded text b t = go (one_answer text).some
  where
    go : ((m : Model) × TextSays text m) ⊎ ((n i : ℕ) × TextRefused text n i) → Bounded (reply_to text b t)
    go (inl (m, says)) =
        subst (λ (r : Result Bool Declined). Bounded (wording_of r)) (sym (said text m says b t))
        (asked_bounded (system_of m) b t (subst (λ (o : O.Tested). T.Bounded (O.wording_of o)) (sym (C.said text m says b)) (answers_bounded text b)))
    go (inr (n, i, r)) =
        subst Bounded (sym (refusal-tells text n i r b t)) (subst T.Bounded (C.text_comes_first text n i r b) (answers_bounded text b))
