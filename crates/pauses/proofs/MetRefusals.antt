-- What may be replied to whether a state has been met, of any tables.
-- Assumes nothing.
use mathlib.Core.Path.{◌≡◌, refl, sym, ap, ◌∙◌, subst}
use mathlib.Core.Bool.{Bool, true, false, true≢false}
use mathlib.Core.Logic.{◌⊎◌, inl, inr, ⊎_elim}
use mathlib.Core.List.{List}
use Prim.Native.Nat.{ℕ, ◌<◌, ◌≤◌}
use native.Mathlib.Omega.{arith}
use lib.Dec.{ltb}
use lib.ListN.{get_or}
use borrow.Author.Tests.{lt-ltb, le-ltb}
use Rattle.std.specs.Prelude.{Result, Ok, Err}
use Rattle.refusals.specs.Reasons.{number_of, reason_of, refusal_of}
use Rattle.refusals.proofs.Numbers.{number_told}
use Rattle.notation.specs.Model.{Model}
use Rattle.notation.specs.Texts.{longest_text, TextSays, TextRefused}
use Rattle.notation.specs.working.Machine as N
use Rattle.notation.proofs.Places.{refusals_bounded}
use Rattle.notation.proofs.Texts.{refused-answer, one_answer}
use Rattle.meaning.specs.OneRow.{state_count}
use Rattle.sheets.specs.Sheets.{size}
use Rattle.conditions.specs.Outcomes as O
use Rattle.conditions.specs.declared.outcome.Declined.{Declined}
use Rattle.conditions.specs.declared.outcome.Declined.TheVariants.{Refused}
use Rattle.exploration.proofs.Order.{lt_or_ge}
use Rattle.questions.specs.Answers as Q
use Rattle.questions.specs.Promises as QP
use Rattle.verdicts.proofs.SearchTells.{no_room, of_text}
use Rattle.pauses.specs.Promises.{TableRoom, MetRefusals, MetBounded}
use Rattle.pauses.specs.working.Pausing.{flat_of, tabled, met_for, met_in, met_of}
use Rattle.pauses.proofs.AnyCalls.{flat, sized, tables_there, tables_room, no_tables}

-- A reply, or the refusal with a number.
abbrev pub Replied : Type 0
Replied = Result Bool Declined

abbrev turned_away : ℕ → ℕ → Replied
turned_away n i = Err (Refused (refusal_of n i))

module _ (text : List ℕ) (m : Model) (says : TextSays text m) (t : ℕ) (first second : List ℕ) where
  met-is : met_of text t first second ≡ met_for (flat_of text) t first second
  unfolding met_of met_in
  met-is = ap (λ (o : N.Outcome). met_in o (met_for (flat_of text) t) first second) (flat text m says).read

  met_missing : ¬ (TableRoom m first second) → met_of text t first second ≡ turned_away 8 0
  unfolding met_for
  met_missing h = met-is ∙ rw (no_tables text m says first second h) refl

  module _ (r : TableRoom m first second) where
    met_beyond : state_count m ≤ t → met_of text t first second ≡ turned_away 10 0
    unfolding met_for
    met_beyond h =
        met-is ∙ rw (tables_there text m says first second r, le-ltb t (size (flat_of text)) (subst (λ (n : ℕ). n ≤ t) (sym (sized text m says)) h)) refl

    pub met_entry : t < state_count m → met_of text t first second ≡ Ok (ltb 0 (get_or second t 0))
    unfolding met_for
    met_entry h =
        met-is ∙ rw (tables_there text m says first second r, lt-ltb t (size (flat_of text)) (subst (λ (n : ℕ). t < n) (sym (sized text m says)) h)) refl

either : (b : Bool) → (Q.wording_of (Ok b) ≡ Q.yes) ⊎ (Q.wording_of (Ok b) ≡ Q.no)
unfolding Q.wording_of
either true = inl refl
either false = inr refl

refused-told : (text : List ℕ) (n i t : ℕ) (first second : List ℕ) → TextRefused text n i → met_of text t first second ≡ turned_away n i
unfolding met_of met_in
refused-told text n i t first second r = ap (λ (o : N.Outcome). met_in o (met_for (flat_of text) t) first second) (refused-answer r)

-- The number of such a refusal.
turned-away : (n i : ℕ) → number_of (reason_of n) ≡ n → Q.wording_of (turned_away n i) ≡ Q.told (O.returned n i)
unfolding Q.wording_of O.wording_of O.wording_of_declined
turned-away n i e = ap (λ k. Q.told (O.returned k i)) e

pub met-refusals : MetRefusals
met-refusals text t first second =
    record {
      of_text = λ n i r. ap Q.wording_of (refused-told text n i t first second r) ∙ turned-away n i (of_text r);
      of_tables = λ m says h. ap Q.wording_of (met_missing text m says t first second h) ∙ turned-away 8 0 no_room;
      of_state = λ m says r h. ap Q.wording_of (met_beyond text m says t first second r h) ∙ turned-away 10 0 (number_told 10 (omega arith) (omega arith));
      answered = λ m says r h.
          ⊎_elim
          (λ e. inl (ap Q.wording_of (met_entry text m says t first second r h) ∙ e))
          (λ e. inr (ap Q.wording_of (met_entry text m says t first second r h) ∙ e))
          (either (ltb 0 (get_or second t 0)));
    }

pub met_bounded : MetBounded
met_bounded text t first second = go (one_answer text).some
  where
    small : (n i : ℕ) → 1 ≤ n → n ≤ 8 → i ≤ longest_text → QP.Bounded (Q.told (O.returned n i))
    small n i a b c = (a, omega arith, omega (arith, c))

    state : (m : Model) → TextSays text m → TableRoom m first second → (t < state_count m) ⊎ (state_count m ≤ t) → QP.Bounded (Q.wording_of (met_of text t first second))
    state m says r (inl h) =
        ⊎_elim
        (λ e. subst QP.Bounded (sym e) tt)
        (λ e. subst QP.Bounded (sym e) tt)
        ((met-refusals text t first second).answered m says r h)
    state m says r (inr h) =
        subst QP.Bounded (sym ((met-refusals text t first second).of_state m says r h)) (omega arith, omega arith, omega arith)

    tables : (m : Model) → TextSays text m → (b : Bool) → tabled (flat_of text) first second ≡ b → QP.Bounded (Q.wording_of (met_of text t first second))
    tables m says true e = state m says (tables_room text m says first second e) (lt_or_ge t (state_count m))
    tables m says false e =
        subst QP.Bounded (sym ((met-refusals text t first second).of_tables m says (λ r. true≢false (sym (tables_there text m says first second r) ∙ e)))) (small 8 0 (omega arith) (omega arith) (omega arith))

    go : ((m : Model) × TextSays text m) ⊎ ((n i : ℕ) × TextRefused text n i) → QP.Bounded (Q.wording_of (met_of text t first second))
    go (inl (m, says)) = tables m says (tabled (flat_of text) first second) refl
    go (inr (n, i, r)) =
        let B = refusals_bounded text n i r in
        subst QP.Bounded (sym ((met-refusals text t first second).of_text n i r)) (small n i B.low (omega (arith, B.high)) B.near)
