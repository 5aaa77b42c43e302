-- A search that is underway goes on, and finished it is what a search in one go leaves.
-- Assumes nothing.
use mathlib.Core.Path.{◌≡◌, sym, ap, ◌∙◌}
use mathlib.Core.Logic.{◌⊎◌, inl, inr}
use mathlib.Core.List.{List, []}
use Prim.Native.Nat.{ℕ, ◌≤◌}
use native.Mathlib.Omega.{arith}
use native.Mathlib.Nat.{le_trans}
use lib.ListN.{length}
use Rattle.std.specs.Prelude.{Ok, Err, IsOk, false}
use Rattle.std.proofs.Common.{rules}
use Rattle.refusals.specs.declared.Reason.{Reason}
use Rattle.refusals.specs.declared.Refusal.{Refusal}
use Rattle.refusals.specs.Reasons.{number_of, reason_of, refusal_of}
use Rattle.refusals.proofs.Numbers.{reason_told}
use Rattle.notation.specs.Model.{Model}
use Rattle.notation.specs.Texts.{TextSays, TextRefused}
use Rattle.notation.proofs.Texts.{one_answer, refused-answer}
use Rattle.exploration.specs.Pause.{Pause}
use Rattle.verdicts.specs.Left.{Left, Leaves}
use Rattle.verdicts.specs.Answers.{Searched as Answered}
use Rattle.verdicts.specs.working.Searching.{left_alone, search_in, search_of}
use Rattle.verdicts.proofs.SheetsPass.{few}
use Rattle.pauses.specs.Answers.{Wording, paused, returned}
use Rattle.pauses.specs.Held.{Holding}
use Rattle.pauses.specs.Promises.{TableRoom, here, portioned}
use Rattle.pauses.specs.working.Pausing.{open_of, portion_of, finish_of}
use Rattle.pauses.proofs.AnyCalls.{any_tells, refused-first}
use Rattle.pauses.proofs.Unaltered.{finish_agrees}
use Rattle.reporting.specs.working.Reporting.{Searched}
use Rattle.search.specs.Answers.{Paused, pause_for, wording_of}
use Rattle.search.specs.declared.position.Position.{Position}
use Rattle.report.specs.working.Underway.{Underway}

-- A position is no refusal.
never : (p : Pause) (n i : ℕ) → paused p ≡ returned n i → ⊥
never p n i e = cc

roomy : (text : List ℕ) (m : Model) → TextSays text m → (first second : List ℕ) → 4096 ≤ length first → 4096 ≤ length second → TableRoom m first second
roomy text m says first second a b = (le_trans (few text m says) a, le_trans (few text m says) b)

-- Opened.
module _ (text first second : List ℕ) where
  pub opened_underway : (p : Position) → wording_of (Ok p) ≡ (open_of text first second).answer → {f s : List ℕ} → Holding (open_of text first second) f s
      → 4096 ≤ length f → 4096 ≤ length s → Underway text (pause_for p) f s
  unfolding wording_of
  opened_underway p e {f} {s} h a b = go (one_answer text).some
    where
      go : ((m : Model) × TextSays text m) ⊎ ((n i : ℕ) × TextRefused text n i) → Underway text (pause_for p) f s
      go (inl (m, says)) =
          record {
            model = m;
            says = says;
            unaltered =
                record {
                  lent_first = first;
                  lent_second = second;
                  start = record { position = pause_for p; first = f; second = s };
                  opened = (sym e, sym h.0, sym h.1);
                  since = here;
                };
            first_long = a;
            second_long = b;
          }
      go (inr (n, i, r)) = absurd (never (pause_for p) n i (e ∙ (refused-first text n i r (pause_for p) 0 first second []).opened.answered))

-- A refusal is told by its number and its place.
told-alike : (a : Refusal) (n i : ℕ) → number_of a.reason ≡ n → a.place ≡ i → a ≡ refusal_of n i
told-alike a n i e f = ap (λ (r : Reason). record { reason = r; place = a.place }) (sym (reason_told a.reason)) ∙ ap (λ k. refusal_of k a.place) e ∙ ap (refusal_of n) f

-- Refused, as a search in one go is: only a text can be.
module _ (text first second sheet : List ℕ) (a : Refusal) where
  pub refused-searched : wording_of (Err a) ≡ (open_of text first second).answer → 4096 ≤ length first → 4096 ≤ length second → 40967 ≤ length sheet
      → Searched text (Err a) sheet
  unfolding wording_of search_of search_in
  refused-searched e h k c = go (one_answer text).some
    where
      none : Pause
      none = record { expanded = 0; met = 0; broke = false; trials = 0 }

      go : ((m : Model) × TextSays text m) ⊎ ((n i : ℕ) × TextRefused text n i) → Searched text (Err a) sheet
      go (inl (m, says)) =
          let A = (any_tells text m says none 0 first second []).opened (roomy text m says first second h k) in
          absurd (never A.position _ _ (sym A.answered ∙ sym e))
      go (inr (n, i, r)) =
          let O = (refused-first text n i r none 0 first second []).opened in
          let L : search_of text first second sheet ≡ left_alone n i first second sheet = ap (λ o. search_in o first second sheet) (refused-answer r) in
          let same : returned (number_of a.reason) a.place ≡ returned n i = e ∙ O.answered in
          let number : number_of a.reason ≡ n = cc in
          let place : a.place ≡ i = cc in
          let alike : a ≡ refusal_of n i = told-alike a n i number place in
          record {
            first = first;
            second = second;
            before = sheet;
            first_long = h;
            second_long = k;
            sheet_long = c;
            answered = ap Err alike ∙ sym (ap (λ (x : Left). x.answer) L);
            written = sym (ap (λ (x : Left). x.sheet) L);
          }

-- Underway.
module _ (text : List ℕ) (p : Position) (first second : List ℕ) (U : Underway text (pause_for p) first second) where
  pub portioned_underway : (k : ℕ) (q : Position) → wording_of (Ok q) ≡ (portion_of text (pause_for p) k first second).answer → {f s : List ℕ}
      → Holding (portion_of text (pause_for p) k first second) f s → 4096 ≤ length f → 4096 ≤ length s → Underway text (pause_for q) f s
  unfolding wording_of
  portioned_underway k q e {f} {s} h a b =
      let W = U.unaltered in
      record {
        model = U.model;
        says = U.says;
        unaltered =
            record {
              lent_first = W.lent_first;
              lent_second = W.lent_second;
              start = W.start;
              opened = W.opened;
              since = portioned _ W.since k (record { position = pause_for q; first = f; second = s }) (sym e, sym h.0, sym h.1);
            };
        first_long = a;
        second_long = b;
      }

  pub never_refused : (k : ℕ) (a : Paused) → wording_of a ≡ (portion_of text (pause_for p) k first second).answer → IsOk a
  unfolding wording_of
  never_refused k (Ok q) e = search rules
  never_refused k (Err r) e =
      let A = (any_tells text U.model U.says (pause_for p) k first second []).portion (roomy text U.model U.says first second U.first_long U.second_long) in
      absurd (never A.position _ _ (sym A.answered ∙ sym e))

  pub finished-searched : (sheet : List ℕ) → 40967 ≤ length sheet → (r : Answered) {f s o : List ℕ} → r ≡ (finish_of text (pause_for p) first second sheet).answer
      → Leaves (finish_of text (pause_for p) first second sheet) f s o → Searched text r o
  finished-searched sheet c r e l =
      let L = finish_agrees text U.model U.says (record { position = pause_for p; first = first; second = second }) U.unaltered sheet in
      record {
        first = first;
        second = second;
        before = sheet;
        first_long = U.first_long;
        second_long = U.second_long;
        sheet_long = c;
        answered = e ∙ ap (λ (x : Left). x.answer) L;
        written = l.2 ∙ ap (λ (x : Left). x.sheet) L;
      }
