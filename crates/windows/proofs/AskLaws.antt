-- Questions, branch by branch: what is wrong with one, what comes of it after the test, and what is known where steps are counted.
-- Assumes nothing.
use mathlib.Core.Path.{◌≡◌, refl, sym, ap, ◌∙◌, subst}
use mathlib.Core.Bool.{Bool, true, false, cond, true≢false}
use mathlib.Core.List.{List, []}
use Prim.Native.Nat.{ℕ, ◌-◌, ◌*◌, ◌≤◌}
use native.Mathlib.Omega.{arith}
use lib.Dec.{eqb, ltb}
use lib.ListN.{length, get_or}
use borrow.Author.Tests.{eqb-true, ltb-false}
use Rattle.std.proofs.lemmas.Bool.Decides.{nat_tests}
use Rattle.notation.specs.Texts.{model_of}
use Rattle.notation.specs.working.Machine as N
use Rattle.notation.specs.working.Answer.{answer}
use Rattle.std.specs.Prelude.{Option, Some, None, Result, Ok, Err}
use Rattle.refusals.specs.declared.Reason.{Reason}
use Rattle.refusals.specs.Reasons.{number_of, reason_of}
use Rattle.conditions.specs.Outcomes.{declined}
use Rattle.conditions.specs.declared.outcome.Declined.{Declined}
use Rattle.acceptance.specs.working.Test.{test_in, test_of}
use Rattle.traces.specs.working.Passing.{trace_passed, last_place, header, passed_steps_of}
use Rattle.traces.proofs.TracesPassed.{HasTrace, text_passed, steps-passed, steps-declined}
use Rattle.traces.proofs.Contents.{commands-counted}
use Rattle.meaning.proofs.Number.{first-length}
use Rattle.windows.specs.Bursts.{occurs, counts_of}
use Rattle.windows.specs.Questions.{fault_of, refusal_of}
use Rattle.windows.specs.working.Sliding.{tally_of, fresh}
use Rattle.windows.specs.working.Surveying.{commands_at, reason_for, tally_for, going, begin_in, begin_after, begin_for, begin_of}
use Rattle.windows.specs.declared.record.Question.{Question}
use Rattle.windows.specs.declared.record.Question.TheVariants as Q
use Rattle.windows.specs.declared.record.Unanswered.{Unanswered}
use Rattle.windows.specs.declared.record.Unanswered.TheVariants as U
use Rattle.windows.specs.declared.record.Tally.{Tally}
use Rattle.windows.specs.declared.record.Begun.{Begun}
use Rattle.windows.proofs.Tallies.{fresh-is}

-- Which reason a number tells.
some_reason : (t : Bool) (x r : Reason) → ◌≡◌ {A = Option Reason} (Some r) (cond t None (Some x)) → (t ≡ false) × (r ≡ x)
some_reason true x r e = cc
some_reason false x r e = (refl, cc)

no_reason : (t : Bool) (x : Reason) → ◌≡◌ {A = Option Reason} None (cond t None (Some x)) → t ≡ true
no_reason true x e = refl
no_reason false x e = cc

-- A question's refusal has the number of a reason.
abbrev Told : ℕ → Type 0
Told n = (n ≡ 0 → ⊥) → number_of (reason_of n) ≡ n

chosen_told : (t : Bool) (x y : ℕ) → Told x → Told y → Told (cond t x y)
chosen_told true x y f g = f
chosen_told false x y f g = g

told_none : Told 0
told_none h = absurd (h refl)

told_8 : Told 8
unfolding number_of reason_of
told_8 h = refl

told_10 : Told 10
unfolding number_of reason_of
told_10 h = refl

told_16 : Told 16
unfolding number_of reason_of
told_16 h = refl

fault_told : (q : Question) (commands : ℕ) → Told (fault_of q commands)
unfolding fault_of
fault_told Q.Steps commands = told_none
fault_told (Q.Counts room) commands = search (chosen_told, told_none, told_8)
fault_told (Q.Burst k w) commands = search (chosen_told, told_none, told_10, told_16)

pub refusal_told : (q : Question) (commands places steps n : ℕ) → refusal_of q commands places steps ≡ n → 1 ≤ n → number_of (reason_of n) ≡ n
unfolding refusal_of
refusal_told q commands places steps n e h =
    let f : Told (refusal_of q commands places steps) = chosen_told (ltb places steps) 8 _ told_8 (fault_told q commands) in
    subst Told e f (λ z. omega (arith, h, z))

-- What comes of a question: what the test answers comes first, and then what the sheet's header and its steps tell.
begin-told_in : (q : Question) (b : List ℕ) (places : ℕ) (x : N.Outcome) → trace_passed (test_in x b) ≡ false
    → begin_for x q b places ≡ Err (U.Declined (declined (test_in x b)))
unfolding begin_for begin_after test_in
begin-told_in q b places (N.read x) e = rw e refl
begin-told_in q b places (N.refused n i) e = refl

begin_passed_in : (q : Question) (b : List ℕ) (places : ℕ) (x : N.Outcome) → trace_passed (test_in x b) ≡ true
    → begin_for x q b places ≡ begin_in header q (get_or b 8 0) b places
unfolding begin_for begin_after test_in
begin_passed_in q b places (N.read x) e =
    rw e (ap (λ (n : ℕ). begin_in header q n b places) (sym (commands-counted (model_of x) b e)))
begin_passed_in q b places (N.refused n i) e = absurd (true≢false (sym e))

-- What a question begins with, where it is refused and where it is not.
begun_by : (t : Bool) (x y : Begun) (e : Unanswered) → ◌≡◌ {A = Result Begun Unanswered} (Ok x) (cond t (Ok y) (Err e)) → (t ≡ true) × (x ≡ y)
begun_by true x y e f = (refl, cc)
begun_by false x y e f = cc

module _ (q : Question) (text b : List ℕ) (places : ℕ) where
  pub begin-told : trace_passed (test_of text b) ≡ false → begin_of q text b places ≡ Err (U.Declined (declined (test_of text b)))
  unfolding begin_of test_of
  begin-told e = begin-told_in q b places (answer text) e

  pub begin_passed : trace_passed (test_of text b) ≡ true → begin_of q text b places ≡ begin_in header q (get_or b 8 0) b places
  unfolding begin_of test_of
  begin_passed e = begin_passed_in q b places (answer text) e

  -- As the code has it: what is told in place of the number of steps.
  pub begin_declined : (told : Declined) → Err told ≡ passed_steps_of text b → begin_of q text b places ≡ Err (U.Declined told)
  begin_declined told is =
      let t = steps-declined text b told is in
      begin-told t.0 ∙ ap (λ (x : Declined). Err (U.Declined x)) (sym t.1)

  -- And that number, with that of the commands.
  module _ (steps : ℕ) (is : Ok steps ≡ passed_steps_of text b) (commands : ℕ) (known : commands ≡ get_or b 8 0) where
    abbrev first : ℕ
    first = refusal_of q (get_or b 8 0) places (last_place header b)

    first-refusal : refusal_of q commands places steps ≡ first
    first-refusal =
        ap (λ (n : ℕ). refusal_of q n places steps) known ∙ ap (refusal_of q (get_or b 8 0) places) (steps-passed text b steps is).1

    pub begin_refused : (r : Reason) → Some r ≡ reason_for (refusal_of q commands places steps) → begin_of q text b places ≡ Err (U.Refused r)
    unfolding begin_in reason_for
    begin_refused r e =
        let t = some_reason (eqb first 0) (reason_of first) r (e ∙ ap reason_for first-refusal) in
        begin_passed (steps-passed text b steps is).0 ∙ rw (t.0, t.1) refl

    pub begin_goes : None ≡ reason_for (refusal_of q commands places steps) → (l : List ℕ) → l ≡ counts_of (commands_at header b steps) → (t : Tally) → t ≡ tally_for q
        → begin_of q text b places ≡ Ok (record { steps = steps; counts = l; from = t })
    unfolding begin_in reason_for
    begin_goes e l c t f =
        let n = steps-passed text b steps is in
        let none : eqb first 0 ≡ true = no_reason (eqb first 0) (reason_of first) (e ∙ ap reason_for first-refusal) in
        let there : Begun = going q (last_place header b) (counts_of (commands_at header b (last_place header b))) in
        let same : there ≡ record { steps = steps; counts = l; from = t } = cc (n.1, c, f) in
        begin_passed n.0 ∙ rw none (ap Ok same)

  -- What is told in its place is what the test answers, where that is no trace that passes.
  declined_by : (t : Bool) (y : Begun) (r : Reason) (d : Declined) → ◌≡◌ {A = Result Begun Unanswered} (Err (U.Declined d)) (cond t (Ok y) (Err (U.Refused r))) → ⊥
  declined_by true y r d e = cc
  declined_by false y r d e = cc

  never-declined : (d : Declined) → Err (U.Declined d) ≡ begin_in header q (get_or b 8 0) b places → ⊥
  unfolding begin_in
  never-declined d e = declined_by (eqb (refusal_of q (get_or b 8 0) places (last_place header b)) 0) _ _ d e

  pub declined_so : (d : Declined) → Err (U.Declined d) ≡ begin_of q text b places → d ≡ declined (test_of text b)
  declined_so d e = by_outcome (trace_passed (test_of text b)) refl
    where
      by_outcome : (t : Bool) → trace_passed (test_of text b) ≡ t → d ≡ declined (test_of text b)
      by_outcome true f = absurd (never-declined d (e ∙ begin_passed f))
      by_outcome false f = let z = begin-told f in cc

  -- What is known of what it begins with.
  module _ (begun : Begun) (began : Ok begun ≡ begin_of q text b places) where
    begun-passed : (t : Bool) → trace_passed (test_of text b) ≡ t → trace_passed (test_of text b) ≡ true
    begun-passed true e = e
    begun-passed false e = let z = begin-told e in cc

    pub is-passed : trace_passed (test_of text b) ≡ true
    is-passed = begun-passed (trace_passed (test_of text b)) refl

    pub begun_so : (eqb (refusal_of q (get_or b 8 0) places (last_place header b)) 0 ≡ true) × (begun ≡ going q (last_place header b) (counts_of (commands_at header b (last_place header b))))
    unfolding begin_in
    begun_so = begun_by (eqb (refusal_of q (get_or b 8 0) places (last_place header b)) 0) begun _ _ (began ∙ begin_passed is-passed)

-- What is known where steps are counted: the list has a place for each, the sheet has them all, and nothing is seen yet.
pub record Counting (b : List ℕ) (places : ℕ) (begun : Begun) : Type 0 where
  pub room : begun.steps ≤ places
  pub few : begun.steps ≤ 6551
  pub there : 10 * begun.steps ≤ length b - 17
  pub width : 1 ≤ begun.from.width
  pub unseen : begun.from ≡ tally_of begun.from.command begun.from.width []

-- A question that is not refused: there is room, and the width of a burst is at least 1.
pub has_room : (q : Question) (commands places n : ℕ) (t : Bool) → ltb places n ≡ t → cond t 8 (fault_of q commands) ≡ 0 → (n ≤ places) × (fault_of q commands ≡ 0)
has_room q commands places n true e f = absurd (omega (arith, f))
has_room q commands places n false e f = (ltb-false places n e, f)

has_width : (k w commands : ℕ) → fault_of (Q.Burst k w) commands ≡ 0 → 1 ≤ w
unfolding fault_of
has_width k w commands e = grind (arith, nat_tests)

module _ (b : List ℕ) (H : HasTrace b) (commands places : ℕ) where
  abbrev n : ℕ
  n = last_place header b

  few-steps : n ≤ 6551
  few-steps = omega (arith, H.room, H.short)

  all_there : 10 * n ≤ length b - 17
  all_there = omega (arith, H.room)

  counting_going : (q : Question) → refusal_of q commands places n ≡ 0 → (l : List ℕ) → Counting b places (going q n l)
  unfolding refusal_of fault_of tally_for fresh
  counting_going Q.Steps f l =
      record { room = (has_room Q.Steps commands places n (ltb places n) refl f).0; few = few-steps; there = all_there; width = omega arith; unseen = fresh-is 0 1 }
  counting_going (Q.Counts room) f l =
      record { room = (has_room (Q.Counts room) commands places n (ltb places n) refl f).0; few = few-steps; there = all_there; width = omega arith; unseen = fresh-is 0 1 }
  counting_going (Q.Burst k w) f l =
      let h = has_room (Q.Burst k w) commands places n (ltb places n) refl f in
      record { room = h.0; few = few-steps; there = all_there; width = has_width k w commands h.1; unseen = fresh-is k w }

-- What is known of what a question begins with, as the code has it; and there are sixteen counts.
module _ (q : Question) (text b : List ℕ) (places : ℕ) (begun : Begun) (began : Ok begun ≡ begin_of q text b places) where
  pub counting_as : Counting b places begun
  counting_as =
      let t = begun_so q text b places begun began in
      subst (Counting b places) (sym t.1)
      (counting_going b (text_passed text b (is-passed q text b places begun began)) (get_or b 8 0) places q (eqb-true _ _ t.0) (counts_of (commands_at header b (last_place header b))))

  pub counts-long : length begun.counts ≡ 16
  unfolding counts_of
  counts-long =
      ap (λ (x : Begun). length x.counts) (begun_so q text b places begun began).1 ∙ first-length 16 (λ k. occurs k (commands_at header b (last_place header b)))
