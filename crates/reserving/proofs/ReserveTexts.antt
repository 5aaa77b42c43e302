-- The reservation of a text: its refusal, or what the flat form of its model gives.
-- Assumes nothing.
use mathlib.Core.Path.{◌≡◌, sym, ap, ◌∙◌}
use mathlib.Core.List.{List}
use Prim.Native.Nat.{ℕ, ◌+◌, ◌*◌, ◌^◌}
use Rattle.std.specs.Prelude.{Result, Ok, Err}
use Rattle.refusals.specs.declared.Refusal.{Refusal}
use Rattle.notation.specs.Tokens.{Name}
use Rattle.notation.specs.Model.{Model}
use Rattle.notation.specs.Layout.{layout_of}
use Rattle.notation.specs.Regular.{Regular}
use Rattle.notation.specs.Texts.{model_of, names_of}
use Rattle.meaning.specs.OneRow.{state_count}
use Rattle.reader.specs.Read.{code_of}
use Rattle.reader.proofs.ReadTexts.{regular}
use Rattle.evaluation.specs.declared.plan.Plan.{Plan}
use Rattle.acceptance.specs.working.Test.{plan_of, ReadInto}
use Rattle.acceptance.proofs.TestTexts.{star-count, read_of, refused_of, plan_read}
use Rattle.exploration.proofs.TrialCounts.{words_are_lem}
use Rattle.reserving.specs.declared.Reservation.{Reservation}
use Rattle.reserving.specs.working.Reserving.{needs_in, needs_of, reserve_in, reserve_of}

-- Over so many states and choice words.
abbrev reserved_with : ℕ → ℕ → Reservation
reserved_with states words = record { entries = states; bytes = 7 + 10 * states; trials = states * words }

-- The plan of a model's flat form tells what a search of the model needs.
flat_needs : (m : Model) → Regular m → (ns : List Name) → needs_in (plan_of (code_of (layout_of m) ns)) ≡ needs_of m
unfolding code_of layout_of
flat_needs m g ns =
    ap (reserved_with (state_count m))
    (words_are_lem _ m (λ k h. ap (λ (n : ℕ). 2 ^ n) (star-count m g ns k h)))

module _ (text : List ℕ) {told : Result Plan Refusal} {ops : List ℕ} (P : ReadInto text told ops) where
  pub was_read_lem : (plan : Plan) → told ≡ Ok plan → (r : Reservation) → r ≡ needs_in plan → Ok r ≡ reserve_of text
  unfolding reserve_in reserve_of
  was_read_lem plan h r e =
      let R = read_of text P plan h in
      ap Ok (e ∙ ap needs_in (plan_read text P plan h ∙ ap plan_of R.code) ∙ flat_needs (model_of R.tree) (regular R) (names_of R.tree)) ∙ sym (ap reserve_in R.told)

  pub was_refused_lem : (r : Refusal) → told ≡ Err r → Err r ≡ reserve_of text
  unfolding reserve_in reserve_of
  was_refused_lem r h =
      let t = refused_of text P r h in
      ap Err t.3 ∙ sym (ap reserve_in t.2)
