-- The reply for a text: its refusal, or what the sheet is asked over the flat form of its model.
-- Assumes nothing.
use mathlib.Core.Path.{◌≡◌, refl, sym, ap, ◌∙◌}
use mathlib.Core.Bool.{cond}
use mathlib.Core.List.{List}
use Prim.Native.Nat.{ℕ}
use Rattle.std.specs.Prelude.{Ok, Err}
use Rattle.refusals.specs.declared.Refusal.{Refusal}
use Rattle.notation.specs.Tokens.{Name}
use Rattle.notation.specs.Layout.{layout_of}
use Rattle.notation.specs.Model.{Model}
use Rattle.notation.specs.Regular.{Regular}
use Rattle.notation.specs.Texts.{model_of, names_of}
use Rattle.notation.specs.working.Machine as N
use Rattle.meaning.specs.OneRow.{state_count}
use Rattle.reader.specs.declared.Code.{Code}
use Rattle.reader.specs.Read.{code_of, read_code}
use Rattle.reader.proofs.ReadTexts.{regular}
use Rattle.evaluation.specs.declared.plan.Plan.{Plan}
use Rattle.sheets.specs.Sheets.{system_of}
use Rattle.sheets.specs.working.FlatSystem.{system_in}
use Rattle.conditions.specs.Outcomes.{Tested, declined}
use Rattle.conditions.specs.declared.outcome.Declined.TheVariants.{Refused}
use Rattle.acceptance.specs.working.Test.{plan_of, ReadInto}
use Rattle.acceptance.proofs.TestTexts.{flat, read_of, refused_of, plan_read}
use Rattle.questions.specs.working.Asking.{map_passed, map_of, member_reply, asked_of, reached_in, reached_of}

-- Over the flat form of a model a sheet is asked what it is asked over the model: the test answers the same, and so are the states and the header's length.
flat_asked : (m : Model) → Regular m → (ns : List Name) (b : List ℕ) (s : ℕ)
    → let c = code_of (layout_of m) ns in asked_of (system_in c.ops (plan_of c)) b s ≡ asked_of (system_of m) b s
unfolding asked_of code_of layout_of
flat_asked m g ns b s =
    ap (λ (o : Tested). cond (map_passed o) (member_reply (state_count m) (map_of (system_of m) b) s) (Err (declined o))) ((flat m g ns).same b)

-- A text that was read, and one that is refused.
module _ (text : List ℕ) {ops : List ℕ} (b : List ℕ) (s : ℕ) where
  pub reached_read : {plan : Plan} → ReadInto text (Ok plan) ops → asked_of (system_in ops plan) b s ≡ reached_of text b s
  unfolding reached_in reached_of
  reached_read {plan = plan} P =
      let R = read_of text P plan refl in
      ap (λ (l : List ℕ). asked_of (system_in l plan) b s) P.coded
      ∙ ap (λ (p : Plan). asked_of (system_in (read_code text).ops p) b s) (plan_read text P plan refl)
      ∙ ap (λ (c : Code). asked_of (system_in c.ops (plan_of c)) b s) R.code
      ∙ flat_asked (model_of R.tree) (regular R) (names_of R.tree) b s
      ∙ sym (ap (λ (o : N.Outcome). reached_in o b s) R.told)

  pub reached_refused : {r : Refusal} → ReadInto text (Err r) ops → reached_of text b s ≡ Err (Refused r)
  unfolding reached_in reached_of
  reached_refused {r = r} P =
      let t = refused_of text P r refl in
      ap (λ (o : N.Outcome). reached_in o b s) t.2 ∙ ap (λ (x : Refusal). Err (Refused x)) (sym t.3)
