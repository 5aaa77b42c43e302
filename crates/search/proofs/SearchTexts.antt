-- The search of a text: its refusal, or what the search over the flat form of its model leaves.
-- Assumes nothing.
use mathlib.Core.Path.{◌≡◌, refl, sym, ap, ◌∙◌, subst}
use mathlib.Core.List.{List}
use Prim.Native.Nat.{ℕ}
use Rattle.notation.specs.working.Machine as N
use Rattle.std.specs.Prelude.{Result, Ok, Err}
use Rattle.refusals.specs.declared.Refusal.{Refusal}
use Rattle.evaluation.specs.declared.plan.Plan.{Plan}
use Rattle.sheets.specs.Sheets.{System}
use Rattle.sheets.specs.working.FlatSystem.{system_in}
use Rattle.acceptance.specs.working.Test.{ReadInto}
use Rattle.acceptance.proofs.TestTexts.{read_of, refused_of}
use Rattle.verdicts.specs.Left.{Left}
use Rattle.verdicts.specs.working.Searching.{search_for, search_in, search_of}
use Rattle.verdicts.specs.Answers.{Searched}
use Rattle.pauses.proofs.FlatTexts.{tree-search}
use Rattle.search.specs.working.Ends.{Ends}
use Rattle.search.proofs.PausesHeld.{flat_same}

-- What is left for a text that was read is what is left over its code, and for one that was refused every buffer is as it was.
module _ (text : List ℕ) {told : Result Plan Refusal} {ops : List ℕ} (P : ReadInto text told ops) where
  pub search-read : {plan : Plan} → told ≡ Ok plan → (a b c : List ℕ) {f : Searched} {a₁ b₁ c₁ : List ℕ}
      → Ends (search_for (system_in ops plan) a b c) f a₁ b₁ c₁
      → Ends (search_of text a b c) f a₁ b₁ c₁
  search-read {plan} h a b c {f} {a₁} {b₁} {c₁} l =
      let R = read_of text P plan h in
      subst (λ (L : Left). Ends L f a₁ b₁ c₁) (ap (λ (M : System). search_for M a b c) (flat_same text P h) ∙ tree-search text R.tree R.told a b c) l

  pub search-refused : {r : Refusal} → told ≡ Err r → (a b c : List ℕ) → Ends (search_of text a b c) (Err r) a b c
  unfolding search_in search_of
  search-refused {r} h a b c =
      let t = refused_of text P r h in
      subst (λ (L : Left). Ends L (Err r) a b c) (sym (ap (λ (o : N.Outcome). search_in o a b c) t.2)) (ap Err t.3, (refl, refl, refl))
