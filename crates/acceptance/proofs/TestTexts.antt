-- The test of a text: its refusal, or the outcome that the flat form of its model gives.
-- Assumes nothing.
use mathlib.Core.Path.{◌≡◌, refl, sym, ap, ◌∙◌, subst}
use mathlib.Core.List.{List, ◌++◌, map}
use Prim.Native.Nat.{ℕ, ◌+◌, ◌<◌, ◌≤◌}
use native.Mathlib.Omega.{arith}
use lib.ListN.{length, get_or, drop, replicate, length-map, get_or-append}
use Rattle.notation.specs.Tokens.{Name}
use Rattle.notation.specs.Model.{Model, stars}
use Rattle.notation.specs.Layout.{layout_of}
use Rattle.notation.specs.Regular.{Regular}
use Rattle.notation.specs.Texts.{model_of, names_of}
use Rattle.notation.specs.working.Machine as N
use Rattle.notation.specs.working.Answer.{answer}
use Rattle.meaning.specs.Meaning.{command_at, idle}
use Rattle.meaning.proofs.Lists.{every-at}
use Rattle.reader.specs.declared.Code.{Code}
use Rattle.reader.specs.Read.{filled, code_of, reading_of, code_in, read_code}
use Rattle.reader.specs.working.Whole.{counted}
use Rattle.reader.proofs.Arrays.{filled-front}
use Rattle.statements.specs.declared.cursor.Ledger.{Ledger}
use Rattle.reader.proofs.ReadTexts.{ReadAs, read_as, refused_as, regular}
use Rattle.evaluation.specs.Promises.{Computes}
use Rattle.evaluation.specs.declared.plan.Plan.{Plan}
use Rattle.evaluation.specs.declared.one_row.OneRow.{OneRow}
use Rattle.evaluation.specs.working.CodeSystem.{stars_in, Sound}
use Rattle.evaluation.proofs.FlatForms.{flat_computes, ends-counted, mapped}
use Rattle.sheets.specs.Sheets.{system_of}
use Rattle.sheets.specs.working.FlatSystem.{system_in}
use Rattle.conditions.specs.working.Judging.{outcome_of}
use Rattle.acceptance.specs.working.Test.{TableOf, test_in, test_of, plan_of, plan_in, ReadInto}
use Rattle.conditions.specs.Outcomes.{Tested}
use Rattle.std.specs.Prelude.{Result, Ok, Err}
use Rattle.refusals.specs.declared.Refusal.{Refusal}
use Rattle.refusals.specs.Reasons.{number_of, refusal_of}
use Rattle.refusals.proofs.Numbers.{reason_told}
use Rattle.acceptance.proofs.Alike.{outcome_alike}

-- The flat form of a model in arrays is ready for the test, and the outcome over it is that of the model.
pub record Flat (c : Code) (m : Model) : Type 0 where
  pub sound : Sound (plan_of c)
  pub same : (b : List ℕ) → outcome_of (system_in c.ops (plan_of c)) b ≡ outcome_of (system_of m) b

module _ (m : Model) (g : Regular m) (ns : List Name) where
  abbrev pub counts : List ℕ
  counts = map (λ k. length (stars k)) m.commands

  counts-length : length counts ≡ length m.commands
  counts-length = length-map m.commands (λ k. length (stars k))

  pub star-count : (k : ℕ) → k < length m.commands → stars_in (filled 16 counts) k ≡ length (stars (command_at m k))
  unfolding stars_in
  star-count k h =
      ap (λ (l : List ℕ). get_or l k 0) (filled-front 16 counts (omega (arith, counts-length, g.few_commands)))
      ∙ get_or-append counts (drop (length counts) (replicate 16 0)) 0 k (omega (arith, counts-length))
      ∙ mapped (λ c. length (stars c)) 0 idle m.commands k h

  ends-length : length (layout_of m).ends ≡ 4 + length m.commands
  ends-length = ends-counted m

  pub flat_code : Computes m (filled 2048 (layout_of m).code) (filled 20 (layout_of m).ends)
  flat_code =
      let code = (layout_of m).code in
      let ends = (layout_of m).ends in
      subst (λ (l : List ℕ). Computes m l (filled 20 ends)) (sym (filled-front 2048 code (omega (arith, g.short))))
      (subst (λ (l : List ℕ). Computes m (code ++ drop (length code) (replicate 2048 0)) l) (sym (filled-front 20 ends (omega (arith, ends-length, g.few_commands))))
      (flat_computes m g (drop (length code) (replicate 2048 0)) (drop (length ends) (replicate 20 0))))

  pub flat : Flat (code_of (layout_of m) ns) m
  unfolding code_of layout_of stars_in
  flat =
      record {
        sound =
            record {
              few_bits = g.few_names;
              named = omega arith;
              few_commands = g.few_commands;
              few_stars = λ k h. omega (arith, star-count k h, every-at (λ c. length (stars c) ≤ 8) m.commands idle k g.few_stars h);
              parted = flat_code.parted;
            };
        same = λ b. outcome_alike _ _ _ _ _ _ _ _ _ _ _ _ star-count flat_code.starts flat_code.breaks flat_code.next b;
      }

-- A text that was read says a model, whose flat form is the code and whose outcome is the test's.
pub record Said (text : List ℕ) (c : Code) : Type 0 where
  pub model : Model
  pub flat : Flat c model
  pub test : (b : List ℕ) → outcome_of (system_of model) b ≡ test_of text b

module _ (text : List ℕ) (c : Code) (e : Ok c ≡ reading_of text) where
  was_read_lem : Said text c
  unfolding test_in test_of
  was_read_lem =
      let R = read_as text c e in
      record {
        model = model_of R.tree;
        flat = subst (λ (d : Code). Flat d (model_of R.tree)) (sym R.code) (flat (model_of R.tree) (regular R) (names_of R.tree));
        test = λ b. sym (ap (λ (o : N.Outcome). test_in o b) R.told);
      }

  -- The plan of what was read is within the limits.
  pub code_sound : Sound (plan_of c)
  code_sound = was_read_lem.flat.sound

-- The code that a plan is of, and the refusal that was told in its place.
plan_code : (x : Result Code Refusal) (plan : Plan) → plan_in x ≡ Ok plan → (Ok (code_in x) ≡ x) × (plan ≡ plan_of (code_in x))
plan_code (Ok c) plan e = (refl, cc)
plan_code (Err r) plan e = (cc, cc)

plan_refusal : (x : Result Code Refusal) (r : Refusal) → plan_in x ≡ Err r → Err r ≡ x
plan_refusal (Ok c) r e = cc
plan_refusal (Err s) r e = cc

module _ (text : List ℕ) {told : Result Plan Refusal} {ops : List ℕ} (P : ReadInto text told ops) where
  -- What was read, in terms of the plan alone.
  module _ (plan : Plan) (h : told ≡ Ok plan) where
    code_read : (Ok (read_code text) ≡ reading_of text) × (plan ≡ plan_of (read_code text))
    code_read = plan_code (reading_of text) plan (sym P.planned ∙ h)

    pub read_of : ReadAs text (read_code text)
    read_of = read_as text (read_code text) code_read.0

    pub plan_read : plan ≡ plan_of (read_code text)
    plan_read = code_read.1

    pub read_sound : Sound plan
    read_sound = subst Sound (sym plan_read) (code_sound text (read_code text) code_read.0)

    -- The outcome for a text that was read is that over its code.
    pub test_read : (b : List ℕ) (o : Tested) → o ≡ outcome_of (system_in ops plan) b → o ≡ test_of text b
    test_read b o q =
        let s = was_read_lem text (read_code text) code_read.0 in
        q
        ∙ ap (λ (l : List ℕ). outcome_of (system_in l plan) b) P.coded
        ∙ ap (λ (p : Plan). outcome_of (system_in (read_code text).ops p) b) plan_read
        ∙ s.flat.same b
        ∙ s.test b

  -- What was refused, in terms of the refusal alone; the outcome is that refusal.
  module _ (r : Refusal) (h : told ≡ Err r) where
    pub refused_of : (n i : ℕ) × (answer text ≡ N.refused n i) × (r ≡ refusal_of n i)
    refused_of =
        let e : refusal_of (number_of r.reason) r.place ≡ r = rw (reason_told r.reason) in
        (number_of r.reason, r.place, refused_as text r (plan_refusal (reading_of text) r (sym P.planned ∙ h)), sym e)

    pub test-refused : (b : List ℕ) → Err r ≡ test_of text b
    unfolding test_in test_of
    test-refused b = ap Err refused_of.3 ∙ sym (ap (λ (o : N.Outcome). test_in o b) refused_of.2)

-- Counts that were read are those of a plan within the limits.
pub few_bits_lem : (text : List ℕ) (l : Ledger) → Ok l ≡ counted (reading_of text) → l.shared + l.row ≤ 12
few_bits_lem text l h = go (reading_of text) refl h
  where
    go : (x : Result Code Refusal) → x ≡ reading_of text → Ok l ≡ counted x → l.shared + l.row ≤ 12
    go (Ok c) e q =
        let z : l ≡ record { shared = c.shared; row = c.row; commands = c.commands } = cc in
        subst (λ (k : Ledger). k.shared + k.row ≤ 12) (sym z) (code_sound text c e).few_bits
    go (Err r) e q = cc

-- A table that was read has the plan and the code words that were read; a refusal in its place is the text's.
pub table_read : (text : List ℕ) {r : Result OneRow Refusal} → TableOf text r → (t : OneRow) → r ≡ Ok t → ReadInto text (Ok t.plan) t.ops.now
table_read text P t h = subst (TableOf text) h P

pub table_refused : (text : List ℕ) {r : Result OneRow Refusal} → TableOf text r → (e : Refusal) → r ≡ Err e → ReadInto text (Err e) (read_code text).ops
table_refused text P e h = record { planned = subst (TableOf text) h P; coded = refl }
