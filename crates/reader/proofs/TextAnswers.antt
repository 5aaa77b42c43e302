-- The answer to a text: too long, a model in arrays that began as zeros, or a refusal.
-- Assumes nothing.
use Rattle.std.specs.Prelude.{Result, Ok, Err, is_err, true, false}
use mathlib.Core.Path.{◌≡◌, refl, sym, ap, ◌∙◌, subst}
use mathlib.Core.List.{List}
use Prim.Native.Nat.{ℕ, ◌≤◌, ◌<◌}
use lib.ListN.{length}
use borrow.Author.Tests.{le-leb, lt-leb}
use Rattle.notation.specs.Texts.{longest_text}
use Rattle.notation.specs.working.Lexing.{tokens}
use Rattle.notation.specs.working.Machine.{Outcome, reading, refused}
use Rattle.notation.specs.working.Answer.{answer}
use Rattle.refusals.specs.declared.Reason.TheVariants.{TextTooLong}
use Rattle.refusals.specs.declared.Refusal.{Refusal}
use Rattle.refusals.specs.Reasons.{number_of}
use Rattle.refusals.proofs.Numbers.{reason_told}
use Rattle.statements.specs.declared.cursor.Ledger.{Ledger}
use Rattle.reader.specs.declared.Code.{Code}
use Rattle.reader.specs.Read.{code_of, reading_in, reading_of, code_in, read_code}
use Rattle.reader.specs.working.Commands.{Arrays}
use Rattle.reader.specs.working.Whole.{Modelled, ModelSays, zeros, arrays_in, counted}

-- The answer of a text, and what is left in the arrays.
pub record Told (text : List ℕ) (r : Result Ledger Refusal) (s : Arrays) : Type 0 where
  pub told : r ≡ counted (reading_of text)
  pub stored : s ≡ arrays_in (read_code text)

-- As an answer c tells it.
told_as : {text : List ℕ} {r : Result Ledger Refusal} {s : Arrays} (c : Result Code Refusal) → reading_of text ≡ c → r ≡ counted c → s ≡ arrays_in (code_in c) → Told text r s
told_as c e t a = record { told = t ∙ ap counted (sym e); stored = a ∙ ap (λ (x : Result Code Refusal). arrays_in (code_in x)) (sym e) }

module _ (text : List ℕ) where
  -- A refusal with its number is that of the descent.
  refused-is : (r : Refusal) → answer text ≡ refused (number_of r.reason) r.place → reading_of text ≡ Err r
  unfolding reading_in
  refused-is r e = ap reading_in e ∙ ap (λ q. Err (record { reason = q; place = r.place })) (reason_told r.reason)

  pub too_long_lem : {s : Arrays} {r : Refusal} → s ≡ zeros → r ≡ record { reason = TextTooLong; place = longest_text } → longest_text < length text → Told text (Err r) s
  unfolding answer number_of
  too_long_lem {r = r} s e h =
      let k : answer text ≡ refused 1 longest_text = rw (lt-leb (length text) longest_text h) refl in
      told_as (Err r) (refused-is (record { reason = TextTooLong; place = longest_text }) k ∙ ap Err (sym e)) refl s

  module _ (h : length text ≤ longest_text) where
    fits : answer text ≡ reading (length text) (tokens text)
    unfolding answer
    fits = rw (le-leb (length text) longest_text h) refl

    module _ {s : Arrays} (b : s ≡ zeros) (t : Arrays) where
      -- Where the model was read, the arrays hold it; where the text is refused, zeros are put back into them.
      pub was_told : (r : Result Ledger Refusal) → is_err r ≡ false → ModelSays text s t r → Told text r t
      unfolding ModelSays reading_in code_of
      was_told (Ok l) z m =
          let n : Modelled text zeros t l = subst (λ (z : Arrays). Modelled text z t l) b m in
          told_as (reading_of text) refl (ap Ok n.ledger ∙ ap (λ (o : Outcome). counted (reading_in o)) (sym (fits ∙ n.says)))
          ((λ i. record { names = n.names i; ops = n.ops i; ends = n.ends i; stars = n.stars i }) ∙ ap (λ (o : Outcome). arrays_in (code_in (reading_in o))) (sym (fits ∙ n.says)))
      was_told (Err r) z m = cc

      pub was_refused_lem : (r : Result Ledger Refusal) → is_err r ≡ true → ModelSays text s t r → Told text r zeros
      unfolding ModelSays
      was_refused_lem (Ok l) z k = cc
      was_refused_lem (Err r) z k = told_as (Err r) (refused-is r (fits ∙ k.0)) refl refl
