-- The report of a text has the lines of what there is to find of its model, or is the line of its first refusal.
-- Assumes nothing.
use mathlib.Core.Path.{◌≡◌, refl, ap, ◌∙◌}
use mathlib.Core.List.{List}
use Prim.Native.Nat.{ℕ}
use Rattle.notation.specs.Notation.{Tree}
use Rattle.notation.specs.Texts.{TextSaysTree, model_of}
use Rattle.notation.specs.working.Machine.{refused}
use Rattle.notation.specs.working.Answer.{answer}
use Rattle.notation.proofs.Texts.{says-answer, refused-answer}
use Rattle.notation.proofs.Regular.{all_regular}
use Rattle.meaning.specs.Evidence.{Verdict}
use Rattle.exploration.specs.Findings.{Finds}
use Rattle.exploration.proofs.FindsRight.{finds}
use Rattle.exploration.proofs.FindsOnce.{finds-once}
use Rattle.lines.specs.Lines.{refusal_line}
use Rattle.reporting.specs.Reports.{report_lines}
use Rattle.reporting.specs.Promises.{ReportTells}
use Rattle.reporting.specs.working.Reporting.{found_for, report_in, report_of}

-- A text that says a tree.
module _ (text : List ℕ) (x : Tree) (says : TextSaysTree text x) where
  pub found-lines : report_of text ≡ report_lines text x (found_for (model_of x))
  unfolding report_in
  found-lines = ap (report_in text) (says-answer says)

  some : Finds (model_of x) (found_for (model_of x))
  some = finds (model_of x) (all_regular text (model_of x) (record { tree = x; says = says; meant = refl }))

  found : (v : Verdict) → Finds (model_of x) v → found_for (model_of x) ≡ v
  found v F = finds-once (model_of x) (found_for (model_of x)) v some F

pub refused-lines : (text : List ℕ) (n i : ℕ) → answer text ≡ refused n i → report_of text ≡ refusal_line n i
unfolding report_in
refused-lines text n i e = ap (report_in text) e

pub report-tells : ReportTells
report-tells text =
    record {
      some = λ x says. (found_for (model_of x), some text x says);
      finds = λ x v says F. found-lines text x says ∙ ap (report_lines text x) (found text x says v F);
      refuses = λ n i r. refused-lines text n i (refused-answer r);
    }
