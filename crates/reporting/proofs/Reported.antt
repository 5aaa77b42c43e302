-- The report over what the search answered and left is the report of the text.
-- Assumes nothing.
use mathlib.Core.Path.{◌≡◌, refl, sym, ap, ◌∙◌, subst}
use mathlib.Core.List.{List}
use Prim.Native.Nat.{ℕ, ◌+◌, ◌*◌, ◌≤◌}
use native.Mathlib.Omega.{arith}
use lib.ListN.{length, take}
use lib.Seq.{sets, length-sets}
use Rattle.notation.specs.Notation.{Tree}
use Rattle.notation.specs.Model.{Model}
use Rattle.notation.specs.Texts.{TextSays, TextSaysTree, TextRefused, model_of}
use Rattle.notation.proofs.Texts.{refused-answer}
use Rattle.meaning.specs.OneRow.{state_count, TraceStep}
use Rattle.meaning.specs.Evidence.{safe, trace, Verdict, safe_by, void_by, unsafe_by}
use Rattle.refusals.specs.declared.Refusal.{Refusal}
use Rattle.refusals.specs.Reasons.{number_of, refusal_of}
use Rattle.refusals.proofs.Texts.{text_reason}
use Rattle.std.specs.Prelude.{Result, Ok, Err}
use Rattle.reader.specs.Read.{reading_of, code_in, read_code}
use Rattle.reader.specs.declared.Code.{Code}
use Rattle.sheets.specs.Sheets.{system_of, sheet_bytes}
use Rattle.verdicts.specs.declared.finding.Finding.{Finding}
use Rattle.verdicts.specs.declared.finding.Finding.TheVariants.{Safe, Void, Unsafe}
use Rattle.verdicts.specs.Answers.{Searched}
use Rattle.verdicts.specs.Promises.{Room}
use Rattle.verdicts.specs.Left.{Left}
use Rattle.verdicts.specs.working.Searching.{verdict_of, left_with, left_alone, search_of}
use Rattle.verdicts.proofs.SearchTells.{made_of, whatever_left}
use Rattle.verdicts.proofs.SheetsPass as P
use Rattle.verdicts.proofs.SheetsPass.{front}
use Rattle.lines.specs.Lines.{refusal_line}
use Rattle.reporting.specs.working.Reporting.{found_for, report_of}
use Rattle.reporting.specs.working.Writing.{safe_report, void_report, trace_report, MapShown, Printable}
use Rattle.reporting.proofs.ReportTells.{refused-lines}
use Rattle.reporting.proofs.TextReports.{few, was_read, map-sheet-short, map_shown, safe_said, void_said, sheet-short, trace_shown, trace_said}

-- The first n bytes of the buffer are a sheet that can be shown so, and make the text's report.
pub record SheetTold (text : List ℕ) (Shows : List ℕ → Type 0) (report : List ℕ → List ℕ) (n : ℕ) (buffer : List ℕ) : Type 0 where
  pub within : n ≤ length buffer
  pub shown : Shows (take n buffer)
  pub lines : report (take n buffer) ≡ report_of text

-- They are a map, or a trace.
abbrev pub MapTold : List ℕ → ℕ → List ℕ → Type 0
MapTold text n buffer = SheetTold text (MapShown (read_code text)) (safe_report (read_code text)) n buffer

abbrev pub TraceTold : List ℕ → ℕ → List ℕ → Type 0
TraceTold text n buffer = SheetTold text (Printable text (read_code text)) (trace_report text (read_code text)) n buffer

-- What the answer tells of the report. Only a text that was read has a finding.
pub record Told (text : List ℕ) (left : Left) : Type 0 where
  pub refusal : (r : Refusal) → Err r ≡ left.answer → refusal_line (number_of r.reason) r.place ≡ report_of text
  pub found : (f : Finding) → Ok f ≡ left.answer → reading_of text ≡ Ok (read_code text)
  pub safely : (n t : ℕ) (d : List ℕ) → Ok (Safe n t) ≡ left.answer → d ≡ left.sheet → MapTold text n d
  pub voidly : (n : ℕ) → Ok (Void n) ≡ left.answer → void_report (read_code text) ≡ report_of text
  pub unsafely : (n : ℕ) (d : List ℕ) → Ok (Unsafe n) ≡ left.answer → d ≡ left.sheet → TraceTold text n d

-- The length of the sheet that an answer tells.
abbrev length_in : Searched → ℕ
length_in (Ok (Safe n t)) = n
length_in (Ok (Void n)) = n
length_in (Ok (Unsafe n)) = n
length_in (Err r) = 0

-- The refusal that an answer tells.
abbrev refusal_in : Searched → Refusal
refusal_in (Ok f) = refusal_of 0 0
refusal_in (Err r) = r

-- Every lent buffer has room for the search of every model.
module _ (text a b c : List ℕ) (la : 4096 ≤ length a) (lb : 4096 ≤ length b) (lc : 40967 ≤ length c) where
  told-refused : (n i : ℕ) → TextRefused text n i → Told text (left_alone n i a b c)
  told-refused n i r =
      let refused = refused-answer r in
      record {
        refusal = λ q e.
            ap (λ (x : Refusal). refusal_line (number_of x.reason) x.place) (ap refusal_in e)
            ∙ ap (λ k. refusal_line k i) (text_reason text n i refused)
            ∙ sym (refused-lines text n i refused);
        found = λ f e. cc;
        safely = λ k t d e h. cc;
        voidly = λ k e. cc;
        unsafely = λ k d e h. cc;
      }

  module _ (x : Tree) (says : TextSaysTree text x) where
    -- The bytes v were put at the front of the buffer.
    told-front : (Shows : List ℕ → Type 0) (report : List ℕ → List ℕ) (v : List ℕ) → length v ≤ 7 + 10 * state_count (model_of x) → Shows v → report v ≡ report_of text
        → (n : ℕ) (d : List ℕ) → n ≡ length v → d ≡ sets c 0 v → SheetTold text Shows report n d
    told-front Shows report v l shown lines n d h k =
        let w : length v ≤ length c = omega (arith, l, few text x says) in
        let t : take n d ≡ v = ap (λ l. take n l) k ∙ ap (λ i. take i (sets c 0 v)) h ∙ front c v w in
        record { within = omega (arith, ap length k, length-sets c 0 v); shown = subst Shows (sym t) shown; lines = ap report t ∙ lines }

    told-map : (map : List ℕ) → found_for (model_of x) ≡ safe_by map → (n : ℕ) (d : List ℕ)
        → n ≡ length (sheet_bytes (system_of (model_of x)) (safe map)) → d ≡ sets c 0 (sheet_bytes (system_of (model_of x)) (safe map)) → MapTold text n d
    told-map map f =
        told-front (MapShown (read_code text)) (safe_report (read_code text)) (sheet_bytes (system_of (model_of x)) (safe map))
        (map-sheet-short text x says map f) (map_shown text x says map f) (safe_said text x says map f)

    told-trace : (s : ℕ) (xs : List TraceStep) → found_for (model_of x) ≡ unsafe_by s xs → (n : ℕ) (d : List ℕ)
        → n ≡ length (sheet_bytes (system_of (model_of x)) (trace s xs)) → d ≡ sets c 0 (sheet_bytes (system_of (model_of x)) (trace s xs)) → TraceTold text n d
    told-trace s xs f =
        told-front (Printable text (read_code text)) (trace_report text (read_code text)) (sheet_bytes (system_of (model_of x)) (trace s xs))
        (sheet-short text x says s xs f) (trace_shown text x says s xs f) (trace_said text x says s xs f)

    told-found : (v : Verdict) → found_for (model_of x) ≡ v → (j : ℕ) → Told text (left_with (system_of (model_of x)) v j a b c)
    unfolding verdict_of
    told-found (safe_by map) f j =
        record {
          refusal = λ r e. cc;
          found = λ g e. was_read text x says;
          safely = λ n t d e k. told-map map f n d (ap length_in e) k;
          voidly = λ n e. cc;
          unsafely = λ n d e k. cc;
        }
    told-found (void_by map) f j =
        record {
          refusal = λ r e. cc;
          found = λ g e. was_read text x says;
          safely = λ n t d e k. cc;
          voidly = λ n e. void_said text x says map f;
          unsafely = λ n d e k. cc;
        }
    told-found (unsafe_by s xs) f j =
        record {
          refusal = λ r e. cc;
          found = λ g e. was_read text x says;
          safely = λ n t d e k. cc;
          voidly = λ n e. cc;
          unsafely = λ n d e k. told-trace s xs f n d (ap length_in e) k;
        }

  room : (m : Model) → TextSays text m → Room m a b c
  room m says = let h = P.few text m says in (omega arith, omega arith, omega arith)

  pub told_left : Told text (search_of text a b c)
  told_left =
      whatever_left text a b c (Told text) told-refused
      (λ m says h. absurd (h (room m says)))
      (λ m says r.
      subst (λ (n : Model). Told text (left_with (system_of n) (found_for n) (made_of n) a b c)) says.meant
      (told-found says.tree says.says (found_for (model_of says.tree)) refl (made_of (model_of says.tree))))

-- The code that was read.
pub code_known : (text : List ℕ) {code : Code} {read : Result Code Refusal} → read ≡ Ok code → read ≡ reading_of text → code ≡ read_code text
code_known text e f = ap code_in (sym e ∙ f)
