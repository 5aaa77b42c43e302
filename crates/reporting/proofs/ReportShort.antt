-- No report is longer than the room for it.
-- Assumes nothing.
use mathlib.Core.Path.{◌≡◌, refl, sym, subst}
use mathlib.Core.List.{List, [], ◌∷◌, ◌++◌}
use Prim.Native.Nat.{ℕ, ◌+◌, ◌*◌, ◌≤◌, ◌<◌}
use native.Mathlib.Omega.{arith}
use lib.ListN.{length, length-append}
use lib.Pow.{pow_mono}
use Rattle.notation.specs.Bytes.{bytes}
use Rattle.notation.specs.Tokens.{Word}
use Rattle.notation.specs.Notation.{Tree}
use Rattle.notation.specs.Regular.{Every}
use Rattle.notation.specs.Texts.{TextSaysTree, model_of}
use Rattle.notation.specs.working.Machine as N
use Rattle.notation.specs.working.Answer.{answer}
use Rattle.notation.proofs.Texts.{says_iff_answer}
use Rattle.meaning.specs.OneRow.{state_count, TraceStep}
use Rattle.meaning.specs.Evidence.{StepFits, Verdict, safe_by, void_by, unsafe_by}
use Rattle.notation.proofs.Members.{weaken}
use Rattle.verdicts.proofs.SheetBytes.{word_lt}
use Rattle.lines.specs.Lines.{decimal_of}
use Rattle.lines.proofs.Digits.{digits-below}
use Rattle.lines.proofs.Parts.{refusal-short}
use Rattle.lines.proofs.LineLengths.{one_word, two-words, four_words, five-words}
use Rattle.counting.specs.Counts.{setting_count}
use Rattle.counting.specs.CountLines.{count_lines}
use Rattle.counting.proofs.LinesShort.{count-lines-short}
use Rattle.names.specs.Names.{command_name}
use Rattle.names.proofs.NameArrays.{told}
use Rattle.reporting.specs.Reports.{counts_line, safe_line, void_line, unsafe_line, start_line, step_line, step_lines, verdict_lines, report_lines, longest_report}
use Rattle.reporting.specs.Promises.{ReportsFit}
use Rattle.reporting.specs.working.Reporting.{found_for, report_of}
use Rattle.reporting.proofs.ReportTells.{found-lines, refused-lines}
use Rattle.reporting.proofs.TextReports.{sheet-length, regular, few, passes, sheet-short}

-- Lines with numbers of so many digits.
counts-short : (a b c : ℕ) → a < 10 → b < 100 → c < 100 → length (counts_line a b c) ≤ 14
unfolding bytes
counts-short a b c h k l =
    omega (arith, four_words (bytes "model") (decimal_of a) (decimal_of b) (decimal_of c), digits-below 0 19 a h, digits-below 1 19 b k, digits-below 1 19 c l)

safe-short : length safe_line ≤ 5
unfolding bytes
safe-short = omega (arith, one_word (bytes "safe"))

void-short : length void_line ≤ 5
unfolding bytes
void-short = omega (arith, one_word (bytes "void"))

unsafe_short : (n : ℕ) → n < 10000 → length (unsafe_line n) ≤ 12
unfolding bytes
unsafe_short n h = omega (arith, two-words (bytes "unsafe") (decimal_of n), digits-below 3 19 n h)

start-short : (s : ℕ) → s < 10000 → length (start_line s) ≤ 11
unfolding bytes
start-short s h = omega (arith, two-words (bytes "start") (decimal_of s), digits-below 3 19 s h)

step-short : (i : ℕ) (w : Word) (c t : ℕ) → i < 10000 → length w ≤ 16 → c < 1000 → t < 10000 → length (step_line i w c t) ≤ 36
unfolding bytes
step-short i w c t h k l g =
    omega
    (arith, five-words (bytes "step") (decimal_of i) w (decimal_of c) (decimal_of t), digits-below 3 19 i h, digits-below 2 19 c l, digits-below 3 19 t g)

-- A step with a short name and small numbers.
record Short (called : ℕ → Word) (x : TraceStep) : Type 0 where
  name : length (called x.command) ≤ 16
  word : x.word < 1000
  after : x.after < 10000

steps-short : (called : ℕ → Word) (i : ℕ) (xs : List TraceStep) → i + length xs ≤ 10000 → Every (Short called) xs → length (step_lines called i xs) ≤ 36 * length xs
unfolding step_lines
steps-short called i [] h f = omega arith
steps-short called i (x ∷ xs) h f =
    omega (
      arith,
      length-append (step_line i (called x.command) x.word x.after) (step_lines called (i + 1) xs),
      step-short i (called x.command) x.word
          x.after (omega arith) f.0.name f.0.word f.0.after,
      steps-short called (i + 1) xs (omega arith) f.1,
    )

module _ (text : List ℕ) (x : Tree) (says : TextSaysTree text x) where
  step_small : (y : TraceStep) → StepFits (model_of x) y → Short (command_name text x) y
  step_small y f =
      record {
        name = (told text x says (regular text x says) y.command f.command).short;
        word = omega (arith, word_lt (model_of x) (regular text x says) y.command y.word f.command f.word);
        after = omega (arith, f.after, few text x says);
      }

  -- The counts with few bytes behind them.
  word-short : (l : List ℕ) → length l ≤ 3089 → length (counts_line (model_of x).shared_names (model_of x).row_names (length (model_of x).commands) ++ l) ≤ longest_report
  word-short l h =
      let g = regular text x says in
      omega (
        arith,
        length-append (counts_line (model_of x).shared_names (model_of x).row_names (length (model_of x).commands)) l,
        counts-short
            (model_of x).shared_names (model_of x).row_names (length (model_of x).commands) (omega (arith, g.few_shared)) (omega (arith, g.few_row))
            (omega (arith, g.few_commands)),
      )

  found-short : (v : Verdict) → found_for (model_of x) ≡ v → length (report_lines text x v) ≤ longest_report
  unfolding report_lines verdict_lines
  found-short (safe_by map) e =
      let g = regular text x says in
      let l : length (count_lines (state_count (model_of x)) (setting_count (model_of x)) map) ≤ 3084 =
      count-lines-short (state_count (model_of x)) (setting_count (model_of x)) map (few text x says) (pow_mono g.few_shared) in
      word-short (safe_line ++ count_lines (state_count (model_of x)) (setting_count (model_of x)) map)
      (omega (arith, safe-short, length-append safe_line (count_lines (state_count (model_of x)) (setting_count (model_of x)) map)))
  found-short (void_by map) e = word-short void_line (omega (arith, void-short))
  found-short (unsafe_by s xs) e =
      let g = regular text x says in
      let p = passes text x says s xs e in
      let n : length xs ≤ 4095 = omega (arith, sheet-short text x says s xs e, sheet-length (model_of x) s xs, few text x says) in
      let l = step_lines (command_name text x) 1 xs in
      omega (
        arith,
        length-append (counts_line (model_of x).shared_names (model_of x).row_names (length (model_of x).commands))
            (unsafe_line (length xs) ++ (start_line s ++ l)),
        length-append (unsafe_line (length xs)) (start_line s ++ l),
        length-append (start_line s) l,
        counts-short
            (model_of x).shared_names (model_of x).row_names (length (model_of x).commands) (omega (arith, g.few_shared)) (omega (arith, g.few_row))
            (omega (arith, g.few_commands)),
        unsafe_short (length xs) (omega arith),
        start-short s (omega (arith, p.start_fits, few text x says)),
        steps-short
            (command_name text x) 1 xs (omega arith) (weaken (StepFits (model_of x)) (Short (command_name text x)) step_small xs p.steps_fit),
      )

pub reports_fit : ReportsFit
reports_fit text = go (answer text) refl
  where
    go : (o : N.Outcome) → answer text ≡ o → length (report_of text) ≤ longest_report
    go (N.read x) q =
        let says = (says_iff_answer text x).1 q in
        subst (λ l. length l ≤ longest_report) (sym (found-lines text x says)) (found-short text x says (found_for (model_of x)) refl)
    go (N.refused n p) q = subst (λ l. length l ≤ longest_report) (sym (refused-lines text n p q)) (omega (arith, refusal-short n p))
