-- The report over the flat form of a text's model and the bytes of what is found is the report of the text.
-- Assumes nothing.
use mathlib.Core.Path.{◌≡◌, refl, sym, ap, ◌∙◌, subst}
use mathlib.Core.List.{List, [], ◌∷◌, ◌++◌, append_assoc}
use Prim.Native.Nat.{ℕ, ◌+◌, ◌*◌, ◌≤◌, ◌<◌}
use native.Mathlib.Omega.{arith}
use lib.ListN.{length, take, drop}
use lib.Seq.{take-length}
use Rattle.notation.specs.Tokens.{Word}
use Rattle.notation.specs.Notation.{Tree}
use Rattle.notation.specs.Model.{Model}
use Rattle.notation.specs.Layout.{layout_of}
use Rattle.notation.specs.Regular.{Every, Regular}
use Rattle.notation.specs.Texts.{TextSays, TextSaysTree, model_of, names_of}
use Rattle.notation.specs.working.Machine as N
use Rattle.notation.proofs.Texts.{says-answer}
use Rattle.notation.proofs.Regular.{all_regular}
use Rattle.meaning.specs.OneRow.{state_count, TraceStep}
use Rattle.meaning.specs.Evidence.{safe, trace, StepFits, TracePasses, Verdict, safe_by, void_by, unsafe_by, evidence_of}
use Rattle.notation.proofs.Members.{weaken}
use Rattle.evaluation.proofs.Powers.{pow_small}
use Rattle.reader.specs.declared.Code.{Code}
use Rattle.reader.specs.Read.{code_of, code_in, name_array, reading_in, reading_of, read_code}
use Rattle.std.specs.Prelude.{Ok}
use Rattle.sheets.specs.Sheets.{System, system_of, sheet_bytes, header_bytes, map_bytes, start_bytes, steps_bytes, record_bytes, little}
use Rattle.sheets.specs.SheetTexts.{two_at, AreBytes, IsMap}
use Rattle.sheets.specs.working.SheetReading.{map_in, steps_in}
use Rattle.acceptance.proofs.TestMeans.{numbers_fit}
use Rattle.sheets.proofs.SheetWritten.{two-little, steps-there}
use Rattle.exploration.specs.Findings.{ExactMap, Finds}
use Rattle.exploration.proofs.FindsRight.{finds}
use Rattle.exploration.proofs.FoundShort.{trace-sheet-length}
use Rattle.verdicts.proofs.SearchTells as Left
use Rattle.counting.specs.Counts.{setting_count}
use Rattle.counting.specs.CountLines.{count_lines}
use Rattle.names.specs.Names.{command_name}
use Rattle.names.specs.working.Arrays.{name_in, Named}
use Rattle.names.proofs.NameArrays.{told}
use Rattle.reporting.specs.Reports.{counts_line, safe_line, unsafe_line, start_line, step_line, step_lines, verdict_lines, report_lines}
use Rattle.reporting.specs.working.Reporting.{found_for, report_of}
use Rattle.reporting.specs.working.Writing.{header_end, start_in, steps_of, trace_steps, payload_start, payload_length, safe_report, void_report, trace_report, MapShown, Printable}
use Rattle.reporting.proofs.ReportTells.{found-lines}

-- The bytes of a trace say its start state and its steps.
module _ (m : Model) (s : ℕ) (xs : List TraceStep) where
  abbrev M : System
  M = system_of m

  start-read : s < 65536 → start_in (sheet_bytes M (trace s xs)) ≡ s
  unfolding sheet_bytes header_bytes start_bytes record_bytes little two_at
  start-read h = two-little s h

  pub sheet-length : length (sheet_bytes M (trace s xs)) ≡ header_end + 8 + 10 * length xs
  unfolding header_bytes record_bytes little
  sheet-length = trace-sheet-length M s xs

  count-read : steps_of (sheet_bytes M (trace s xs)) ≡ length xs
  count-read = omega (arith, sheet-length)

  head-long : length (header_bytes M ++ start_bytes s) ≡ header_end + 8
  unfolding header_bytes start_bytes record_bytes little
  head-long = refl

  steps-read : Regular m → Every (StepFits m) xs → trace_steps (sheet_bytes M (trace s xs)) ≡ xs
  unfolding sheet_bytes
  steps-read g f =
      ap (steps_in (sheet_bytes M (trace s xs)) (header_end + 8)) count-read
      ∙ ap (λ l. steps_in l (header_end + 8) (length xs)) (sym (append_assoc (header_bytes M) (start_bytes s) (steps_bytes xs)))
      ∙ (steps-there M (numbers_fit m g) xs (header_bytes M ++ start_bytes s) (header_end + 8) head-long f).1

-- The bytes of a map's sheet say the map.
module _ (m : Model) (map : List ℕ) where
  abbrev map_sheet : List ℕ
  map_sheet = sheet_bytes (system_of m) (safe map)

  map-there : drop payload_start map_sheet ≡ map
  unfolding sheet_bytes header_bytes map_bytes record_bytes little
  map-there = refl

  map-sheet-length : length map_sheet ≡ payload_start + length map
  unfolding sheet_bytes header_bytes map_bytes record_bytes little
  map-sheet-length = omega arith

  map_read : map_in map_sheet payload_start (payload_length map_sheet) ≡ map
  unfolding map_in
  map_read =
      let e : payload_length map_sheet ≡ length map = omega (arith, map-sheet-length) in
      ap (λ k. take k (drop payload_start map_sheet)) e ∙ ap (take (length map)) map-there ∙ take-length map

-- Steps whose commands have the same names have the same lines.
lines_same : (f g : ℕ → Word) (i : ℕ) (xs : List TraceStep) → Every (λ (x : TraceStep). f x.command ≡ g x.command) xs → step_lines f i xs ≡ step_lines g i xs
unfolding step_lines
lines_same f g i [] h = refl
lines_same f g i (x ∷ xs) h =
    ap (λ w. step_line i w x.word x.after ++ step_lines f (i + 1) xs) h.0
    ∙ ap (λ l. step_line i (g x.command) x.word x.after ++ l) (lines_same f g (i + 1) xs h.1)

-- A text that says a tree.
module _ (text : List ℕ) (x : Tree) (says : TextSaysTree text x) where
  abbrev m : Model
  m = model_of x

  abbrev S : Verdict
  S = found_for m

  pub model_said : TextSays text m
  model_said = record { tree = x; says = says; meant = refl }

  pub regular : Regular m
  regular = all_regular text m model_said

  pub few : state_count m ≤ 4096
  few = pow_small (m.shared_names + m.row_names) (state_count m) regular.few_names refl

  -- The flat form is that of its model.
  abbrev code : Code
  code = code_of (layout_of m) (names_of x)

  code_read : read_code text ≡ code
  unfolding reading_in
  code_read = ap (λ (o : N.Outcome). code_in (reading_in o)) (says-answer says)

  pub was_read : reading_of text ≡ Ok (read_code text)
  unfolding reading_in
  was_read = ap reading_in (says-answer says) ∙ ap (λ c. Ok c) (sym code_read)

  -- Where a map is found.
  module _ (map : List ℕ) (e : S ≡ safe_by map) where
    exact : ExactMap m map
    exact = (subst (Finds m) e (finds m regular)).1

    pub map-sheet-short : length (map_sheet m map) ≤ 7 + 10 * state_count m
    map-sheet-short = subst (λ y. length (sheet_bytes (system_of m) (evidence_of y)) ≤ 7 + 10 * state_count m) e (Left.sheet-short m)

    counted-map : MapShown code (map_sheet m map)
    unfolding code_of layout_of
    counted-map =
        record {
          long = omega (arith, map-sheet-length m map);
          map =
              record {
                few_bits = regular.few_names;
                few_shared = regular.few_shared;
                map = subst (IsMap (state_count m)) (sym (map_read m map)) exact.fits;
                bytes = subst AreBytes (sym (map_read m map)) exact.bytes;
              };
        }

    safe-lines : safe_report code (map_sheet m map) ≡ report_lines text x (safe_by map)
    unfolding report_lines verdict_lines code_of layout_of
    safe-lines =
        ap (λ l. counts_line m.shared_names m.row_names (length m.commands) ++ (safe_line ++ count_lines (state_count m) (setting_count m) l)) (map_read m map)

    pub map_shown : MapShown (read_code text) (map_sheet m map)
    map_shown = subst (λ c. MapShown c (map_sheet m map)) (sym code_read) counted-map

    pub safe_said : safe_report (read_code text) (map_sheet m map) ≡ report_of text
    safe_said = ap (λ c. safe_report c (map_sheet m map)) code_read ∙ safe-lines ∙ sym (found-lines text x says ∙ ap (report_lines text x) e)

  -- Where nothing starts.
  void-lines : (map : List ℕ) → void_report code ≡ report_lines text x (void_by map)
  unfolding report_lines verdict_lines code_of layout_of
  void-lines map = refl

  pub void_said : (map : List ℕ) → S ≡ void_by map → void_report (read_code text) ≡ report_of text
  void_said map e = ap void_report code_read ∙ void-lines map ∙ sym (found-lines text x says ∙ ap (report_lines text x) e)

  -- Where a trace is found.
  module _ (s : ℕ) (xs : List TraceStep) (e : S ≡ unsafe_by s xs) where
    abbrev pub sheet : List ℕ
    sheet = sheet_bytes (system_of m) (trace s xs)

    pub passes : TracePasses m s xs
    passes = (subst (Finds m) e (finds m regular)).1.breaks

    pub sheet-short : length sheet ≤ 7 + 10 * state_count m
    sheet-short = subst (λ y. length (sheet_bytes (system_of m) (evidence_of y)) ≤ 7 + 10 * state_count m) e (Left.sheet-short m)

    shown : Printable text code sheet
    unfolding code_of layout_of
    shown =
        record {
          long = omega (arith, sheet-length m s xs);
          few = omega (arith, regular.few_names);
          named =
              subst (Every (λ (y : TraceStep). Named text (name_array (names_of x)) (m.shared_names + m.row_names + y.command)))
              (sym (steps-read m s xs regular passes.steps_fit))
              (weaken (StepFits m) (λ (y : TraceStep). Named text (name_array (names_of x)) (m.shared_names + m.row_names + y.command))
              (λ y k. (told text x says regular y.command k.command).named) xs passes.steps_fit);
        }

    abbrev called : ℕ → Word
    called k = name_in text (name_array (names_of x)) (m.shared_names + m.row_names + k)

    abbrev counted : List ℕ
    counted = counts_line m.shared_names m.row_names (length m.commands)

    trace-lines : trace_report text code sheet ≡ report_lines text x (unsafe_by s xs)
    unfolding report_lines verdict_lines code_of layout_of
    trace-lines =
        ap (λ n. counted ++ (unsafe_line n ++ (start_line (start_in sheet) ++ step_lines called 1 (trace_steps sheet)))) (count-read m s xs)
        ∙ ap (λ t. counted ++ (unsafe_line (length xs) ++ (start_line t ++ step_lines called 1 (trace_steps sheet)))) (start-read m s xs (omega (arith, few, passes.start_fits)))
        ∙ ap (λ ys. counted ++ (unsafe_line (length xs) ++ (start_line s ++ step_lines called 1 ys))) (steps-read m s xs regular passes.steps_fit)
        ∙ ap (λ l. counted ++ (unsafe_line (length xs) ++ (start_line s ++ l)))
        (lines_same called (command_name text x) 1 xs
        (weaken (StepFits m) (λ (y : TraceStep). called y.command ≡ command_name text x y.command) (λ y k. (told text x says regular y.command k.command).word) xs passes.steps_fit))

    pub trace_shown : Printable text (read_code text) sheet
    trace_shown = subst (λ c. Printable text c sheet) (sym code_read) shown

    pub trace_said : trace_report text (read_code text) sheet ≡ report_of text
    trace_said = ap (λ c. trace_report text c sheet) code_read ∙ trace-lines ∙ sym (found-lines text x says ∙ ap (report_lines text x) e)
