-- The sheet that the search writes passes the test for the same text.
-- Assumes nothing.
use mathlib.Core.Path.{◌≡◌, refl, sym, ap, ◌∙◌, subst}
use mathlib.Core.List.{List, []}
use Prim.Native.Nat.{ℕ, ◌+◌, ◌≤◌}
use native.Mathlib.Omega.{arith}
use lib.ListN.{length, take, drop}
use lib.Seq.{sets, sets-eq, take-append_seam}
use Rattle.refusals.specs.Reasons.{number_of, reason_of}
use Rattle.notation.specs.Model.{Model}
use Rattle.notation.specs.Regular.{Regular}
use Rattle.notation.specs.Texts.{TextSays}
use Rattle.notation.proofs.Regular.{all_regular}
use Rattle.meaning.specs.Meaning.{Breaks, last, Safe, CanStart}
use Rattle.meaning.specs.OneRow.{One, state_count, spread, next, TraceStep}
use Rattle.meaning.specs.Evidence.{Sheet, safe, trace, MapPasses, IsVoid, Verdict, safe_by, void_by, unsafe_by, evidence_of}
use Rattle.meaning.proofs.Number.{spread-state_number, state_number-spread}
use Rattle.meaning.proofs.OneRow.{next-stays}
use Rattle.evaluation.proofs.Powers.{pow_small}
use Rattle.sheets.specs.Sheets.{system_of, sheet_room, sheet_bytes}
use Rattle.sheets.specs.SheetTexts.{SheetSays}
use Rattle.conditions.specs.Outcomes.{words}
use Rattle.acceptance.specs.Promises.{answer_to, PassMeans}
use Rattle.acceptance.proofs.Claims.{pass-tells}
use Rattle.exploration.specs.Findings.{Reaches, ExactMap, Finds}
use Rattle.verdicts.specs.Answers.{Wording, verdict, returned, wording_of}
use Rattle.verdicts.specs.Promises.{FrontPasses, SheetsPass}
use Rattle.exploration.specs.working.Transitions.{move_of}
use Rattle.exploration.specs.working.Runs.{goes_on}
use Rattle.exploration.specs.working.Found.{transitions_of}
use Rattle.verdicts.specs.working.Searching.{verdict_of, left_with, left_alone}
use Rattle.exploration.proofs.RunsOfModels.{run-told, run_reaches, reaches_run}
use Rattle.verdicts.proofs.SearchTells.{found_of, made_of, sheet-short, unsafe_safe, void-safe, void_unsafe, not-verdict, whatever_left}
use Rattle.exploration.proofs.FindsRight.{own, finds}
use Rattle.exploration.proofs.EmptyMaps.{no_runs, void-exact}
use Rattle.verdicts.proofs.SheetBytes.{map-sheet-bytes, trace-sheet-bytes}

-- The map of exactly the states that runs reach passes where no run goes wrong.
module _ (m : Model) (g : Regular m) (map : List ℕ) (E : ExactMap m map) where
  exact-passes : Safe m One → MapPasses m map
  exact-passes h =
      let T = transitions_of (system_of m) in
      record {
        starts = λ s l p. (E.exact s l).1 (spread m One s, [], record { start = p; steps = tt }, state_number-spread m s l);
        keeps = λ s l e b.
            let (q, xs, r, f) = (E.exact s l).0 e in
            let a : spread m One s ≡ last q xs = ap (spread m One) (sym f) ∙ spread-state_number m (last q xs) (run-told T m (own m) g q xs r).fits in
            h q xs r (subst (Breaks m) a b);
        closed = λ s k w l c u e.
            let r = reaches_run T m (own m) g s ((E.exact s l).0 e) in
            let q = run_reaches T m (own m) (goes_on r.run (move_of k w)) (r.valid, (c, u)) in
            (E.exact (next m s k w) (next-stays m s k w)).1 (subst (λ (t : ℕ). Reaches m (next m t k w)) r.ends q);
      }

-- What was written to the front of a buffer with room stands there.
pub front : (l b : List ℕ) → length b ≤ length l → take (length b) (sets l 0 b) ≡ b
front l b h =
    let k : 0 + length b ≤ length l = omega arith in
    ap (take (length b)) (sets-eq b l 0 k) ∙ take-append_seam b (drop (0 + length b) l)

-- The number in a verdict.
abbrev count : Wording → ℕ
count (verdict s n t) = n
count (returned n p) = p

module _ (text : List ℕ) (m : Model) (says : TextSays text m) where
  pub few : state_count m ≤ 4096
  few = pow_small (m.shared_names + m.row_names) (state_count m) (all_regular text m says).few_names refl

  -- The bytes of a sheet that is found pass.
  module _ (map : List ℕ) (E : ExactMap m map) (h : length (sheet_bytes (system_of m) (safe map)) ≤ sheet_room (system_of m)) where
    map-says : SheetSays (system_of m) (sheet_bytes (system_of m) (safe map)) (safe map)
    map-says = record { bytes = refl; short = omega (arith, few); fits = E.fits }

    map-means : PassMeans m (sheet_bytes (system_of m) (safe map)) (answer_to text (sheet_bytes (system_of m) (safe map)))
    map-means = let g = all_regular text m says in pass-tells text m says (sheet_bytes (system_of m) (safe map)) (map-sheet-bytes m g map E.bytes)

    map-holds : Safe m One → CanStart m One → answer_to text (sheet_bytes (system_of m) (safe map)) ≡ words "safe holds"
    map-holds k c = map-means.safe_sheet.1 (map, map-says, (exact-passes m (all_regular text m says) map E k, c))

    map-void : IsVoid m → answer_to text (sheet_bytes (system_of m) (safe map)) ≡ words "void"
    map-void v = map-means.void_sheet.1 (map, map-says, (exact-passes m (all_regular text m says) map E (no_runs m v), v))

  trace-holds : (s : ℕ) (xs : List TraceStep) → Finds m (unsafe_by s xs) → length (sheet_bytes (system_of m) (trace s xs)) ≤ sheet_room (system_of m)
      → answer_to text (sheet_bytes (system_of m) (trace s xs)) ≡ words "trace holds"
  trace-holds s xs F h =
      let g = all_regular text m says in
      let p = F.1.breaks in
      let w : SheetSays (system_of m) (sheet_bytes (system_of m) (trace s xs)) (trace s xs) =
      record { bytes = refl; short = omega (arith, few); fits = (p.start_fits, p.steps_fit) } in
      (pass-tells text m says (sheet_bytes (system_of m) (trace s xs)) (trace-sheet-bytes m g s xs p.steps_fit)).trace_sheet.1 (s, xs, w, p)

  module _ (first second sheet : List ℕ) (room : sheet_room (system_of m) ≤ length sheet) where
    -- As long as the answer says.
    at_front : (x : Sheet) → length (sheet_bytes (system_of m) x) ≤ sheet_room (system_of m) → (n : ℕ) → length (sheet_bytes (system_of m) x) ≡ n
        → take n (sets sheet 0 (sheet_bytes (system_of m) x)) ≡ sheet_bytes (system_of m) x
    at_front x h n e =
        subst (λ (k : ℕ). take k (sets sheet 0 (sheet_bytes (system_of m) x)) ≡ sheet_bytes (system_of m) x) e
        (front sheet (sheet_bytes (system_of m) x) (omega arith))

    front-passes : (x : Verdict) (j : ℕ) → Finds m x → length (sheet_bytes (system_of m) (evidence_of x)) ≤ sheet_room (system_of m)
        → FrontPasses text (left_with (system_of m) x j first second sheet)
    unfolding verdict_of wording_of
    front-passes (safe_by map) j F h =
        record {
          after_safe = λ n t e. ap (answer_to text) (at_front (safe map) h n (ap count e)) ∙ map-holds map F.1 h F.0 F.2;
          after_void = λ n t e. absurd (void-safe _ _ _ _ (sym e));
          after_unsafe = λ n t e. absurd (unsafe_safe _ _ _ _ (sym e));
        }
    front-passes (void_by map) j F h =
        let E : ExactMap m map = subst (ExactMap m) (sym F.1) (void-exact m F.0) in
        record {
          after_safe = λ n t e. absurd (void-safe _ _ _ _ e);
          after_void = λ n t e. ap (answer_to text) (at_front (safe map) h n (ap count e)) ∙ map-void map E h F.0;
          after_unsafe = λ n t e. absurd (void_unsafe _ _ _ _ e);
        }
    front-passes (unsafe_by s xs) j F h =
        record {
          after_safe = λ n t e. absurd (unsafe_safe _ _ _ _ e);
          after_void = λ n t e. absurd (void_unsafe _ _ _ _ (sym e));
          after_unsafe = λ n t e. ap (answer_to text) (at_front (trace s xs) h n (ap count e)) ∙ trace-holds s xs F h;
        }

-- A call that was refused gave no verdict.
refused-passes : (text : List ℕ) (n p : ℕ) (first second sheet : List ℕ) → FrontPasses text (left_alone n p first second sheet)
unfolding wording_of
refused-passes text n p first second sheet =
    let k = number_of (reason_of n) in
    record {
      after_safe = λ l t f. absurd ((not-verdict k p l t).0 f);
      after_void = λ l t f. absurd ((not-verdict k p l t).1 f);
      after_unsafe = λ l t f. absurd ((not-verdict k p l t).2 f);
    }

pub sheets_pass : SheetsPass
sheets_pass text first second sheet =
    whatever_left text first second sheet (FrontPasses text)
    (λ n i r. refused-passes text n i first second sheet)
    (λ m says h. refused-passes text 8 0 first second sheet)
    (λ m says r. front-passes text m says first second sheet r.2 (found_of m) (made_of m) (finds m (all_regular text m says)) (sheet-short m))
