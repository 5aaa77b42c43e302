-- The sheet that the search finds has room in the lent buffer: its run has fewer steps than there are states.
-- Assumes nothing.
use mathlib.Core.Path.{◌≡◌, refl, sym, subst}
use mathlib.Core.Bool.{Bool, true, false}
use mathlib.Core.List.{List, ◌++◌}
use Prim.Native.Nat.{ℕ, ◌+◌, ◌*◌, ◌<◌, ◌≤◌}
use native.Mathlib.Omega.{arith}
use lib.ListN.{length, length-append}
use lib.Pow.{pow_pos}
use Rattle.notation.specs.Model.{Model}
use Rattle.meaning.specs.OneRow.{TraceStep}
use Rattle.meaning.specs.Evidence.{Sheet, safe, trace, evidence_of}
use Rattle.sheets.specs.Sheets.{System, map_length, little, record_bytes, header_bytes, map_bytes, start_bytes, steps_bytes, sheet_bytes}
use Rattle.sheets.proofs.SheetWritten.{steps-length}
use Rattle.exploration.specs.working.Transitions.{Transitions}
use Rattle.exploration.specs.working.Exploring.{Progress, broke, through, search}
use Rattle.exploration.specs.working.Runs.{steps, start_of, steps_of}
use Rattle.exploration.specs.working.Results.{Result, first_run, reached, result_of, result}
use Rattle.exploration.specs.working.Written.{map_from}
use Rattle.exploration.specs.working.Found.{map_verdict, any_set, verdict_for, found_in, Agrees}
use Rattle.exploration.proofs.First.{Searched, searched, run-to}
use Rattle.exploration.proofs.Right.{queue-last}
use Rattle.exploration.proofs.Map.{map-length}
use Rattle.exploration.proofs.RunsOfModels.{lawful}
use Rattle.exploration.proofs.TraceSteps.{steps-count}

-- How many bytes a sheet has.
module _ (M : System) where
  pub map-sheet-length : (map : List ℕ) → length (sheet_bytes M (safe map)) ≡ length (header_bytes M) + 6 + length map
  unfolding sheet_bytes map_bytes record_bytes little
  map-sheet-length map = omega (arith, length-append (header_bytes M) (map_bytes map))

  pub trace-sheet-length : (s : ℕ) (xs : List TraceStep) → length (sheet_bytes M (trace s xs)) ≡ length (header_bytes M) + 8 + 10 * length xs
  unfolding sheet_bytes start_bytes record_bytes little
  trace-sheet-length s xs = omega (arith, length-append (header_bytes M) (start_bytes s ++ steps_bytes xs), steps-length xs)

-- The run that the search gives has fewer steps than there are states.
abbrev pub Short : Transitions → Result → Type 0
Short T (first_run r) = steps r < T.size
Short T (reached b) = Unit {0}

short_of : (T : Transitions) (o : Progress) → Searched T o → Short T (result_of T o)
short_of T (broke x) E = rw (queue-last T x E, run-to T x.parent E.last E.traced T.size (omega (arith, E.short))) E.short
short_of T (through x) C = tt

map-room : (n : ℕ) → 1 ≤ n → 8 + map_length n ≤ 10 * n
unfolding map_length
map-room n h = omega arith

-- Whatever the verdict by a map, the map is its evidence.
pub map_evidence : (x : Bool) (map : List ℕ) → safe map ≡ evidence_of (map_verdict x map)
map_evidence true map = refl
map_evidence false map = refl

-- The sheet that is found has its place in the buffer.
module _ (M : System) (T : Transitions) where
  pub short-for : 1 ≤ T.size → (v : Result) → Short T v → length (sheet_bytes M (evidence_of (verdict_for T v))) + 2 ≤ length (header_bytes M) + 10 * T.size
  unfolding verdict_for
  short-for h (first_run r) k = omega (arith, trace-sheet-length M (start_of r) (steps_of T r), steps-count T r)
  short-for h (reached b) k =
      let map = map_from b 0 (map_length T.size) in
      subst (λ (x : Sheet). length (sheet_bytes M x) + 2 ≤ length (header_bytes M) + 10 * T.size) (map_evidence (any_set b) map)
      (omega (arith, map-sheet-length M map, map-length b 0 (map_length T.size), map-room T.size h))

  pub found-short : (m : Model) → Agrees T m → length (sheet_bytes M (evidence_of (found_in T))) + 2 ≤ length (header_bytes M) + 10 * T.size
  unfolding found_in result
  found-short m A =
      let h : 1 ≤ T.size = subst (λ (n : ℕ). 1 ≤ n) (sym A.size) (pow_pos (m.shared_names + m.row_names)) in
      short-for h (result T) (short_of T (search T) (searched T (lawful T m A)))
