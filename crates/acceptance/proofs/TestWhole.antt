-- The whole test, joined from what its first pass finds and the answer for a map or for a trace.
-- Assumes nothing.
use mathlib.Core.Path.{◌≡◌, sym, ap, ◌∙◌}
use mathlib.Core.List.{List}
use Prim.Native.Nat.{ℕ, ◌+◌, ◌-◌, ◌*◌, ◌≤◌}
use native.Mathlib.Omega.{arith}
use lib.ListN.{length, take, drop, length-drop}
use lib.Seq.{length-take-le}
use Rattle.sheets.specs.Sheets.{System, size, header_length, map_length}
use Rattle.meaning.specs.Evidence.{safe, trace}
use Rattle.sheets.specs.working.SheetReading.{Reading, refused, holds, map_in, sheet_of, TraceStands}
use Rattle.conditions.specs.working.Judging.{map_answer, answer_in, judge, outcome_of, trace_from}
use Rattle.sheets.specs.working.Shapes.{shape_of}
use Rattle.sheets.specs.declared.shapes.Shape.TheVariants.{Map, Trace}
use Rattle.std.specs.Prelude.{Ok, Err}
use Rattle.refusals.specs.declared.Refusal.{Refusal}
use Rattle.refusals.specs.Reasons.{refusal_of}
use Rattle.conditions.specs.declared.outcome.Outcome.{Outcome}
use Rattle.sheets.proofs.SheetOpened.{map_found, trace-found, eighths}

-- Where the shape is a refusal, so is the outcome.
refused_shape : (M : System) (r : Reading) (x : Refusal) → Err x ≡ shape_of r → Err x ≡ judge M r
unfolding shape_of judge
refused_shape M (refused k q) x e = let z : x ≡ refusal_of k q = cc in ap Err z
refused_shape M (holds (safe map)) x e = cc
refused_shape M (holds (trace s xs)) x e = cc

module _ (M : System) (b : List ℕ) where
  pub whole-refused : (x : Refusal) → Err x ≡ shape_of (sheet_of M b) → Err x ≡ outcome_of M b
  unfolding outcome_of
  whole-refused x e = refused_shape M (sheet_of M b) x e

  -- A map is the last of a sheet: nothing follows it.
  module _ (found : Ok Map ≡ shape_of (sheet_of M b)) where
    map-long : length b ≡ header_length M + 6 + map_length (size M)
    map-long = (map_found M b found).stands.end

    pub map-room : header_length M + 6 ≤ length b
    map-room = omega (arith, map-long)

    map-count : length b - (header_length M + 6) ≡ map_length (size M)
    map-count = omega (arith, map-long)

    -- What is lent of a sheet from its map on.
    abbrev pub lent-map : List ℕ
    lent-map = take (length b - (header_length M + 6)) (drop (header_length M + 6) b)

    pub map-bits : size M ≤ 8 * length lent-map
    map-bits =
        let d = length-drop (header_length M + 6) b in
        omega (arith, map-long, eighths M.bits, length-take-le (length b - (header_length M + 6)) (drop (header_length M + 6) b) (omega arith))

    pub whole-map : (r : Outcome) → r ≡ map_answer M lent-map → Ok r ≡ outcome_of M b
    unfolding outcome_of judge answer_in map_in
    whole-map r g =
        ap Ok (g ∙ ap (λ (n : ℕ). map_answer M (take n (drop (header_length M + 6) b))) map-count) ∙ sym (ap (judge M) (map_found M b found).reads)

  module _ (found : Ok Trace ≡ shape_of (sheet_of M b)) where
    pub trace-stands : TraceStands (size M) M.commands M.stars b (header_length M)
    trace-stands = (trace-found M b found).stands

    pub trace-short : length b ≤ 65536
    trace-short = (trace-found M b found).short

    pub whole-trace : (r : Outcome) → r ≡ trace_from M b (header_length M) → Ok r ≡ outcome_of M b
    unfolding outcome_of judge answer_in
    whole-trace r g = ap Ok g ∙ sym (ap (judge M) (trace-found M b found).reads)
