-- What stands in a sheet that was not refused.
-- Assumes nothing.
use Rattle.std.specs.Prelude.{Ok}
use mathlib.Core.Path.{◌≡◌, refl, ap, ◌∙◌, subst}
use mathlib.Core.Bool.{Bool, true, false}
use mathlib.Core.List.{List}
use mathlib.Core.Logic.{◌⊎◌, inl, inr}
use Prim.Native.Nat.{ℕ, zero, suc, ◌+◌, ◌*◌, ◌^◌, ◌≤◌}
use native.Mathlib.Omega.{arith}
use native.Mathlib.Nat.{pow-suc}
use lib.ListN.{length}
use borrow.Author.Tests.{leb-true, eqb-true, ltb-true}
use Rattle.meaning.specs.Evidence.{Sheet, safe, trace}
use Rattle.sheets.specs.SheetTexts.{two_at, is_record, same_counts}
use Rattle.sheets.specs.Sheets.{System, size, header_length, map_length}
use Rattle.sheets.specs.working.SheetReading.{Reading, refused, holds, demand, either, map_in, map_at, steps_in, steps_at, step_count, trace_at, body_at, sheet_in, sheet_of, StepsStand, TraceStands, MapStands}
use Rattle.sheets.specs.working.Shapes.{shape_of}
use Rattle.sheets.specs.declared.shapes.Shape.TheVariants.{Map, Trace}

-- Where contents are found, every demand was met.
pub demand_inv : (t : Bool) (n p : ℕ) (rest : Unit {0} → Reading) (x : Sheet) → demand t n p rest ≡ holds x → (t ≡ true) × (rest tt ≡ holds x)
unfolding demand
demand_inv true n p rest x e = (refl, e)
demand_inv false n p rest x e = (cc, cc)

pub steps_inv : (states commands : ℕ) (stars : ℕ → ℕ) (b : List ℕ) (p n : ℕ) (rest : Reading) (x : Sheet)
    → steps_at states commands stars b p n rest ≡ holds x → StepsStand states commands stars b p n × (rest ≡ holds x)
unfolding steps_at StepsStand
steps_inv states commands stars b p zero rest x e = (tt, e)
steps_inv states commands stars b p (suc n) rest x e =
    let i = demand_inv _ _ _ _ x e in
    let j = demand_inv _ _ _ _ x i.1 in
    let k = steps_inv states commands stars b (p + 10) n rest x j.1 in
    ((i.0, j.0, k.0), k.1)

pub steps_of : (states commands : ℕ) (stars : ℕ → ℕ) (b : List ℕ) (p n : ℕ) (rest : Reading) → StepsStand states commands stars b p n
    → steps_at states commands stars b p n rest ≡ rest
unfolding steps_at demand StepsStand
steps_of states commands stars b p zero rest S = refl
steps_of states commands stars b p (suc n) rest S = rw (S.0, S.1) (steps_of states commands stars b (p + 10) n rest S.2)

module _ (states commands : ℕ) (stars : ℕ → ℕ) (b : List ℕ) (p : ℕ) where
  -- The map and the trace that may stand at p.
  abbrev pub the_map : Sheet
  the_map = safe (map_in b (p + 6) (map_length states))

  abbrev pub the_trace : Sheet
  the_trace = trace (two_at b (p + 6)) (steps_in b (p + 8) (step_count b (p + 8)))

  -- One of the two stands there, and x is it.
  abbrev pub Stands : Sheet → Type 0
  Stands x = (MapStands states b p × (x ≡ the_map)) ⊎ (TraceStands states commands stars b p × (x ≡ the_trace))

  map_inv : (x : Sheet) → is_record b p 2 (map_length states) ≡ true → map_at states b p ≡ holds x → MapStands states b p × (x ≡ the_map)
  unfolding map_at
  map_inv x f e =
      let i = demand_inv _ _ _ _ x e in
      let j = demand_inv _ _ _ _ x i.1 in
      (record { head = f; clear = i.0; end = eqb-true _ _ j.0 }, cc)

  trace_inv : (x : Sheet) → is_record b p 3 2 ≡ true → trace_at states commands stars b p ≡ holds x → TraceStands states commands stars b p × (x ≡ the_trace)
  unfolding trace_at
  trace_inv x f e =
      let i = demand_inv _ _ _ _ x e in
      let j = steps_inv _ _ _ _ _ _ _ x i.1 in
      (record { head = f; start = ltb-true _ _ i.0; steps = j.0 }, cc)

  either_inv : (u v : Bool) (x : Sheet) → is_record b p 2 (map_length states) ≡ u → is_record b p 3 2 ≡ v
      → either u (λ _. map_at states b p) (λ _. either v (λ _. trace_at states commands stars b p) (λ _. refused 9 p)) ≡ holds x
      → Stands x
  unfolding either
  either_inv true v x f g k = inl (map_inv x f k)
  either_inv false true x f g k = inr (trace_inv x g k)
  either_inv false false x f g k = let z : ◌≡◌ {A = ℕ} 0 1 = cc in absurd (omega arith)

  pub body_inv : (x : Sheet) → body_at states commands stars b p ≡ holds x
      → Stands x
  unfolding body_at
  body_inv x e = either_inv _ _ x refl refl e

-- What is known of the sheet up to its second record.
pub record Opened (M : System) (b : List ℕ) (x : Sheet) : Type 0 where
  pub short : length b ≤ 65536
  pub header : is_record b 0 M.kind (length M.counts) ≡ true
  pub counts : same_counts M.counts b 6 ≡ true
  pub body : body_at (size M) M.commands M.stars b (header_length M) ≡ holds x

pub sheet_inv : (M : System) (b : List ℕ) (x : Sheet) → sheet_of M b ≡ holds x → Opened M b x
unfolding sheet_in
sheet_inv M b x e =
    let i = demand_inv _ _ _ _ x e in
    let j = demand_inv _ _ _ _ x i.1 in
    let k = demand_inv _ _ _ _ x j.1 in
    record { short = leb-true _ _ i.0; header = j.0; counts = k.0; body = k.1 }

abbrev IsSafe : Sheet → Type 0
IsSafe (safe map) = Unit {0}
IsSafe (trace s xs) = ⊥

abbrev IsTrace : Sheet → Type 0
IsTrace (safe map) = ⊥
IsTrace (trace s xs) = Unit {0}

map_shaped : (r : Reading) → Ok Map ≡ shape_of r → (x : Sheet) × (r ≡ holds x) × IsSafe x
unfolding shape_of
map_shaped (refused k q) e = let z : ◌≡◌ {A = ℕ} 0 1 = cc in absurd (omega arith)
map_shaped (holds (safe map)) e = (safe map, refl, tt)
map_shaped (holds (trace s xs)) e = let z : ◌≡◌ {A = ℕ} 0 1 = cc in absurd (omega arith)

trace_shaped : (r : Reading) → Ok Trace ≡ shape_of r → (x : Sheet) × (r ≡ holds x) × IsTrace x
unfolding shape_of
trace_shaped (refused k q) e = let z : ◌≡◌ {A = ℕ} 0 1 = cc in absurd (omega arith)
trace_shaped (holds (safe map)) e = let z : ◌≡◌ {A = ℕ} 0 1 = cc in absurd (omega arith)
trace_shaped (holds (trace s xs)) e = (trace s xs, refl, tt)

-- A map was found, or a trace.
pub record MapFound (M : System) (b : List ℕ) : Type 0 where
  pub stands : MapStands (size M) b (header_length M)
  pub reads : sheet_of M b ≡ holds (safe (map_in b (header_length M + 6) (map_length (size M))))

pub record TraceFound (M : System) (b : List ℕ) : Type 0 where
  pub stands : TraceStands (size M) M.commands M.stars b (header_length M)
  pub short : length b ≤ 65536
  pub reads : sheet_of M b ≡ holds (the_trace (size M) M.commands M.stars b (header_length M))

module _ (M : System) (b : List ℕ) where
  pub map_found : Ok Map ≡ shape_of (sheet_of M b) → MapFound M b
  map_found e = go (map_shaped (sheet_of M b) e)
    where
      pick : (x : Sheet) → sheet_of M b ≡ holds x → IsSafe x → Stands (size M) M.commands M.stars b (header_length M) x → MapFound M b
      pick x r i (inl q) = record { stands = q.0; reads = r ∙ ap holds q.1 }
      pick x r i (inr q) = absurd (subst IsSafe q.1 i)

      go : (x : Sheet) × (sheet_of M b ≡ holds x) × IsSafe x → MapFound M b
      go t = pick t.0 t.1 t.2 (body_inv (size M) M.commands M.stars b (header_length M) t.0 (sheet_inv M b t.0 t.1).body)

  pub trace-found : Ok Trace ≡ shape_of (sheet_of M b) → TraceFound M b
  trace-found e = go (trace_shaped (sheet_of M b) e)
    where
      pick : (x : Sheet) → sheet_of M b ≡ holds x → IsTrace x → Stands (size M) M.commands M.stars b (header_length M) x → TraceFound M b
      pick x r i (inl q) = absurd (subst IsTrace q.1 i)
      pick x r i (inr q) = record { stands = q.0; short = (sheet_inv M b x r).short; reads = r ∙ ap holds q.1 }

      go : (x : Sheet) × (sheet_of M b ≡ holds x) × IsTrace x → TraceFound M b
      go t = pick t.0 t.1 t.2 (body_inv (size M) M.commands M.stars b (header_length M) t.0 (sheet_inv M b t.0 t.1).body)

-- A map has a bit for each state.
pub eighths : (k : ℕ) → 2 ^ k ≤ 8 * map_length (2 ^ k)
unfolding map_length
eighths zero = omega arith
eighths (suc zero) = omega arith
eighths (suc (suc zero)) = omega arith
eighths (suc (suc (suc k))) =
    let e : 2 ^ suc (suc (suc k)) ≡ 2 ^ k * 2 * 2 * 2 = pow-suc 2 (suc (suc k)) ∙ ap (λ (x : ℕ). x * 2) (pow-suc 2 (suc k) ∙ ap (λ (x : ℕ). x * 2) (pow-suc 2 k)) in
    rw e (omega arith)
