-- What the search finds is what there is to find of the model.
-- Assumes nothing.
use mathlib.Core.Path.{◌≡◌, refl, sym, ap, ◌∙◌, subst}
use mathlib.Core.Logic.{◌↔◌, ⊎_elim}
use mathlib.Core.Bool.{Bool, true, false, false≢true}
use mathlib.Core.List.{List, [], map}
use Prim.Native.Nat.{ℕ, ◌+◌, ◌*◌, ◌^◌, ◌<◌, ◌≤◌}
use native.Mathlib.Omega.{arith}
use lib.ListN.{get_or, replicate}
use Rattle.notation.specs.Model.{Model}
use Rattle.notation.specs.Regular.{Regular}
use Rattle.meaning.specs.Meaning.{Safe, Unsafe, CanStart}
use Rattle.meaning.specs.OneRow.{One, state_number, state_count, spread, TraceStep, spread_step}
use Rattle.meaning.specs.Evidence.{in_map, TracePasses, IsVoid}
use Rattle.meaning.proofs.Number.{state_number_lt}
use Rattle.sheets.specs.Sheets.{system_of, map_length}
use Rattle.sheets.specs.SheetTexts.{unused_clear}
use Rattle.sheets.proofs.SheetOpened.{eighths}
use Rattle.exploration.specs.Findings.{Reaches, ExactMap, empty_map, FirstBreak, Finds}
use Rattle.exploration.specs.Promises.{FoundIsRight}
use Rattle.exploration.specs.working.Transitions.{Transitions}
use Rattle.exploration.specs.working.Runs.{Run, starts_at, First, steps, start_of, steps_of}
use Rattle.exploration.specs.working.Results.{Result, first_run, reached, result, AllReached, Right}
use Rattle.exploration.specs.working.Written.{map_from}
use Rattle.exploration.specs.working.Found.{map_verdict, any_set, verdict_for, found_in, transitions_of, Agrees}
use Rattle.exploration.proofs.Right.{result-right}
use Rattle.exploration.proofs.Map.{map-length}
use Rattle.exploration.proofs.RunsOfModels.{on_by, lawful, trace-passes, run_reaches, trace-valid, trace-breaks, run-told, reaches_run, break_told}
use Rattle.exploration.proofs.Order.{lt_or_ge, shorter}
use Rattle.exploration.proofs.TracesInOrder.{run-before}
use Rattle.exploration.proofs.TraceSteps.{steps-count}
use Rattle.exploration.proofs.MapsFound.{map-bytes, map-has, map-clear, none_map, none_set, one_set}

-- A trace that passes is a run of the table of one row that goes wrong.
pub trace_unsafe : (m : Model) (s : ℕ) (xs : List TraceStep) → TracePasses m s xs → Unsafe m One
trace_unsafe m s xs p = (spread m One s, map (spread_step m One) xs, record { start = p.starts; steps = p.steps }, p.breaks)

some_byte : (states : ℕ) → 0 < map_length states
unfolding map_length
some_byte states = omega arith

module _ (T : Transitions) (m : Model) (A : Agrees T m) where
  pub first_break : Regular m → (r : Run) → First T r → FirstBreak m (start_of r) (steps_of T r)
  first_break g r F =
      record {
        breaks = trace-passes T m A r F.valid F.breaking;
        first = λ t ys p h.
            false≢true
            (sym (F.first (on_by (starts_at t) ys) (trace-valid T m A t ys p) (run-before T t ys r h)) ∙ trace-breaks T m A t ys p);
        shortest = λ q ys run b.
            let t = run-told T m A g q ys run in
            ⊎_elim
            (λ (h : steps t.run < steps r). absurd (false≢true (sym (F.first t.run t.valid (shorter t.run r h)) ∙ break_told T m A g q ys run b)))
            (λ (h : steps r ≤ steps t.run). omega (arith, t.long, steps-count T r))
            (lt_or_ge (steps t.run) (steps r));
      }

  module _ (g : Regular m) (b : List Bool) (R : AllReached T b) where
    all-safe : Safe m One
    all-safe s xs r h =
        let q = run-told T m A g s xs r in
        false≢true (sym (R.keeps q.run q.valid) ∙ break_told T m A g s xs r h)

    found : List ℕ
    found = map_from b 0 (map_length T.size)

    found-has : (t : ℕ) → t < state_count m → in_map found t ≡ get_or b t false
    unfolding found
    found-has t h =
        let e : 2 ^ (m.shared_names + m.row_names) ≤ 8 * map_length (2 ^ (m.shared_names + m.row_names)) = eighths (m.shared_names + m.row_names) in
        let l : t < 8 * map_length (state_count m) = omega arith in
        map-has b (map_length T.size) t (subst (λ (n : ℕ). t < 8 * map_length n) (sym A.size) l)

    exactly : (t : ℕ) → t < state_count m → (in_map found t ≡ true) ↔ Reaches m t
    exactly t h =
        let x = R.exact t (subst (λ (n : ℕ). t < n) (sym A.size) h) in (
          λ e. let q = x.0 (sym (found-has t h) ∙ e) in subst (Reaches m) q.ends (run_reaches T m A q.run q.valid),
          λ q. found-has t h ∙ x.1 (reaches_run T m A g t q),
        )

    exact-map : ExactMap m found
    unfolding found
    exact-map =
        record {
          fits =
              record {
                long = map-length b 0 (map_length T.size) ∙ ap map_length A.size;
                clear = subst (λ (n : ℕ). unused_clear n (get_or found 0 0) ≡ true) (R.sized ∙ A.size) (map-clear b (map_length T.size) (some_byte T.size));
              };
          bytes = map-bytes b (map_length T.size);
          exact = exactly;
        }

    -- A member is reached by a run, which begins at a start state.
    member-starts : any_set b ≡ true → CanStart m One
    member-starts e =
        let (t, l, h) = one_set b e in
        let q = (R.exact t (subst (λ (n : ℕ). t < n) R.sized l)).0 h in
        let (s, xs, r, f) = run_reaches T m A q.run q.valid in
        (s, r.start)

    -- A start state is reached by the run of no steps.
    none_starts : any_set b ≡ false → IsVoid m
    none_starts e (s, h) =
        let l = state_number_lt m s h.fits in
        let r = reaches_run T m A g (state_number s) (s, [], record { start = h; steps = tt }, refl) in
        false≢true (sym (none_set b e (state_number s)) ∙ (R.exact (state_number s) (subst (λ (n : ℕ). state_number s < n) (sym A.size) l)).1 r)

    found-empty : any_set b ≡ false → found ≡ empty_map m
    unfolding found
    found-empty e = none_map b (none_set b e) 0 (map_length T.size) ∙ ap (λ (n : ℕ). replicate (map_length n) 0) A.size

    map-finds : (x : Bool) → any_set b ≡ x → Finds m (map_verdict x found)
    map-finds true e = (all-safe, exact-map, member-starts e)
    map-finds false e = (none_starts e, found-empty e)

  finds-for : Regular m → (v : Result) → Right T v → Finds m (verdict_for T v)
  unfolding verdict_for found
  finds-for g (first_run r) F = let f = first_break g r F in (trace_unsafe m (start_of r) (steps_of T r) f.breaks, f)
  finds-for g (reached b) R = map-finds g b R (any_set b) refl

pub finds-right : FoundIsRight
unfolding found_in
finds-right T m A g = finds-for T m A g (result T) (result-right T (lawful T m A))

module _ (m : Model) where
  -- The transitions of a model's system are those of its table of one row.
  pub own : Agrees (transitions_of (system_of m)) m
  own = record { size = refl; commands = refl; words = λ k h. refl; starts = λ s h. refl; breaks = λ s h. refl; step = λ s k w h l. refl }

  pub finds : Regular m → Finds m (found_in (transitions_of (system_of m)))
  finds g = finds-right (transitions_of (system_of m)) m own g
