-- Two systems that agree on all numbers in range have the same outcomes.
-- Assumes nothing.
use mathlib.Core.Path.{◌≡◌, refl, sym, ap, ap₂, ◌∙◌}
use mathlib.Core.Bool.{Bool, not, ◌&&◌}
use mathlib.Core.List.{List}
use Prim.Native.Nat.{ℕ, zero, suc, ◌+◌, ◌-◌, ◌^◌, ◌<◌}
use native.Mathlib.Omega.{arith}
use lib.Dec.{eqb}
use lib.ListN.{length, take, drop}
use Rattle.meaning.specs.OneRow.{last_of}
use Rattle.meaning.specs.Evidence.{in_map}
use Rattle.meaning.specs.working.Conditions.{every, implies, words_stay, closed_at, test_void, test_a, test_b, test_c, test_e}
use Rattle.sheets.specs.Sheets.{System, header_length}
use Rattle.sheets.specs.SheetTexts.{two_at, step_in}
use Rattle.sheets.specs.working.SheetReading.{steps_in, step_count, sheet_of, StepsStand}
use Rattle.conditions.specs.working.Judging.{passed_answer, map_answer, walk, trace_answer, outcome_of}
use Rattle.sheets.specs.working.Shapes.{shape_of}
use Rattle.sheets.specs.declared.shapes.Shape.{Shape}
use Rattle.sheets.specs.declared.shapes.Shape.TheVariants.{Map, Trace}
use Rattle.std.specs.Prelude.{Result, Ok, Err}
use Rattle.refusals.specs.declared.Refusal.{Refusal}
use Rattle.sheets.proofs.SheetLaws.{step-parts}
use Rattle.sheets.proofs.StarCounts.{sheet-alike}
use Rattle.acceptance.proofs.TestWhole.{whole-refused, whole-map, whole-trace, trace-stands}

every-alike : (n : ℕ) (f g : ℕ → Bool) → ((i : ℕ) → i < n → f i ≡ g i) → every n f ≡ every n g
unfolding every
every-alike zero f g e = refl
every-alike (suc n) f g e = ap₂ ◌&&◌ (every-alike n f g (λ i h. e i (omega arith))) (e n (omega arith))

module _ (bits kind : ℕ) (counts : List ℕ) (commands : ℕ) (f f' : ℕ → ℕ) (p p' q q' : ℕ → Bool) (n n' : ℕ → ℕ → ℕ → ℕ)
    (stars-alike : (k : ℕ) → k < commands → f k ≡ f' k)
    (starts-alike : (s : ℕ) → s < 2 ^ bits → p s ≡ p' s)
    (breaks-alike : (s : ℕ) → s < 2 ^ bits → q s ≡ q' s)
    (step-alike : (s k w : ℕ) → s < 2 ^ bits → k < commands → n s k w ≡ n' s k w) where
  abbrev states : ℕ
  states = 2 ^ bits

  abbrev M : System
  M = record { bits = bits; kind = kind; counts = counts; commands = commands; stars = f; starts = p; breaks = q; step = n }

  abbrev N : System
  N = record { bits = bits; kind = kind; counts = counts; commands = commands; stars = f'; starts = p'; breaks = q'; step = n' }

  void-alike : test_void states p ≡ test_void states p'
  unfolding test_void
  void-alike = every-alike states _ _ λ s h. ap not (starts-alike s h)

  a_alike : (map : List ℕ) → test_a states p map ≡ test_a states p' map
  unfolding test_a
  a_alike map = every-alike states _ _ λ s h. ap (λ (x : Bool). implies x (in_map map s)) (starts-alike s h)

  b_alike : (map : List ℕ) → test_b states q map ≡ test_b states q' map
  unfolding test_b
  b_alike map = every-alike states _ _ λ s h. ap (λ (x : Bool). implies (in_map map s) (not x)) (breaks-alike s h)

  words-alike : (map : List ℕ) (s k : ℕ) → s < states → k < commands → words_stay n map s k (2 ^ f k) ≡ words_stay n' map s k (2 ^ f' k)
  unfolding words_stay
  words-alike map s k h l =
      every-alike (2 ^ f k) _ _ (λ w b. ap (in_map map) (step-alike s k w h l))
      ∙ ap (λ (x : ℕ). every (2 ^ x) λ w. in_map map (n' s k w)) (stars-alike k l)

  c_alike : (map : List ℕ) → test_c states commands f n map ≡ test_c states commands f' n' map
  unfolding test_c closed_at
  c_alike map = every-alike states _ _ λ s h. ap (implies (in_map map s)) (every-alike commands _ _ λ k l. words-alike map s k h l)

  map-alike : (map : List ℕ) → map_answer M map ≡ map_answer N map
  unfolding map_answer passed_answer
  map-alike map = rw (a_alike map, b_alike map, c_alike map, void-alike) refl

  -- The steps of a trace that stand are in range.
  module _ (b : List ℕ) where
    e_alike : (s at i : ℕ) → s < states → StepsStand states commands f b at i → test_e n s (steps_in b at i) ≡ test_e n' s (steps_in b at i)
    unfolding test_e steps_in StepsStand
    e_alike s at zero h S = refl
    e_alike s at (suc i) h S =
        let x = step-parts _ _ _ _ S.1 in
        ap₂ ◌&&◌ (ap (eqb (step_in b (at + 6)).after) (step-alike s (step_in b (at + 6)).command (step_in b (at + 6)).word h x.command))
        (e_alike (step_in b (at + 6)).after (at + 10) i x.after S.2)

    last-below : (s at i : ℕ) → s < states → StepsStand states commands f b at i → last_of s (steps_in b at i) < states
    unfolding last_of steps_in StepsStand
    last-below s at zero h S = h
    last-below s at (suc i) h S =
        last-below (step_in b (at + 6)).after (at + 10) i (step-parts _ _ _ _ S.1).after S.2

    trace-alike : (s at i : ℕ) → s < states → StepsStand states commands f b at i → trace_answer M s (steps_in b at i) ≡ trace_answer N s (steps_in b at i)
    unfolding trace_answer walk
    trace-alike s at i h S = rw (starts-alike s h, e_alike s at i h S, breaks-alike (last_of s (steps_in b at i)) (last-below s at i h S)) refl

    abbrev at : ℕ
    at = header_length M

    pub outcome_alike : outcome_of M b ≡ outcome_of N b
    outcome_alike = go (shape_of (sheet_of M b)) refl
      where
        same : shape_of (sheet_of M b) ≡ shape_of (sheet_of N b)
        same = ap shape_of (sheet-alike bits kind counts commands f f' stars-alike b)

        go : (x : Result Shape Refusal) → x ≡ shape_of (sheet_of M b) → outcome_of M b ≡ outcome_of N b
        go (Err r) e = sym (whole-refused M b r e) ∙ whole-refused N b r (e ∙ same)
        go (Ok Map) e =
            sym (whole-map M b e _ refl)
            ∙ ap Ok (map-alike (take (length b - (at + 6)) (drop (at + 6) b)))
            ∙ whole-map N b (e ∙ same) _ refl
        go (Ok Trace) e =
            let S = trace-stands M b e in
            sym (whole-trace M b e _ refl)
            ∙ ap Ok (trace-alike (two_at b (at + 6)) (at + 8) (step_count b (at + 8)) S.start S.steps)
            ∙ whole-trace N b (e ∙ same) _ refl
