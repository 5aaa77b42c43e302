-- A model's flat form gives the model's table of one row.
-- Assumes nothing.
use mathlib.Core.Path.{◌≡◌, refl, sym, ap, ap₂, ◌∙◌}
use mathlib.Core.Bool.{not, ◌&&◌}
use mathlib.Core.List.{List, [], ◌∷◌, ◌++◌, map}
use Prim.Native.Nat.{ℕ, zero, suc, ◌+◌, ◌<◌, ◌≤◌}
use native.Mathlib.Omega.{arith}
use lib.Dec.{eqb}
use lib.ListN.{length, get_or, length-map}
use lib.Seq.{get_or-append-add}
use native.Mathlib.Nat.{not-suc-le-zero, le_of_suc-le-suc}
use Rattle.notation.specs.Model.{Model, Clause, stars, outside}
use Rattle.notation.specs.Layout.{expr_code, command_code, segments, joined, ends_from, layout_of}
use Rattle.notation.specs.Regular.{Regular, ScopedClause, Starless, Low}
use Rattle.meaning.specs.Meaning.{command_at, idle}
use Rattle.meaning.specs.OneRow.{state_count, starts, breaks, next}
use Rattle.meaning.specs.working.OnNumbers.{clause_at}
use Rattle.meaning.proofs.Lists.{every-at}
use Rattle.meaning.proofs.OnNumbers.{step_computed, starts_computed, breaks_computed}
use Rattle.evaluation.specs.working.CodeMachine.{value_of}
use Rattle.evaluation.specs.working.Batches.{after_of}
use Rattle.evaluation.specs.working.CodeSystem.{segment_of, holds_in, clause_in, starts_in, breaks_in, next_in}
use Rattle.evaluation.specs.Promises.{Computes, FlatComputes}
use Rattle.evaluation.proofs.Values.{numbered_below, starless_below, holds-right}
use Rattle.evaluation.proofs.Bounds.{after-right}
use Rattle.evaluation.proofs.Segments.{ends-count, segment-at, all-parted}

-- The segments before those of the commands.
abbrev clauses : Model → List (List ℕ)
clauses m =
    expr_code m.shared_names m.start.whole ∷ expr_code m.shared_names m.start.each ∷
    expr_code m.shared_names m.keep.whole ∷ expr_code m.shared_names m.keep.each ∷ []

pub mapped : {A B : Type 0} (f : A → B) (z : B) (d : A) (l : List A) (k : ℕ) → k < length l → get_or (map f l) k z ≡ f (get_or l k d)
mapped f z d [] k h = absurd (not-suc-le-zero h)
mapped f z d (x ∷ l) zero h = refl
mapped f z d (x ∷ l) (suc k) h = mapped f z d l k (le_of_suc-le-suc h)

-- How many segments a model has.
segments-counted : (m : Model) → length (segments m) ≡ 4 + length m.commands
unfolding segments
segments-counted m = omega (arith, length-map m.commands (command_code m.shared_names))

pub ends-counted : (m : Model) → length (layout_of m).ends ≡ 4 + length m.commands
unfolding layout_of
ends-counted m = ends-count (segments m) 0 ∙ segments-counted m

module _ (m : Model) (g : Regular m) (more_code more_ends : List ℕ) where
  abbrev a : ℕ
  a = m.shared_names

  abbrev b : ℕ
  b = m.row_names

  abbrev ops : List ℕ
  ops = joined (segments m) ++ more_code

  abbrev ends : List ℕ
  ends = ends_from 0 (segments m) ++ more_ends

  short : length (joined (segments m)) ≤ 2048
  unfolding layout_of
  short = omega (arith, g.short)

  part : (i : ℕ) → i < 4 + length m.commands → segment_of ops ends i ≡ get_or (segments m) i []
  part i h = segment-at (segments m) more_code more_ends i (omega (arith, segments-counted m))

  -- A clause whose expressions are the segments i and i + 1.
  clause-right : (c : Clause) (i s : ℕ) → segment_of ops ends i ≡ expr_code a c.whole → segment_of ops ends (i + 1) ≡ expr_code a c.each
      → ScopedClause a b c → Starless c.whole → Starless c.each → Low c.whole × Low c.each → clause_in ops ends i s ≡ clause_at a 0 c s
  unfolding clause_in holds_in clause_at
  clause-right c i s e f sc hw he low =
      let few = g.few_names in
      ap₂ ◌&&◌
      (ap (λ (os : List ℕ). eqb (value_of os 0 s) 1) e ∙ holds-right a 0 0 s outside c.whole (omega arith) sc.whole (starless_below c.whole hw) (omega (arith, low.0)))
      (ap (λ (os : List ℕ). eqb (value_of os 0 s) 1) f ∙ holds-right a b 0 s outside c.each (omega arith) sc.each (starless_below c.each he) (omega (arith, low.1)))

  starts-right : (s : ℕ) → s < state_count m → starts_in ops ends s ≡ starts m s
  unfolding starts_in segments
  starts-right s h =
      clause-right m.start 0 s (part 0 (omega arith)) (part 1 (omega arith)) g.start g.start_whole g.start_each g.low_start
      ∙ sym (starts_computed m g s 0 h)

  breaks-right : (s : ℕ) → s < state_count m → breaks_in ops ends s ≡ breaks m s
  unfolding breaks_in segments
  breaks-right s h =
      ap not (clause-right m.keep 2 s (part 2 (omega arith)) (part 3 (omega arith)) g.keep g.keep_whole g.keep_each g.low_keep)
      ∙ sym (breaks_computed m g s 0 h)

  command-part : (k : ℕ) → k < length m.commands → get_or (segments m) (4 + k) [] ≡ command_code a (command_at m k)
  unfolding segments
  command-part k h = get_or-append-add (clauses m) (map (command_code a) m.commands) k [] ∙ mapped (command_code a) [] idle m.commands k h

  next-right : (s k w : ℕ) → s < state_count m → k < length m.commands → next_in ops ends (a + b) s k w ≡ next m s k w
  unfolding next_in
  next-right s k w h l =
      ap (λ (os : List ℕ). after_of os s (a + b) w) (part (4 + k) (omega arith) ∙ command-part k l)
      ∙ after-right a b w (a + b) (omega arith) (command_at m k) s (omega (arith, g.few_names)) h (every-at _ m.commands idle k g.scoped l)
      (every-at _ m.commands idle k g.low l)
      (numbered_below 0 (stars (command_at m k)) (every-at _ m.commands idle k g.numbered l) (omega (arith, every-at _ m.commands idle k g.few_stars l)))
      ∙ sym (step_computed m g s k w h l)

  pub computes : Computes m ops ends
  computes =
      record {
        parted = all-parted (segments m) more_code more_ends (length m.commands) (segments-counted m) short;
        starts = starts-right;
        breaks = breaks-right;
        next = next-right;
      }

pub flat_computes : FlatComputes
unfolding layout_of
flat_computes m g more_code more_ends = computes m g more_code more_ends
