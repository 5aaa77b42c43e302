-- The table of one row as the code computes it, one segment at a time.
-- Assumes nothing.
use mathlib.Core.Path.{◌≡◌, refl, ap, ◌∙◌}
use mathlib.Core.List.{List}
use Prim.Native.Nat.{ℕ, zero, suc, ◌-◌, ◌^◌, ◌<◌, ◌≤◌}
use native.Mathlib.Omega.{arith}
use lib.ListN.{get_or, take, drop}
use lib.Seq.{slice}
use lib.Pow.{pow_mono}
use Rattle.evaluation.specs.working.CodeSystem.{begin_of, segment_of, stars_in, Sound, Bounds}
use Rattle.evaluation.specs.declared.plan.Plan.{Plan}
use Rattle.evaluation.proofs.CodeRuns.{part}

pub begin_first : (ends : List ℕ) (i : ℕ) → i ≡ 0 → 0 ≡ begin_of ends i
unfolding begin_of
begin_first ends i e = rw e

pub begin_later : (ends : List ℕ) (i : ℕ) → (i ≡ 0 → ⊥) → get_or ends (i - 1) 0 ≡ begin_of ends i
unfolding begin_of
begin_later ends zero h = absurd (h refl)
begin_later ends (suc i) h = let q : suc i - 1 ≡ i = omega arith in ap (λ (j : ℕ). get_or ends j 0) q

-- The code words between a segment's bounds are its own.
pub cut : (ops : List ℕ) {ends : List ℕ} {i from to : ℕ} → Bounds ends i from to → slice from to ops ≡ segment_of ops ends i
unfolding segment_of
cut ops B = rw (B.begins, B.stops)

-- So they are where a program lends them.
pub lent : (ops : List ℕ) {ends : List ℕ} {i from to : ℕ} → Bounds ends i from to → take (to - from) (drop from ops) ≡ segment_of ops ends i
lent ops {from = from} {to = to} B = part ops from to ∙ cut ops B

-- At most 8 stars give at most 256 words.
pub words-few : {plan : Plan} → Sound plan → (k x n : ℕ) → k < plan.commands → x ≡ get_or plan.stars k 0 → n ≡ 2 ^ x
    → (n ≡ 2 ^ stars_in plan.stars k) × (n ≤ 256)
unfolding stars_in
words-few S k x n h e f = (f ∙ ap (λ (y : ℕ). 2 ^ y) e, rw f (pow_mono {i = x} {j = 8} (omega (arith, S.few_stars k h))))
