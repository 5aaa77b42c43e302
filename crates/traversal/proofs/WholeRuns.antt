-- The whole search put together: cleared tables, the start states taken in, and the queue gone through.
-- Assumes nothing.
use mathlib.Core.Path.{◌≡◌, sym, subst}
use mathlib.Core.Bool.{Bool, true, false}
use mathlib.Core.List.{List, ◌++◌}
use Prim.Native.Nat.{ℕ, ◌≤◌}
use lib.ListN.{length, drop, replicate}
use Rattle.exploration.specs.working.Transitions.{Transitions}
use Rattle.exploration.specs.working.Tables.{Ready, Explored, Began, Ran}
use Rattle.exploration.proofs.Laws.{cleared, ran_broke, ran_on}

module _ (T : Transitions) (states : ℕ) (e : states ≡ T.size) (q p₀ p : List ℕ) (c : p ≡ replicate states 0 ++ drop states p₀) (hq : states ≤ length q) (hp : states ≤ length p₀) where
  sized : p ≡ replicate T.size 0 ++ drop T.size p₀
  sized = subst (λ (n : ℕ). p ≡ replicate n 0 ++ drop n p₀) e c

  queue-room : T.size ≤ length q
  queue-room = subst (λ (n : ℕ). n ≤ length q) e hq

  parent-room : T.size ≤ length p₀
  parent-room = subst (λ (n : ℕ). n ≤ length p₀) e hp

  pub ready_cleared : Ready T q 0 p
  ready_cleared = (cleared T q p₀ p sized queue-room parent-room).ready

module _ (T : Transitions) (states : ℕ) (e : states ≡ T.size) {q₀ p₀ q₁ : List ℕ} {n₁ : ℕ} {p₁ : List ℕ} {b : Bool} (B : Began T q₀ p₀ q₁ n₁ p₁ b) where
  pub run-broke : b ≡ true → (j : ℕ) → j ≡ 0 → Ran T q₀ p₀ q₁ n₁ p₁ b j
  run-broke h j z = subst (Ran T q₀ p₀ q₁ n₁ p₁ b) (sym z) (ran_broke B h)

  pub run_on : b ≡ false → {q₂ : List ℕ} {n₂ : ℕ} {p₂ : List ℕ} {d : Bool} {head j : ℕ} → Explored T 0 states q₁ n₁ p₁ q₂ n₂ p₂ d head j → Ran T q₀ p₀ q₂ n₂ p₂ d j
  run_on h {q₂} {n₂} {p₂} {d} {head} {j} X = ran_on B h (subst (λ (k : ℕ). Explored T 0 k q₁ n₁ p₁ q₂ n₂ p₂ d head j) e X)
