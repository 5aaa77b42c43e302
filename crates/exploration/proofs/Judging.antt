-- A position and two tables judged: each test is one that the code makes.
-- Assumes nothing.
use Prim.Native.Nat.{ℕ, suc, zero, ◌+◌, ◌<◌, ◌≤◌}
use mathlib.Core.Path.{◌≡◌, refl, sym, ap, ◌∙◌}
use mathlib.Core.Bool.{false, cond, ◌&&◌}
use mathlib.Core.Logic.{◌⊎◌, inl, inr}
use mathlib.Core.List.{List, ◌∷◌}
use native.Mathlib.Omega.{arith}
use native.Mathlib.Numerals.{add-one}
use lib.Dec.{ltb}
use lib.ListN.{length, get_or, take}
use borrow.Author.Tests.{lt-ltb, le-leb, lt-leb, eq-eqb, ne_eqb}
use Rattle.std.specs.List.{count_by, list_all}
use Rattle.std.proofs.lemmas.List.Folds.{list_all_more}
use Rattle.std.proofs.lemmas.List.Recursion.{is_count_by}
use Rattle.exploration.specs.working.Tables.{marked}
use Rattle.exploration.specs.Pause.{Pause}
use Rattle.exploration.specs.working.Pauses.{all_states, intact}

-- The entries that are not 0, and whether the first n entries are states, in the words of the library.
pub marked-count : (l : List ℕ) → count_by (ltb 0) l ≡ marked l
unfolding marked
marked-count l = sym (is_count_by marked (ltb 0) refl one_more l)
  where
    one_more : (x : ℕ) (l : List ℕ) → marked (x ∷ l) ≡ cond (ltb 0 x) (1 + marked l) (marked l)
    one_more zero l = refl
    one_more (suc v) l = rw (lt-ltb 0 (suc v) (omega arith)) (omega arith)

pub states-all : (size : ℕ) (l : List ℕ) (n : ℕ) → n ≤ length l → list_all (λ s. ltb s size) (take n l) ≡ all_states size l n
unfolding all_states
states-all size l zero h = refl
states-all size l (suc n) h =
    let test = λ (s : ℕ). ltb s size in
    ap (λ k. list_all test (take k l)) (sym (add-one n)) ∙ list_all_more test l n 0 (omega arith)
    ∙ ap (λ b. b && test (get_or l n 0)) (states-all size l n (omega arith))

-- One test after the other.
module _ (size : ℕ) (p : Pause) (first second : List ℕ) where
  pub never_stood : (33554432 < p.trials) ⊎ ((p.trials ≤ 33554432) × (p.met < p.expanded)) → false ≡ intact size p first second
  unfolding intact
  never_stood (inl h) = rw (lt-leb p.trials 33554432 h)
  never_stood (inr h) = rw (le-leb p.trials 33554432 h.0, lt-leb p.expanded p.met h.1)

  module _ (a : p.trials ≤ 33554432) (b : p.expanded ≤ p.met) where
    pub other_marks : (count_by (ltb 0) (take size second) ≡ p.met → ⊥) → false ≡ intact size p first second
    unfolding intact
    other_marks h =
        let k : marked (take size second) ≡ p.met → ⊥ = λ e. h (marked-count (take size second) ∙ e) in
        rw (le-leb p.trials 33554432 a, le-leb p.expanded p.met b, ne_eqb (marked (take size second)) p.met k)

    pub only_states : count_by (ltb 0) (take size second) ≡ p.met → p.met ≤ length first → list_all (λ s. ltb s size) (take p.met first) ≡ intact size p first second
    unfolding intact
    only_states e h =
        let k : marked (take size second) ≡ p.met = sym (marked-count (take size second)) ∙ e in
        rw (le-leb p.trials 33554432 a, le-leb p.expanded p.met b, eq-eqb (marked (take size second)) p.met k) (states-all size first p.met h)
