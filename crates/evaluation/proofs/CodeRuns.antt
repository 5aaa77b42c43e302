-- A run of code words, one word at a time: of an expression's nodes, and of a command's code.
-- Assumes nothing.
use Prim.Native.Nat.{ℕ, zero, suc, ◌+◌, ◌-◌, ◌<◌}
use mathlib.Core.Path.{◌≡◌, refl, ap, ◌∙◌}
use mathlib.Core.List.{List, [], ◌∷◌, ◌++◌}
use native.Mathlib.Numerals.{add-one}
use native.Mathlib.Omega.{arith}
use lib.ListN.{length, get_or, take, drop}
use lib.Seq.{slice, drop-cons}
use Rattle.evaluation.specs.declared.machine.Machine.{Machine}
use Rattle.evaluation.specs.working.CodeMachine.{node_of, values_of, step_of, run_of}

-- The code words from place i on: one, and those behind it.
pub next_word : (ops : List ℕ) (i : ℕ) → i < length ops → drop i ops ≡ get_or ops i 0 ∷ drop (i + 1) ops
next_word ops i h = rw (add-one, drop-cons ops i 0)

-- The code words from..to, as a program lends them.
pub part : (ops : List ℕ) (from to : ℕ) → take (to - from) (drop from ops) ≡ slice from to ops
part ops zero to = let e : to - 0 ≡ to = omega arith in ap (λ (n : ℕ). take n ops) e
part ops (suc from) zero = let e : zero - suc from ≡ 0 = omega arith in ap (λ (n : ℕ). take n (drop (suc from) ops)) e
part [] (suc from) (suc to) = none (suc to - suc from)
  where
    none : (n : ℕ) → ◌≡◌ {A = List ℕ} (take n []) []
    none zero = refl
    none (suc n) = refl
part (x ∷ ops) (suc from) (suc to) = let e : suc to - suc from ≡ to - from = omega arith in ap (λ (n : ℕ). take n (drop from ops)) e ∙ part ops from to

pub values-append : (xs ys : List ℕ) (w s t : ℕ) → values_of (xs ++ ys) w s t ≡ values_of ys w s (values_of xs w s t)
values-append [] ys w s t = refl
values-append (x ∷ xs) ys w s t = values-append xs ys w s (node_of x w s t)

pub run-append : (xs ys : List ℕ) (w : ℕ) (m : Machine) → run_of (xs ++ ys) w m ≡ run_of ys w (run_of xs w m)
run-append [] ys w m = refl
run-append (x ∷ xs) ys w m = run-append xs ys w (step_of x w m)
