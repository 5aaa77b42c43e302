-- A run on 64 words, one code word at a time: the tops stay within their stacks.
-- Assumes nothing.
use Prim.Native.Nat.{ℕ, ◌+◌, ◌/◌, ◌<◌}
use mathlib.Core.Path.{◌≡◌, ap}
use mathlib.Core.List.{List}
use native.Mathlib.Omega.{arith}
use lib.Dec.{eqb}
use lib.ListN.{length, get_or, drop}
use Rattle.evaluation.specs.declared.lanes.Tops.{Tops}
use Rattle.evaluation.specs.working.Cells.{run_cells, cells_of, tops_of, tops_kind}
use Rattle.meaning.proofs.Lists.{taken}
use Rattle.evaluation.proofs.CodeRuns.{next_word}

-- The code words from place i on: one, and those behind it.
module _ (ops : List ℕ) (i b : ℕ) (t : Tops) (c : List ℕ) where
  pub turn : i < length ops → run_cells (drop i ops) b t c ≡ run_cells (drop (i + 1) ops) b (tops_of (get_or ops i 0) t) (cells_of (get_or ops i 0) b t c)
  turn h = ap (λ (l : List ℕ). run_cells l b t c) (next_word ops i h)

-- The tops are within their stacks.
abbrev pub In : Tops → Type 0
In t = (t.sp < 64) × (t.mp < 32)

pub tops_in : (op : ℕ) (t : Tops) → In t → In (tops_of op t)
unfolding tops_kind
tops_in op t h =
    let k = op / 32 in
    taken In (eqb k 0) _ _ (omega arith, omega arith)
    (taken In (eqb k 1) _ _ (omega arith, omega arith)
    (taken In (eqb k 2) _ _ (omega arith, omega arith)
    (taken In (eqb k 3) _ _ (omega arith, omega arith)
    (taken In (eqb k 4) _ _ (omega arith, omega arith)
    (taken In (eqb k 5) _ _ (omega arith, omega arith)
    (taken In (eqb k 6) _ _ (omega arith, omega arith)
    (taken In (eqb k 7) _ _ (omega arith, omega arith)
    (taken In (eqb k 8) _ _ (omega arith, omega arith)
    (taken In (eqb k 9) _ _ (omega arith, omega arith)
    (omega arith, omega arith))))))))))
