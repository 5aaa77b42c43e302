-- The rows of a batch, which serve its 64 words.
-- Assumes nothing.
use Rattle.std.specs.Prelude.{ℕ, ◌/◌, ◌%◌, ◌^◌, List, cond, ◌&&◌, eqb, ltb}
use Rattle.evaluation.specs.working.CodeMachine.{run_of, start_of}
use Rattle.evaluation.specs.working.Cells.{run_cells, no_tops}
use Rattle.evaluation.specs.working.Ends.{start_cells, row_of, fills}

-- The state of n bits after the code words os with the word w, by the one-word machine.
unfoldable pub after_of : List ℕ → ℕ → ℕ → ℕ → ℕ
after_of os s n w = (run_of os w (start_of s)).state % 2 ^ n

-- The cells after the code words with the words of batch b.
unfoldable pub cells_at : List ℕ → ℕ → ℕ → ℕ → List ℕ
cells_at os s n b = run_cells os b no_tops (start_cells n s)

-- The rows for the word w: filled anew where w begins another batch than the first.
unfoldable pub filled_of : List ℕ → ℕ → ℕ → ℕ → List ℕ → List ℕ
filled_of os s n w rows = cond (eqb (w % 64) 0 && ltb 0 w) (fills (row_of (cells_at os s n (w / 64)) n) 16 rows) rows
