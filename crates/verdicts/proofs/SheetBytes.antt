-- All numbers of a sheet that fits a model are bytes.
-- Assumes nothing.
use mathlib.Core.List.{List, [], ◌∷◌, ◌++◌}
use Prim.Native.Nat.{ℕ, zero, suc, ◌/◌, ◌%◌, ◌^◌, ◌<◌, ◌≤◌}
use native.Mathlib.Omega.{arith}
use lib.ListN.{length}
use lib.Pow.{pow_mono}
use Rattle.notation.specs.Model.{Model, stars}
use Rattle.notation.specs.Regular.{Every, Regular}
use Rattle.meaning.specs.Meaning.{idle, command_at}
use Rattle.meaning.specs.OneRow.{word_count, TraceStep}
use Rattle.meaning.specs.Evidence.{safe, trace, StepFits}
use Rattle.meaning.proofs.Lists.{every-at}
use Rattle.sheets.specs.Sheets.{system_of, little, record_bytes, header_bytes, map_bytes, start_bytes, step_bytes, steps_bytes, sheet_bytes}
use Rattle.sheets.specs.SheetTexts.{AreBytes}

-- Lists of bytes.
none : AreBytes []
none i = omega arith

more : (x : ℕ) (l : List ℕ) → x < 256 → AreBytes l → AreBytes (x ∷ l)
more x l h k zero = h
more x l h k (suc i) = k i

joined : (a b : List ℕ) → AreBytes a → AreBytes b → AreBytes (a ++ b)
joined [] b h k = k
joined (x ∷ a) b h k = more x (a ++ b) (h 0) (joined a b (λ i. h (suc i)) k)

little-bytes : (k n : ℕ) → AreBytes (little k n)
unfolding little
little-bytes zero n = none
little-bytes (suc k) n = more (n % 256) (little k (n / 256)) (omega arith) (little-bytes k (n / 256))

record-bytes : (kind : ℕ) (payload : List ℕ) → AreBytes payload → AreBytes (record_bytes kind payload)
unfolding record_bytes
record-bytes kind payload h =
    joined (little 4 (length payload) ++ little 2 kind) payload
    (joined (little 4 (length payload)) (little 2 kind) (little-bytes 4 (length payload)) (little-bytes 2 kind))
    h

module _ (m : Model) (g : Regular m) where
  pub word_lt : (k w : ℕ) → k < length m.commands → w < word_count (command_at m k) → w < 256
  word_lt k w h l =
      let f : length (stars (command_at m k)) ≤ 8 = every-at _ m.commands idle k g.few_stars h in
      let p : 2 ^ length (stars (command_at m k)) ≤ 2 ^ 8 = pow_mono {i = length (stars (command_at m k))} {j = 8} f in
      omega arith

  header-bytes : AreBytes (header_bytes (system_of m))
  unfolding header_bytes
  header-bytes =
      record-bytes 1 (m.shared_names ∷ m.row_names ∷ length m.commands ∷ [])
      (more m.shared_names (m.row_names ∷ length m.commands ∷ []) (omega (arith, g.few_shared))
      (more m.row_names (length m.commands ∷ []) (omega (arith, g.few_row)) (more (length m.commands) [] (omega (arith, g.few_commands)) none)))

  step-bytes : (x : TraceStep) → StepFits m x → AreBytes (step_bytes x)
  unfolding step_bytes
  step-bytes x f =
      record-bytes 4 (x.command ∷ x.word ∷ little 2 x.after)
      (more x.command (x.word ∷ little 2 x.after) (omega (arith, f.command, g.few_commands))
      (more x.word (little 2 x.after) (word_lt x.command x.word f.command f.word) (little-bytes 2 x.after)))

  steps-bytes : (xs : List TraceStep) → Every (StepFits m) xs → AreBytes (steps_bytes xs)
  unfolding steps_bytes
  steps-bytes [] f = none
  steps-bytes (x ∷ xs) f = joined (step_bytes x) (steps_bytes xs) (step-bytes x f.0) (steps-bytes xs f.1)

  pub map-sheet-bytes : (map : List ℕ) → AreBytes map → AreBytes (sheet_bytes (system_of m) (safe map))
  unfolding sheet_bytes map_bytes
  map-sheet-bytes map h = joined (header_bytes (system_of m)) (record_bytes 2 map) header-bytes (record-bytes 2 map h)

  pub trace-sheet-bytes : (s : ℕ) (xs : List TraceStep) → Every (StepFits m) xs → AreBytes (sheet_bytes (system_of m) (trace s xs))
  unfolding sheet_bytes start_bytes
  trace-sheet-bytes s xs f =
      joined (header_bytes (system_of m)) (record_bytes 3 (little 2 s) ++ steps_bytes xs) header-bytes
      (joined (record_bytes 3 (little 2 s)) (steps_bytes xs) (record-bytes 3 (little 2 s) (little-bytes 2 s)) (steps-bytes xs f))
