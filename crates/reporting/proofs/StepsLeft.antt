-- The lines of the steps of a run, one step more at a time.
-- Assumes nothing.
use mathlib.Core.Path.{◌≡◌, refl, sym, ap, ◌∙◌, subst}
use mathlib.Core.List.{List, [], ◌∷◌, ◌++◌, append_assoc, append-nil}
use Prim.Native.Nat.{ℕ, zero, suc, ◌+◌, ◌-◌, ◌*◌, ◌<◌}
use native.Mathlib.Omega.{arith}
use lib.ListN.{length}
use Rattle.notation.specs.Tokens.{Word}
use Rattle.notation.specs.Regular.{Every}
use Rattle.meaning.specs.OneRow.{TraceStep}
use Rattle.sheets.specs.SheetTexts.{step_in}
use Rattle.sheets.specs.working.SheetReading.{steps_in}
use Rattle.lines.specs.declared.Writer.{Writer}
use Rattle.lines.specs.Writers.{HasRoom, Writes}
use Rattle.lines.proofs.Writers.{nothing, behind, first-room, rest-room}
use Rattle.reporting.specs.Reports.{step_line, step_lines}

-- So many records and more records behind them.
module _ (sheet : List ℕ) where
  steps-parted : (from m d : ℕ) → steps_in sheet from (m + d) ≡ steps_in sheet from m ++ steps_in sheet (from + 10 * m) d
  unfolding steps_in
  steps-parted from zero d =
      let e : 0 + d ≡ d = omega arith in
      let f : from ≡ from + 10 * 0 = omega arith in
      ap (steps_in sheet from) e ∙ ap (λ p. steps_in sheet p d) f
  steps-parted from (suc m) d =
      let e : suc m + d ≡ suc (m + d) = omega arith in
      let f : from + 10 + 10 * m ≡ from + 10 * suc m = omega arith in
      ap (steps_in sheet from) e
      ∙ ap (λ l. step_in sheet (from + 6) ∷ l) (steps-parted (from + 10) m d ∙ ap (λ p. steps_in sheet (from + 10) m ++ steps_in sheet p d) f)

  steps-many : (from m : ℕ) → length (steps_in sheet from m) ≡ m
  unfolding steps_in
  steps-many from zero = refl
  steps-many from (suc m) = ap suc (steps-many (from + 10) m)

lines-parted : (called : ℕ → Word) (k : ℕ) (xs ys : List TraceStep) → step_lines called k (xs ++ ys) ≡ step_lines called k xs ++ step_lines called (k + length xs) ys
unfolding step_lines
lines-parted called k [] ys = let e : k ≡ k + 0 = omega arith in ap (λ i. step_lines called i ys) e
lines-parted called k (x ∷ xs) ys =
    let e : k + 1 + length xs ≡ k + suc (length xs) = omega arith in
    ap (λ l. step_line k (called x.command) x.word x.after ++ l) (lines-parted called (k + 1) xs ys ∙ ap (λ i. step_lines called (k + 1) xs ++ step_lines called i ys) e)
    ∙ sym (append_assoc (step_line k (called x.command) x.word x.after) (step_lines called (k + 1) xs) (step_lines called (k + suc (length xs)) ys))

-- The lines of the steps whose records begin at `from`.
module _ (called : ℕ → Word) (sheet : List ℕ) (from : ℕ) where
  abbrev pub lines : ℕ → List ℕ
  lines i = step_lines called 1 (steps_in sheet from i)

  more-lines : (i d : ℕ) → lines (i + d) ≡ lines i ++ step_lines called (1 + i) (steps_in sheet (from + 10 * i) d)
  more-lines i d =
      ap (step_lines called 1) (steps-parted sheet from i d)
      ∙ lines-parted called 1 (steps_in sheet from i) (steps_in sheet (from + 10 * i) d)
      ∙ ap (λ k. lines i ++ step_lines called (1 + k) (steps_in sheet (from + 10 * i) d)) (steps-many sheet from i)

  pub lines-begun : {out : Writer} → Writes out (lines 0) out
  unfolding step_lines steps_in
  lines-begun = nothing

  -- The record of step i.
  abbrev step : ℕ → TraceStep
  step i = step_in sheet (from + 10 * i + 6)

  -- Where the lines of the steps before it are put, its own is next.
  module _ {s t : Writer} (i : ℕ) (P : Writes s (lines i) t) (v : List ℕ) (same : v ≡ step_line (i + 1) (called (step i).command) (step i).word (step i).after) where
    one-more : lines (i + 1) ≡ lines i ++ v
    unfolding step_lines steps_in
    one-more =
        let k : 1 + i ≡ i + 1 = omega arith in
        more-lines i 1
        ∙ ap (λ l. lines i ++ l)
        (append-nil (step_line (1 + i) (called (step i).command) (step i).word (step i).after)
        ∙ ap (λ j. step_line j (called (step i).command) (step i).word (step i).after) k ∙ sym same)

    pub next-room : (n : ℕ) → i < n → HasRoom s (lines n) → HasRoom t v
    next-room n h f =
        let d = n - (i + 1) in
        let e : n ≡ i + 1 + d = omega arith in
        let all : lines n ≡ lines (i + 1) ++ step_lines called (1 + (i + 1)) (steps_in sheet (from + 10 * (i + 1)) d) = ap lines e ∙ more-lines (i + 1) d in
        let some = first-room (lines (i + 1)) (step_lines called (1 + (i + 1)) (steps_in sheet (from + 10 * (i + 1)) d)) (subst (HasRoom s) all f) in
        rest-room v P (subst (HasRoom s) one-more some)

    pub next-put : {u : Writer} → Writes t v u → Writes s (lines (i + 1)) u
    next-put {u} Q = subst (λ l. Writes s l u) (sym one-more) (behind P Q)

-- What holds of every step holds of step i.
pub each-step : (P : TraceStep → Type 0) (sheet : List ℕ) (from n i : ℕ) → i < n → Every P (steps_in sheet from n) → P (step_in sheet (from + 10 * i + 6))
unfolding steps_in
each-step P sheet from zero i h a = absurd (omega (arith, h))
each-step P sheet from (suc n) zero h a = let e : from + 6 ≡ from + 10 * 0 + 6 = omega arith in subst (λ p. P (step_in sheet p)) e a.0
each-step P sheet from (suc n) (suc i) h a =
    let e : from + 10 + 10 * i + 6 ≡ from + 10 * suc i + 6 = omega arith in subst (λ p. P (step_in sheet p)) e (each-step P sheet (from + 10) n i (omega (arith, h)) a.1)
