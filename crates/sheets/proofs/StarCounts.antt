-- Of the star counts, the reading of a sheet asks only for those of the model's commands.
-- Assumes nothing.
use mathlib.Core.Path.{◌≡◌, refl, ap, ◌∙◌}
use mathlib.Core.Bool.{Bool, true, false, ◌&&◌}
use mathlib.Core.List.{List}
use Prim.Native.Nat.{ℕ, zero, suc, ◌+◌, ◌^◌, ◌<◌}
use lib.Dec.{ltb, leb}
use lib.ListN.{length}
use borrow.Author.Tests.{ltb-true}
use Rattle.meaning.specs.OneRow.{TraceStep}
use Rattle.meaning.specs.Evidence.{trace}
use Rattle.sheets.specs.Sheets.{map_length}
use Rattle.sheets.specs.SheetTexts.{longest, two_at, is_record, same_counts, step_in, step_fits}
use Rattle.sheets.specs.working.SheetReading.{Reading, refused, holds, demand, either, map_at, steps_in, steps_at, step_count, trace_at, body_at, sheet_in}

and_alike : (a b c : Bool) → (a ≡ true → b ≡ c) → a && b ≡ a && c
and_alike true b c h = h refl
and_alike false b c h = refl

module _ (states commands : ℕ) (f g : ℕ → ℕ) (same : (k : ℕ) → k < commands → f k ≡ g k) (b : List ℕ) where
  fits-alike : (x : TraceStep) → step_fits states commands f x ≡ step_fits states commands g x
  unfolding step_fits
  fits-alike x = and_alike _ _ _ λ e. ap (λ (n : ℕ). ltb x.word (2 ^ n) && ltb x.after states) (same x.command (ltb-true _ _ e))

  steps_alike : (p n : ℕ) (rest : Reading) → steps_at states commands f b p n rest ≡ steps_at states commands g b p n rest
  unfolding steps_at
  steps_alike p zero rest = refl
  steps_alike p (suc n) rest =
      ap (λ (t : Bool). demand (is_record b p 4 4) 9 p λ _. demand t 10 p λ _. steps_at states commands f b (p + 10) n rest) (fits-alike (step_in b (p + 6)))
      ∙ ap (λ (r : Reading). demand (is_record b p 4 4) 9 p λ _. demand (step_fits states commands g (step_in b (p + 6))) 10 p λ _. r) (steps_alike (p + 10) n rest)

  trace-alike : (p : ℕ) → trace_at states commands f b p ≡ trace_at states commands g b p
  unfolding trace_at
  trace-alike p =
      ap (λ (r : Reading). demand (ltb (two_at b (p + 6)) states) 10 p λ _. r)
      (steps_alike (p + 8) (step_count b (p + 8)) (holds (trace (two_at b (p + 6)) (steps_in b (p + 8) (step_count b (p + 8))))))

  body_alike : (p : ℕ) → body_at states commands f b p ≡ body_at states commands g b p
  unfolding body_at
  body_alike p =
      ap (λ (r : Reading). either (is_record b p 2 (map_length states)) (λ _. map_at states b p) λ _. either (is_record b p 3 2) (λ _. r) λ _. refused 9 p)
      (trace-alike p)

pub sheet-alike : (bits kind : ℕ) (counts : List ℕ) (commands : ℕ) (f g : ℕ → ℕ) → ((k : ℕ) → k < commands → f k ≡ g k) → (b : List ℕ)
    → sheet_in bits kind counts commands f b ≡ sheet_in bits kind counts commands g b
unfolding sheet_in
sheet-alike bits kind counts commands f g same b =
    ap
    (λ (r : Reading). demand (leb (length b) longest) 9 longest λ _. demand (is_record b 0 kind (length counts)) 9 0 λ _. demand (same_counts counts b 6) 10 0 λ _. r)
    (body_alike (2 ^ bits) commands f g same b (6 + length counts))
