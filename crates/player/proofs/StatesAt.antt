-- The state at each place of the trace that the bytes of a sheet say, as the bytes have it.
-- Assumes nothing.
use mathlib.Core.Path.{◌≡◌, sym, ap, ◌∙◌, subst}
use mathlib.Core.List.{List}
use Prim.Native.Nat.{ℕ, zero, suc, ◌+◌, ◌*◌, ◌≤◌}
use native.Mathlib.Omega.{arith}
use lib.ListN.{take}
use Rattle.meaning.specs.OneRow.{TraceStep, last_of}
use Rattle.sheets.specs.SheetTexts.{two_at, step_in}
use Rattle.sheets.specs.working.SheetReading.{steps_in}
use Rattle.player.specs.Places.{state_at, StandsOn}
use Rattle.player.specs.declared.record.Player.{Player}
use Rattle.traces.specs.working.Passing.{last_place, header}
use Rattle.player.specs.working.Playing.{record_at}
use Rattle.traces.proofs.Contents.{Contents, contents_length}

-- A state stands in the two bytes at q, and steps follow: the state after k of them stands ten bytes further for each.
steps-state : (b : List ℕ) (q n k : ℕ) → k ≤ n → last_of (two_at b q) (take k (steps_in b (q + 2) n)) ≡ two_at b (q + 10 * k)
unfolding last_of steps_in step_in
steps-state b q n zero h = let e : q ≡ q + 10 * 0 = omega arith in ap (two_at b) e
steps-state b q zero (suc k) h = absurd (omega (arith, h))
steps-state b q (suc n) (suc k) h =
    let further : q + 2 + 6 + 2 ≡ q + 10 = omega arith in
    let behind : q + 2 + 10 ≡ q + 10 + 2 = omega arith in
    let end : q + 10 + 10 * k ≡ q + 10 * suc k = omega arith in
    ap (λ (i : ℕ). last_of (two_at b i) (take k (steps_in b (q + 2 + 10) n))) further
    ∙ ap (λ (i : ℕ). last_of (two_at b (q + 10)) (take k (steps_in b i n))) behind
    ∙ steps-state b (q + 10) n k (omega (arith, h))
    ∙ ap (two_at b) end

module _ {b : List ℕ} {s : ℕ} {xs : List TraceStep} (C : Contents b s xs) where
  pub contents_state : (k : ℕ) → k ≤ last_place header b → state_at s xs k ≡ (record_at header b k).state
  contents_state k h =
      ap (λ (t : ℕ). last_of t (take k xs)) C.start
      ∙ ap (λ (ys : List TraceStep). last_of (two_at b 15) (take k ys)) C.steps
      ∙ steps-state b 15 (last_place header b) k h

  -- A record stands on the trace where the bytes have its state at its place.
  pub stands_here : (p : Player) → StandsOn s xs p → (p.place ≤ last_place header b) × (p.state ≡ (record_at header b p.place).state)
  stands_here p S =
      let h : p.place ≤ last_place header b = subst (λ (n : ℕ). p.place ≤ n) (contents_length C) S.place in
      (h, S.state ∙ contents_state p.place h)

  pub here-stands : (p : Player) → p.place ≤ last_place header b → p.state ≡ (record_at header b p.place).state → StandsOn s xs p
  here-stands p h e =
      record { place = subst (λ (n : ℕ). p.place ≤ n) (sym (contents_length C)) h; state = e ∙ sym (contents_state p.place h) }
