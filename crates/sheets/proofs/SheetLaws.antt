-- Laws of records, of demands and of the shapes they lead to, over plain variables, as the proofs of the functions cite them.
-- Assumes nothing.
use mathlib.Core.Path.{◌≡◌, sym, ap, ◌∙◌}
use mathlib.Core.Bool.{Bool, true, false, ◌&&◌, not-eq-not}
use mathlib.Core.List.{List, ◌∷◌}
use Prim.Native.Nat.{ℕ, suc, ◌+◌, ◌-◌, ◌^◌, ◌<◌, ◌≤◌}
use native.Mathlib.Omega.{arith}
use lib.ListN.{length, get_or}
use lib.Dec.{eqb, ltb}
use borrow.Author.Tests.{ltb-true, leb-true, eqb-true, eq-eqb, lt-ltb, le-leb}
use Rattle.meaning.specs.OneRow.{TraceStep}
use Rattle.meaning.specs.Evidence.{InRange}
use Rattle.notation.proofs.Booleans.{and_split}
use Rattle.sheets.specs.SheetTexts.{two_at, four_at, is_record, same_counts, step_in, step_fits}
use Rattle.sheets.specs.Sheets.{map_length}
use Rattle.sheets.specs.working.SheetReading.{Reading, refused, demand, either, steps_at, step_count, map_at, trace_at, body_at, sheet_in}
use Rattle.sheets.specs.working.Shapes.{shape_of}
use Rattle.std.specs.Prelude.{Err}
use Rattle.refusals.specs.declared.Refusal.{Refusal}
use Rattle.refusals.specs.Reasons.{reason_of, refusal_of}

-- To unfold this is to unfold all that computes a sheet's kind or its refusal from the demands on it.
unfoldable pub shaping : Unit {0}
unfolding demand either map_at steps_at trace_at body_at sheet_in shape_of reason_of
shaping = tt

three_split : (a b c : Bool) → a && (b && c) ≡ true → (a ≡ true) × (b ≡ true) × (c ≡ true)
three_split a b c e =
    let s = and_split a _ e in
    let t = and_split b c s.1 in
    (s.0, t.0, t.1)

-- A record stands at p where it fits and its length and kind are those asked for, and only there; once the first two are known, the kind decides.
module _ (b : List ℕ) (p kind n : ℕ) where
  pub record-parts : is_record b p kind n ≡ true → (p + 6 + n ≤ length b) × (four_at b p ≡ n) × (two_at b (p + 4) ≡ kind)
  unfolding is_record
  record-parts e = let s = three_split _ _ _ e in (leb-true _ _ s.0, eqb-true _ _ s.1, eqb-true _ _ s.2)

  pub record_fits : is_record b p kind n ≡ true → p + 6 + n ≤ length b
  record_fits e = (record-parts e).0

  pub record-last : p + 6 + n ≤ length b → four_at b p ≡ n → eqb (two_at b (p + 4)) kind ≡ is_record b p kind n
  unfolding is_record
  record-last h e = rw (le-leb _ _ h, eq-eqb _ _ e)

  pub record-whole : p + 6 + n ≤ length b → four_at b p ≡ n → two_at b (p + 4) ≡ kind → is_record b p kind n ≡ true
  record-whole h e k = sym (record-last h e) ∙ eq-eqb _ _ k

-- The counts in a header, one by one.
module _ (n : ℕ) (ns : List ℕ) (b : List ℕ) (p : ℕ) where
  pub count-parts : same_counts (n ∷ ns) b p ≡ true → (get_or b p 0 ≡ n) × (same_counts ns b (p + 1) ≡ true)
  unfolding same_counts
  count-parts e = let s = and_split _ _ e in (eqb-true _ _ s.0, s.1)

-- The same of a step's numbers.
module _ (states commands : ℕ) (stars : ℕ → ℕ) (x : TraceStep) where
  pub step-parts : step_fits states commands stars x ≡ true → InRange states commands (λ k. 2 ^ stars k) x
  unfolding step_fits
  step-parts e =
      let s = three_split _ _ _ e in
      record { command = ltb-true _ _ s.0; word = ltb-true _ _ s.1; after = ltb-true _ _ s.2 }

  pub step-last : x.command < commands → x.word < 2 ^ stars x.command → ltb x.after states ≡ step_fits states commands stars x
  unfolding step_fits
  step-last c w = rw (lt-ltb _ _ c, lt-ltb _ _ w)

  pub step-whole : InRange states commands (λ k. 2 ^ stars k) x → step_fits states commands stars x ≡ true
  step-whole h = sym (step-last h.command h.word) ∙ lt-ltb _ _ h.after

-- A record has one kind.
pub kinds-apart : (b : List ℕ) (p n k : ℕ) → is_record b p 3 n ≡ true → is_record b p 2 k ≡ false
kinds-apart b p n k e = not-eq-not.0 (λ h. omega (arith, (record-parts b p 3 n e).2, (record-parts b p 2 k h).2))

-- One demand.
module _ (t : Bool) (n p : ℕ) (rest : Unit {0} → Reading) where
  pub demand-go : t ≡ true → demand t n p rest ≡ rest tt
  unfolding demand
  demand-go e = rw e

  pub demand-no : t ≡ false → demand t n p rest ≡ refused n p
  unfolding demand
  demand-no e = rw e

-- The steps: what is left from here gives what all of it gave.
module _ (states commands : ℕ) (stars : ℕ → ℕ) (b : List ℕ) (p n : ℕ) (rest : Reading) (h : 0 < n) where
  one_less : n ≡ suc (n - 1)
  one_less = omega arith

  pub steps-kind : is_record b p 4 4 ≡ false → refused 9 p ≡ steps_at states commands stars b p n rest
  unfolding steps_at
  steps-kind e = rw one_less (sym (demand-no _ _ _ _ e))

  pub steps_range : is_record b p 4 4 ≡ true → step_fits states commands stars (step_in b (p + 6)) ≡ false → refused 10 p ≡ steps_at states commands stars b p n rest
  unfolding steps_at
  steps_range e f = rw one_less (sym (demand-go _ _ _ _ e ∙ demand-no _ _ _ _ f))

  pub steps_next : is_record b p 4 4 ≡ true → step_fits states commands stars (step_in b (p + 6)) ≡ true
      → steps_at states commands stars b (p + 10) (n - 1) rest ≡ steps_at states commands stars b p n rest
  unfolding steps_at
  steps_next e f = sym (ap (λ (x : ℕ). steps_at states commands stars b p x rest) one_less ∙ demand-go _ _ _ _ e ∙ demand-go _ _ _ _ f)

pub steps_none : (states commands : ℕ) (stars : ℕ → ℕ) (b : List ℕ) (p n : ℕ) (rest : Reading) → n ≡ 0 → steps_at states commands stars b p n rest ≡ rest
unfolding steps_at
steps_none states commands stars b p n rest e = rw e

-- A trace whose start state is there and whose steps are refused.
pub trace-fault : (states commands : ℕ) (stars : ℕ → ℕ) (b : List ℕ) (p x : ℕ) → x ≡ two_at b (p + 6) → x < states
    → (k q : ℕ) → ((rest : Reading) → refused k q ≡ steps_at states commands stars b (p + 8) (step_count b (p + 8)) rest)
    → (y : Refusal) → y ≡ refusal_of k q → Err y ≡ shape_of (trace_at states commands stars b p)
unfolding trace_at demand shape_of
trace-fault states commands stars b p x e h k q f y g =
    let z : ltb (two_at b (p + 6)) states ≡ true = lt-ltb _ _ (rw e at h) in
    rw z (ap Err g ∙ ap shape_of (f _))

-- One turn of a loop that counts them.
pub steps_left : (states commands : ℕ) (stars : ℕ → ℕ) (b : List ℕ) (p q n i : ℕ) (rest : Reading) → i < n → q ≡ p + 10 → is_record b p 4 4 ≡ true
    → step_fits states commands stars (step_in b (p + 6)) ≡ true
    → steps_at states commands stars b q (n - (i + 1)) rest ≡ steps_at states commands stars b p (n - i) rest
steps_left states commands stars b p q n i rest h k e f =
    let j : n - (i + 1) ≡ (n - i) - 1 = omega arith in
    rw (k, j) (steps_next states commands stars b p (n - i) rest (omega arith) e f)

-- Sizes.
pub map-length_pos : (states n : ℕ) → n ≡ map_length states → 1 ≤ n
unfolding map_length
map-length_pos states n e = omega arith

-- No map of so few states is longer than this.
pub map-length_le : (states n : ℕ) → states ≤ 4096 → n ≡ map_length states → n ≤ 512
unfolding map_length
map-length_le states n h e = omega arith
