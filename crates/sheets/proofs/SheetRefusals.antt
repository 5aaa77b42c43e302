-- The reading refuses a sheet exactly with its first refusal.
-- Assumes nothing.
use mathlib.Core.Path.{◌≡◌, refl, sym, ap, ◌∙◌, subst}
use mathlib.Core.Bool.{Bool, true, false, true≢false, not-eq-not}
use mathlib.Core.List.{List, []}
use Prim.Native.Nat.{ℕ, zero, suc, ◌+◌, ◌<◌, ◌≤◌}
use native.Mathlib.Omega.{arith}
use lib.ListN.{length, get_or}
use lib.Dec.{eqb}
use borrow.Author.Tests.{ne_eqb, le-leb, lt-leb, leb-true, leb-false, eqb-false}
use Rattle.meaning.specs.Evidence.{Sheet, safe, trace}
use Rattle.sheets.specs.SheetTexts.{two_at, is_record, same_counts, unused_clear, step_in, step_fits, Stage, at_header, at_body, at_end, at_step, Allowed, header, map, start, step, MayEnd, Clean, begin, next, SheetRefused, too_long, misplaced, out_of_range}
use Rattle.sheets.specs.Sheets.{System, size, header_length, map_length}
use Rattle.sheets.specs.working.SheetReading.{Reading, refused, holds, demand, either, map_in, map_at, steps_in, steps_at, step_count, trace_at, body_at, sheet_in, sheet_of}
use Rattle.sheets.specs.Promises.{RefusedIffReads}
use Rattle.sheets.proofs.SheetLaws.{record-parts, kinds-apart, demand-go, demand-no}

-- How many records of steps are begun.
count_next : (b : List ℕ) (p : ℕ) → p < length b → step_count b p ≡ suc (step_count b (p + 10))
unfolding step_count
count_next b p h = omega arith

count-some : (b : List ℕ) (p k : ℕ) → suc k ≡ step_count b p → p < length b
unfolding step_count
count-some b p k h = omega arith

count_down : (b : List ℕ) (p k : ℕ) → suc k ≡ step_count b p → k ≡ step_count b (p + 10)
unfolding step_count
count_down b p k h = omega arith

module _ (M : System) (b : List ℕ) where
  -- The tests and the readings for this system and these bytes.
  abbrev map_here : ℕ → Bool
  map_here p = is_record b p 2 (map_length (size M))

  abbrev clear_at : ℕ → Bool
  clear_at p = unused_clear (size M) (get_or b (p + 6) 0)

  abbrev counts_at : ℕ → Bool
  counts_at p = same_counts M.counts b p

  abbrev fits_at : ℕ → Bool
  fits_at p = step_fits (size M) M.commands M.stars (step_in b (p + 6))

  abbrev steps_from : ℕ → ℕ → Reading → Reading
  steps_from p n rest = steps_at (size M) M.commands M.stars b p n rest

  abbrev trace_from : ℕ → Reading
  trace_from p = trace_at (size M) M.commands M.stars b p

  abbrev body_from : ℕ → Reading
  body_from p = body_at (size M) M.commands M.stars b p

  abbrev NoneAllowed : ℕ → Stage → Type 0
  NoneAllowed p s = (r : Bool) (q : ℕ) (t : Stage) → Allowed M b p s r q t → ⊥

  -- The reading from a stage on.
  unfoldable from : Stage → ℕ → Sheet → Reading
  from at_header p x = demand (is_record b p M.kind (length M.counts)) 9 p λ _. demand (counts_at (p + 6)) 10 p λ _. body_from (p + 6 + length M.counts)
  from at_body p x = body_from p
  from at_end p x = demand (eqb (length b) p) 9 p λ _. holds x
  from at_step p x = steps_from p (step_count b p) (holds x)

  -- The steps from p on, once one is begun there.
  begun : (p : ℕ) (x : Reading) → p < length b → steps_from p (step_count b p) x
      ≡ demand (is_record b p 4 4) 9 p (λ _. demand (fits_at p) 10 p (λ _. steps_from (p + 10) (step_count b (p + 10)) x))
  unfolding steps_at
  begun p x h = ap (λ (k : ℕ). steps_from p k x) (count_next b p h)

  inside : (p : ℕ) → is_record b p 4 4 ≡ true → p < length b
  inside p e = omega (arith, (record-parts b p 4 4 e).0)

  -- A record without fault is passed.
  pass : (p q : ℕ) (s t : Stage) (r : Bool) → Allowed M b p s r q t → r ≡ true → (x : Sheet) → (y : Sheet) × (from s p x ≡ from t q y)
  unfolding from body_at either map_at trace_at
  pass p q s t r (header e) h x = (x, demand-go _ _ _ _ e ∙ demand-go _ _ _ _ h)
  pass p q s t r (map e c) h x = (safe (map_in b (p + 6) (map_length (size M))), rw e (demand-go _ _ _ _ c))
  pass p q s t r (start e) h x =
      (trace (two_at b (p + 6)) (steps_in b (p + 8) (step_count b (p + 8))), rw (kinds-apart b p 2 (map_length (size M)) e, e) (demand-go _ _ _ _ h))
  pass p q s t r (step e) h x = (x, begun p (holds x) (inside p e) ∙ demand-go _ _ _ _ e ∙ demand-go _ _ _ _ h)

  -- A record that may stand ends within the sheet.
  past : (p q : ℕ) (s t : Stage) (r : Bool) → Allowed M b p s r q t → q ≤ length b
  past p q s t r (header e) = omega (arith, (record-parts b _ _ _ e).0)
  past p q s t r (map e u) = (record-parts b _ 2 _ e).0
  past p q s t r (start e) = omega (arith, (record-parts b _ 3 2 e).0)
  past p q s t r (step e) = omega (arith, (record-parts b _ 4 4 e).0)

  pub within : (p : ℕ) (s : Stage) → Clean M b p s → p ≤ length b
  within p s (begin h) = omega arith
  within p s (next {p = q} {s = u} c a h) = past q p u s _ a

  -- Clean records are passed.
  clean : (p : ℕ) (s : Stage) → Clean M b p s → (x : Sheet) × (sheet_of M b ≡ from s p x)
  unfolding sheet_in from
  clean p s (begin h) = (safe [], demand-go _ _ _ _ (le-leb _ _ h))
  clean p s (next {p = q} {s = u} c a h) =
      let i = clean q u c in
      let j = pass q p u s _ a h i.0 in
      (j.0, i.1 ∙ j.1)

  -- A record out of range.
  range : (p q : ℕ) (s t : Stage) (r : Bool) → Allowed M b p s r q t → r ≡ false → (x : Sheet) → from s p x ≡ refused 10 p
  unfolding from body_at either map_at trace_at
  range p q s t r (header e) h x = demand-go _ _ _ _ e ∙ demand-no _ _ _ _ h
  range p q s t r (map e c) h x = absurd (true≢false h)
  range p q s t r (start e) h x = rw (kinds-apart b p 2 (map_length (size M)) e, e) (demand-no _ _ _ _ h)
  range p q s t r (step e) h x = begun p (holds x) (inside p e) ∙ demand-go _ _ _ _ e ∙ demand-no _ _ _ _ h

  -- No record that may stand here.
  body_unclear : (p : ℕ) → map_here p ≡ true → clear_at p ≡ false → body_from p ≡ refused 9 p
  unfolding body_at either map_at
  body_unclear p e c = rw e (demand-no _ _ _ _ c)

  body-wrong : (p : ℕ) → map_here p ≡ false → is_record b p 3 2 ≡ false → body_from p ≡ refused 9 p
  unfolding body_at either
  body-wrong p e c = rw (e, c)

  misplace_body : (p : ℕ) (t : Bool) → map_here p ≡ t → NoneAllowed p at_body → body_from p ≡ refused 9 p
  misplace_body p true h n = body_unclear p h (not-eq-not.0 (λ c. n _ _ _ (map h c)))
  misplace_body p false h n = body-wrong p h (not-eq-not.0 (λ k. n _ _ _ (start k)))

  misplace : (p : ℕ) (s : Stage) → p ≤ length b → NoneAllowed p s → (MayEnd s → length b ≡ p → ⊥) → (x : Sheet) → from s p x ≡ refused 9 p
  unfolding from
  misplace p at_header w n e x = demand-no _ _ _ _ (not-eq-not.0 (λ h. n _ _ _ (header h)))
  misplace p at_body w n e x = misplace_body p _ refl n
  misplace p at_end w n e x = demand-no _ _ _ _ (ne_eqb _ _ (e tt))
  misplace p at_step w n e x = begun p (holds x) (strict (e tt)) ∙ demand-no _ _ _ _ (not-eq-not.0 (λ h. n _ _ _ (step h)))
    where
      strict : (length b ≡ p → ⊥) → p < length b
      strict f = omega arith

  refused-reads : (n p : ℕ) → SheetRefused M b n p → sheet_of M b ≡ refused n p
  unfolding sheet_in
  refused-reads n p (too_long h) = demand-no _ _ _ _ (lt-leb _ _ h)
  refused-reads n p (misplaced {s = s} c m e) = let i = clean p s c in i.1 ∙ misplace p s (within p s c) m e i.0
  refused-reads n p (out_of_range {q = q} {s = s} {t = t} {r = r} c a h) = let i = clean p s c in i.1 ∙ range p q s t r a h i.0

  -- And back: where a demand leads to a refusal, it is the demand's own, or that of the rest.
  abbrev Refuses : Reading → Type 0
  Refuses r = (n p : ℕ) → r ≡ refused n p → SheetRefused M b n p

  own : (k q : ℕ) → SheetRefused M b k q → Refuses (refused k q)
  own k q x n p e =
      let i : k ≡ n = cc in
      let j : q ≡ p = cc in
      subst (λ (u : ℕ). SheetRefused M b u p) i (subst (λ (u : ℕ). SheetRefused M b k u) j x)

  demanded : (t : Bool) (k q : ℕ) (rest : Unit {0} → Reading) → (t ≡ false → SheetRefused M b k q) → (t ≡ true → Refuses (rest tt)) → Refuses (demand t k q rest)
  unfolding demand
  demanded true k q rest f g = g refl
  demanded false k q rest f g = own k q (f refl)

  never : (x : Sheet) → Refuses (holds x)
  never x n p e = let z : ◌≡◌ {A = ℕ} 0 1 = cc in absurd (omega arith)

  no_step : (p : ℕ) → is_record b p 4 4 ≡ false → NoneAllowed p at_step
  no_step p f r q t (step e) = true≢false (sym e ∙ f)

  no_header : (p : ℕ) → is_record b p M.kind (length M.counts) ≡ false → NoneAllowed p at_header
  no_header p f r q t (header e) = true≢false (sym e ∙ f)

  no_body : (p : ℕ) → map_here p ≡ false → is_record b p 3 2 ≡ false → NoneAllowed p at_body
  no_body p f g r q t (map e c) = true≢false (sym e ∙ f)
  no_body p f g r q t (start e) = true≢false (sym e ∙ g)

  no-clear : (p : ℕ) → map_here p ≡ true → clear_at p ≡ false → NoneAllowed p at_body
  no-clear p f g r q t (map e c) = true≢false (sym c ∙ g)
  no-clear p f g r q t (start e) = true≢false (sym f ∙ kinds-apart b p 2 (map_length (size M)) e)

  none_after : (p : ℕ) (s : Stage) (r : Bool) (q : ℕ) (t : Stage) → Allowed M b p s r q t → s ≡ at_end → ⊥
  none_after p s r q t (header e) h = let z : ◌≡◌ {A = ℕ} 0 1 = cc in omega arith
  none_after p s r q t (map e c) h = let z : ◌≡◌ {A = ℕ} 0 1 = cc in omega arith
  none_after p s r q t (start e) h = let z : ◌≡◌ {A = ℕ} 0 1 = cc in omega arith
  none_after p s r q t (step e) h = let z : ◌≡◌ {A = ℕ} 0 1 = cc in omega arith

  no_more : (p : ℕ) → NoneAllowed p at_end
  no_more p r q t a = none_after p at_end r q t a refl

  steps-refused : (k p : ℕ) → k ≡ step_count b p → Clean M b p at_step → (x : Sheet) → Refuses (steps_from p k (holds x))
  unfolding steps_at
  steps-refused zero p h c x = never x
  steps-refused (suc k) p h c x =
      demanded _ _ _ _ (λ f. misplaced c (no_step p f) (λ _ l. omega (arith, count-some b p k h))) λ r.
      demanded _ _ _ _ (λ f. out_of_range c (step r) f) λ g.
      steps-refused k (p + 10) (count_down b p k h) (next c (step r) g) x

  map-refused : (p : ℕ) → Clean M b p at_body → map_here p ≡ true → Refuses (map_at (size M) b p)
  unfolding map_at
  map-refused p c e =
      demanded _ _ _ _ (λ f. misplaced c (no-clear p e f) (λ x _. x)) λ u.
      demanded _ _ _ _ (λ f. misplaced (next c (map e u) refl) (no_more _) (λ _ l. eqb-false _ _ f l)) λ _.
      never _

  trace-refused : (p : ℕ) → Clean M b p at_body → is_record b p 3 2 ≡ true → Refuses (trace_from p)
  unfolding trace_at
  trace-refused p c e =
      demanded _ _ _ _ (λ f. out_of_range c (start e) f) λ g.
      steps-refused (step_count b (p + 8)) (p + 8) refl (next c (start e) g) _

  either-refused : (p : ℕ) (u v : Bool) → Clean M b p at_body → map_here p ≡ u → is_record b p 3 2 ≡ v
      → Refuses (either u (λ _. map_at (size M) b p) (λ _. either v (λ _. trace_from p) (λ _. refused 9 p)))
  unfolding either
  either-refused p true v c f g = map-refused p c f
  either-refused p false true c f g = trace-refused p c g
  either-refused p false false c f g = own 9 p (misplaced c (no_body p f g) (λ x _. x))

  body_refused : (p : ℕ) → Clean M b p at_body → Refuses (body_from p)
  unfolding body_at
  body_refused p c = either-refused p _ _ c refl refl

  reads-refused : Refuses (sheet_of M b)
  unfolding sheet_in
  reads-refused =
      demanded _ _ _ _ (λ f. too_long (leb-false _ _ f)) λ l.
      demanded _ _ _ _ (λ f. misplaced (begin (leb-true _ _ l)) (no_header 0 f) (λ x _. x)) λ r.
      demanded _ _ _ _ (λ f. out_of_range (begin (leb-true _ _ l)) (header r) f) λ g.
      body_refused (header_length M) (next (begin (leb-true _ _ l)) (header r) g)

pub refused_iff_reads : RefusedIffReads
refused_iff_reads M b n p = (refused-reads M b n p, reads-refused M b n p)
