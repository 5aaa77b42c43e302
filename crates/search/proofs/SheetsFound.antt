-- What the search leaves where it found a verdict: the bytes of the sheet behind those of its header.
-- Assumes nothing.
use mathlib.Core.Path.{◌≡◌, sym, ap, ◌∙◌, subst}
use mathlib.Core.List.{List, ◌++◌}
use Prim.Native.Nat.{ℕ, ◌+◌, ◌*◌}
use native.Mathlib.Omega.{arith}
use lib.ListN.{length}
use lib.Seq.{sets}
use Rattle.std.specs.Prelude.{Ok}
use Rattle.statements.proofs.StoredCode.{sets-append}
use Rattle.meaning.specs.OneRow.{TraceStep}
use Rattle.sheets.specs.Sheets.{System, size, little, record_bytes, header_bytes, map_bytes, start_bytes, steps_bytes, sheet_bytes}
use Rattle.meaning.specs.Evidence.{safe, Verdict, safe_by, void_by, unsafe_by}
use Rattle.exploration.specs.working.Written.{head_bytes}
use Rattle.exploration.proofs.FoundShort.{map-sheet-length, trace-sheet-length}
use Rattle.verdicts.specs.Left.{zeroed}
use Rattle.verdicts.specs.working.Searching.{verdict_of, left_with}
use Rattle.search.specs.working.Ends.{Ends}
use Rattle.verdicts.specs.declared.finding.Finding.TheVariants.{Safe, Void, Unsafe}

module _ (M : System) (o₀ : List ℕ) {o₁ : List ℕ} (h : o₁ ≡ sets o₀ 0 (header_bytes M)) where
  -- Bytes behind the header.
  behind : (b : List ℕ) → sets o₁ (length (header_bytes M)) b ≡ sets o₀ 0 (header_bytes M ++ b)
  behind b =
      let e : length (header_bytes M) ≡ 0 + length (header_bytes M) = omega arith in
      ap (λ (l : List ℕ). sets l (length (header_bytes M)) b) h
      ∙ ap (λ (k : ℕ). sets (sets o₀ 0 (header_bytes M)) k b) e
      ∙ sym (sets-append (header_bytes M) b o₀ 0)

  -- The length and the bytes of the sheet that has a map, whatever the verdict by it.
  map-counted : (map : List ℕ) (n : ℕ) → n ≡ length map → length (header_bytes M) + 6 + n ≡ length (sheet_bytes M (safe map))
  map-counted map n f = ap (λ (k : ℕ). length (header_bytes M) + 6 + k) f ∙ sym (map-sheet-length M map)

  map-stored : (map o₂ o : List ℕ) (n : ℕ) → n ≡ length map → o₂ ≡ sets o₁ (length (header_bytes M)) (head_bytes n 2)
      → o ≡ sets o₂ (length (header_bytes M) + 6) map → o ≡ sets o₀ 0 (sheet_bytes M (safe map))
  unfolding sheet_bytes map_bytes record_bytes little
  map-stored map o₂ o n f w x =
      x
      ∙ ap (λ (l : List ℕ). sets l (length (header_bytes M) + 6) map) w
      ∙ sym (sets-append (head_bytes n 2) map o₁ (length (header_bytes M)))
      ∙ behind (head_bytes n 2 ++ map)
      ∙ ap (λ (k : ℕ). sets o₀ 0 (header_bytes M ++ (head_bytes k 2 ++ map))) f

  module _ (q₀ p₀ : List ℕ) {q p : List ℕ} (eq : q ≡ zeroed (size M) q₀) (ep : p ≡ zeroed (size M) p₀) where
    pub trace_left : {v : Verdict} (t : ℕ) {s : ℕ} {xs : List TraceStep} → v ≡ unsafe_by s xs → {o : List ℕ} {len : ℕ}
        → o ≡ sets o₁ (length (header_bytes M)) (start_bytes s ++ steps_bytes xs) → len ≡ length (header_bytes M) + 8 + 10 * length xs
        → Ends (left_with M v t q₀ p₀ o₀) (Ok (Unsafe len)) q p o
    unfolding verdict_of sheet_bytes
    trace_left {v} t {s} {xs} e {o} {len} w l =
        subst (λ (u : Verdict). Ends (left_with M u t q₀ p₀ o₀) (Ok (Unsafe len)) q p o) (sym e)
        (ap (λ (k : ℕ). Ok (Unsafe k)) (l ∙ sym (trace-sheet-length M s xs)), (eq, ep, w ∙ behind (start_bytes s ++ steps_bytes xs)))

    module _ {map o₂ o : List ℕ} {n : ℕ} (f : n ≡ length map) (w : o₂ ≡ sets o₁ (length (header_bytes M)) (head_bytes n 2))
        (x : o ≡ sets o₂ (length (header_bytes M) + 6) map) where
      pub safe-map_left : {v : Verdict} (t : ℕ) {j : ℕ} → j ≡ t → v ≡ safe_by map → Ends (left_with M v t q₀ p₀ o₀) (Ok (Safe (length (header_bytes M) + 6 + n) j)) q p o
      unfolding verdict_of
      safe-map_left t {j} g e =
          subst (λ (u : Verdict). Ends (left_with M u t q₀ p₀ o₀) (Ok (Safe (length (header_bytes M) + 6 + n) j)) q p o) (sym e)
          (ap (λ (k : ℕ). Ok (Safe k j)) (map-counted map n f) ∙ ap (λ (k : ℕ). Ok (Safe (length (sheet_bytes M (safe map))) k)) g, (eq, ep, map-stored map o₂ o n f w x))

      pub void-map_left : {v : Verdict} (t : ℕ) → v ≡ void_by map → Ends (left_with M v t q₀ p₀ o₀) (Ok (Void (length (header_bytes M) + 6 + n))) q p o
      unfolding verdict_of
      void-map_left t e =
          subst (λ (u : Verdict). Ends (left_with M u t q₀ p₀ o₀) (Ok (Void (length (header_bytes M) + 6 + n))) q p o) (sym e)
          (ap (λ (k : ℕ). Ok (Void k)) (map-counted map n f), (eq, ep, map-stored map o₂ o n f w x))
