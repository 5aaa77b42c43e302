-- Two maps of exactly the states that runs reach are one map.
-- Assumes nothing.
use mathlib.Core.Path.{◌≡◌, refl, sym, ap, ◌∙◌, subst}
use mathlib.Core.Logic.{⊎_elim}
use mathlib.Core.Bool.{Bool, true, false}
use mathlib.Core.List.{List}
use Prim.Native.Nat.{ℕ, ◌+◌, ◌*◌, ◌<◌, ◌≤◌}
use native.Mathlib.Omega.{arith}
use lib.ListN.{get_or}
use lib.Seq.{ext_get_or}
use Rattle.notation.specs.Model.{Model}
use Rattle.meaning.specs.Bits.{bit, number}
use Rattle.meaning.specs.OneRow.{state_count}
use Rattle.meaning.specs.Evidence.{in_map}
use Rattle.meaning.proofs.Number.{number-first, first-same}
use Rattle.sheets.specs.Sheets.{map_length}
use Rattle.sheets.proofs.MapBits.{map-bit, none_past}
use Rattle.exploration.specs.Findings.{ExactMap}
use Rattle.exploration.proofs.Order.{lt_or_ge}

-- A byte is its eight bits.
byte_same : (x y : ℕ) → x < 256 → y < 256 → ((j : ℕ) → j < 8 → bit x j ≡ bit y j) → x ≡ y
byte_same x y p q h = sym (number-first 8 x p) ∙ ap number (first-same 8 (bit x) (bit y) h) ∙ number-first 8 y q

-- Two truth values are one where each makes the other true.
same_truth : (a b : Bool) → (a ≡ true → b ≡ true) → (b ≡ true → a ≡ true) → a ≡ b
same_truth true b f g = sym (f refl)
same_truth false true f g = g refl
same_truth false false f g = refl

module _ (m : Model) (a b : List ℕ) (E : ExactMap m a) (F : ExactMap m b) where
  used : (t : ℕ) → t < state_count m → in_map a t ≡ in_map b t
  used t h = same_truth (in_map a t) (in_map b t) (λ e. (F.exact t h).1 ((E.exact t h).0 e)) (λ e. (E.exact t h).1 ((F.exact t h).0 e))

  unused : (t : ℕ) → state_count m ≤ t → t < 8 * map_length (state_count m) → in_map a t ≡ in_map b t
  unused t l h = none_past (state_count m) a E.fits E.bytes t l h ∙ sym (none_past (state_count m) b F.fits F.bytes t l h)

  bits-same : (i j : ℕ) → i < map_length (state_count m) → j < 8 → bit (get_or a i 0) j ≡ bit (get_or b i 0) j
  bits-same i j h k =
      sym (map-bit a i j k)
      ∙ ⊎_elim (λ (l : 8 * i + j < state_count m). used (8 * i + j) l) (λ (l : state_count m ≤ 8 * i + j). unused (8 * i + j) l (omega arith)) (lt_or_ge (8 * i + j) (state_count m))
      ∙ map-bit b i j k

  pub maps_alike : a ≡ b
  maps_alike =
      ext_get_or 0 a b (E.fits.long ∙ sym F.fits.long)
      (λ i h. byte_same (get_or a i 0) (get_or b i 0) (E.bytes i) (F.bytes i) (λ j k. bits-same i j (subst (λ (n : ℕ). i < n) E.fits.long h) k))
