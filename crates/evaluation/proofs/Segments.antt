-- The segments of a flat form, found again between their ends.
-- Assumes nothing.
use mathlib.Core.Path.{◌≡◌, refl, sym, ap, ◌∙◌, subst}
use mathlib.Core.List.{List, [], ◌∷◌, ◌++◌, append_assoc}
use Prim.Native.Nat.{ℕ, zero, suc, ◌+◌, ◌<◌, ◌≤◌}
use native.Mathlib.Omega.{arith}
use native.Mathlib.Nat.{not-suc-le-zero, le_of_suc-le-suc}
use lib.ListN.{length, get_or, drop, length-append, get_or-append}
use lib.Seq.{slice, take_at, drop-append_seam}
use Rattle.notation.specs.Layout.{joined, ends_from}
use Rattle.evaluation.specs.working.CodeSystem.{begin_of, segment_of, Parted}

-- Where segment i begins if the first begins at p.
abbrev begin_from : ℕ → List ℕ → ℕ → ℕ
begin_from p ends zero = p
begin_from p ends (suc i) = get_or ends i 0

shifted : (p x : ℕ) (ends : List ℕ) (i : ℕ) → begin_from p (x ∷ ends) (suc i) ≡ begin_from x ends i
shifted p x ends zero = refl
shifted p x ends (suc i) = refl

pub one-cut : (before s after : List ℕ) → slice (length before) (length before + length s) (before ++ s ++ after) ≡ s
one-cut before s after =
    ap (drop (length before)) (take_at (before ++ s) after (length before + length s) (length-append before s)) ∙ drop-append_seam before s

regroup : (before s more after : List ℕ) → before ++ (s ++ more) ++ after ≡ before ++ s ++ more ++ after
regroup before s more after = ap (λ (l : List ℕ). l ++ after) (sym (append_assoc before s more))

found : (ss : List (List ℕ)) (before after : List ℕ) (p : ℕ) → length before ≡ p → (i : ℕ) → i < length ss
    → slice (begin_from p (ends_from p ss) i) (get_or (ends_from p ss) i 0) (before ++ joined ss ++ after) ≡ get_or ss i []
unfolding ends_from joined
found [] before after p e i h = absurd (not-suc-le-zero h)
found (s ∷ ss) before after p e zero h =
    ap (slice p (p + length s)) (regroup before s (joined ss) after ∙ append_assoc (before ++ s) (joined ss) after)
    ∙ subst (λ (n : ℕ). slice n (n + length s) (before ++ s ++ (joined ss ++ after)) ≡ s) e (one-cut before s (joined ss ++ after))
found (s ∷ ss) before after p e (suc i) h =
    ap (λ (n : ℕ). slice n (get_or (ends_from (p + length s) ss) i 0) (before ++ (s ++ joined ss) ++ after)) (shifted p (p + length s) (ends_from (p + length s) ss) i)
    ∙ ap (slice (begin_from (p + length s) (ends_from (p + length s) ss) i) (get_or (ends_from (p + length s) ss) i 0)) (regroup before s (joined ss) after)
    ∙ found ss (before ++ s) after (p + length s) (length-append before s ∙ ap (λ (n : ℕ). n + length s) e) i (le_of_suc-le-suc h)

pub ends-count : (ss : List (List ℕ)) (p : ℕ) → length (ends_from p ss) ≡ length ss
unfolding ends_from
ends-count [] p = refl
ends-count (s ∷ ss) p = ap suc (ends-count ss (p + length s))

rises : (ss : List (List ℕ)) (p i : ℕ) → i < length ss → begin_from p (ends_from p ss) i ≤ get_or (ends_from p ss) i 0
unfolding ends_from
rises [] p i h = absurd (not-suc-le-zero h)
rises (s ∷ ss) p zero h = omega arith
rises (s ∷ ss) p (suc i) h =
    subst (λ (n : ℕ). n ≤ get_or (ends_from (p + length s) ss) i 0) (sym (shifted p (p + length s) (ends_from (p + length s) ss) i))
    (rises ss (p + length s) i (le_of_suc-le-suc h))

stays : (ss : List (List ℕ)) (p i : ℕ) → i < length ss → get_or (ends_from p ss) i 0 ≤ p + length (joined ss)
unfolding ends_from joined
stays [] p i h = absurd (not-suc-le-zero h)
stays (s ∷ ss) p zero h = omega (arith, length-append s (joined ss))
stays (s ∷ ss) p (suc i) h = omega (arith, length-append s (joined ss), stays ss (p + length s) i (le_of_suc-le-suc h))

-- Code and ends at the front of arrays.
module _ (ss : List (List ℕ)) (more_code more_ends : List ℕ) where
  end-at : (i : ℕ) → i < length ss → get_or (ends_from 0 ss ++ more_ends) i 0 ≡ get_or (ends_from 0 ss) i 0
  end-at i h = get_or-append (ends_from 0 ss) more_ends 0 i (omega (arith, ends-count ss 0))

  begin-at : (i : ℕ) → i < length ss → begin_of (ends_from 0 ss ++ more_ends) i ≡ begin_from 0 (ends_from 0 ss) i
  unfolding begin_of
  begin-at zero h = refl
  begin-at (suc i) h = end-at i (omega arith)

  pub segment-at : (i : ℕ) → i < length ss → segment_of (joined ss ++ more_code) (ends_from 0 ss ++ more_ends) i ≡ get_or ss i []
  unfolding segment_of
  segment-at i h =
      ap (λ (n : ℕ). slice n (get_or (ends_from 0 ss ++ more_ends) i 0) (joined ss ++ more_code)) (begin-at i h)
      ∙ ap (λ (n : ℕ). slice (begin_from 0 (ends_from 0 ss) i) n (joined ss ++ more_code)) (end-at i h)
      ∙ found ss [] more_code 0 refl i h

  pub all-parted : (commands : ℕ) → length ss ≡ 4 + commands → length (joined ss) ≤ 2048 → Parted commands (ends_from 0 ss ++ more_ends)
  all-parted commands e h =
      record {
        rising = λ i l. omega (arith, begin-at i (omega arith), end-at i (omega arith), rises ss 0 i (omega arith));
        short = λ i l. omega (arith, end-at i (omega arith), stays ss 0 i (omega arith));
      }
