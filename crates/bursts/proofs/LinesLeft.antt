-- The lines of the commands, one command more at a time.
-- Assumes nothing.
use mathlib.Core.Path.{◌≡◌, refl, sym, ap, ◌∙◌, subst}
use mathlib.Core.List.{List, ◌++◌, append_assoc, append-nil}
use Prim.Native.Nat.{ℕ, zero, suc, ◌+◌, ◌-◌, ◌*◌, ◌<◌, ◌≤◌}
use native.Mathlib.Omega.{arith}
use lib.ListN.{length, length-append}
use Rattle.lines.specs.declared.Writer.{Writer}
use Rattle.lines.specs.Writers.{HasRoom, Writes}
use Rattle.lines.proofs.Writers.{nothing, behind, first-room, rest-room}
use Rattle.bursts.specs.Lines.{lines_from}

-- The same lines, one by one.
pub same_lines : (f g : ℕ → List ℕ) (k n : ℕ) → ((j : ℕ) → j < k + n → f j ≡ g j) → lines_from f k n ≡ lines_from g k n
unfolding lines_from
same_lines f g k zero h = refl
same_lines f g k (suc n) h =
    ap (λ l. l ++ lines_from f (k + 1) n) (h k (omega arith))
    ∙ ap (λ l. g k ++ l) (same_lines f g (k + 1) n (λ j below. h j (omega (arith, below))))

-- None longer than 80 bytes.
pub lines-short : (line_of : ℕ → List ℕ) (n : ℕ) → ((k : ℕ) → k < n → length (line_of k) ≤ 80) → (k m : ℕ) → k + m ≤ n → length (lines_from line_of k m) ≤ 80 * m
unfolding lines_from
lines-short line_of n short k zero h = omega arith
lines-short line_of n short k (suc m) h =
    omega (arith, length-append (line_of k) (lines_from line_of (k + 1) m), short k (omega arith), lines-short line_of n short (k + 1) m (omega arith))

module _ (line_of : ℕ → List ℕ) where
  -- Those before command m, and those from it on.
  parted : (k m d : ℕ) → lines_from line_of k (m + d) ≡ lines_from line_of k m ++ lines_from line_of (k + m) d
  unfolding lines_from
  parted k zero d =
      let e : 0 + d ≡ d = omega arith in
      let f : k ≡ k + 0 = omega arith in
      ap (lines_from line_of k) e ∙ ap (λ j. lines_from line_of j d) f
  parted k (suc m) d =
      let e : suc m + d ≡ suc (m + d) = omega arith in
      let f : k + 1 + m ≡ k + suc m = omega arith in
      ap (lines_from line_of k) e
      ∙ ap (λ l. line_of k ++ l) (parted (k + 1) m d ∙ ap (λ j. lines_from line_of (k + 1) m ++ lines_from line_of j d) f)
      ∙ sym (append_assoc (line_of k) (lines_from line_of (k + 1) m) (lines_from line_of (k + suc m) d))

  pub lines-begun : {out : Writer} → Writes out (lines_from line_of 0 0) out
  unfolding lines_from
  lines-begun = nothing

  -- Where the lines before command i are put, its own is next.
  module _ {s t : Writer} (i : ℕ) (P : Writes s (lines_from line_of 0 i) t) (v : List ℕ) (same : v ≡ line_of i) where
    more : lines_from line_of 0 (i + 1) ≡ lines_from line_of 0 i ++ v
    unfolding lines_from
    more =
        let z : 0 + i ≡ i = omega arith in
        parted 0 i 1 ∙ ap (λ l. lines_from line_of 0 i ++ l) (append-nil (line_of (0 + i)) ∙ ap line_of z ∙ sym same)

    pub next-room : (n : ℕ) → i < n → HasRoom s (lines_from line_of 0 n) → HasRoom t v
    next-room n h f =
        let e : n ≡ i + 1 + (n - (i + 1)) = omega arith in
        let all : lines_from line_of 0 n ≡ lines_from line_of 0 (i + 1) ++ lines_from line_of (0 + (i + 1)) (n - (i + 1)) = ap (lines_from line_of 0) e ∙ parted 0 (i + 1) (n - (i + 1)) in
        let some = first-room (lines_from line_of 0 (i + 1)) (lines_from line_of (0 + (i + 1)) (n - (i + 1))) (subst (HasRoom s) all f) in
        rest-room v P (subst (HasRoom s) more some)

    pub next-put : {u : Writer} → Writes t v u → Writes s (lines_from line_of 0 (i + 1)) u
    next-put {u} Q = subst (λ l. Writes s l u) (sym more) (behind P Q)
