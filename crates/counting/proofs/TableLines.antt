-- The lines of a table of counts, one setting more at a time.
-- Assumes nothing.
use mathlib.Core.Path.{◌≡◌, refl, sym, ap, ◌∙◌, subst}
use mathlib.Core.Bool.{Bool, true, false, cond}
use mathlib.Core.List.{List, [], ◌∷◌, ◌++◌, append_assoc, append-nil}
use Prim.Native.Nat.{ℕ, zero, suc, ◌+◌, ◌-◌, ◌≤◌, ◌<◌}
use native.Mathlib.Omega.{arith}
use native.Mathlib.Numerals.{add-one}
use lib.Dec.{ltb}
use lib.ListN.{length, get_or, take, length-append}
use lib.Seq.{get_or-take, length-take-le}
use borrow.Author.Tests.{lt-ltb, le-ltb}
use Rattle.notation.specs.Regular.{Every}
use Rattle.notation.proofs.Members.{weaken}
use Rattle.lines.specs.declared.Writer.{Writer}
use Rattle.lines.specs.Writers.{HasRoom, Writes}
use Rattle.lines.proofs.Writers.{nothing, behind, rest-room}
use Rattle.exploration.specs.Members.{below}
use Rattle.counting.specs.CountLines.{setting_line, setting_lines}
use Rattle.counting.specs.working.Counting.{table, table_lines}
use Rattle.exploration.proofs.Members.{alike}
use Rattle.counting.proofs.Below.{each_below}
use Rattle.counting.proofs.Tables.{table_at}

lines-append : (f : ℕ → ℕ) (xs ys : List ℕ) → setting_lines f (xs ++ ys) ≡ setting_lines f xs ++ setting_lines f ys
unfolding setting_lines
lines-append f [] ys = refl
lines-append f (x ∷ xs) ys =
    ap (λ l. setting_line x (f x) ++ l) (lines-append f xs ys) ∙ sym (append_assoc (setting_line x (f x)) (setting_lines f xs) (setting_lines f ys))

lines-one : (f : ℕ → ℕ) (b : Bool) (n : ℕ) → setting_lines f (cond b (n ∷ []) []) ≡ cond b (setting_line n (f n)) []
unfolding setting_lines
lines-one f true n = append-nil (setting_line n (f n))
lines-one f false n = refl

lines-alike : (f g : ℕ → ℕ) (js : List ℕ) → Every (λ (j : ℕ). f j ≡ g j) js → setting_lines f js ≡ setting_lines g js
unfolding setting_lines
lines-alike f g [] h = refl
lines-alike f g (j ∷ js) h = ap (λ n. setting_line j n ++ setting_lines f js) h.0 ∙ ap (λ l. setting_line j (g j) ++ l) (lines-alike f g js h.1)

-- The lines of a table are those of the counts in it.
pub table-lines : (f : ℕ → ℕ) (counts : List ℕ) (k : ℕ) → counts ≡ table f → k ≤ 256 → table_lines counts k ≡ setting_lines f (below k (λ j. ltb 0 (f j)))
table-lines f counts k T h =
    let js = below k (λ j. ltb 0 (f j)) in
    let there : (j : ℕ) → j < k → get_or counts j 0 ≡ f j = λ j l. ap (λ c. get_or c j 0) T ∙ table_at f j (omega arith) in
    ap (setting_lines (λ j. get_or counts j 0)) (alike (λ j. ltb 0 (get_or counts j 0)) (λ j. ltb 0 (f j)) k (λ j l. ap (ltb 0) (there j l)))
    ∙ lines-alike (λ j. get_or counts j 0) f js
    (weaken (λ (j : ℕ). j < k) (λ (j : ℕ). get_or counts j 0 ≡ f j) there js (each_below (λ j. ltb 0 (f j)) k k (omega arith)))

-- The lines of the first so many counts are those of a table that ends there.
pub first-lines : (counts : List ℕ) (k : ℕ) → k ≤ length counts → table_lines (take k counts) (length (take k counts)) ≡ table_lines counts k
first-lines counts k h =
    let js = below k (λ j. ltb 0 (get_or counts j 0)) in
    let there : (j : ℕ) → j < k → get_or (take k counts) j 0 ≡ get_or counts j 0 = λ j l. get_or-take k counts j 0 l in
    ap (table_lines (take k counts)) (length-take-le k counts h)
    ∙ ap (setting_lines (λ j. get_or (take k counts) j 0)) (alike (λ j. ltb 0 (get_or (take k counts) j 0)) (λ j. ltb 0 (get_or counts j 0)) k (λ j l. ap (ltb 0) (there j l)))
    ∙ lines-alike (λ j. get_or (take k counts) j 0) (λ j. get_or counts j 0) js
    (weaken (λ (j : ℕ). j < k) (λ (j : ℕ). get_or (take k counts) j 0 ≡ get_or counts j 0) there js (each_below (λ j. ltb 0 (get_or counts j 0)) k k (omega arith)))

module _ (counts : List ℕ) where
  abbrev value : ℕ → ℕ
  value j = get_or counts j 0

  lines_more : (j : ℕ) → table_lines counts (j + 1) ≡ table_lines counts j ++ cond (ltb 0 (value j)) (setting_line j (value j)) []
  unfolding below
  lines_more j =
      ap (table_lines counts) (add-one j) ∙ lines-append value (below j (λ i. ltb 0 (value i))) (cond (ltb 0 (value j)) (j ∷ []) [])
      ∙ ap (λ l. table_lines counts j ++ l) (lines-one value (ltb 0 (value j)) j)

  lines_grow : (j d : ℕ) → length (table_lines counts j) ≤ length (table_lines counts (j + d))
  lines_grow j zero = let e : j + 0 ≡ j = omega arith in omega (arith, ap (λ k. length (table_lines counts k)) e)
  lines_grow j (suc d) =
      let e : j + suc d ≡ j + d + 1 = omega arith in
      omega (
        arith,
        ap (λ k. length (table_lines counts k)) e,
        ap length (lines_more (j + d)),
        length-append (table_lines counts (j + d)) (cond (ltb 0 (value (j + d))) (setting_line (j + d) (value (j + d))) []),
        lines_grow j d,
      )

  pub lines-begun : {out : Writer} → Writes out (table_lines counts 0) out
  unfolding below setting_lines
  lines-begun = nothing

  module _ {s t : Writer} (j n : ℕ) (P : Writes s (table_lines counts j) t) (q : n ≡ value j) where
    -- A setting that does not occur has no line.
    pub line_none : n ≤ 0 → Writes s (table_lines counts (j + 1)) t
    line_none h =
        let z : ltb 0 (value j) ≡ false = le-ltb 0 (value j) (omega arith) in
        let e : table_lines counts (j + 1) ≡ table_lines counts j =
        lines_more j ∙ ap (λ b. table_lines counts j ++ cond b (setting_line j (value j)) []) z ∙ append-nil (table_lines counts j) in
        subst (λ v. Writes s v t) (sym e) P

    module _ (h : 0 < n) where
      one_more : table_lines counts (j + 1) ≡ table_lines counts j ++ setting_line j n
      one_more =
          let z : ltb 0 (value j) ≡ true = lt-ltb 0 (value j) (omega arith) in
          lines_more j ∙ ap (λ b. table_lines counts j ++ cond b (setting_line j (value j)) []) z ∙ ap (λ k. table_lines counts j ++ setting_line j k) (sym q)

      -- One that occurs has one, and there is room for it.
      pub line-room : (k : ℕ) → j < k → HasRoom s (table_lines counts k) → HasRoom t (setting_line j n)
      line-room k g F =
          let d : j + 1 + (k - (j + 1)) ≡ k = omega arith in
          let short : length (table_lines counts (j + 1)) ≤ length (table_lines counts k) =
          subst (λ i. length (table_lines counts (j + 1)) ≤ length (table_lines counts i)) d (lines_grow (j + 1) (k - (j + 1))) in
          rest-room (setting_line j n) P (record { room = omega (arith, F.room, short, ap length one_more) })

      pub line-put : {u : Writer} → Writes t (setting_line j n) u → Writes s (table_lines counts (j + 1)) u
      line-put {u} Q = subst (λ v. Writes s v u) (sym one_more) (behind P Q)
