-- The table of counts, one state more at a time.
-- Assumes nothing.
use mathlib.Core.Path.{◌≡◌, refl, sym, ap, ◌∙◌, subst}
use mathlib.Core.Bool.{Bool, true, false, cond, ◌&&◌}
use mathlib.Core.List.{List}
use Prim.Native.Nat.{ℕ, ◌+◌, ◌≤◌, ◌<◌}
use native.Mathlib.Omega.{arith}
use lib.Dec.{eqb}
use lib.ListN.{length, get_or, set, replicate, length-set}
use lib.Seq.{ext_get_or, get_or-set_same, get_or-set_other}
use borrow.Author.Tests.{eqb-true, eqb-false}
use Rattle.meaning.specs.Evidence.{in_map}
use Rattle.meaning.proofs.Number.{first-length, first-same, first-at}
use Rattle.exploration.specs.Members.{below}
use Rattle.counting.specs.Counts.{setting_of, count_at}
use Rattle.counting.specs.working.Counting.{table}
use Rattle.exploration.proofs.Members.{more, most}

pub table_at : (f : ℕ → ℕ) (j : ℕ) → j < 256 → get_or (table f) j 0 ≡ f j
unfolding table
table_at f j h = first-at 256 f 0 j h

pub table-length : (f : ℕ → ℕ) → length (table f) ≡ 256
unfolding table
table-length f = first-length 256 f

table-alike : (f g : ℕ → ℕ) → ((j : ℕ) → f j ≡ g j) → table f ≡ table g
unfolding table
table-alike f g h = first-same 256 f g (λ j l. h j)

module _ (settings : ℕ) (bytes : List ℕ) where
  pub table-begun : replicate 256 0 ≡ table (count_at 0 settings bytes)
  unfolding below table
  table-begun = refl

  count-more : (s j : ℕ) → count_at (s + 1) settings bytes j ≡ count_at s settings bytes j + cond (in_map bytes s && eqb (setting_of settings s) j) 1 0
  count-more s j = more (λ t. in_map bytes t && eqb (setting_of settings t) j) s

  module _ (s : ℕ) (counts : List ℕ) (T : counts ≡ table (count_at s settings bytes)) where
    -- A state that is no member.
    pub not-counted : in_map bytes s ≡ false → (after : List ℕ) → after ≡ counts → after ≡ table (count_at (s + 1) settings bytes)
    not-counted e after q =
        q ∙ T ∙ table-alike (count_at s settings bytes) (count_at (s + 1) settings bytes)
        (λ j.
        let q : count_at (s + 1) settings bytes j ≡ count_at s settings bytes j + 0 = count-more s j ∙ ap (λ b. count_at s settings bytes j + cond (b && eqb (setting_of settings s) j) 1 0) e in
        omega (arith, q))

    read : (j : ℕ) → j < 256 → get_or counts j 0 ≡ count_at s settings bytes j
    read j h = ap (λ l. get_or l j 0) T ∙ table_at (count_at s settings bytes) j h

    -- No count is more than the number of states.
    pub count_small : (j : ℕ) → j < 256 → get_or counts j 0 ≤ s
    count_small j h = omega (arith, read j h, most (λ t. in_map bytes t && eqb (setting_of settings t) j) s)

    -- A member is counted at its setting.
    module _ (e : in_map bytes s ≡ true) (x : ℕ) (h : x < 256) (p : x ≡ setting_of settings s) where
      at : (j : ℕ) → count_at (s + 1) settings bytes j ≡ count_at s settings bytes j + cond (eqb (setting_of settings s) j) 1 0
      at j = count-more s j ∙ ap (λ b. count_at s settings bytes j + cond (b && eqb (setting_of settings s) j) 1 0) e

      same : (j : ℕ) → j < 256 → (b : Bool) → eqb (setting_of settings s) j ≡ b → get_or (set counts x (get_or counts x 0 + 1)) j 0 ≡ count_at (s + 1) settings bytes j
      same j l true q =
          let i : x ≡ j = p ∙ eqb-true (setting_of settings s) j q in
          let long : length counts ≡ 256 = ap length T ∙ table-length (count_at s settings bytes) in
          let c : count_at (s + 1) settings bytes j ≡ count_at s settings bytes j + 1 = at j ∙ ap (λ b. count_at s settings bytes j + cond b 1 0) q in
          subst (λ k. get_or (set counts k (get_or counts k 0 + 1)) j 0 ≡ count_at (s + 1) settings bytes j) (sym i)
          (get_or-set_same counts j (get_or counts j 0 + 1) 0 (omega arith) ∙ (let z : get_or counts j 0 + 1 ≡ count_at (s + 1) settings bytes j = omega (arith, read j l, c) in z))
      same j l false q =
          let c : count_at (s + 1) settings bytes j ≡ count_at s settings bytes j + 0 = at j ∙ ap (λ b. count_at s settings bytes j + cond b 1 0) q in
          get_or-set_other counts x j (get_or counts x 0 + 1) 0 (λ i. eqb-false (setting_of settings s) j q (sym p ∙ sym i))
          ∙ (let z : get_or counts j 0 ≡ count_at (s + 1) settings bytes j = omega (arith, read j l, c) in z)

      stored : set counts x (get_or counts x 0 + 1) ≡ table (count_at (s + 1) settings bytes)
      stored =
          let long : length (set counts x (get_or counts x 0 + 1)) ≡ 256 = length-set counts x (get_or counts x 0 + 1) ∙ ap length T ∙ table-length (count_at s settings bytes) in
          ext_get_or 0 (set counts x (get_or counts x 0 + 1)) (table (count_at (s + 1) settings bytes)) (long ∙ sym (table-length (count_at (s + 1) settings bytes)))
          (λ j l.
          let k : j < 256 = omega (arith, l, long) in
          same j k (eqb (setting_of settings s) j) refl ∙ sym (table_at (count_at (s + 1) settings bytes) j k))

      pub counted : (after : List ℕ) → after ≡ set counts x (get_or counts x 0 + 1) → after ≡ table (count_at (s + 1) settings bytes)
      counted after q = q ∙ stored
