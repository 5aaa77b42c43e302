-- Where the first refusal of a text stands, and which numbers it can have.
-- Assumes nothing.
use mathlib.Core.Path.{◌≡◌}
use mathlib.Core.Bool.{Bool, true, false, cond, ◌||◌}
use mathlib.Core.List.{List, [], ◌∷◌, ◌++◌}
use mathlib.Core.Option.{Option, none, some}
use Prim.Native.Nat.{ℕ, ◌+◌, ◌≤◌, ◌<◌}
use native.Mathlib.Omega.{arith}
use lib.Dec.{ltb}
use lib.ListN.{length, length-append}
use Rattle.notation.specs.Tokens.{Token, Lexeme, at, Cut, ended, blank, run, mark, assign, colon, barred}
use Rattle.notation.specs.Notation.{Part, part}
use Rattle.notation.specs.Rules.{depth_limit, view, word_of, over, again, unknown, breach}
use Rattle.notation.specs.Texts.{Refused, at_byte, at_token, at_end, at_rule, too_long, inside}
use Rattle.notation.specs.Promises.{RefusalsBounded}

-- Each lexeme stands before the place n.
abbrev Before : ℕ → List Lexeme → Type 0
Before n [] = Unit {0}
Before n (at i t ∷ us) = (i < n) × Before n us

cut-before : {i : ℕ} {bs : List ℕ} {us : List Lexeme} (n : ℕ) → Cut i bs us → i + length bs ≤ n → Before n us
cut-before n ended h = tt
cut-before n (blank b c) h = cut-before n c (omega arith)
cut-before n (run {bs = bs} b w g e c) h = (omega arith, cut-before n c (omega (arith, length-append w bs)))
cut-before n (mark m c) h = (omega arith, cut-before n c (omega arith))
cut-before n (assign c) h = (omega arith, cut-before n c (omega arith))
cut-before n (colon e c) h = (omega arith, cut-before n c (omega arith))
cut-before n (barred b c) h = (omega arith, cut-before n c (omega arith))

stands : (n : ℕ) (us : List Lexeme) (i : ℕ) (t : Option Token) (ts : List Lexeme) → Before n (us ++ at i t ∷ ts) → i < n
stands n [] i t ts b = b.0
stands n (at j s ∷ us) i t ts b = stands n us i t ts b.1

-- A rule that is broken has a number from 4 to 7.
rule_number : (us : List Part) (p : Part) (n : ℕ) → breach us p ≡ some n → (4 ≤ n) × (n ≤ 7)
unfolding breach
rule_number us (part r t) n h =
    go (again us (view r).declared (word_of t)) (unknown us (view r).kinds (word_of t)) (view r).barred
    (ltb depth_limit (view r).depth || over (view r).adds (us ++ part r t ∷ [])) h
  where
    go : (a b c d : Bool) → cond a (some 4) (cond b (some 5) (cond c (some 6) (cond d (some 7) none))) ≡ some n → (4 ≤ n) × (n ≤ 7)
    go true b c d e = let q : 4 ≡ n = cc in (omega arith, omega arith)
    go false true c d e = let q : 5 ≡ n = cc in (omega arith, omega arith)
    go false false true d e = let q : 6 ≡ n = cc in (omega arith, omega arith)
    go false false false true e = let q : 7 ≡ n = cc in (omega arith, omega arith)
    go false false false false e = let q : ◌≡◌ {A = ℕ} 0 1 = cc in absurd (omega arith)

refused-within : (len : ℕ) (vs : List Lexeme) (n i : ℕ) → Before len vs → Refused len vs n i → (1 ≤ n) × (n ≤ 7) × (i ≤ len)
refused-within len vs n i b (at_byte us j ts f) = (omega arith, omega arith, omega (arith, stands len us j none ts b))
refused-within len vs n i b (at_token us j t ts f v) = (omega arith, omega arith, omega (arith, stands len us j (some t) ts b))
refused-within len vs n i b (at_end us f v) = (omega arith, omega arith, omega arith)
refused-within len vs n i b (at_rule us j r t ts k f g e) =
    let h = rule_number f.parts (part r t) n e in
    (omega (arith, h.0), omega (arith, h.1), omega (arith, stands len us j (some t) ts b))

pub refusals_bounded : RefusalsBounded
refusals_bounded text n i (too_long h) = record { low = omega arith; high = omega arith; in_text = omega arith; near = omega arith }
refusals_bounded text n i (inside us h c r) =
    let w = refused-within (length text) us n i (cut-before (length text) c (omega arith)) r in
    record { low = w.0; high = w.1; in_text = w.2; near = omega (arith, w.2) }
