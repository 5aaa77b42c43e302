-- Kinds and their numbers tell each other.
-- Assumes nothing.
use mathlib.Core.Path.{◌≡◌, refl, sym, ap, ◌∙◌}
use mathlib.Core.Bool.{Bool, true, false, not, not-not}
use mathlib.Core.List.{List, [], ◌∷◌}
use Prim.Native.Nat.{ℕ, zero, suc, ◌+◌, ◌≤◌, ◌<◌}
use native.Mathlib.Omega.{arith}
use lib.Dec.{eqb}
use lib.ListN.{get_or, get_or-map}
use borrow.Author.Tests.{eqb-true, eqb-false}
use denote.Enum.Bare.{sameb}
use denote.Enum.Declared.{tag_of}
use Rattle.lexer.specs.declared.pieces.Kind.{Kind}
use Rattle.lexer.specs.declared.pieces.Kind.TheVariants.{Shared, Row, Start, Keep, Each, Command, If, Do, Else, For, End, Skip, And, Or, Not, Zero, One, Star, Dot, Semi, Assign, Open, Close, Other, Name, Bad, Finish}
use Rattle.lexer.specs.contracts.pieces.Kind.{the_type}
use Rattle.lexer.specs.working.Kinds.{kind_number, kinds, kind_of}

pub kind_told : (k : Kind) → kind_of (kind_number k) ≡ k
unfolding kind_of
kind_told Shared = refl
kind_told Row = refl
kind_told Start = refl
kind_told Keep = refl
kind_told Each = refl
kind_told Command = refl
kind_told If = refl
kind_told Do = refl
kind_told Else = refl
kind_told For = refl
kind_told End = refl
kind_told Skip = refl
kind_told And = refl
kind_told Or = refl
kind_told Not = refl
kind_told Zero = refl
kind_told One = refl
kind_told Star = refl
kind_told Dot = refl
kind_told Semi = refl
kind_told Assign = refl
kind_told Open = refl
kind_told Close = refl
kind_told Other = refl
kind_told Name = refl
kind_told Bad = refl
kind_told Finish = refl

-- Equal numbers are those of equal kinds.
pub same_kind : (a b : Kind) → kind_number a ≡ kind_number b → a ≡ b
same_kind a b e = sym (kind_told a) ∙ ap kind_of e ∙ kind_told b

-- The m numbers from i on.
unfoldable counted : ℕ → ℕ → List ℕ
counted zero i = []
counted (suc m) i = i ∷ counted m (suc i)

at_counted : (m i n d : ℕ) → n < m → get_or (counted m i) n d ≡ i + n
unfolding counted
at_counted zero i n d h = absurd (omega arith)
at_counted (suc m) i zero d h = omega arith
at_counted (suc m) i (suc n) d h = at_counted m (suc i) n d (omega arith) ∙ omega arith

pub number_told : (n : ℕ) → n ≤ 26 → kind_number (kind_of n) ≡ n
unfolding kind_of counted
number_told n h = sym (get_or-map kind_number kinds n Finish) ∙ at_counted 27 0 n 26 (omega arith) ∙ omega arith

-- Kinds are compared by their numbers.
tagged : (k : Kind) → tag_of the_type k ≡ kind_number k
tagged Shared = refl
tagged Row = refl
tagged Start = refl
tagged Keep = refl
tagged Each = refl
tagged Command = refl
tagged If = refl
tagged Do = refl
tagged Else = refl
tagged For = refl
tagged End = refl
tagged Skip = refl
tagged And = refl
tagged Or = refl
tagged Not = refl
tagged Zero = refl
tagged One = refl
tagged Star = refl
tagged Dot = refl
tagged Semi = refl
tagged Assign = refl
tagged Open = refl
tagged Close = refl
tagged Other = refl
tagged Name = refl
tagged Bad = refl
tagged Finish = refl

pub kinds_compared : (a b : Kind) → sameb the_type a b ≡ eqb (kind_number a) (kind_number b)
kinds_compared a b = rw (tagged a, tagged b)

-- What the answer to a comparison tells.
module _ (a b : Kind) {r : Bool} (h : r ≡ sameb the_type a b) where
  pub is_kind : r ≡ true → kind_number a ≡ kind_number b
  is_kind e = eqb-true (kind_number a) (kind_number b) (sym (kinds_compared a b) ∙ sym h ∙ e)

  pub no_kind : r ≡ false → kind_number a ≡ kind_number b → ⊥
  no_kind e = eqb-false (kind_number a) (kind_number b) (sym (kinds_compared a b) ∙ sym h ∙ e)

module _ (a b : Kind) {r : Bool} (h : r ≡ not (sameb the_type a b)) where
  pub other_kind : r ≡ true → kind_number a ≡ kind_number b → ⊥
  other_kind e = no_kind a b refl (sym (not-not (sameb the_type a b)) ∙ ap not (sym h ∙ e))

  pub same_kinds : r ≡ false → kind_number a ≡ kind_number b
  same_kinds e = is_kind a b refl (sym (not-not (sameb the_type a b)) ∙ ap not (sym h ∙ e))
