-- The ledger that a reading keeps of the parts before a token: the names declared, and the counts.
-- Assumes nothing.
use Rattle.std.specs.Prelude.{◌≡◌, Bool, true, false, cond, not, ◌||◌, List, [], ◌∷◌, ◌++◌, ℕ, suc, ltb, set, get_or}
use Rattle.std.proofs.Math.Option.{Option, none, some}
use Rattle.notation.specs.Tokens.{Word}
use Rattle.notation.specs.Notation.{Kind, Part, part}
use Rattle.notation.specs.Rules.{View, view, word_of, has, elem, limit_of, depth_limit, STARS}

pub record Book : Type 0 where
  pub names : List (Word × Kind)
  pub counts : List ℕ

abbrev pub blank_book : Book
blank_book = record { names = []; counts = 0 ∷ 0 ∷ 0 ∷ 0 ∷ 0 ∷ 0 ∷ 0 ∷ [] }

-- The counts from place i on, with one more at each of the places ks.
unfoldable pub tally : ℕ → List ℕ → List ℕ → List ℕ
tally i ks [] = []
tally i ks (c ∷ cs) = cond (elem i ks) (suc c) c ∷ tally (suc i) ks cs

abbrev pub counted_on : View → List ℕ → List ℕ
counted_on v cs = tally 0 v.adds (cond v.anew (set cs STARS 0) cs)

abbrev pub named_on : Option Kind → Word → List (Word × Kind) → List (Word × Kind)
named_on none w ns = ns
named_on (some s) w ns = ns ++ (w, s) ∷ []

-- The book after one part more, and after more parts.
unfoldable pub note : Book → Part → Book
note b (part r t) = record { names = named_on (view r).declared (word_of t) b.names; counts = counted_on (view r) b.counts }

abbrev pub notes : Book → List Part → Book
notes b [] = b
notes b (p ∷ ps) = notes (note b p) ps

-- One of the counts ks is over its limit.
unfoldable pub exceeds : List ℕ → List ℕ → Bool
exceeds [] cs = false
exceeds (k ∷ ks) cs = ltb (limit_of k) (get_or cs k 0) || exceeds ks cs

abbrev pub again : Book → Option Kind → Word → Bool
again b none w = false
again b (some s) w = has b.names (λ s. true) w

abbrev pub unknown : Book → Option (Kind → Bool) → Word → Bool
unknown b none w = false
unknown b (some f) w = not (has b.names f w)

abbrev pub too_much : Book → View → Bool
too_much b v = ltb depth_limit v.depth || exceeds v.adds (counted_on v b.counts)

-- The lowest number of a rule that the part breaks, by the book.
unfoldable pub fault : Book → Part → Option ℕ
fault b (part r t) =
    cond (again b (view r).declared (word_of t)) (some 4)
    (cond (unknown b (view r).kinds (word_of t)) (some 5)
    (cond (view r).barred (some 6)
    (cond (too_much b (view r)) (some 7)
    none)))

-- No rule is broken by any of the parts, by the book.
abbrev pub Clean : Book → List Part → Type 0
Clean b [] = Unit {0}
Clean b (p ∷ ps) = (fault b p ≡ none) × Clean (note b p) ps
