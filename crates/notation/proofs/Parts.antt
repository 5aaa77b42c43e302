-- What each part of a text that keeps the rules obeys.
-- Assumes nothing.
use mathlib.Core.Path.{◌≡◌, refl, ap}
use mathlib.Core.Bool.{Bool, true, false, cond, ◌||◌}
use mathlib.Core.List.{List, [], ◌∷◌, ◌++◌}
use mathlib.Core.Option.{Option, none, some}
use Prim.Native.Nat.{ℕ}
use lib.Dec.{ltb}
use Rattle.notation.specs.Tokens.{Token, Name, SHARED, DOT, ROW}
use Rattle.notation.specs.Notation.{Role, Part, part, shared_name, row_name, declared, plain}
use Rattle.notation.specs.Rules.{view, word_of, again, unknown, over, depth_limit, breach}
use Rattle.notation.specs.Regular.{Every}

-- What a part obeys that breaks no rule after the parts us.
pub record Obeys (us : List Part) (r : Role) (t : Token) : Type 0 where
  pub fresh : again us (view r).declared (word_of t) ≡ false
  pub known : unknown us (view r).kinds (word_of t) ≡ false
  pub unbarred : (view r).barred ≡ false
  pub within : ltb depth_limit (view r).depth || over (view r).adds (us ++ part r t ∷ []) ≡ false

pub obeys : (us : List Part) (r : Role) (t : Token) → breach us (part r t) ≡ none → Obeys us r t
unfolding breach
obeys us r t h = let x = go _ _ _ _ h in record { fresh = x.0; known = x.1; unbarred = x.2; within = x.3 }
  where
    go : (a u s m : Bool) → cond {A = Option ℕ} a (some 4) (cond u (some 5) (cond s (some 6) (cond m (some 7) none))) ≡ none → (a ≡ false) × (u ≡ false) × (s ≡ false) × (m ≡ false)
    go true u s m e = (cc, cc, cc, cc)
    go false true s m e = (cc, cc, cc, cc)
    go false false true m e = (cc, cc, cc, cc)
    go false false false true e = (cc, cc, cc, cc)
    go false false false false e = (refl, refl, refl, refl)

module _ (P : Part → Type 0) where
  -- What holds at every split of the parts holds of every part.
  pub from_splits : (ps : List Part) → ((us : List Part) (p : Part) (vs : List Part) → ps ≡ us ++ p ∷ vs → P p) → Every P ps
  from_splits [] h = tt
  from_splits (p ∷ ps) h = (h [] p ps refl, from_splits ps (λ us q vs e. h (p ∷ us) q vs (ap (λ (l : List Part). p ∷ l) e)))

  -- What holds of every part of two lists joined holds of every part of each.
  pub parted : (ps qs : List Part) → Every P (ps ++ qs) → Every P ps × Every P qs
  parted [] qs h = (tt, h)
  parted (p ∷ ps) qs h = let x = parted ps qs h.1 in ((h.0, x.0), x.1)

  -- What holds of every part of a text holds of those of its two clauses and of its commands.
  pub text-parts : (ws vs : List Name) (ss ks cs : List Part) →
      Every P (plain SHARED ∷ declared shared_name ws ++ (plain DOT ∷ plain ROW ∷ declared row_name vs ++ (plain DOT ∷ ss ++ (ks ++ cs)))) → Every P ss × Every P ks × Every P cs
  text-parts ws vs ss ks cs h =
      let a = parted (declared shared_name ws) _ h.1 in
      let b = parted (declared row_name vs) _ a.1.1.1 in
      let c = parted ss _ b.1.1 in
      let d = parted ks _ c.1 in
      (c.0, d.0, d.1)
