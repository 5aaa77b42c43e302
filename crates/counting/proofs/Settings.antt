-- The settings that occur, and what a setting is.
-- Assumes nothing.
use mathlib.Core.Path.{◌≡◌, refl, subst}
use mathlib.Core.Bool.{Bool, true, ◌&&◌}
use mathlib.Core.Logic.{inl}
use mathlib.Core.List.{List, [], ◌∷◌}
use Prim.Native.Nat.{ℕ, ◌<◌}
use native.Mathlib.Omega.{arith}
use native.Mathlib.Nat.{mod-lt}
use lib.Dec.{eqb, ltb}
use lib.ListN.{length}
use borrow.Author.Tests.{lt-ltb, ltb-true, eq-eqb, eqb-true}
use Rattle.notation.proofs.Booleans.{and_split, and_join}
use Rattle.meaning.specs.Evidence.{in_map}
use Rattle.meaning.specs.OneRow.{spread}
use Rattle.meaning.proofs.Number.{number-low}
use Rattle.notation.specs.Regular.{Among}
use Rattle.exploration.specs.Members.{members}
use Rattle.counting.specs.Counts.{setting_of, members_at, count_at, settings_in}
use Rattle.counting.specs.Promises.{Occur, SettingsOccur, SettingsAreShared}
use Rattle.counting.proofs.Below.{passed, listed, ascends}

-- A list has an element exactly if it is not empty.
some : (l : List ℕ) → 0 < length l → (t : ℕ) × Among t l
some [] h = absurd (omega (arith, h))
some (x ∷ xs) h = (x, inl refl)

any : (t : ℕ) (l : List ℕ) → Among t l → 0 < length l
any t [] a = absurd a
any t (x ∷ xs) a = omega arith

-- A state that passes the test for a setting, and one that is a member with that setting.
module _ (settings : ℕ) (bytes : List ℕ) (j s : ℕ) where
  abbrev test : Bool
  test = in_map bytes s && eqb (setting_of settings s) j

  pub has_setting : test ≡ true → (in_map bytes s ≡ true) × (setting_of settings s ≡ j)
  has_setting e = let p = and_split (in_map bytes s) (eqb (setting_of settings s) j) e in (p.0, eqb-true (setting_of settings s) j p.1)

  pub at_setting : in_map bytes s ≡ true → setting_of settings s ≡ j → test ≡ true
  at_setting e f = and_join (in_map bytes s) (eqb (setting_of settings s) j) e (eq-eqb (setting_of settings s) j f)

module _ (states settings : ℕ) (bytes : List ℕ) (pos : 0 < settings) where
  abbrev Had : ℕ → Type 0
  Had j = (s : ℕ) × Among s (members states bytes) × (setting_of settings s ≡ j)

  had : (j : ℕ) → Among j (settings_in states settings bytes) → Had j
  had j a =
      let p = passed (λ i. ltb 0 (count_at states settings bytes i)) settings j a in
      let (s, m) = some (members_at states settings bytes j) (ltb-true 0 (count_at states settings bytes j) p.1) in
      let q = passed (λ t. in_map bytes t && eqb (setting_of settings t) j) states s m in
      let r = has_setting settings bytes j s q.1 in
      (s, listed (in_map bytes) states s q.0 r.0, r.1)

  has : (j : ℕ) → Had j → Among j (settings_in states settings bytes)
  has j (s, m, e) =
      let p = passed (in_map bytes) states s m in
      let a = listed (λ t. in_map bytes t && eqb (setting_of settings t) j) states s p.0 (at_setting settings bytes j s p.1 e) in
      let l : j < settings = subst (λ k. k < settings) e (mod-lt s pos) in
      listed (λ i. ltb 0 (count_at states settings bytes i)) settings j l (lt-ltb 0 (count_at states settings bytes j) (any s (members_at states settings bytes j) a))

  occur : Occur states settings bytes
  occur = record { ascending = ascends (λ i. ltb 0 (count_at states settings bytes i)) settings; exactly = λ j. (had j, has j) }

pub settings_occur : SettingsOccur
settings_occur states settings bytes pos = occur states settings bytes pos

pub settings_are_shared : SettingsAreShared
unfolding spread
settings_are_shared m s = number-low m.shared_names s
