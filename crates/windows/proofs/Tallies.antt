-- One step after the other: the tally of one more step is the tally that slides on.
-- Assumes nothing.
use mathlib.Core.Path.{◌≡◌, refl, sym, ap, ◌∙◌, subst}
use mathlib.Core.Bool.{Bool, true, false, cond}
use mathlib.Core.List.{List, [], ◌∷◌, ◌++◌, map-append}
use Prim.Native.Nat.{ℕ, suc, ◌+◌, ◌-◌, ◌<◌, ◌≤◌}
use native.Mathlib.Omega.{arith}
use lib.Dec.{ltb}
use lib.ListN.{length, get_or, take, length-append, length-map, get_or-map}
use lib.Seq.{take-suc, length-take-le, get_or-take, take-nil, drop-nil}
use borrow.Author.Tests.{lt-ltb, le-ltb, ltb-true, ltb-false}
use Rattle.std.proofs.lemmas.List.{take_all}
use Rattle.windows.specs.Bursts.{Burst, occurs, occurs_from, last_stretch, first_most, burst}
use Rattle.windows.specs.working.Sliding.{commands_in, tally_of, fresh, leaving_of, is_one, slid_of}
use Rattle.windows.specs.declared.record.Step.{Step}
use Rattle.windows.specs.declared.record.Tally.{Tally}
use Rattle.windows.proofs.Occurrences.{one-more_of, from_le, from-before, from-whole, from_slides, most-same}

-- A tally by its parts.
abbrev tally : ℕ → ℕ → ℕ → ℕ → Burst → Tally
tally k w seen here b = record { command = k; width = w; seen = seen; here = here; most = b.most; place = b.place }

same-tally : (k w : ℕ) (seen seen' here here' : ℕ) (b b' : Burst) → seen ≡ seen' → here ≡ here' → b ≡ b' → tally k w seen here b ≡ tally k w seen' here' b'
same-tally k w seen seen' here here' b b' e f g =
    ap (λ (n : ℕ). tally k w n here b) e ∙ ap (λ (n : ℕ). tally k w seen' n b) f ∙ ap (tally k w seen' here') g

-- No step has none of a command.
from_none : (k w p : ℕ) → occurs_from k w [] p ≡ 0
unfolding occurs_from occurs
from_none k w p = ap (λ (l : List ℕ). occurs k (take w l)) (drop-nil (p - 1)) ∙ ap (occurs k) (take-nil w)

-- Nothing seen yet is the tally of no steps.
pub fresh-is : (k w : ℕ) → fresh k w ≡ tally_of k w []
unfolding fresh tally_of burst first_most
fresh-is k w =
    let z : 0 - w ≡ 0 = omega arith in
    same-tally k w 0 0 0 (occurs_from k w [] (0 - w + 1)) (record { most = 0; place = 1 }) (first_most (occurs_from k w []) (0 - w)) refl (sym (from_none k w (0 - w + 1)))
    (sym (ap (first_most (occurs_from k w [])) z ∙ ap (λ (m : ℕ). record { most = m; place = 1 }) (from_none k w 1)))

module _ (k w : ℕ) (xs : List ℕ) (x : ℕ) (one : 1 ≤ w) where
  abbrev ys : List ℕ
  ys = xs ++ x ∷ []

  longer : length ys ≡ length xs + 1
  longer = length-append xs (x ∷ [])

  -- While the window is not full it has all steps.
  filling : length xs < w → (y : ℕ) → slid_of (tally_of k w xs) x y ≡ tally_of k w ys
  unfolding slid_of tally_of burst first_most
  filling h y =
      let test : ltb (length xs) w ≡ true = lt-ltb _ _ h in
      let n : length xs - w ≡ 0 = omega (arith, h) in
      let n' : length ys - w ≡ 0 = omega (arith, h, longer) in
      let short : length ys ≤ w = omega (arith, h, longer) in
      let whole : occurs_from k w xs (length xs - w + 1) ≡ occurs k xs = ap (λ (m : ℕ). occurs_from k w xs (m + 1)) n ∙ from-whole k w xs (omega (arith, h)) in
      let whole' : occurs_from k w ys 1 ≡ occurs k xs + is_one k x = from-whole k w ys short ∙ one-more_of k x xs in
      let grown : occurs_from k w xs (length xs - w + 1) + is_one k x ≡ occurs_from k w ys 1 = ap (λ (m : ℕ). m + is_one k x) whole ∙ sym whole' in
      rw test
      (same-tally k w (length xs + 1) (length ys) _ (occurs_from k w ys (length ys - w + 1)) (record { most = occurs_from k w xs (length xs - w + 1) + is_one k x; place = 1 }) (first_most (occurs_from k w ys) (length ys - w))
      (sym longer) (grown ∙ sym (ap (λ (m : ℕ). occurs_from k w ys (m + 1)) n'))
      (ap (λ (m : ℕ). record { most = m; place = 1 }) grown ∙ sym (ap (first_most (occurs_from k w ys)) n')))

  -- A full one loses its first step.
  module _ (full : w ≤ length xs) where
    abbrev q : ℕ
    q = length xs - w

    abbrev here : ℕ
    here = occurs_from k w xs (q + 1) + is_one k x - is_one k (get_or xs q 0)

    next_place : length ys - w ≡ suc q
    next_place = omega (arith, full, longer)

    shown : occurs_from k w ys (q + 2) ≡ here
    shown = from_slides k w xs x one full

    -- The places before are what they were.
    earlier : first_most (occurs_from k w ys) q ≡ first_most (occurs_from k w xs) q
    earlier = most-same (occurs_from k w ys) (occurs_from k w xs) q (λ p l. from-before k w xs x p (omega (arith, l, full)))

    abbrev was : Burst
    was = first_most (occurs_from k w xs) q

    burst-next : first_most (occurs_from k w ys) (length ys - w) ≡ cond (ltb was.most here) (record { most = here; place = q + 2 }) was
    unfolding first_most
    burst-next = ap (first_most (occurs_from k w ys)) next_place ∙ rw (earlier, shown) refl

    by_most : (t : Bool) (seen : ℕ)
        → cond t (tally k w seen here (record { most = here; place = q + 2 })) (tally k w seen here was) ≡ tally k w seen here (cond t (record { most = here; place = q + 2 }) was)
    by_most true seen = refl
    by_most false seen = refl

    sliding : slid_of (tally_of k w xs) x (get_or xs q 0) ≡ tally_of k w ys
    unfolding slid_of tally_of burst
    sliding =
        let test : ltb (length xs) w ≡ false = le-ltb _ _ full in
        let e : q + 2 ≡ suc q + 1 = omega arith in
        rw test
        (by_most (ltb was.most here) (length xs + 1)
        ∙ same-tally k w (length xs + 1) (length ys) here (occurs_from k w ys (length ys - w + 1)) _ (first_most (occurs_from k w ys) (length ys - w))
        (sym longer) (sym (ap (λ (m : ℕ). occurs_from k w ys (m + 1)) next_place ∙ ap (occurs_from k w ys) (sym e) ∙ shown)) (sym burst-next))

-- The record that is read past a list's end, which no run reads.
abbrev pub none : Step
none = record { command = 0; word = 0; after = 0 }

-- Over a list: one more record is one more step.
module _ (k w : ℕ) (l : List Step) (j : ℕ) (below : j < length l) where
  abbrev seen : List ℕ
  seen = commands_in (take j l)

  seen-length : length seen ≡ j
  seen-length = length-map (take j l) (λ (s : Step). s.command) ∙ length-take-le j l (omega (arith, below))

  one-more-seen : commands_in (take (suc j) l) ≡ seen ++ (get_or l j none).command ∷ []
  one-more-seen =
      ap commands_in (take-suc l j none below) ∙ map-append (λ (s : Step). s.command) (take j l) (get_or l j none ∷ [])

  command-seen : (i : ℕ) → i < j → (get_or l i none).command ≡ get_or seen i 0
  command-seen i h = ap (λ (s : Step). s.command) (sym (get_or-take j l i none h)) ∙ sym (get_or-map (λ (s : Step). s.command) (take j l) i none)

  slid_suc : 1 ≤ w → (t : Bool) → ltb j w ≡ t
      → slid_of (tally_of k w seen) (get_or l j none).command (get_or l (cond t j (j - w)) none).command ≡ tally_of k w (seen ++ (get_or l j none).command ∷ [])
  slid_suc one true e =
      filling k w seen (get_or l j none).command one (subst (λ (n : ℕ). n < w) (sym seen-length) (ltb-true j w e)) _
  slid_suc one false e =
      let h : w ≤ j = ltb-false j w e in
      let h' : w ≤ length seen = subst (λ (n : ℕ). w ≤ n) (sym seen-length) h in
      let left : (get_or l (j - w) none).command ≡ get_or seen (length seen - w) 0 = command-seen (j - w) (omega (arith, h, one)) ∙ ap (λ (n : ℕ). get_or seen (n - w) 0) (sym seen-length) in
      ap (slid_of (tally_of k w seen) (get_or l j none).command) left ∙ sliding k w seen (get_or l j none).command one h'

  tally-suc : 1 ≤ w
      → slid_of (tally_of k w seen) (get_or l j none).command (get_or l (leaving_of w j) none).command ≡ tally_of k w (commands_in (take (suc j) l))
  unfolding leaving_of
  tally-suc one = slid_suc one (ltb j w) refl ∙ ap (tally_of k w) (sym one-more-seen)

  -- What a slide asks of the tally.
  tally-small : j < 65535 → ((tally_of k w seen).seen < 65535) × ((tally_of k w seen).here < 65535)
  unfolding tally_of
  tally-small h = (omega (arith, h, seen-length), omega (arith, h, seen-length, from_le k w seen (last_stretch w seen)))

-- The step that leaves is not after the one that enters.
pub leaving_le : (w i : ℕ) → leaving_of w i ≤ i
unfolding leaving_of
leaving_le w i = by_test (ltb i w)
  where
    by_test : (t : Bool) → cond t i (i - w) ≤ i
    by_test true = omega arith
    by_test false = omega arith

-- The tally of the first j steps of a list, from one on that has seen nothing.
unfoldable pub tallied : Tally → List Step → ℕ → Tally
tallied from l j = tally_of from.command from.width (commands_in (take j l))

pub tallied_all : (from : Tally) (l : List Step) (j : ℕ) → length l ≤ j → tallied from l j ≡ tally_of from.command from.width (commands_in l)
unfolding tallied
tallied_all from l j h = rw (take_all j l h) refl

pub tallied_zero : (from : Tally) (l : List Step) → from ≡ tally_of from.command from.width [] → from ≡ tallied from l 0
unfolding tallied
tallied_zero from l e = e

module _ (from : Tally) (l : List Step) (j : ℕ) (below : j < length l) where
  pub tallied_suc : 1 ≤ from.width → slid_of (tallied from l j) (get_or l j none).command (get_or l (leaving_of from.width j) none).command ≡ tallied from l (suc j)
  unfolding tallied
  tallied_suc one = tally-suc from.command from.width l j below one

  pub tallied_small : j < 65535 → ((tallied from l j).seen < 65535) × ((tallied from l j).here < 65535)
  unfolding tallied
  tallied_small h = tally-small from.command from.width l j below h

  -- One turn: the step that leaves is at k.
  pub tallied_next : 1 ≤ from.width → (t : Tally) → t ≡ tallied from l j → (k : ℕ) → k ≡ leaving_of from.width j
      → (r : Tally) → r ≡ slid_of t (get_or l j none).command (get_or l k none).command → r ≡ tallied from l (j + 1)
  tallied_next one t e k left r slid =
      let s : suc j ≡ j + 1 = omega arith in
      slid ∙ ap (λ (u : Tally). slid_of u (get_or l j none).command (get_or l k none).command) e
      ∙ ap (λ (m : ℕ). slid_of (tallied from l j) (get_or l j none).command (get_or l m none).command) left
      ∙ tallied_suc one ∙ ap (tallied from l) s
