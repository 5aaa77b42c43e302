-- A table of parents that passes the test for a recorded run records one.
-- Assumes nothing.
use Prim.Native.Nat.{ℕ, suc, zero, ◌+◌, ◌-◌, ◌<◌, ◌≤◌}
use mathlib.Core.Path.{◌≡◌, refl, sym, ap, ◌∙◌}
use mathlib.Core.Bool.{Bool, true, false, cond, false≢true}
use mathlib.Core.List.{List, [], ◌∷◌, Memᴰ}
use mathlib.Core.List.Memᴰ
use mathlib.Core.Logic.{⊎_elim}
use native.Mathlib.Omega.{arith}
use native.Mathlib.Numerals.{add-one}
use lib.Dec.{eqb, ltb}
use lib.ListN.{get_or}
use borrow.Author.Tests.{eq-eqb, ne_eqb, lt-ltb, le-ltb, eqb-true, eqb-false, ltb-true}
use Rattle.std.specs.Prelude.{Option, Some, None, is_some, IsSome, option_map, unwrap_or}
use Rattle.notation.proofs.Booleans.{and_split}
use Rattle.exploration.proofs.Order.{moves_mem, moves-has}
use Rattle.exploration.specs.working.Transitions.{Transitions, Move, moves, move_of}
use Rattle.exploration.specs.working.Runs.{Run, starts_at, goes_on, final, Valid, steps, first_move, move_to, Traced}
use Rattle.exploration.specs.working.Written.{RecordedTo}
use Rattle.exploration.specs.working.Pauses.{leads, back_from, records_to}

-- The run that is found: shorter than n steps, to t.
record Back (M : Transitions) (p : List ℕ) (n t : ℕ) : Type 0 where
  run : Run
  valid : Valid M run
  traced : Traced M p run
  ends : final M run ≡ t
  short : steps run < n

module _ (M : Transitions) (p : List ℕ) where
  step_back : (n s t : ℕ) → get_or p t 0 ≡ suc s → (s ≡ t → ⊥) → leads M s t ≡ true → Back M p n s → Back M p (suc n) t
  unfolding leads
  step_back n s t e other l B =
      let m = first_move M s t (moves M) in
      let a = and_split (ltb m.command M.commands) _ l in
      let b = and_split (ltb m.word (M.words m.command)) _ a.1 in
      let f : final M (goes_on B.run m) ≡ t =
      ap (λ (u : ℕ). M.step u m.command m.word) B.ends ∙ eqb-true (M.step s m.command m.word) t b.1 in
      record {
        run = goes_on B.run m;
        valid = (B.valid, (ltb-true m.command M.commands a.0, ltb-true m.word (M.words m.command) b.0));
        traced = (
          B.traced,
          ap (λ (u : ℕ). get_or p u 0) f ∙ omega (arith, e, B.ends),
          (λ g. other (sym B.ends ∙ g ∙ f)),
          ap (λ (u : ℕ). first_move M u (final M (goes_on B.run m)) (moves M)) B.ends ∙ ap (λ (u : ℕ). first_move M s u (moves M)) f,
        );
        ends = f;
        short = omega (arith, B.short);
      }

  back-other : (n s t : ℕ) → get_or p t 0 ≡ suc s → (s ≡ t → ⊥) → (records_to M p n s ≡ true → s < M.size → Back M p n s)
      → (b c : Bool) → ltb s M.size ≡ b → leads M s t ≡ c → cond b (cond c (records_to M p n s) false) false ≡ true → Back M p (suc n) t
  back-other n s t e other rec true true h l g = step_back n s t e other l (rec g (ltb-true s M.size h))
  back-other n s t e other rec true false h l g = absurd (false≢true g)
  back-other n s t e other rec false c h l g = absurd (false≢true g)

  back_from_lem : (n t : ℕ) → t < M.size → ((s : ℕ) → records_to M p n s ≡ true → s < M.size → Back M p n s)
      → (k : ℕ) → get_or p t 0 ≡ k → back_from M (records_to M p n) t k ≡ true → Back M p (suc n) t
  back_from_lem n t h rec zero e g = absurd (false≢true g)
  back_from_lem n t h rec (suc s) e g = go (eqb s t) refl g
    where
      go : (b : Bool) → eqb s t ≡ b → cond b (M.starts t) (cond (ltb s M.size) (cond (leads M s t) (records_to M p n s) false) false) ≡ true → Back M p (suc n) t
      go true f k = record { run = starts_at t; valid = (h, k); traced = omega (arith, e, eqb-true s t f); ends = refl; short = omega arith }
      go false f k = back-other n s t e (eqb-false s t f) (rec s) (ltb s M.size) (leads M s t) refl refl k

  back : (n t : ℕ) → records_to M p n t ≡ true → t < M.size → Back M p n t
  unfolding records_to
  back zero t e h = absurd (false≢true e)
  back (suc n) t e h = back_from_lem n t h (λ s g k. back n s g k) (get_or p t 0) refl e

  pub recorded : (t : ℕ) → t < M.size → records_to M p M.size t ≡ true → RecordedTo M p t
  recorded t h e =
      let B = back M.size t e h in
      record { run = B.run; valid = B.valid; traced = B.traced; ends = B.ends; short = B.short }

-- The test step by step, as the loop goes back.
module _ (M : Transitions) (p : List ℕ) (n t : ℕ) (some : 0 < n) where
  turned : records_to M p n t ≡ back_from M (records_to M p (n - 1)) t (get_or p t 0)
  unfolding records_to
  turned = let e : n ≡ suc (n - 1) = omega arith in ap (λ (k : ℕ). records_to M p k t) e

  pub records_none : get_or p t 0 ≡ 0 → records_to M p n t ≡ false
  records_none e = turned ∙ ap (back_from M (records_to M p (n - 1)) t) e

  module _ (s : ℕ) (e : get_or p t 0 ≡ s + 1) where
    turned_to : records_to M p n t ≡ cond (eqb s t) (M.starts t) (cond (ltb s M.size) (cond (leads M s t) (records_to M p (n - 1) s) false) false)
    turned_to = turned ∙ ap (back_from M (records_to M p (n - 1)) t) (e ∙ add-one s)

    pub records_start : s ≡ t → records_to M p n t ≡ M.starts t
    records_start f = turned_to ∙ ap (λ (b : Bool). cond b (M.starts t) (cond (ltb s M.size) (cond (leads M s t) (records_to M p (n - 1) s) false) false)) (eq-eqb s t f)

    module _ (f : s ≡ t → ⊥) where
      turned_other : records_to M p n t ≡ cond (ltb s M.size) (cond (leads M s t) (records_to M p (n - 1) s) false) false
      turned_other = turned_to ∙ ap (λ (b : Bool). cond b (M.starts t) (cond (ltb s M.size) (cond (leads M s t) (records_to M p (n - 1) s) false) false)) (ne_eqb s t f)

      pub records_out : M.size ≤ s → records_to M p n t ≡ false
      records_out h = turned_other ∙ ap (λ (b : Bool). cond b (cond (leads M s t) (records_to M p (n - 1) s) false) false) (le-ltb s M.size h)

      module _ (h : s < M.size) where
        turned_in : records_to M p n t ≡ cond (leads M s t) (records_to M p (n - 1) s) false
        turned_in = turned_other ∙ ap (λ (b : Bool). cond b (cond (leads M s t) (records_to M p (n - 1) s) false) false) (lt-ltb s M.size h)

        pub records_lost : leads M s t ≡ false → records_to M p n t ≡ false
        records_lost l = turned_in ∙ ap (λ (b : Bool). cond b (records_to M p (n - 1) s) false) l

        pub records_on : leads M s t ≡ true → records_to M p n t ≡ records_to M p (n - 1) s
        records_on l = turned_in ∙ ap (λ (b : Bool). cond b (records_to M p (n - 1) s) false) l

pub records_end : (M : Transitions) (p : List ℕ) (t : ℕ) → records_to M p 0 t ≡ false
unfolding records_to
records_end M p t = refl

-- What is found, in a form of its own, is found where a move is.
pub some-found : {X : Type 0} (f : X → Move) (o : Option X) {found : Option Move} → option_map f o ≡ found → is_some o ≡ is_some found
some-found f None e = ap is_some e
some-found f (Some x) e = ap is_some e

-- What is found, or else a move, in a form of its own, is what is found where a move is, or else that move.
pub or-found : {X : Type 0} (f : X → Move) (o : Option X) (d : X) {found : Option Move} → option_map f o ≡ found → f (unwrap_or o d) ≡ unwrap_or found (f d)
or-found f None d e = ap (λ (m : Option Move). unwrap_or m (f d)) e
or-found f (Some x) d e = ap (λ (m : Option Move). unwrap_or m (f d)) e

-- A move that is found leads to t, and is the first one that does.
pub record Found (M : Transitions) (s t : ℕ) (ms : List Move) (m : Move) : Type 0 where
  pub listed : Memᴰ m ms
  pub leading : M.step s m.command m.word ≡ t
  pub first : first_move M s t ms ≡ m

module _ (M : Transitions) (s t : ℕ) where
  pub found : (ms : List Move) (m : Move) → move_to M s t ms ≡ Some m → Found M s t ms m
  unfolding move_to first_move
  found [] m e = cc
  found (k ∷ ms) m e = go (found ms m) (eqb (M.step s k.command k.word) t) refl e
    where
      go : (move_to M s t ms ≡ Some m → Found M s t ms m) → (b : Bool) → eqb (M.step s k.command k.word) t ≡ b → cond b (Some k) (move_to M s t ms) ≡ Some m → Found M s t (k ∷ ms) m
      go rest true h f =
          let g : k ≡ m = cc in
          let l = eqb-true (M.step s k.command k.word) t h in
          record { listed = Memᴰ.head (sym g); leading = rw g at l; first = rw h g }
      go rest false h f = let F = rest f in record { listed = Memᴰ.tail F.listed; leading = F.leading; first = rw h F.first }

  -- One that leads to t is found.
  pub finds : (ms : List Move) (m : Move) → Memᴰ m ms → M.step s m.command m.word ≡ t → IsSome (move_to M s t ms)
  unfolding move_to
  finds [] m h e = absurd (Memᴰ.not-nil h)
  finds (k ∷ ms) m h e = go (λ g. finds ms m g e) (eqb (M.step s k.command k.word) t) refl
    where
      go : (Memᴰ m ms → IsSome (move_to M s t ms)) → (b : Bool) → eqb (M.step s k.command k.word) t ≡ b → IsSome (cond b (Some k) (move_to M s t ms))
      go rest true f = refl
      go rest false f =
          ⊎_elim
          (λ g. absurd (eqb-false (M.step s k.command k.word) t f (ap (λ (x : Move). M.step s x.command x.word) (sym g) ∙ e)))
          rest
          (Memᴰ.cases_cons h)

  -- The first move is the one that is found, else that of command 0 and word 0.
  pub first-found : (ms : List Move) → first_move M s t ms ≡ unwrap_or (move_to M s t ms) (move_of 0 0)
  unfolding move_to first_move
  first-found [] = refl
  first-found (k ∷ ms) = go (eqb (M.step s k.command k.word) t) (first-found ms)
    where
      go : (b : Bool) → first_move M s t ms ≡ unwrap_or (move_to M s t ms) (move_of 0 0) → cond b k (first_move M s t ms) ≡ unwrap_or (cond b (Some k) (move_to M s t ms)) (move_of 0 0)
      go true e = refl
      go false e = e

  -- Whether one is found is whether one leads there.
  pub leads-found : is_some (move_to M s t (moves M)) ≡ leads M s t
  unfolding leads
  leads-found = go (move_to M s t (moves M)) refl
    where
      none : move_to M s t (moves M) ≡ None → (b : Bool) → leads M s t ≡ b → false ≡ b
      none e true l =
          let m = first_move M s t (moves M) in
          let a = and_split (ltb m.command M.commands) _ l in
          let b = and_split (ltb m.word (M.words m.command)) _ a.1 in
          let h = moves-has M 0 M.commands m (omega arith) (omega (arith, ltb-true m.command M.commands a.0)) (ltb-true m.word (M.words m.command) b.0) in
          let f = finds (moves M) m h (eqb-true (M.step s m.command m.word) t b.1) in
          sym (ap is_some e) ∙ f
      none e false l = refl

      go : (o : Option Move) → move_to M s t (moves M) ≡ o → is_some o ≡ leads M s t
      go None e = none e (leads M s t) refl
      go (Some m) e =
          let F = found (moves M) m e in
          let i = moves_mem M 0 M.commands m F.listed in
          rw (F.first, lt-ltb m.command M.commands (omega (arith, i.1)), lt-ltb m.word (M.words m.command) i.2, eq-eqb (M.step s m.command m.word) t F.leading)
