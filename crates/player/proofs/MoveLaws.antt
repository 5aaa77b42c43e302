-- The definitions of opening and of moves, branch by branch.
-- Assumes nothing.
use mathlib.Core.Path.{◌≡◌, refl, sym, ap, ◌∙◌, subst}
use mathlib.Core.Bool.{Bool, true, false, not, ◌&&◌}
use mathlib.Core.List.{List}
use Prim.Native.Nat.{ℕ, ◌+◌, ◌-◌, ◌≤◌, ◌<◌}
use lib.Dec.{eqb}
use borrow.Author.Tests.{eq-eqb, ne_eqb, lt-ltb, le-ltb, le-leb, lt-leb, eqb-true, eqb-false, not-true, not-false}
use Rattle.std.specs.Prelude.{Option, Some, None, Ok, Err}
use Rattle.notation.specs.working.Machine as N
use Rattle.notation.specs.working.Answer.{answer}
use Rattle.conditions.specs.Outcomes.{declined}
use Rattle.conditions.specs.declared.outcome.Declined.{Declined}
use Rattle.acceptance.specs.working.Test.{test_in, test_of}
use Rattle.player.specs.Places.{leads}
use Rattle.player.specs.declared.record.Player.{Player}
use Rattle.player.specs.declared.record.Direction.{Direction}
use Rattle.player.specs.declared.record.Direction.TheVariants.{Forward, Back}
use Rattle.player.specs.declared.record.Answer.TheVariants as A
use Rattle.player.specs.declared.record.Move.{Move}
use Rattle.traces.proofs.TracesPassed.{steps-passed, steps-declined}
use Rattle.traces.specs.working.Passing.{trace_passed, last_place, header, passed_steps_of}
use Rattle.player.specs.working.Playing.{record_at, stays, led_to, move_in, move_after, move_for, move_of, open_after, open_for, open_of}

-- Where a move leads.
module _ (d : Direction) (n k : ℕ) where
  pub onward : d ≡ Forward → k < n → leads d n k ≡ Some (k + 1)
  unfolding leads
  onward e h = rw (e, lt-ltb _ _ h)

  pub last-place : d ≡ Forward → n ≤ k → leads d n k ≡ None
  unfolding leads
  last-place e h = rw (e, le-ltb _ _ h)

  pub backward : d ≡ Back → 0 < k → leads d n k ≡ Some (k - 1)
  unfolding leads
  backward e h = rw (e, lt-ltb _ _ h)

  pub first-place : d ≡ Back → k ≤ 0 → leads d n k ≡ None
  unfolding leads
  first-place e h = rw (e, le-ltb _ _ h)

-- A record is led to a place, or stays at an end.
module _ (b : List ℕ) (p : Player) where
  pub led : (t : Option ℕ) (k : ℕ) → t ≡ Some k → (m : Move) → m ≡ record { player = record_at header b k; answer = Ok A.Moved } → m ≡ led_to header b p t
  unfolding led_to
  led t k e m f = f ∙ sym (ap (led_to header b p) e)

  pub at-end : (t : Option ℕ) → t ≡ None → stays p (Ok A.AtEnd) ≡ led_to header b p t
  unfolding led_to
  at-end t e = sym (ap (led_to header b p) e)

-- A record is held against the trace.
module _ (d : Direction) (b : List ℕ) (p : Player) where
  pub beyond : last_place header b < p.place → move_in header d b p ≡ stays p (Ok A.Foreign)
  unfolding move_in
  beyond h = rw (lt-leb _ _ h)

  pub elsewhere : p.place ≤ last_place header b → (p.state ≡ (record_at header b p.place).state → ⊥) → move_in header d b p ≡ stays p (Ok A.Foreign)
  unfolding move_in
  elsewhere h f = rw (le-leb _ _ h, ne_eqb _ _ f)

  pub stands : p.place ≤ last_place header b → p.state ≡ (record_at header b p.place).state → move_in header d b p ≡ led_to header b p (leads d (last_place header b) p.place)
  unfolding move_in
  stands h f = rw (le-leb _ _ h, eq-eqb _ _ f)

-- Before that comes the outcome of the test, and it is all that the text tells: every header is as long as the code takes it.
move-for : (b : List ℕ) (d : Direction) (p : Player) (x : N.Outcome) → move_for x d b p ≡ move_after (test_in x b) header d b p
unfolding move_for move_after test_in
move-for b d p (N.read x) = refl
move-for b d p (N.refused n i) = refl

open-for : (b : List ℕ) (x : N.Outcome) → open_for x b ≡ open_after (test_in x b) header b
unfolding open_for open_after test_in
open-for b (N.read x) = refl
open-for b (N.refused n i) = refl

module _ (text b : List ℕ) where
  pub move_by_outcome : (d : Direction) (p : Player) → move_of d text b p ≡ move_after (test_of text b) header d b p
  unfolding move_of test_of
  move_by_outcome d p = move-for b d p (answer text)

  pub open_by_outcome : open_of text b ≡ open_after (test_of text b) header b
  unfolding open_of test_of
  open_by_outcome = open-for b (answer text)

  pub move-told : trace_passed (test_of text b) ≡ false → (d : Direction) (p : Player) → move_of d text b p ≡ stays p (Err (declined (test_of text b)))
  unfolding move_after
  move-told e d p = move_by_outcome d p ∙ rw e

  pub move_passed : trace_passed (test_of text b) ≡ true → (d : Direction) (p : Player) → move_of d text b p ≡ move_in header d b p
  unfolding move_after
  move_passed e d p = move_by_outcome d p ∙ rw e

  pub open_told : trace_passed (test_of text b) ≡ false → open_of text b ≡ Err (declined (test_of text b))
  unfolding open_after
  open_told e = open_by_outcome ∙ rw e

  pub open_passed : trace_passed (test_of text b) ≡ true → open_of text b ≡ Ok (record_at header b 0)
  unfolding open_after
  open_passed e = open_by_outcome ∙ rw e

  -- As the code has it: the number of the trace's steps, or what is told in its place.
  module _ (told : Declined) (is : Err told ≡ passed_steps_of text b) where
    pub move_declined : (d : Direction) (p : Player) → move_of d text b p ≡ stays p (Err told)
    move_declined d p =
        let t = steps-declined text b told is in
        move-told t.0 d p ∙ ap (λ (x : Declined). stays p (Err x)) (sym t.1)

    pub open_declined : open_of text b ≡ Err told
    open_declined =
        let t = steps-declined text b told is in
        open_told t.0 ∙ ap Err (sym t.1)

  module _ (last : ℕ) (is : Ok last ≡ passed_steps_of text b) where
    pub opens : open_of text b ≡ Ok (record_at header b 0)
    opens = open_passed (steps-passed text b last is).0

    module _ (d : Direction) (p : Player) where
      foreign : move_in header d b p ≡ stays p (Ok A.Foreign) → (p ≡ (move_of d text b p).player) × (Ok A.Foreign ≡ (move_of d text b p).answer)
      foreign e =
          let f = move_passed (steps-passed text b last is).0 d p ∙ e in
          (sym (ap (λ (m : Move). m.player) f), sym (ap (λ (m : Move). m.answer) f))

      pub foreign_beyond : last < p.place → (p ≡ (move_of d text b p).player) × (Ok A.Foreign ≡ (move_of d text b p).answer)
      foreign_beyond h = foreign (beyond d b p (subst (λ (n : ℕ). n < p.place) (steps-passed text b last is).1 h))

      -- The record of the trace at the player's place, and whether the player's is another.
      module _ (h : p.place ≤ last) (q : Player) (found : q ≡ record_at header b p.place) (x : Bool) (tested : x ≡ not (eqb p.place q.place && eqb p.state q.state)) where
        within : p.place ≤ last_place header b
        within = subst (λ (n : ℕ). p.place ≤ n) (steps-passed text b last is).1 h

        other : x ≡ not (eqb p.state (record_at header b p.place).state)
        other =
            tested
            ∙ ap (λ (r : Player). not (eqb p.place r.place && eqb p.state r.state)) found
            ∙ ap (λ (y : Bool). not (y && eqb p.state (record_at header b p.place).state)) (eq-eqb p.place p.place refl)

        pub foreign_elsewhere : x ≡ true → (p ≡ (move_of d text b p).player) × (Ok A.Foreign ≡ (move_of d text b p).answer)
        foreign_elsewhere e = foreign (elsewhere d b p within (eqb-false _ _ (not-true _ (sym other ∙ e))))

        pub leads_on : x ≡ false → (t : Option ℕ) → t ≡ leads d last p.place
            → ((led_to header b p t).player ≡ (move_of d text b p).player) × ((led_to header b p t).answer ≡ (move_of d text b p).answer)
        leads_on e t l =
            let f : p.state ≡ (record_at header b p.place).state = eqb-true _ _ (not-false _ (sym other ∙ e)) in
            let u = steps-passed text b last is in
            let g : led_to header b p t ≡ move_of d text b p =
            ap (led_to header b p) l ∙ ap (λ (n : ℕ). led_to header b p (leads d n p.place)) u.1 ∙ sym (move_passed u.0 d p ∙ stands d b p within f) in
            (ap (λ (m : Move). m.player) g, ap (λ (m : Move). m.answer) g)
