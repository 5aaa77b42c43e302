-- What is known where a move moved, and where it did not.
-- Assumes nothing.
use mathlib.Core.Path.{◌≡◌, refl, sym, ap, ◌∙◌}
use mathlib.Core.Logic.{◌⊎◌, inl, inr}
use mathlib.Core.Bool.{Bool, true, false, cond}
use mathlib.Core.List.{List}
use Prim.Native.Nat.{ℕ, ◌+◌, ◌-◌, ◌≤◌, ◌<◌}
use native.Mathlib.Omega.{arith}
use lib.Dec.{eqb, leb, ltb}
use borrow.Author.Tests.{eqb-true, leb-true, ltb-true, ltb-false}
use Rattle.std.specs.Prelude.{Option, Some, None, Ok, Err}
use Rattle.conditions.specs.Outcomes.{declined}
use Rattle.conditions.specs.declared.outcome.Declined.{Declined}
use Rattle.acceptance.specs.working.Test.{test_of}
use Rattle.player.specs.Places.{leads}
use Rattle.player.specs.Answers.{moved, wording_of}
use Rattle.player.specs.Promises.{answer_of, EndsTell, RecordsStay}
use Rattle.player.specs.declared.record.Player.{Player}
use Rattle.player.specs.declared.record.Direction.{Direction}
use Rattle.player.specs.declared.record.Direction.TheVariants.{Forward, Back, Beginning}
use Rattle.player.specs.declared.record.Answer.TheVariants as A
use Rattle.player.specs.declared.record.Move.{Move}
use Rattle.traces.specs.working.Passing.{trace_passed, last_place, header}
use Rattle.player.specs.working.Playing.{record_at, stays, led_to, move_in, move_after}
use Rattle.player.proofs.MoveLaws.{first-place, last-place, move_by_outcome}

-- A step forward or back that leads somewhere.
by_test : (x : Bool) (j k : ℕ) → cond x (Some j) None ≡ Some k → (x ≡ true) × (k ≡ j)
by_test true j k e = (refl, cc)
by_test false j k e = let z : ◌≡◌ {A = ℕ} 0 1 = cc in absurd (omega arith)

pub forward-leads : (n k j : ℕ) → leads Forward n k ≡ Some j → (k < n) × (j ≡ k + 1)
unfolding leads
forward-leads n k j e = let t = by_test (ltb k n) (k + 1) j e in (ltb-true _ _ t.0, t.1)

pub back-leads : (n k j : ℕ) → leads Back n k ≡ Some j → (0 < k) × (j ≡ k - 1)
unfolding leads
back-leads n k j e = let t = by_test (ltb 0 k) (k - 1) j e in (ltb-true _ _ t.0, t.1)

pub beginning-leads : (n k j : ℕ) → leads Beginning n k ≡ Some j → j ≡ 0
unfolding leads
beginning-leads n k j e = cc

-- One that leads nowhere.
not_by_test : (x : Bool) (j : ℕ) → cond x (Some j) None ≡ None → x ≡ false
not_by_test true j e = let z : ◌≡◌ {A = ℕ} 0 1 = cc in absurd (omega arith)
not_by_test false j e = refl

ends : (d : Direction) (n k : ℕ) → leads d n k ≡ None → ((d ≡ Forward) × (n ≤ k)) ⊎ ((d ≡ Back) × (k ≡ 0))
unfolding leads
ends Forward n k e = inl (refl, ltb-false _ _ (not_by_test (ltb k n) (k + 1) e))
ends Back n k e = let h : k ≤ 0 = ltb-false _ _ (not_by_test (ltb 0 k) (k - 1) e) in inr (refl, omega (arith, h))
ends Beginning n k e = let z : ◌≡◌ {A = ℕ} 0 1 = cc in absurd (omega arith)

at-ends : (d : Direction) (n k : ℕ) → ((d ≡ Forward) × (n ≤ k)) ⊎ ((d ≡ Back) × (k ≡ 0)) → leads d n k ≡ None
at-ends d n k (inl (e, h)) = last-place d n k e h
at-ends d n k (inr (e, h)) = first-place d n k e (omega (arith, h))

pub ends_tell : EndsTell
ends_tell d n k = (ends d n k, at-ends d n k)

-- What was found where a move moved: each test that comes before it passed, and it leads to a place.
by_tests : (b : List ℕ) (p : Player) (o : Declined) (t x y : Bool) (u : Option ℕ)
    → wording_of (cond t (cond x (cond y (led_to header b p u) (stays p (Ok A.Foreign))) (stays p (Ok A.Foreign))) (stays p (Err o))).answer ≡ moved
    → (t ≡ true) × (x ≡ true) × (y ≡ true) × ((k : ℕ) × (u ≡ Some k))
unfolding wording_of led_to
by_tests b p o true true true (Some k) e = (refl, refl, refl, (k, refl))
by_tests b p o true true true None e = let z : ◌≡◌ {A = ℕ} 0 1 = cc in absurd (omega arith)
by_tests b p o true true false u e = let z : ◌≡◌ {A = ℕ} 0 1 = cc in absurd (omega arith)
by_tests b p o true false y u e = let z : ◌≡◌ {A = ℕ} 0 1 = cc in absurd (omega arith)
by_tests b p o false x y u e = let z : ◌≡◌ {A = ℕ} 0 1 = cc in absurd (omega arith)

pub record HasMoved (d : Direction) (text b : List ℕ) (p : Player) : Type 0 where
  pub passed : trace_passed (test_of text b) ≡ true
  pub place : p.place ≤ last_place header b
  pub state : p.state ≡ (record_at header b p.place).state
  pub target : ℕ
  pub leading : leads d (last_place header b) p.place ≡ Some target

pub has-moved : (d : Direction) (text b : List ℕ) (p : Player) → answer_of d text b p ≡ moved → HasMoved d text b p
unfolding move_after move_in
has-moved d text b p e =
    let t =
    by_tests b p (declined (test_of text b)) (trace_passed (test_of text b)) (leb p.place (last_place header b)) (eqb p.state (record_at header b p.place).state)
    (leads d (last_place header b) p.place) (sym (ap (λ (m : Move). wording_of m.answer) (move_by_outcome text b d p)) ∙ e) in
    record { passed = t.0; place = leb-true _ _ t.1; state = eqb-true _ _ t.2; target = t.3.0; leading = t.3.1 }

-- And where it did not, the record is what it was.
stays_by_tests : (b : List ℕ) (p : Player) (o : Declined) (t x y : Bool) (u : Option ℕ)
    → ¬ (wording_of (cond t (cond x (cond y (led_to header b p u) (stays p (Ok A.Foreign))) (stays p (Ok A.Foreign))) (stays p (Err o))).answer ≡ moved)
    → (cond t (cond x (cond y (led_to header b p u) (stays p (Ok A.Foreign))) (stays p (Ok A.Foreign))) (stays p (Err o))).player ≡ p
unfolding wording_of led_to
stays_by_tests b p o true true true (Some k) h = absurd (h refl)
stays_by_tests b p o true true true None h = refl
stays_by_tests b p o true true false u h = refl
stays_by_tests b p o true false y u h = refl
stays_by_tests b p o false x y u h = refl

pub records_stay : RecordsStay
unfolding move_after move_in
records_stay text b d p h =
    let e = move_by_outcome text b d p in
    ap (λ (m : Move). m.player) e
    ∙ stays_by_tests b p (declined (test_of text b)) (trace_passed (test_of text b)) (leb p.place (last_place header b)) (eqb p.state (record_at header b p.place).state)
    (leads d (last_place header b) p.place) (λ f. h (ap (λ (m : Move). wording_of m.answer) e ∙ f))
