-- What opening and moves answer to every text, all bytes and every record, in words.
-- Assumes nothing.
use mathlib.Core.Path.{◌≡◌, refl, sym, ap, ◌∙◌, subst}
use mathlib.Core.Bool.{Bool, true, false, cond}
use mathlib.Core.List.{List}
use Prim.Native.Nat.{ℕ, ◌≤◌}
use native.Mathlib.Omega.{arith}
use lib.Dec.{eqb, leb}
use lib.ListN.{length}
use borrow.Author.Tests.{eqb-true, leb-true}
use Rattle.std.specs.Prelude.{Option, Some, None, Result, Ok, Err}
use Rattle.meaning.specs.OneRow.{TraceStep}
use Rattle.conditions.specs.Outcomes as W
use Rattle.conditions.specs.Outcomes.{declined}
use Rattle.conditions.specs.declared.outcome.Declined.{Declined}
use Rattle.conditions.proofs.Declining.{wording_declined}
use Rattle.acceptance.specs.Promises.{answer_to}
use Rattle.acceptance.specs.Promises as T
use Rattle.acceptance.specs.working.Test.{test_of}
use Rattle.acceptance.proofs.Claims as C
use Rattle.acceptance.proofs.Places.{answers_bounded}
use Rattle.player.specs.Places.{state_at, StandsOn, leads}
use Rattle.player.specs.Answers.{Wording, moved, at_end, foreign, told, wording_of, unopened, opening_for}
use Rattle.player.specs.Promises.{answer_of, record_after, OpeningsTell, MoveOnTrace, MovesTell, RefusalTells, Bounded, BoundedOpening, PlayersBounded}
use Rattle.player.specs.declared.record.Player.{Player}
use Rattle.player.specs.declared.record.Direction.{Direction}
use Rattle.player.specs.declared.record.Direction.TheVariants.{Forward, Back, Beginning}
use Rattle.player.specs.declared.record.Answer.TheVariants as A
use Rattle.player.specs.declared.record.Move.{Move}
use Rattle.traces.specs.working.Passing.{trace_passed, last_place, header}
use Rattle.player.specs.working.Playing.{record_at, stays, led_to, move_in, move_after, move_of, open_after}
use Rattle.player.proofs.MoveLaws.{at-end, stands, move_by_outcome, open_by_outcome, move-told, move_passed, open_told, open_passed}
use Rattle.traces.proofs.Contents.{Contents, contents_length}
use Rattle.traces.proofs.PassedTold.{not_passed, test_passed, the_trace_lem}
use Rattle.player.proofs.StatesAt.{contents_state, stands_here, here-stands}
use Rattle.player.proofs.Inverted.{forward-leads, back-leads, beginning-leads}
use Rattle.player.proofs.Restored.{arrived, goes_to}

-- A record that fails one of the two tests is foreign.
fails_test : (x y : Bool) (m n : Move) → ¬ ((x ≡ true) × (y ≡ true)) → cond x (cond y m n) n ≡ n
fails_test true true m n h = absurd (h (refl, refl))
fails_test true false m n h = refl
fails_test false y m n h = refl

stands-nowhere : (d : Direction) (b : List ℕ) (p : Player) → ¬ ((p.place ≤ last_place header b) × (p.state ≡ (record_at header b p.place).state)) → move_in header d b p ≡ stays p (Ok A.Foreign)
unfolding move_in
stands-nowhere d b p h =
    fails_test (leb p.place (last_place header b)) (eqb p.state (record_at header b p.place).state) _ _ (λ t. h (leb-true _ _ t.0, eqb-true _ _ t.1))

-- No move leads beyond the last place.
pub leads-within : (d : Direction) (n k j : ℕ) → k ≤ n → leads d n k ≡ Some j → j ≤ n
leads-within Forward n k j h e = let t = forward-leads n k j e in omega (arith, t.0, t.1)
leads-within Back n k j h e = let t = back-leads n k j e in omega (arith, h, t.1)
leads-within Beginning n k j h e = omega (arith, beginning-leads n k j e)

-- A move on a trace that passes, over what the bytes have.
module _ (text b : List ℕ) (passed : trace_passed (test_of text b) ≡ true) {s : ℕ} {xs : List TraceStep} (C : Contents b s xs) (d : Direction) (p : Player) where
  -- The whole move tells answer and record.
  both_told : (m : Move) (w : Wording) → move_of d text b p ≡ m → wording_of m.answer ≡ w → (answer_of d text b p ≡ w) × (record_after d text b p ≡ m.player)
  both_told m w e f = (ap (λ (n : Move). wording_of n.answer) e ∙ f, ap (λ (n : Move). n.player) e)

  -- Where it leads, over the trace and over the bytes.
  same-lead : leads d (length xs) p.place ≡ leads d (last_place header b) p.place
  same-lead = ap (λ (n : ℕ). leads d n p.place) (contents_length C)

  pub told-elsewhere : ¬ (StandsOn s xs p) → (answer_of d text b p ≡ foreign) × (record_after d text b p ≡ p)
  unfolding wording_of
  told-elsewhere h =
      both_told (stays p (Ok A.Foreign)) foreign (move_passed text b passed d p ∙ stands-nowhere d b p (λ t. h (here-stands C p t.0 t.1))) refl

  pub told-nowhere : StandsOn s xs p → leads d (length xs) p.place ≡ None → (answer_of d text b p ≡ at_end) × (record_after d text b p ≡ p)
  unfolding wording_of
  told-nowhere S l =
      let t = stands_here C p S in
      both_told (stays p (Ok A.AtEnd)) at_end
      (move_passed text b passed d p ∙ stands d b p t.0 t.1 ∙ sym (at-end b p (leads d (last_place header b) p.place) (sym same-lead ∙ l)))
      refl

  pub told-somewhere : StandsOn s xs p → (k : ℕ) → leads d (length xs) p.place ≡ Some k
      → (answer_of d text b p ≡ moved) × (record_after d text b p ≡ record { place = k; state = state_at s xs k })
  unfolding wording_of
  told-somewhere S k l =
      let t = stands_here C p S in
      let e : leads d (last_place header b) p.place ≡ Some k = sym same-lead ∙ l in
      let u = both_told (arrived b k) moved (goes_to d text b p passed t.0 t.1 k e) refl in
      let f = contents_state C k (leads-within d (last_place header b) p.place k t.0 e) in
      (u.0, u.1 ∙ ap (λ (r : ℕ). record { place = k; state = r }) (sym f))

  pub on-trace : MoveOnTrace s xs d p (answer_of d text b p) (record_after d text b p)
  on-trace = record { elsewhere = told-elsewhere; nowhere = told-nowhere; somewhere = told-somewhere }

pub openings_tell : OpeningsTell
unfolding opening_for
openings_tell text m says b hb =
    record {
      on_trace = λ holds.
          let (s, xs, w, t) = the_trace_lem text m says b hb holds in
          let e : ◌≡◌ {A = Result Player Declined} (Ok (record_at header b 0)) (Ok (record { place = 0; state = s })) = ap (λ (r : ℕ). Ok (record { place = 0; state = r })) (sym t.0.start) in
          (s, xs, w, ap opening_for (open_passed text b (test_passed text m says b hb holds) ∙ e));
      no_trace = λ h. ap opening_for (open_told text b (not_passed text b h)) ∙ ap unopened (wording_declined (test_of text b));
    }

pub moves_tell : MovesTell
unfolding wording_of
moves_tell text m says b hb d p =
    record {
      on_trace = λ holds. let (s, xs, w, t) = the_trace_lem text m says b hb holds in (s, xs, w, on-trace text b (test_passed text m says b hb holds) t.0 d p);
      no_trace = λ h.
          let e = move-told text b (not_passed text b h) d p in
          (ap (λ (n : Move). wording_of n.answer) e ∙ ap told (wording_declined (test_of text b)), ap (λ (n : Move). n.player) e);
    }

-- A text that is refused: the test answers the refusal, which is not that of a trace.
pub refusal-tells : RefusalTells
unfolding opening_for wording_of
refusal-tells text n i r b =
    let e : W.wording_of_declined (declined (test_of text b)) ≡ W.returned n i = wording_declined (test_of text b) ∙ C.text_comes_first text n i r b in
    let h : trace_passed (test_of text b) ≡ false = not_passed text b (λ q. let f = C.text_comes_first text n i r b in let z : ◌≡◌ {A = ℕ} 0 1 = cc in omega arith) in (
      ap opening_for (open_told text b h) ∙ ap unopened e,
      λ d p. (ap (λ (m : Move). wording_of m.answer) (move-told text b h d p) ∙ ap told e, ap (λ (m : Move). m.player) (move-told text b h d p)),
    )

-- Only what is told of the test has numbers.
opening_bounded : (o : Declined) (b : List ℕ) (x : Bool) → BoundedOpening (unopened (W.wording_of_declined o)) → BoundedOpening (opening_for (cond x (Ok (record_at header b 0)) (Err o)))
unfolding opening_for
opening_bounded o b true h = tt
opening_bounded o b false h = h

move_bounded : (o : Declined) (b : List ℕ) (p : Player) (t x y : Bool) (u : Option ℕ) → Bounded (told (W.wording_of_declined o))
    → Bounded (wording_of (cond t (cond x (cond y (led_to header b p u) (stays p (Ok A.Foreign))) (stays p (Ok A.Foreign))) (stays p (Err o))).answer)
unfolding wording_of led_to
move_bounded o b p true true true (Some k) h = tt
move_bounded o b p true true true None h = tt
move_bounded o b p true true false u h = tt
move_bounded o b p true false y u h = tt
move_bounded o b p false x y u h = h

pub players_bounded : PlayersBounded
unfolding open_after move_after move_in
players_bounded text b =
    let d = declined (test_of text b) in
    let h : T.Bounded (W.wording_of_declined d) = subst T.Bounded (sym (wording_declined (test_of text b))) (answers_bounded text b) in (
      subst (λ (o : Result Player Declined). BoundedOpening (opening_for o)) (sym (open_by_outcome text b)) (opening_bounded d b (trace_passed (test_of text b)) h),
      λ e p. subst (λ (m : Move). Bounded (wording_of m.answer)) (sym (move_by_outcome text b e p))
          (move_bounded d b p (trace_passed (test_of text b)) (leb p.place (last_place header b)) (eqb p.state (record_at header b p.place).state)
          (leads e (last_place header b) p.place) h),
    )
