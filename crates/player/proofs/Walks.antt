-- After any list of moves an opened player stands on its trace, at a state of the trace's run over every table.
-- Assumes nothing.
use mathlib.Core.Path.{◌≡◌, refl, sym, ap, ◌∙◌, subst}
use mathlib.Core.Logic.{◌⊎◌, inl, inr, ⊎_elim}
use mathlib.Core.Bool.{true}
use mathlib.Core.List.{List, [], ◌∷◌, map}
use Prim.Native.Nat.{ℕ, zero, suc}
use native.Mathlib.Omega.{arith}
use lib.ListN.{length, take}
use Rattle.std.specs.Prelude.{Option, Some, None}
use Rattle.notation.specs.Model.{Model}
use Rattle.notation.specs.working.Machine as N
use Rattle.notation.proofs.Texts.{answers_recased}
use Rattle.meaning.specs.Meaning.{Row, State, Move, AreSteps, last}
use Rattle.meaning.specs.OneRow.{TraceStep, spread, spread_step, last_of}
use Rattle.meaning.proofs.Parametric.{traces_hold}
use Rattle.acceptance.specs.Promises.{answer_to}
use Rattle.acceptance.specs.working.Test.{test_of}
use Rattle.player.specs.Places.{StandsOn, leads}
use Rattle.player.specs.Answers.{moved, at_end, opened, opening_for, wording_of}
use Rattle.player.specs.Promises.{opening_of, answer_of, record_after, record_after_all, StandingTells, WalksTell, PlayedWithoutCase}
use Rattle.player.specs.declared.record.Player.{Player}
use Rattle.player.specs.declared.record.Direction.{Direction}
use Rattle.traces.specs.Passed.{TracePassed}
use Rattle.traces.specs.working.Passing.{trace_passed, header}
use Rattle.player.specs.working.Playing.{record_at, open_for, open_of, move_for, move_of}
use Rattle.player.proofs.MoveLaws.{open_told, open_passed}
use Rattle.traces.proofs.Contents.{Contents}
use Rattle.traces.proofs.PassedTold.{either_way, test_passed, the_trace_lem}
use Rattle.player.proofs.StatesAt.{here-stands}
use Rattle.player.proofs.MovesTold.{leads-within, told-nowhere, told-somewhere}

-- The first moves of a run are a run.
front-steps : {I : Type 0} (m : Model) (k : ℕ) (s : State I) (ys : List (Move I)) → AreSteps m s ys → AreSteps m s (take k ys)
front-steps m zero s ys h = tt
front-steps m (suc k) s [] h = tt
front-steps m (suc k) s (y ∷ ys) h = (h.0, h.1, front-steps m k y.after ys h.2)

-- They lead to the copy of the state that as many steps of the trace give.
front-last : (m : Model) (I : Type 0) (k s : ℕ) (xs : List TraceStep) → last (spread m I s) (take k (map (spread_step m I) xs)) ≡ spread m I (last_of s (take k xs))
unfolding last_of spread_step
front-last m I zero s xs = refl
front-last m I (suc k) s [] = refl
front-last m I (suc k) s (x ∷ xs) = front-last m I k x.after xs

pub standing_tells : StandingTells
standing_tells m s xs passes p S n h =
    let T = traces_hold m s xs passes n h in
    record {
      run = record { start = T.run.start; steps = front-steps m p.place (spread m (Row n) s) (map (spread_step m (Row n)) xs) T.run.steps };
      state = front-last m (Row n) p.place s xs ∙ sym (ap (spread m (Row n)) S.state);
    }

-- A record that stands on the trace stands there after a move, which goes or is at an end.
module _ (text b : List ℕ) (passed : trace_passed (test_of text b) ≡ true) {s : ℕ} {xs : List TraceStep} (C : Contents b s xs) (d : Direction) (p : Player) (S : StandsOn s xs p) where
  stands_at : (u : Option ℕ) → leads d (length xs) p.place ≡ u → StandsOn s xs (record_after d text b p)
  stands_at None e = subst (StandsOn s xs) (sym (told-nowhere text b passed C d p S e).1) S
  stands_at (Some k) e =
      subst (StandsOn s xs) (sym (told-somewhere text b passed C d p S k e).1)
      (record { place = leads-within d (length xs) p.place k S.place e; state = refl })

  pub stands_after : StandsOn s xs (record_after d text b p)
  stands_after = stands_at (leads d (length xs) p.place) refl

  goes_at : (u : Option ℕ) → leads d (length xs) p.place ≡ u → (answer_of d text b p ≡ moved) ⊎ (answer_of d text b p ≡ at_end)
  goes_at None e = inr (told-nowhere text b passed C d p S e).0
  goes_at (Some k) e = inl (told-somewhere text b passed C d p S k e).0

  pub goes_on_lem : (answer_of d text b p ≡ moved) ⊎ (answer_of d text b p ≡ at_end)
  goes_on_lem = goes_at (leads d (length xs) p.place) refl

-- So it does after all moves of a list.
stands-after-all : (text b : List ℕ) → trace_passed (test_of text b) ≡ true → {s : ℕ} {xs : List TraceStep} → Contents b s xs → (ds : List Direction) (p : Player)
    → StandsOn s xs p → StandsOn s xs (record_after_all ds text b p)
unfolding record_after_all
stands-after-all text b passed C [] p S = S
stands-after-all text b passed C (d ∷ ds) p S = stands-after-all text b passed C ds (record_after d text b p) (stands_after text b passed C d p S)

-- Where a player was opened, the test says that the trace holds.
opened-holds : (text b : List ℕ) (p : Player) → opening_of text b ≡ opened p → TracePassed (answer_to text b)
unfolding opening_for
opened-holds text b p e =
    ⊎_elim (λ h. h) (λ f. let q = open_told text b f in let z : ◌≡◌ {A = ℕ} 0 1 = cc in absurd (omega arith)) (either_way (test_of text b))

-- And the record is the one at the beginning.
opened-at : (text b : List ℕ) (p : Player) → opening_of text b ≡ opened p → trace_passed (test_of text b) ≡ true → p ≡ record_at header b 0
unfolding opening_for
opened-at text b p e passed = let q = open_passed text b passed in cc

pub walks_tell : WalksTell
walks_tell text m says b hb p e ds =
    let holds = opened-holds text b p e in
    let passed = test_passed text m says b hb holds in
    let (s, xs, w, t) = the_trace_lem text m says b hb holds in
    let first : StandsOn s xs p = subst (StandsOn s xs) (sym (opened-at text b p e passed)) (here-stands t.0 (record_at header b 0) (omega arith) refl) in
    let S = stands-after-all text b passed t.0 ds p first in
    (s, xs, w, record { stands = S; over_rows = standing_tells m s xs t.1 (record_after_all ds text b p) S; goes_on = λ d. goes_on_lem text b passed t.0 d (record_after_all ds text b p) S })

pub played_without_case : PlayedWithoutCase
unfolding open_of move_of
played_without_case text other r b =
    let e = answers_recased r in (
      ap (λ (x : N.Outcome). opening_for (open_for x b)) e,
      λ d p. (ap (λ (x : N.Outcome). wording_of (move_for x d b p).answer) e, ap (λ (x : N.Outcome). (move_for x d b p).player) e),
    )
