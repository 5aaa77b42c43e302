-- Steps on and back undo each other; a move to the beginning gives the record that opening gives.
-- Assumes nothing.
use mathlib.Core.Path.{◌≡◌, refl, sym, ap, ◌∙◌}
use mathlib.Core.Bool.{true}
use mathlib.Core.List.{List}
use Prim.Native.Nat.{ℕ, ◌+◌, ◌-◌, ◌≤◌}
use native.Mathlib.Omega.{arith}
use Rattle.std.specs.Prelude.{Some, Ok}
use Rattle.acceptance.specs.working.Test.{test_of}
use Rattle.player.specs.Places.{leads}
use Rattle.player.specs.Answers.{moved, wording_of, opened, opening_for}
use Rattle.player.specs.Promises.{answer_of, record_after, Restored, MovesRestore, BeginningTells}
use Rattle.player.specs.declared.record.Player.{Player}
use Rattle.player.specs.declared.record.Direction.{Direction}
use Rattle.player.specs.declared.record.Direction.TheVariants.{Forward, Back, Beginning}
use Rattle.player.specs.declared.record.Answer.TheVariants as A
use Rattle.player.specs.declared.record.Move.{Move}
use Rattle.traces.specs.working.Passing.{trace_passed, last_place, header}
use Rattle.player.specs.working.Playing.{record_at, move_of}
use Rattle.player.proofs.MoveLaws.{onward, backward, led, stands, move_passed, open_passed}
use Rattle.player.proofs.Inverted.{forward-leads, back-leads, beginning-leads, HasMoved, has-moved}

-- The whole move of a record that stands on the trace, where it leads to a place.
abbrev pub arrived : List ℕ → ℕ → Move
arrived b k = record { player = record_at header b k; answer = Ok A.Moved }

pub goes_to : (d : Direction) (text b : List ℕ) (p : Player) → trace_passed (test_of text b) ≡ true → p.place ≤ last_place header b
    → p.state ≡ (record_at header b p.place).state → (k : ℕ) → leads d (last_place header b) p.place ≡ Some k → move_of d text b p ≡ arrived b k
goes_to d text b p passed h e k l =
    move_passed text b passed d p ∙ stands d b p h e ∙ sym (led b p (leads d (last_place header b) p.place) k l (arrived b k) refl)

module _ (there again : Direction) (text b : List ℕ) (p : Player) where
  -- Where the first move leads to a place, and the second from there to where it began.
  module _ (H : HasMoved there text b p) (within : H.target ≤ last_place header b) (back : leads again (last_place header b) H.target ≡ Some p.place) where
    gone : move_of there text b p ≡ arrived b H.target
    gone = goes_to there text b p H.passed H.place H.state H.target H.leading

    returned : move_of again text b (record_after there text b p) ≡ arrived b p.place
    returned =
        ap (λ (m : Move). move_of again text b m.player) gone
        ∙ goes_to again text b (record_at header b H.target) H.passed within refl p.place back

    -- It is the record that it was.
    same : record_at header b p.place ≡ p
    same = ap (λ (s : ℕ). record { place = p.place; state = s }) (sym H.state)

    pub returned-moved : answer_of again text b (record_after there text b p) ≡ moved
    unfolding wording_of
    returned-moved = ap (λ (m : Move). wording_of m.answer) returned

    pub returned-same : record_after again text b (record_after there text b p) ≡ p
    returned-same = ap (λ (m : Move). m.player) returned ∙ same

  restored : ((H : HasMoved there text b p) → (H.target ≤ last_place header b) × (leads again (last_place header b) H.target ≡ Some p.place)) → Restored there again text b p
  restored f =
      record {
        moves = λ e. let H = has-moved there text b p e in returned-moved H (f H).0 (f H).1;
        restores = λ e. let H = has-moved there text b p e in returned-same H (f H).0 (f H).1;
      }

back-again : (text b : List ℕ) (p : Player) (H : HasMoved Forward text b p) → (H.target ≤ last_place header b) × (leads Back (last_place header b) H.target ≡ Some p.place)
back-again text b p H =
    let t = forward-leads (last_place header b) p.place H.target H.leading in
    let e : H.target - 1 ≡ p.place = omega (arith, t.1) in
    (omega (arith, t.0, t.1), backward Back (last_place header b) H.target refl (omega (arith, t.1)) ∙ ap Some e)

forward-again : (text b : List ℕ) (p : Player) (H : HasMoved Back text b p) → (H.target ≤ last_place header b) × (leads Forward (last_place header b) H.target ≡ Some p.place)
forward-again text b p H =
    let t = back-leads (last_place header b) p.place H.target H.leading in
    let e : H.target + 1 ≡ p.place = omega (arith, t.0, t.1) in
    (omega (arith, t.1, H.place), onward Forward (last_place header b) H.target refl (omega (arith, t.0, t.1, H.place)) ∙ ap Some e)

pub moves_restore : MovesRestore
moves_restore text b p = (restored Forward Back text b p (back-again text b p), restored Back Forward text b p (forward-again text b p))

pub beginning-tells : BeginningTells
unfolding opening_for
beginning-tells text b p e =
    let H = has-moved Beginning text b p e in
    let z = beginning-leads (last_place header b) p.place H.target H.leading in
    let g : move_of Beginning text b p ≡ arrived b 0 =
    goes_to Beginning text b p H.passed H.place H.state H.target H.leading ∙ ap (arrived b) z in
    (ap (λ (m : Move). m.player.place) g, ap opening_for (open_passed text b H.passed) ∙ sym (ap (λ (m : Move). opened m.player) g))
