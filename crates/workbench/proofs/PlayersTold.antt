-- The numbers and lists that stand for what a player answers tell it, and what the code puts there.
-- Assumes nothing.
use mathlib.Core.Path.{◌≡◌, refl, sym, ap, ◌∙◌, subst}
use mathlib.Core.Logic.{inl}
use mathlib.Core.List.{List, [], ◌∷◌}
use Prim.Native.Nat.{ℕ, ◌≤◌, ◌<◌}
use native.Mathlib.Omega.{arith}
use lib.ListN.{length}
use borrow.Author.Tests.{lt-ltb, le-ltb}
use Rattle.notation.specs.Bytes.{bytes}
use Rattle.conditions.specs.declared.outcome.Declined.{Declined}
use Rattle.std.specs.Prelude.{Result, Ok, Err}
use Rattle.packing.proofs.OutcomesTold.{declined_told, declined-letter}
use Rattle.player.specs.Answers.{wording_of, opened, opening_for}
use Rattle.player.specs.Promises.{opening_of, answer_of, record_after, Bounded, BoundedOpening}
use Rattle.player.specs.declared.record.Player.{Player}
use Rattle.player.specs.declared.record.Direction.{Direction}
use Rattle.player.specs.declared.record.Answer.{Answer}
use Rattle.player.specs.declared.record.Answer.TheVariants.{Moved, AtEnd, Foreign}
use Rattle.player.specs.declared.record.Move.{Move}
use Rattle.player.specs.working.Playing.{move_of, open_of}
use Rattle.player.proofs.MovesTold.{players_bounded}
use Rattle.player.proofs.Inverted.{records_stay}
use Rattle.workbench.specs.Players as P
use Rattle.workbench.specs.Players.{player_in, with_player, opening_told, answer_number, move_told, answer_for, opening_in, PlayersTell}

-- A list with room for a record has it where it was put, and with the record that it has is the same list.
put_back : (l : List ℕ) (p : Player) → 2 ≤ length l → player_in (with_player l p) ≡ p
put_back [] p h = absurd (omega (arith, h))
put_back (x ∷ []) p h = absurd (omega (arith, h))
put_back (x ∷ y ∷ l) p h = refl

put_same : (l : List ℕ) → 2 ≤ length l → with_player l (player_in l) ≡ l
put_same [] h = absurd (omega (arith, h))
put_same (x ∷ []) h = absurd (omega (arith, h))
put_same (x ∷ y ∷ l) h = refl

-- The number of a move's answer tells it.
answer-told : (a : Result Answer Declined) → Bounded (wording_of a) → answer_for (answer_number (wording_of a)) ≡ wording_of a
unfolding wording_of answer_number bytes
answer-told (Ok Moved) b = refl
answer-told (Ok AtEnd) b = refl
answer-told (Ok Foreign) b = refl
answer-told (Err d) b =
    rw (
      declined-letter d b 109 (inl (omega arith, omega arith)),
      declined-letter d b 101 (inl (omega arith, omega arith)),
      declined-letter d b 102 (inl (omega arith, omega arith)),
      declined_told d b,
    )

opening-told : (o : Result Player Declined) → BoundedOpening (opening_for o) → (l : List ℕ) → 2 ≤ length l → opening_in (opening_told (opening_for o) l) ≡ opening_for o
unfolding opening_for opening_told bytes
opening-told (Ok p) b l h = rw (le-ltb (length l) 2 h) (ap opened (put_back l p h))
opening-told (Err d) b l h = rw (declined-letter d b 111 (inl (omega arith, omega arith)), declined_told d b)

-- A list with room: the move of the record that it has.
module _ (d : Direction) (text b l : List ℕ) where
  pub roomy : 2 ≤ length l
      → move_told d text b l ≡ record { number = answer_number (answer_of d text b (player_in l)); entries = with_player l (record_after d text b (player_in l)) }
  unfolding move_told
  roomy h = rw (le-ltb (length l) 2 h)

  pub short : length l < 2 → move_told d text b l ≡ opening_told (opening_of text b) l
  unfolding move_told
  short h = rw (lt-ltb (length l) 2 h)

pub players_tell : PlayersTell
players_tell text b l h =
    record {
      opening = opening-told (open_of text b) (players_bounded text b).0 l h;
      answer = λ d. ap (λ (t : P.Told). answer_for t.number) (roomy d text b l h) ∙ answer-told (move_of d text b (player_in l)).answer ((players_bounded text b).1 d (player_in l));
      after = λ d. ap (λ (t : P.Told). player_in t.entries) (roomy d text b l h) ∙ put_back l (record_after d text b (player_in l)) h;
      stays = λ d f.
          ap (λ (t : P.Told). t.entries) (roomy d text b l h)
          ∙ ap (with_player l) (records_stay text b d (player_in l) f)
          ∙ put_same l h;
    }

-- What the functions ask.
pub opened_bounded : (text b : List ℕ) (x : Result Player Declined) → x ≡ open_of text b → BoundedOpening (opening_for x)
opened_bounded text b x e = subst (λ (y : Result Player Declined). BoundedOpening (opening_for y)) (sym e) (players_bounded text b).0

pub moved_bounded : (d : Direction) (text b : List ℕ) (p : Player) (m : Move) → m ≡ move_of d text b p → Bounded (wording_of m.answer)
moved_bounded d text b p m e = subst (λ (n : Move). Bounded (wording_of n.answer)) (sym e) ((players_bounded text b).1 d p)
