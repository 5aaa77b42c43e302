-- What is told of a player: a number, and its record as the first two entries of a lent list.
-- Assumes nothing.
use Rattle.std.specs.Prelude.{◌≡◌, cond, List, [], ◌∷◌, ℕ, ◌%◌, ◌≤◌, eqb, ltb, length, get_or}
use Rattle.std.proofs.lemmas.List.Edits.{sets}
use Rattle.packing.specs.Packed.{packed, initial}
use Rattle.packing.specs.Outcomes as T
use Rattle.player.specs.Answers.{Wording, moved, at_end, foreign, told, Opening, opened, unopened}
use Rattle.player.specs.Promises.{opening_of, answer_of, record_after}
use Rattle.player.specs.declared.record.Player.{Player}
use Rattle.player.specs.declared.record.Direction.{Direction}

-- The number, and what the list holds afterwards.
pub record Told : Type 0 where
  pub number : ℕ
  pub entries : List ℕ

-- The record that a list has: its place first, then its state.
abbrev pub player_in : List ℕ → Player
player_in list = record { place = get_or list 0 0; state = get_or list 1 0 }

-- A list with a record at its front, all else as before.
abbrev pub with_player : List ℕ → Player → List ℕ
with_player list p = sets list 0 (p.place ∷ p.state ∷ [])

-- Opening: the letter o, and the record at the front of the list, but 8 where the list has no room for it; or the number of the test's answer.
-- Whatever is not opened leaves the list as it was.
unfoldable pub opening_told : Opening → List ℕ → Told
opening_told (opened p) list =
    cond (ltb (length list) 2) (record { number = packed 8 0; entries = list }) (record { number = packed (initial "opened") 0; entries = with_player list p })
opening_told (unopened w) list = record { number = T.test_number w; entries = list }

-- The answer of a move: its first letter, or the number of the test's answer.
unfoldable pub answer_number : Wording → ℕ
answer_number moved = packed (initial "moved") 0
answer_number at_end = packed (initial "end") 0
answer_number foreign = packed (initial "foreign") 0
answer_number (told w) = T.test_number w

-- A move of the record that the list has. A list without room for one is told what opening tells of it.
unfoldable pub move_told : Direction → List ℕ → List ℕ → List ℕ → Told
move_told d text b list =
    cond (ltb (length list) 2)
    (opening_told (opening_of text b) list)
    (record { number = answer_number (answer_of d text b (player_in list)); entries = with_player list (record_after d text b (player_in list)) })

-- The answer of a move that a number stands for, and that of opening with what the list holds.
abbrev pub answer_for : ℕ → Wording
answer_for x =
    let low = x % 256 in
    cond (eqb low 109) moved (cond (eqb low 101) at_end (cond (eqb low 102) foreign (told (T.wording_for x))))

abbrev pub opening_in : Told → Opening
opening_in x = cond (eqb (x.number % 256) 111) (opened (player_in x.entries)) (unopened (T.wording_for x.number))

-- Where the list has room, number and list tell the answer, and the list has the record afterwards; only a move that moved changes it.
pub record PlayersTold (text b list : List ℕ) : Type 0 where
  pub opening : opening_in (opening_told (opening_of text b) list) ≡ opening_of text b
  pub answer : (d : Direction) → answer_for (move_told d text b list).number ≡ answer_of d text b (player_in list)
  pub after : (d : Direction) → player_in (move_told d text b list).entries ≡ record_after d text b (player_in list)
  pub stays : (d : Direction) → ¬ (answer_of d text b (player_in list) ≡ moved) → (move_told d text b list).entries ≡ list

abbrev pub PlayersTell : Type 0
PlayersTell = (text b list : List ℕ) → 2 ≤ length list → PlayersTold text b list
