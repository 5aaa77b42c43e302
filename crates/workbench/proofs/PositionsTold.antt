-- The numbers that stand for positions and replies tell them, and fit.
-- Assumes nothing.
use mathlib.Core.Path.{◌≡◌, refl, ap, ◌∙◌, subst}
use mathlib.Core.Logic.{inl, inr}
use mathlib.Core.Bool.{Bool, true, false, cond, ◌||◌}
use mathlib.Core.List.{List, []}
use Prim.Native.Nat.{ℕ, ◌+◌, ◌*◌, ◌/◌, ◌%◌, ◌≤◌}
use native.Mathlib.Omega.{arith}
use lib.Dec.{eqb}
use borrow.Author.Tests.{ne_eqb}
use Rattle.notation.specs.Bytes.{bytes}
use Rattle.exploration.specs.Pause.{Pause}
use Rattle.packing.specs.Packed.{packed, most_above}
use Rattle.packing.proofs.Packed.{low-back, above_back}
use Rattle.packing.proofs.OutcomesTold.{declined_told, declined-letter}
use Rattle.std.specs.Prelude.{Result, Ok, Err}
use Rattle.conditions.specs.declared.outcome.Declined.{Declined}
use Rattle.pauses.specs.Answers.{Wording, paused, returned}
use Rattle.verdicts.specs.Left.{Leaves}
use Rattle.pauses.specs.Held.{Holding}
use Rattle.pauses.specs.Promises.{Bounded}
use Rattle.pauses.specs.working.Pausing.{open_of, portion_of, finish_of, met_of}
use Rattle.pauses.proofs.AnyCalls.{pauses_bounded}
use Rattle.pauses.proofs.MetRefusals.{met_bounded}
use Rattle.questions.specs.Answers as Q
use Rattle.questions.specs.Promises as QP
use Rattle.questions.specs.working.Asking.{reached_of}
use Rattle.questions.proofs.ReachedTells.{replies_bounded}
use Rattle.workbench.specs.Positions.{ended, position_number, paused_number, pause_at, wording_for, PositionsTell, reply_number, reply_for, RepliesTell}

-- A position in bounds, by its digits.
module _ (e m t : ℕ) (he : e ≤ 4096) (hm : m ≤ 4096) (ht : t ≤ 67108864) where
  abbrev pub above_of : ℕ → ℕ
  above_of b = b + 2 * (e + 8192 * (m + 8192 * t))

  pub above_fits : (b : ℕ) → b ≤ 1 → above_of b ≤ most_above
  above_fits b h = omega arith

  module _ (l b : ℕ) (hl : l ≤ 255) (hb : b ≤ 1) where
    broke-back : packed l (above_of b) / 256 % 2 ≡ b
    broke-back = omega arith

    expanded-back : packed l (above_of b) / 512 % 8192 ≡ e
    expanded-back = omega arith

    met-back : packed l (above_of b) / 4194304 % 8192 ≡ m
    met-back = omega arith

    trials-back : packed l (above_of b) / 34359738368 ≡ t
    trials-back = omega arith

    low-back_of : packed l (above_of b) % 256 ≡ l
    low-back_of = omega arith

    pause_back : (x : Bool) → eqb b 1 ≡ x → pause_at (packed l (above_of b)) ≡ record { expanded = e; met = m; broke = x; trials = t }
    unfolding pause_at
    pause_back x h = λ i. record { expanded = expanded-back i; met = met-back i; broke = (ap (λ (u : ℕ). eqb u 1) broke-back ∙ h) i; trials = trials-back i }

    position-back : (x : Bool) → eqb b 1 ≡ x → (eqb l 101 || eqb l 112) ≡ true → wording_for (packed l (above_of b)) ≡ paused (record { expanded = e; met = m; broke = x; trials = t })
    position-back x h k =
        ap (λ (u : ℕ). cond (eqb u 101 || eqb u 112) (paused (pause_at (packed l (above_of b)))) (returned u (packed l (above_of b) / 256))) low-back_of
        ∙ ap (λ (c : Bool). cond c (paused (pause_at (packed l (above_of b)))) (returned l (packed l (above_of b) / 256))) k
        ∙ ap paused (pause_back x h)

  letter-back : (x c : Bool) → wording_for (packed (cond c 101 112) (above_of (cond x 1 0))) ≡ paused (record { expanded = e; met = m; broke = x; trials = t })
  letter-back true true = position-back 101 1 (omega arith) (omega arith) true refl refl
  letter-back true false = position-back 112 1 (omega arith) (omega arith) true refl refl
  letter-back false true = position-back 101 0 (omega arith) (omega arith) false refl refl
  letter-back false false = position-back 112 0 (omega arith) (omega arith) false refl refl

told : (w : Wording) → Bounded w → wording_for (paused_number w) ≡ w
unfolding paused_number position_number bytes
told (paused p) b = letter-back p.expanded p.met p.trials b.0 b.1 b.2 p.broke (ended p)
told (returned n i) b =
    let h = b.1 in
    rw (low-back n i (omega arith), above_back n i (omega arith), ne_eqb n 101 (omega arith), ne_eqb n 112 (omega arith))

pub positions_tell : PositionsTell
positions_tell text p k first second =
    let B = pauses_bounded text p k first second [] in
    record { opened = told (open_of text first second).answer B.opened; portion = told (portion_of text p k first second).answer B.portion }

-- No answer of the test has the letter of yes or no.
reply-told : (r : Result Bool Declined) → QP.Bounded (Q.wording_of r) → reply_for (reply_number (Q.wording_of r)) ≡ Q.wording_of r
unfolding Q.wording_of reply_number bytes
reply-told (Ok true) b = refl
reply-told (Ok false) b = refl
reply-told (Err d) b =
    rw (declined-letter d b 121 (inr (omega arith)), declined-letter d b 110 (inl (omega arith, omega arith)), declined_told d b)

pub replies_tell : RepliesTell
replies_tell text t first second sheet =
    record { met = reply-told (met_of text t first second) (met_bounded text t first second); reached = reply-told (reached_of text sheet t) (replies_bounded text sheet t) }

-- What is left by calls from the same position.
pub portion-same : (text : List ℕ) (a b : Pause) (k : ℕ) (first second : List ℕ) {q p : List ℕ} → a ≡ b → Holding (portion_of text a k first second) q p → Holding (portion_of text b k first second) q p
portion-same text a b k first second {q} {p} e h = subst (λ (u : Pause). Holding (portion_of text u k first second) q p) e h

pub finish-same : (text : List ℕ) (a b : Pause) (first second sheet : List ℕ) {q p o : List ℕ} → a ≡ b
    → Leaves (finish_of text a first second sheet) q p o → Leaves (finish_of text b first second sheet) q p o
finish-same text a b first second sheet {q} {p} {o} e h = subst (λ (u : Pause). Leaves (finish_of text u first second sheet) q p o) e h
