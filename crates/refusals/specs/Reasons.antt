-- The numbers of the reasons for a refusal.
-- Assumes nothing.
use Rattle.std.specs.Prelude.{cond, ℕ, eqb}
use Rattle.refusals.specs.declared.Reason.{Reason}
use Rattle.refusals.specs.declared.Reason.TheVariants.{TextTooLong, NoToken, Unexpected, Redeclared, Undeclared, StarBarred, TooMany, NoRoom, Malformed, OutOfRange, BadWidth}
use Rattle.refusals.specs.declared.Refusal.{Refusal}

-- The number that each reason is told by.
unfoldable pub number_of : Reason → ℕ
number_of TextTooLong = 1
number_of NoToken = 2
number_of Unexpected = 3
number_of Redeclared = 4
number_of Undeclared = 5
number_of StarBarred = 6
number_of TooMany = 7
number_of NoRoom = 8
number_of Malformed = 9
number_of OutOfRange = 10
number_of BadWidth = 16

-- The reason that a number tells; every number that tells none is taken for the last.
unfoldable pub reason_of : ℕ → Reason
reason_of n =
    cond (eqb n 1) TextTooLong
    (cond (eqb n 2) NoToken
    (cond (eqb n 3) Unexpected
    (cond (eqb n 4) Redeclared
    (cond (eqb n 5) Undeclared
    (cond (eqb n 6) StarBarred
    (cond (eqb n 7) TooMany (cond (eqb n 8) NoRoom (cond (eqb n 9) Malformed (cond (eqb n 10) OutOfRange BadWidth)))))))))

-- The refusal with a number, at a place.
abbrev pub refusal_of : ℕ → ℕ → Refusal
refusal_of n p = record { reason = reason_of n; place = p }
