-- Reasons and their numbers tell each other; a text's refusal has a number of a reason.
-- Assumes nothing.
use Rattle.std.proofs.Common.{◌≡◌, refl, ℕ, ◌≤◌, suc, zero, arith}
use Rattle.refusals.specs.declared.Reason.{Reason}
use Rattle.refusals.specs.declared.Reason.TheVariants.{TextTooLong, NoToken, Unexpected, Redeclared, Undeclared, StarBarred, TooMany, NoRoom, Malformed, OutOfRange, BadWidth}
use Rattle.refusals.specs.Reasons.{number_of, reason_of}

pub reason_told : (r : Reason) → reason_of (number_of r) ≡ r
unfolding number_of reason_of
reason_told TextTooLong = refl
reason_told NoToken = refl
reason_told Unexpected = refl
reason_told Redeclared = refl
reason_told Undeclared = refl
reason_told StarBarred = refl
reason_told TooMany = refl
reason_told NoRoom = refl
reason_told Malformed = refl
reason_told OutOfRange = refl
reason_told BadWidth = refl

pub number_told : (n : ℕ) → 1 ≤ n → n ≤ 10 → number_of (reason_of n) ≡ n
unfolding number_of reason_of
number_told zero lo hi = absurd (omega (arith, lo))
number_told (suc zero) lo hi = refl
number_told (suc (suc zero)) lo hi = refl
number_told (suc (suc (suc zero))) lo hi = refl
number_told (suc (suc (suc (suc zero)))) lo hi = refl
number_told (suc (suc (suc (suc (suc zero))))) lo hi = refl
number_told (suc (suc (suc (suc (suc (suc zero)))))) lo hi = refl
number_told (suc (suc (suc (suc (suc (suc (suc zero))))))) lo hi = refl
number_told (suc (suc (suc (suc (suc (suc (suc (suc zero)))))))) lo hi = refl
number_told (suc (suc (suc (suc (suc (suc (suc (suc (suc zero))))))))) lo hi = refl
number_told (suc (suc (suc (suc (suc (suc (suc (suc (suc (suc zero)))))))))) lo hi = refl
number_told (suc (suc (suc (suc (suc (suc (suc (suc (suc (suc (suc n))))))))))) lo hi = absurd (omega (arith, hi))
