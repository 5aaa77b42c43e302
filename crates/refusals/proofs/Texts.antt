-- A text's refusal has the number of a reason.
-- Assumes nothing.
use Rattle.std.proofs.Common.{◌≡◌, List, ℕ, arith}
use Rattle.notation.specs.working.Machine.{refused}
use Rattle.notation.specs.working.Answer.{answer}
use Rattle.notation.proofs.Texts.{refused_iff_answer}
use Rattle.notation.proofs.Places.{refusals_bounded}
use Rattle.refusals.specs.Reasons.{number_of, reason_of}
use Rattle.refusals.proofs.Numbers.{number_told}

pub text_reason : (text : List ℕ) (n i : ℕ) → answer text ≡ refused n i → number_of (reason_of n) ≡ n
text_reason text n i e =
    let B = refusals_bounded text n i ((refused_iff_answer text n i).1 e) in number_told n B.low (omega (arith, B.high))
