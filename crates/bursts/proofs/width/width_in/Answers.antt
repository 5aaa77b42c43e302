-- `width_in` meets its contract: the bytes that are left say what all of them say.
use native.Mathlib.Omega.{arith}
use Rattle.bursts.proofs.WidthDigits.{other_byte, next, all_read}
use Rattle.bursts.proofs.width.width_in.Goals as goal

pub returns-then-not-is_ascii_digit : goal.returns-then-not-is_ascii_digit
returns-then-not-is_ascii_digit c = other_byte c.args.bytes.now c.digits.n c.digits.b-index c.digits.invariant (omega arith) c.if-not-is_ascii_digit.ensures.cases

pub digits-preserved : goal.digits-preserved
digits-preserved c =
    let digit = c.if-not-is_ascii_digit.ensures.cases in
    next c.args.bytes.now c.digits.n c.digits.b-index c.digits.invariant (omega arith) digit.0 digit.1 c.with_digit-n.result c.with_digit-n.ensures

pub returns : goal.returns
returns c = all_read c.args.bytes.now c.digits.n c.digits.b-index c.digits.invariant (omega arith)
