-- `put_number` meets its contract: the fewest digits that hold a number are its decimal digits.
use mathlib.Core.Path.{sym, subst}
use native.Mathlib.Omega.{arith}
use Rattle.lines.specs.Writers.{HasRoom, Writes}
use Rattle.lines.specs.Lines.{word}
use Rattle.lines.proofs.Digits.{taken_decimal}
use Rattle.lines.proofs.Writer.put_number.Goals as goal

pub put_word-requires : goal.put_word-requires
put_word-requires c =
    let d = c.decimal-k in
    let e = taken_decimal c.args.n d.result d.new.out (omega arith) d.ensures.len d.ensures.digits in
    subst (λ v. HasRoom c.args.self.now (word v)) (sym e) c.requires

pub returns : goal.returns
returns c =
    let d = c.decimal-k in
    let e = taken_decimal c.args.n d.result d.new.out (omega arith) d.ensures.len d.ensures.digits in
    subst (λ v. Writes c.args.self.now (word v) c.put_word.new.self) e c.put_word.ensures
