-- `put_values` meets its contract: each turn puts a number more, which takes 21 bytes at most.
use Rattle.std.proofs.Common.{◌∙◌, arith}
use Rattle.lines.proofs.Digits.{digits-within}
use Rattle.lines.proofs.Stores.{keeps}
use Rattle.streams.proofs.Putting.{values-begun, values-more, values-all}
use Rattle.streams.proofs.values.put_values.Goals as goal

pub loop-value-init : goal.loop-value-init
loop-value-init g c =
    let put = c.put.ensures in
    record { line = values-begun g.T.Into.converts _ put; grows = (put.same, keeps put.puts, omega (arith, put.puts.ends)) }

pub loop-value-preserved : goal.loop-value-preserved
loop-value-preserved g c =
    let put = c.put_number.ensures in
    let so_far = c.loop-value.invariant in
    let grown = so_far.grows in
    record {
      line = values-more g.T.Into.converts _ c.args.values.now _ _ _ (omega arith) c.value-item.is c.into.ensures so_far.line put;
      grows = (put.same ∙ grown.0, keeps put.puts ∙ grown.1, omega (arith, put.puts.ends, digits-within 19 c.into.result));
    }

pub returns-clause-line : goal.returns-clause-line
returns-clause-line g c = values-all g.T.Into.converts _ c.args.values.now _ (omega arith) c.loop-value.invariant.line
