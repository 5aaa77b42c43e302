-- `clauses` meets its contract: one clause after the other, their ends stored side by side.
use native.Mathlib.Omega.{arith}
use Rattle.statements.proofs.StoredCode.{passed}
use Rattle.reader.proofs.WholeTexts.{start_bad, keep-ready, clauses-say}
use Rattle.reader.proofs.model.clauses.Goals as goal

pub returns-in_err-clause : goal.returns-in_err-clause
returns-in_err-clause c =
    rw (passed c.from_residual.result c.from_residual.ensures.1)
    (start_bad c.args.text.now c.args.names.now c.args.l c.args.c.now c.args.ops.now c.args.ends.now _ _ _ c.in_err-clause.ensures)

pub clause-requires-2 : goal.clause-requires-2
clause-requires-2 c =
    (keep-ready c.args.text.now c.args.names.now c.args.l c.args.c.now c.args.ops.now c.args.ends.now _ _ _ c.in_ok-clause.ensures c.requires, (omega arith, omega arith))

pub returns : goal.returns
returns c =
    clauses-say c.args.text.now c.args.names.now c.args.l c.args.c.now c.args.ops.now c.args.ends.now _ _ _ c.in_ok-clause.ensures _ _ _ c.clause-2.ensures
