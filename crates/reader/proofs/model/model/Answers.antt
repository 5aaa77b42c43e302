-- `model` meets its contract: declarations, clauses and commands in order, and the end of the text after them.
use Rattle.lexer.specs.declared.pieces.Kind.TheVariants.{Command, Finish}
use Rattle.lexer.proofs.KindNumbers.{other_kind, same_kinds}
use Rattle.statements.proofs.StoredCode.{passed}
use Rattle.reader.specs.working.Commands.{Arrays, arrays}
use Rattle.reader.proofs.WholeTexts.{head-refused, head-ready, both_refused, first_missing, both_naming}
use Rattle.reader.proofs.WholeTexts.{all-refused, more_follows, model-says}
use Rattle.reader.proofs.model.model.Goals as goal
use Rattle.reader.proofs.model.model.Goals.{Start}

-- The arrays as they were lent.
abbrev lent : Start → Arrays
lent c = arrays c.args.names.now c.args.ops.now c.args.ends.now c.args.stars.now

pub returns-in_err-c : goal.returns-in_err-c
returns-in_err-c c =
    rw (passed c.from_residual.result c.from_residual.ensures.1)
    (head-refused c.args.text.now (lent (goal.at.returns-in_err-c c).Start) _ _ c.in_err-c.ensures)

pub clauses-requires : goal.clauses-requires
clauses-requires c =
    head-ready c.args.text.now (lent (goal.at.clauses-requires c).Start) _ _ _ c.in_ok-c.ensures

pub returns-in_err-clauses : goal.returns-in_err-clauses
returns-in_err-clauses c =
    rw (passed c.from_residual-in_err-clauses.result c.from_residual-in_err-clauses.ensures.1)
    (both_refused c.args.text.now (lent (goal.at.returns-in_err-clauses c).Start) _ _ _ c.in_ok-c.ensures _ _ _ c.in_err-clauses.ensures)

pub returns-then-ne : goal.returns-then-ne
returns-then-ne c =
    first_missing c.args.text.now (lent (goal.at.returns-then-ne c).Start) _ _ _ c.in_ok-c.ensures _ _ _ c.in_ok-clauses.ensures
    _ c.misplaced.ensures (other_kind c.clauses.new.c.next.kind Command c.ne.ensures c.if-ne.true)

pub commands-requires : goal.commands-requires
commands-requires c =
    (both_naming c.args.text.now (lent (goal.at.commands-requires c).Start) _ _ _ c.in_ok-c.ensures _ _ _ c.in_ok-clauses.ensures, (same_kinds c.clauses.new.c.next.kind Command c.ne.ensures c.if-ne.false))

pub returns-in_err-commands : goal.returns-in_err-commands
returns-in_err-commands c =
    rw (passed c.from_residual-in_err-commands.result c.from_residual-in_err-commands.ensures.1)
    (all-refused c.args.text.now (lent (goal.at.returns-in_err-commands c).Start) _ _ _ c.in_ok-c.ensures _ _ _ c.in_ok-clauses.ensures
    (same_kinds c.clauses.new.c.next.kind Command c.ne.ensures c.if-ne.false) _ _ c.in_err-commands.ensures)

pub returns-then-ne-2 : goal.returns-then-ne-2
returns-then-ne-2 c =
    more_follows c.args.text.now (lent (goal.at.returns-then-ne-2 c).Start) _ _ _ c.in_ok-c.ensures _ _ _ c.in_ok-clauses.ensures
    (same_kinds c.clauses.new.c.next.kind Command c.ne.ensures c.if-ne.false) _ _ _ c.in_ok-commands.ensures _ c.misplaced-then-ne-2.ensures (other_kind c.commands.new.c.next.kind Finish c.ne-2.ensures c.if-ne-2.true)

pub returns : goal.returns
returns c =
    model-says c.args.text.now (lent (goal.at.returns c).Start) _ _ _ c.in_ok-c.ensures _ _ _ c.in_ok-clauses.ensures
    (same_kinds c.clauses.new.c.next.kind Command c.ne.ensures c.if-ne.false) _ _ _ c.in_ok-commands.ensures (same_kinds c.commands.new.c.next.kind Finish c.ne-2.ensures c.if-ne-2.false)
