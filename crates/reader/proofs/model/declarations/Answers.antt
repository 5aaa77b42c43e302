-- `declarations` meets its contract: from the front of the text, with nothing declared, its answer is that of the shared names and then of the row names, stored behind them.
use native.Mathlib.Omega.{arith}
use Rattle.statements.proofs.StoredCode.{passed}
use Rattle.reader.proofs.Declarations.{shared_bad, row-listing, heads_say}
use Rattle.lexer.proofs.Lexing.{is_tokened}
use borrow.Author.Rules.{rules}
use Rattle.reader.proofs.model.declarations.Goals as goal

pub declaration-requires : goal.declaration-requires
declaration-requires c =
    let t = is_tokened c.piece_at.ensures in
    search rules

pub returns-in_err-declaration : goal.returns-in_err-declaration
returns-in_err-declaration c =
    rw (passed c.from_residual.result c.from_residual.ensures.1)
    (shared_bad _ _ _ (is_tokened c.piece_at.ensures) _ _ c.in_err-declaration.ensures)

pub declaration-requires-2 : goal.declaration-requires-2
declaration-requires-2 c =
    (row-listing _ _ _ (is_tokened c.piece_at.ensures) _ _ _ c.in_ok-declaration.ensures, omega arith)

pub returns-in_err-declaration-2 : goal.returns-in_err-declaration-2
returns-in_err-declaration-2 c =
    rw (passed c.from_residual-in_err-declaration-2.result c.from_residual-in_err-declaration-2.ensures.1)
    (heads_say _ _ _ (is_tokened c.piece_at.ensures) _ _ _ c.in_ok-declaration.ensures _ _ c.in_err-declaration-2.ensures)

pub returns : goal.returns
returns c =
    heads_say _ _ _ (is_tokened c.piece_at.ensures) _ _ _ c.in_ok-declaration.ensures _ _ c.in_ok-declaration-2.ensures
