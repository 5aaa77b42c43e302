-- `declaration` meets its contract: its answer is that of its sign, of the names after it, and of the full stop after them.
use Rattle.statements.proofs.StoredCode.{passed}
use Rattle.reader.proofs.Declarations.{head_bad, sign-listing, list_bad, end_says}
use Rattle.reader.proofs.model.declaration.Goals as goal

pub returns-in_err-expect : goal.returns-in_err-expect
returns-in_err-expect c =
    rw (passed c.from_residual.result c.from_residual.ensures.1)
    (head_bad _ _ _ _ _ _ c.requires.0 c.requires.1 _ c.in_err-expect.ensures.says)

pub name_list-requires : goal.name_list-requires
name_list-requires c =
    sign-listing _ _ _ _ _ _ c.requires.0 c.requires.1 _ c.in_ok-expect.ensures.says

pub returns-in_err-name_list : goal.returns-in_err-name_list
returns-in_err-name_list c =
    rw (passed c.from_residual-in_err-name_list.result c.from_residual-in_err-name_list.ensures.1)
    (list_bad _ _ _ _ _ _ c.requires.0 c.requires.1 _ c.in_ok-expect.ensures.says _ _ c.in_err-name_list.ensures)

pub returns : goal.returns
returns c =
    end_says _ _ _ _ _ _ c.requires.0 c.requires.1 _ c.in_ok-expect.ensures.says _ _ _ c.in_ok-name_list.ensures _ _ c.expect-2.ensures.says
