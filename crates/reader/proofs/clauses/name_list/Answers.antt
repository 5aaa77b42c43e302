-- `name_list` meets its contract: what the loop has still to read gives what all of it gave.
use Rattle.lexer.specs.declared.pieces.Kind.TheVariants.{Name}
use Rattle.lexer.proofs.KindNumbers.{is_kind, no_kind}
use Rattle.statements.proofs.StoredCode.{passed}
use Rattle.reader.proofs.NameLists.{rest_none, rest-stop, rest_bad, rest_more, rest-less}
use Rattle.reader.proofs.clauses.name_list.Goals as goal

pub listed-init : goal.listed-init
listed-init c = rest_none _ _ _ _ _ c.requires

pub declare_name-requires : goal.declare_name-requires
declare_name-requires c =
    (c.listed.invariant.noted.listing, is_kind c.listed.c.next.kind Name c.eq.ensures c.listed-test.true)

pub returns-in_err-declare_name : goal.returns-in_err-declare_name
returns-in_err-declare_name c =
    rw (passed c.from_residual.result c.from_residual.ensures.1)
    (rest_bad _ _ _ _ _ _ _ _ c.listed.invariant (is_kind c.listed.c.next.kind Name c.eq.ensures c.listed-test.true) _ _ c.in_err-declare_name.ensures)

pub listed-smaller : goal.listed-smaller
listed-smaller c =
    rest-less _ _ _ _ _ _ _ _ c.listed.invariant (is_kind c.listed.c.next.kind Name c.eq.ensures c.listed-test.true) _ _ _ c.in_ok-declare_name.ensures

pub listed-preserved : goal.listed-preserved
listed-preserved c =
    rest_more _ _ _ _ _ _ _ _ c.listed.invariant (is_kind c.listed.c.next.kind Name c.eq.ensures c.listed-test.true) _ _ _ c.in_ok-declare_name.ensures

pub returns : goal.returns
returns c =
    rest-stop _ _ _ _ _ _ _ _ c.listed.invariant (no_kind c.listed.c.next.kind Name c.eq.ensures c.listed-test.false)
