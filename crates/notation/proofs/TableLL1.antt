-- The table is LL(1), and each of its symbols can be completed.
-- Assumes nothing.
use mathlib.Core.Path.{◌≡◌, refl}
use mathlib.Core.Bool.{true}
use Rattle.notation.specs.working.Table.{Sym, lit, whole, rows, clause, names, title, one_command, commands, factor, ands, ors, item, items, row_item, row_items, lines, skips, more, ends, kinds, firsts, closed, closed_lines, ll1}
use Rattle.notation.specs.Rules.{elem}

pub ll1-table : (n : Sym) → ll1 n ≡ true
unfolding ll1 closed_lines closed firsts kinds lines skips more ends elem
ll1-table (lit k) = refl
ll1-table whole = refl
ll1-table rows = refl
ll1-table (clause k) = refl
ll1-table (names s) = refl
ll1-table title = refl
ll1-table one_command = refl
ll1-table commands = refl
ll1-table (factor m d) = refl
ll1-table (ands m d) = refl
ll1-table (ors m d) = refl
ll1-table item = refl
ll1-table items = refl
ll1-table row_item = refl
ll1-table row_items = refl
