-- A model that a text says is regular.
-- Assumes nothing.
use mathlib.Core.Path.{subst}
use mathlib.Core.List.{List}
use Rattle.notation.specs.Notation.{Tree}
use Rattle.notation.specs.Regular.{Regular}
use Rattle.notation.specs.Texts.{Says, model_of}
use Rattle.notation.specs.Tokens.{Lexeme}
use Rattle.notation.specs.Promises.{AllRegular}
use Rattle.notation.proofs.Stars.{stars-numbered, start_starless, keep_starless}
use Rattle.notation.proofs.Scopes.{start-scoped, keep-scoped, commands-scoped}
use Rattle.notation.proofs.Limits.{shared-few, row-few, names-few, some-command, commands-few, stars-few, code-short}
use Rattle.notation.proofs.Heights.{start-low, keep_low, commands-low}

pub tree_regular : {us : List Lexeme} {x : Tree} → Says us x → Regular (model_of x)
tree_regular {us} {x} s = record {
  start = start-scoped s.form s.kept;
  keep = keep-scoped s.form s.kept;
  scoped = commands-scoped s.form s.kept;
  start_whole = (start_starless s.form s.kept).0;
  start_each = (start_starless s.form s.kept).1;
  keep_whole = (keep_starless s.form s.kept).0;
  keep_each = (keep_starless s.form s.kept).1;
  numbered = stars-numbered x;
  few_shared = shared-few s.form s.kept;
  few_row = row-few s.form s.kept;
  few_names = names-few s.form s.kept;
  some_command = some-command s.form;
  few_commands = commands-few s.form s.kept;
  few_stars = stars-few s.form s.kept;
  low_start = start-low s.form s.kept;
  low_keep = keep_low s.form s.kept;
  low = commands-low s.form s.kept;
  short = code-short s.form s.kept;
}

pub all_regular : AllRegular
all_regular text m s = subst Regular s.meant (tree_regular s.says.says)
