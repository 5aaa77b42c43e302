-- A title and numbers behind it.
-- Assumes nothing.
use Rattle.std.specs.Prelude.{List, [], ◌∷◌, ◌++◌, ℕ}
use Rattle.std.specs.List.{AllZip}
use Rattle.lines.specs.declared.Writer.{Writer}
use Rattle.lines.specs.Lines.{decimal_of, word}
use Rattle.lines.specs.Writers.{Writes}

-- The digits of each number, behind a space each.
unfoldable pub words_of : List ℕ → List ℕ
words_of [] = []
words_of (n ∷ ns) = word (decimal_of n) ++ words_of ns

-- Each value becomes a number, and what is put is the title and these numbers in their order.
abbrev pub PutsValues : {A : Type 0} → (A → ℕ → Type 0) → List ℕ → List A → Writer → Writer → Type 0
PutsValues becomes title values before after =
    (ns : List ℕ) × AllZip becomes values ns × Writes before (title ++ words_of ns) after
