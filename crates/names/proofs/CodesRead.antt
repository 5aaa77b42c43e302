-- The flat form that was read of a text is that of the tree which the text says.
-- Assumes nothing.
use mathlib.Core.Path.{◌≡◌, refl, ap}
use mathlib.Core.List.{List}
use Prim.Native.Nat.{ℕ}
use Rattle.std.specs.Prelude.{Ok}
use Rattle.notation.specs.Notation.{Tree}
use Rattle.notation.specs.Layout.{layout_of}
use Rattle.notation.specs.Texts.{TextSaysTree, model_of, names_of}
use Rattle.notation.specs.working.Machine as N
use Rattle.notation.specs.working.Answer.{answer}
use Rattle.notation.proofs.Texts.{says_iff_answer}
use Rattle.reader.specs.declared.Code.{Code}
use Rattle.reader.specs.Read.{code_of, code_in, reading_in, reading_of}

pub record ReadAs (text : List ℕ) (code : Code) : Type 0 where
  pub tree : Tree
  pub says : TextSaysTree text tree
  pub flat : code ≡ code_of (layout_of (model_of tree)) (names_of tree)

as_read : (text : List ℕ) (code : Code) (o : N.Outcome) → answer text ≡ o → Ok code ≡ reading_in o → ReadAs text code
unfolding reading_in
as_read text code (N.read x) a e = record { tree = x; says = (says_iff_answer text x).1 a; flat = ap code_in e }
as_read text code (N.refused n i) a e = cc

pub read_as : (text : List ℕ) (code : Code) → Ok code ≡ reading_of text → ReadAs text code
read_as text code e = as_read text code (answer text) refl e
