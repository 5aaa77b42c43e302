-- What an answer to a text tells of the text: the tree that was read, with its code, or the refusal.
-- Assumes nothing.
use Rattle.std.specs.Prelude.{Ok, Err}
use mathlib.Core.Path.{◌≡◌, refl, sym, ap, ◌∙◌}
use mathlib.Core.List.{List}
use Prim.Native.Nat.{ℕ}
use Rattle.notation.specs.Notation.{Tree}
use Rattle.notation.specs.Layout.{layout_of}
use Rattle.notation.specs.Regular.{Regular}
use Rattle.notation.specs.Texts.{model_of, names_of}
use Rattle.notation.specs.working.Machine.{Outcome, read, refused}
use Rattle.notation.specs.working.Answer.{answer}
use Rattle.notation.proofs.Texts.{says_iff_answer}
use Rattle.notation.proofs.Regular.{all_regular}
use Rattle.refusals.specs.declared.Refusal.{Refusal}
use Rattle.refusals.specs.Reasons.{number_of, refusal_of}
use Rattle.refusals.proofs.Texts.{text_reason}
use Rattle.reader.specs.declared.Code.{Code}
use Rattle.reader.specs.Read.{code_of, reading_in, reading_of}

-- The text says the tree, and the code is that of its model.
pub record ReadAs (text : List ℕ) (c : Code) : Type 0 where
  pub tree : Tree
  pub told : answer text ≡ read tree
  pub code : c ≡ code_of (layout_of (model_of tree)) (names_of tree)

module _ (text : List ℕ) where
  read_in : (c : Code) (o : Outcome) → Ok c ≡ reading_in o → answer text ≡ o → ReadAs text c
  unfolding reading_in
  read_in c (read x) e q = record { tree = x; told = q; code = cc }
  read_in c (refused n i) e q = cc

  refused_in : (r : Refusal) (o : Outcome) → Err r ≡ reading_in o → answer text ≡ o → answer text ≡ refused (number_of r.reason) r.place
  unfolding reading_in
  refused_in r (read x) e q = cc
  refused_in r (refused n i) e q =
      let s : refusal_of n i ≡ r = cc in
      q ∙ ap (λ (m : ℕ). refused m i) (sym (text_reason text n i q)) ∙ ap (λ (x : Refusal). refused (number_of x.reason) x.place) s

  pub read_as : (c : Code) → Ok c ≡ reading_of text → ReadAs text c
  read_as c e = read_in c (answer text) e refl

  pub refused_as : (r : Refusal) → Err r ≡ reading_of text → answer text ≡ refused (number_of r.reason) r.place
  refused_as r e = refused_in r (answer text) e refl

-- The model of a text that was read.
pub read_regular : (text : List ℕ) (x : Tree) → answer text ≡ read x → Regular (model_of x)
read_regular text x e = all_regular text (model_of x) (record { tree = x; says = (says_iff_answer text x).1 e; meant = refl })

pub regular : {text : List ℕ} {c : Code} (R : ReadAs text c) → Regular (model_of R.tree)
regular {text} R = read_regular text R.tree R.told
