-- The code words that the reader returns are the model's, and zeros behind them.
-- Assumes nothing.
use Rattle.std.specs.Prelude.{Result}
use mathlib.Core.Path.{◌≡◌, sym, ap, ◌∙◌, subst}
use mathlib.Core.List.{List, ◌++◌}
use Prim.Native.Nat.{ℕ}
use native.Mathlib.Omega.{arith}
use lib.ListN.{length, drop, replicate}
use Rattle.notation.specs.Model.{Model}
use Rattle.notation.specs.Layout.{layout_of}
use Rattle.notation.specs.Texts.{TextSays}
use Rattle.notation.proofs.Regular.{all_regular}
use Rattle.refusals.specs.declared.Refusal.{Refusal}
use Rattle.reader.specs.declared.Code.{Code}
use Rattle.reader.specs.Read.{filled, code_of, code_in, read_code}
use Rattle.reader.proofs.Arrays.{filled-front}
use Rattle.reader.proofs.Promised.{read_answers}
use Rattle.evaluation.specs.Passes.{ValuedAmong}
use Rattle.evaluation.proofs.Passes.{expressions_valued}
use Rattle.value_corpus.specs.Promises.{ReadValued}

words-told : (text : List ℕ) (m : Model) → TextSays text m → (read_code text).ops ≡ (layout_of m).code ++ drop (length (layout_of m).code) (replicate 2048 0)
unfolding code_of
words-told text m t =
    ap (λ (r : Result Code Refusal). (code_in r).ops) ((read_answers text).code t.tree t.says)
    ∙ ap (λ (n : Model). filled 2048 (layout_of n).code) t.meant
    ∙ filled-front 2048 (layout_of m).code (omega (arith, (all_regular text m t).short))

pub read_valued : ReadValued
read_valued text m t p e i =
    subst (ValuedAmong m p e) (sym (words-told text m t)) ((expressions_valued text m t).each p e i (drop (length (layout_of m).code) (replicate 2048 0)))
