-- What is promised of the code that is valued here, which is what the reader gives for a text.
-- Assumes nothing.
use Rattle.std.specs.Prelude.{List, ℕ}
use Rattle.notation.specs.Model.{Model, Expr, Place}
use Rattle.notation.specs.Texts.{TextSays}
use Rattle.notation.specs.Expressions.{StandsIn}
use Rattle.reader.specs.Read.{read_code}
use Rattle.evaluation.specs.Passes.{ValuedAmong}

-- For a text that says a model, each expression that stands in the model has its code among the code words that `read` returns, with its value and its passes.
abbrev pub ReadValued : Type 0
ReadValued = (text : List ℕ) (m : Model) → TextSays text m → (p : Place) (e : Expr) → StandsIn m p e → ValuedAmong m p e (read_code text).ops
