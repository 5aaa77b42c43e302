-- What is promised of the loop over an expression's nodes: the value that it finds, and how many passes it takes.
-- Assumes nothing.
use Rattle.std.specs.Prelude.{◌≡◌, cond, List, ◌++◌, ℕ, ◌<◌, ◌≤◌, length}
use Rattle.std.proofs.Math.Seq.{slice}
use Rattle.notation.specs.Model.{Model, Expr, Place, outside, inside}
use Rattle.notation.specs.Rules.{limit_of, NODES}
use Rattle.notation.specs.Texts.{TextSays}
use Rattle.notation.specs.Layout.{expr_code, layout_of}
use Rattle.notation.specs.Regular.{sum_over}
use Rattle.notation.specs.Expressions.{nodes, node_count, expressions, StandsIn}
use Rattle.meaning.specs.Meaning.{Scope, table_scope, row_scope, eval}
use Rattle.meaning.specs.OneRow.{One, the_row, state_count, spread, spread_word}
use Rattle.evaluation.specs.working.CodeMachine.{value_of, passes_of}

-- What an expression sees of the table of one row in the state numbered s, under the choice word w: the shared bits, and inside `each` or `for` the row's too.
unfoldable pub scope_at : Model → Place → ℕ → ℕ → Scope
scope_at m outside s w = table_scope (spread_word One w).outer (spread m One s).shared
scope_at m inside s w = row_scope ((spread_word One w).inner the_row) (spread m One s).shared ((spread m One s).rows the_row)

-- The code words have in every state, under every choice word, the expression's value, and take as many passes as it has nodes.
pub record Values (m : Model) (p : Place) (e : Expr) (os : List ℕ) : Type 0 where
  pub value : (s w : ℕ) → s < state_count m → value_of os w s ≡ cond (eval (scope_at m p s w) e) 1 0
  pub passes : passes_of os ≡ nodes e

-- The expression's code stands among the code words from one place to another, and has its value.
pub record ValuedAmong (m : Model) (p : Place) (e : Expr) (ops : List ℕ) : Type 0 where
  pub from : ℕ
  pub to : ℕ
  pub rising : from ≤ to
  pub short : to ≤ length ops
  pub code : slice from to ops ≡ expr_code m.shared_names e
  pub values : Values m p e (slice from to ops)

-- How many passes expressions take together, where there are a shared names.
abbrev pub passes_in : ℕ → List Expr → ℕ
passes_in a es = sum_over (λ e. passes_of (expr_code a e)) es

-- Every expression of a model that a text says is valued so, whatever follows the model's code; and once through all of them takes as many passes as the text counts nodes.
pub record AllValued (m : Model) {text : List ℕ} (t : TextSays text m) : Type 0 where
  pub each : (p : Place) (e : Expr) → StandsIn m p e → (more : List ℕ) → ValuedAmong m p e ((layout_of m).code ++ more)
  pub together : passes_in m.shared_names (expressions m) ≡ node_count t
  pub few : passes_in m.shared_names (expressions m) ≤ limit_of NODES

abbrev pub ExpressionsValued : Type 0
ExpressionsValued = (text : List ℕ) (m : Model) (t : TextSays text m) → AllValued m t
