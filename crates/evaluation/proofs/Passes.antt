-- The loop over an expression's nodes finds its value, in as many passes as it has nodes.
-- Assumes nothing.
use mathlib.Core.Path.{◌≡◌, refl, sym, ap, ◌∙◌, subst}
use mathlib.Core.Bool.{Bool, true, false, cond}
use mathlib.Core.List.{List, [], ◌∷◌, ◌++◌}
use Prim.Native.Nat.{ℕ, ◌+◌, ◌<◌}
use native.Mathlib.Omega.{arith}
use lib.ListN.{length, length-append}
use lib.Seq.{slice}
use Rattle.notation.specs.Model.{Model, Expr, lit, star, shared, row, neg, conj, disj, Place, outside, inside}
use Rattle.notation.specs.Layout.{expr_code, layout_of, NEGATE, BOTH, EITHER}
use Rattle.notation.specs.Regular.{Regular, sum_over}
use Rattle.notation.specs.Expressions.{nodes, nodes_in, expressions, StandsIn}
use Rattle.notation.proofs.Regular.{all_regular}
use Rattle.notation.proofs.Nodes.{nodes-counted}
use Rattle.meaning.specs.Meaning.{eval}
use Rattle.meaning.specs.OneRow.{state_count, spread_word}
use Rattle.meaning.proofs.OnNumbers.{eval-outside, eval-inside}
use Rattle.evaluation.specs.working.CodeMachine.{value_of}
use Rattle.evaluation.specs.Passes.{scope_at, Values, ValuedAmong, passes_in, ExpressionsValued}
use Rattle.evaluation.proofs.Values.{value-right}
use Rattle.evaluation.proofs.Segments.{one-cut}
use Rattle.evaluation.proofs.Within.{ahead, stands-within}
use Rattle.evaluation.proofs.Standing.{Known, known}

-- An expression's code has a code word for each of its nodes.
nodes-coded : (a : ℕ) (e : Expr) → length (expr_code a e) ≡ nodes e
unfolding expr_code nodes
nodes-coded a (lit false) = refl
nodes-coded a (lit true) = refl
nodes-coded a (star j) = refl
nodes-coded a (shared j) = refl
nodes-coded a (row j) = refl
nodes-coded a (neg e) = length-append (expr_code a e) (NEGATE ∷ []) ∙ ap (λ (n : ℕ). n + 1) (nodes-coded a e)
nodes-coded a (conj e f) =
    omega (arith, length-append (expr_code a e) (expr_code a f ++ (BOTH ∷ [])), length-append (expr_code a f) (BOTH ∷ []), nodes-coded a e, nodes-coded a f)
nodes-coded a (disj e f) =
    omega (arith, length-append (expr_code a e) (expr_code a f ++ (EITHER ∷ [])), length-append (expr_code a f) (EITHER ∷ []), nodes-coded a e, nodes-coded a f)

all_coded : (a : ℕ) (es : List Expr) → passes_in a es ≡ nodes_in es
unfolding sum_over
all_coded a [] = refl
all_coded a (e ∷ es) = omega (arith, nodes-coded a e, all_coded a es)

module _ (m : Model) (g : Regular m) where
  found : (p : Place) (e : Expr) → Known m p e → (s w : ℕ) → s < state_count m → value_of (expr_code m.shared_names e) w s ≡ cond (eval (scope_at m p s w) e) 1 0
  unfolding scope_at spread_word
  found outside e k s w h =
      value-right m.shared_names 0 w s k.place e (omega (arith, g.few_shared)) k.scoped k.below (omega (arith, k.low))
      ∙ ap (λ (v : Bool). cond v 1 0) (sym (eval-outside m s w h e k.scoped))
  found inside e k s w h =
      value-right m.shared_names m.row_names w s k.place e (omega (arith, g.few_names)) k.scoped k.below (omega (arith, k.low))
      ∙ ap (λ (v : Bool). cond v 1 0) (sym (eval-inside m s w h e k.scoped))

  values : (p : Place) (e : Expr) → StandsIn m p e → Values m p e (expr_code m.shared_names e)
  values p e i = record { value = found p e (known m g i); passes = nodes-coded m.shared_names e }

  valued : (p : Place) (e : Expr) → StandsIn m p e → (more : List ℕ) → ValuedAmong m p e ((layout_of m).code ++ more)
  valued p e i more =
      let code = expr_code m.shared_names e in
      let w = ahead more (stands-within m i) in
      let at = length w.before in
      let cut : slice at (at + length code) ((layout_of m).code ++ more) ≡ code =
      ap (slice at (at + length code)) w.here ∙ one-cut w.before code w.after in
      record {
        from = at;
        to = at + length code;
        rising = omega arith;
        short = omega (arith, ap length w.here, length-append (w.before ++ code) w.after, length-append w.before code);
        code = cut;
        values = subst (Values m p e) (sym cut) (values p e i);
      }

pub expressions_valued : ExpressionsValued
expressions_valued text m t =
    let c = nodes-counted text m t in
    let e = all_coded m.shared_names (expressions m) in
    record { each = valued m (all_regular text m t); together = e ∙ c.0; few = omega (arith, e, c.0, c.1) }
