-- The nodes of a model's expressions are those that its text counts.
-- Assumes nothing.
use mathlib.Core.Path.{◌≡◌, refl, subst}
use mathlib.Core.Bool.{Bool, true, false, cond}
use mathlib.Core.List.{List, [], ◌∷◌, ◌++◌, map, flat_map}
use Prim.Native.Nat.{ℕ, ◌+◌}
use native.Mathlib.Omega.{arith}
use Rattle.notation.specs.Tokens.{Word, Name, sign, AND, OR, ROW, EACH, DO, ELSE, END, DOT, CLOSE}
use Rattle.notation.specs.Notation as T
use Rattle.notation.specs.Notation.{Kind, shared_name, row_name, command_name, Part, part, plain, declared, declares, Mode, Level, ExpressionIs, is_zero, is_one, is_star, is_name, is_not, is_parens, is_factor, is_and, is_term, is_or, Joined, RowItemIs, ItemIs, is_skip, is_set, is_for, CommandIs, is_command, ClauseIs, is_clause, Several, TextIs, is_text}
use Rattle.notation.specs.Rules.{view, name_counts, elem, count, total, NODES}
use Rattle.notation.specs.Model as M
use Rattle.notation.specs.Model.{Model}
use Rattle.notation.specs.Texts.{expr_of, name_of, place_of, among, row_item_of, row_items_of, item_of, items_of, command_of, clause_of, words_of, model_of}
use Rattle.notation.specs.Expressions.{nodes, nodes_in, in_row_item, in_item, in_command, expressions}
use Rattle.notation.specs.Promises.{NodesCounted}
use Rattle.notation.specs.Regular.{sum_over}
use Rattle.notation.proofs.Members.{sum-append}
use Rattle.notation.proofs.Counts.{count-append, total-few, several_all, joined-all}

-- ---- nodes of lists

nodes-all : {A : Type 0} (f : A → List M.Expr) (xs ys : List A) → nodes_in (flat_map f (xs ++ ys)) ≡ nodes_in (flat_map f xs) + nodes_in (flat_map f ys)
unfolding flat_map sum_over
nodes-all f [] ys = omega arith
nodes-all f (x ∷ xs) ys = omega (arith, sum-append nodes (f x) (flat_map f (xs ++ ys)), sum-append nodes (f x) (flat_map f xs), nodes-all f xs ys)

-- ---- nodes of parts

-- ws and vs are the names.
module _ (ws vs : List Word) where
  expression_nodes : {m : Mode} {l : Level} {d : ℕ} {ps : List Part} {e : T.Expr} → ExpressionIs m l d ps e → (k : ℕ) → count NODES ps ≡ nodes (expr_of ws vs e k).is
  unfolding view elem count expr_of nodes name_of
  expression_nodes is_zero k = refl
  expression_nodes is_one k = refl
  expression_nodes is_star k = refl
  expression_nodes (is_name w) k = go (among w.word ws)
    where
      go : (x : Bool) → ◌≡◌ {A = ℕ} 1 (nodes (cond x (M.shared (place_of w.word ws)) (M.row (place_of w.word vs))))
      go true = refl
      go false = refl
  expression_nodes (is_not x) k = omega (arith, expression_nodes x k)
  expression_nodes (is_parens {ps = ps} x) k = omega (arith, count-append NODES ps (plain CLOSE ∷ []), expression_nodes x k)
  expression_nodes (is_factor x) k = expression_nodes x k
  expression_nodes (is_and {ps = ps} {qs = qs} {a = a} {b = b} x y) k =
      omega (arith, count-append NODES ps (part T.joins (sign AND) ∷ qs), expression_nodes x k, expression_nodes y (expr_of ws vs a k).next)
  expression_nodes (is_term x) k = expression_nodes x k
  expression_nodes (is_or {ps = ps} {qs = qs} {a = a} {b = b} x y) k =
      omega (arith, count-append NODES ps (part T.joins (sign OR) ∷ qs), expression_nodes x k, expression_nodes y (expr_of ws vs a k).next)

  -- What `do` and `else` part, up to the sign k.
  branches : (k : ℕ) (cs ps qs : List Part) → count NODES (cs ++ (plain DO ∷ ps ++ (plain ELSE ∷ qs ++ (plain k ∷ [])))) ≡ count NODES cs + (count NODES ps + count NODES qs)
  unfolding view elem count
  branches k cs ps qs =
      omega (arith, count-append NODES cs (plain DO ∷ ps ++ (plain ELSE ∷ qs ++ (plain k ∷ []))), count-append NODES ps (plain ELSE ∷ qs ++ (plain k ∷ [])), count-append NODES qs (plain k ∷ []))

  abbrev RowsNodes : List Part → List T.RowItem → Type 0
  RowsNodes ps xs = (k : ℕ) → count NODES ps ≡ nodes_in (flat_map in_row_item (row_items_of ws vs xs k).is)

  row-nodes : (ps qs : List Part) (x : T.RowItem) (xs : List T.RowItem) → RowItemIs ps x → RowsNodes qs xs → RowsNodes (ps ++ qs) (x ∷ xs)
  unfolding view elem count row_item_of row_items_of in_row_item flat_map sum_over
  row-nodes _ qs _ xs is_skip h k = omega (arith, h k)
  row-nodes _ qs _ xs (is_set {ps = ps} {e = e} w x) h k = omega (arith, count-append NODES ps qs, expression_nodes x k, h (expr_of ws vs e k).next)

  rows-nodes : {ps : List Part} {xs : List T.RowItem} → Joined RowItemIs ps xs → RowsNodes ps xs
  unfolding view elem count row_items_of flat_map sum_over
  rows-nodes is = joined-all RowsNodes row-nodes (λ k. refl) (λ qs xs h k. omega (arith, h k)) is

  abbrev ItemsNodes : List Part → List T.Item → Type 0
  ItemsNodes ps xs = (k : ℕ) → count NODES ps ≡ nodes_in (flat_map in_item (items_of ws vs xs k).is)

  item-nodes : (ps qs : List Part) (x : T.Item) (xs : List T.Item) → ItemIs ps x → ItemsNodes qs xs → ItemsNodes (ps ++ qs) (x ∷ xs)
  unfolding view elem count item_of items_of in_item flat_map sum_over
  item-nodes _ qs _ xs is_skip h k = omega (arith, h k)
  item-nodes _ qs _ xs (is_set {ps = ps} {e = e} w x) h k = omega (arith, count-append NODES ps qs, expression_nodes x k, h (expr_of ws vs e k).next)
  item-nodes _ qs _ xs (is_for {cs = cs} {ps = ps} {qs = rs} {e = e} {xs = ys} {ys = ns} x is js) h k =
      let a = expr_of ws vs e k in
      let b = row_items_of ws vs ys a.next in
      let c = row_items_of ws vs ns b.next in
      omega (
        arith,
        count-append NODES (cs ++ (plain DO ∷ ps ++ (plain ELSE ∷ rs ++ (plain END ∷ [])))) qs,
        branches END cs ps rs,
        expression_nodes x k,
        rows-nodes is a.next,
        rows-nodes js b.next,
        h c.next,
        sum-append nodes (flat_map in_row_item (b.is ++ c.is)) (flat_map in_item (items_of ws vs xs c.next).is),
        nodes-all in_row_item b.is c.is,
      )

  items-nodes : {ps : List Part} {xs : List T.Item} → Joined ItemIs ps xs → ItemsNodes ps xs
  unfolding view elem count items_of flat_map sum_over
  items-nodes is = joined-all ItemsNodes item-nodes (λ k. refl) (λ qs xs h k. omega (arith, h k)) is

  command-nodes : {cs : List Part} {x : T.Command} → CommandIs cs x → count NODES cs ≡ nodes_in (in_command (command_of ws vs x))
  unfolding view elem count name_counts command_of in_command sum_over
  command-nodes (is_command {cs = cs} {ps = ps} {qs = qs} {e = e} {xs = xs} {ys = ys} w x is js) =
      let a = expr_of ws vs e 0 in
      let b = items_of ws vs xs a.next in
      let c = items_of ws vs ys b.next in
      omega (arith, branches DOT cs ps qs, expression_nodes x 0, items-nodes is a.next, items-nodes js b.next, nodes-all in_item b.is c.is)

  abbrev CommandsNodes : List Part → List T.Command → Type 0
  CommandsNodes cs xs = count NODES cs ≡ nodes_in (flat_map in_command (map (command_of ws vs) xs))

  command-more : (cs ds : List Part) (x : T.Command) (xs : List T.Command) → CommandIs cs x → CommandsNodes ds xs → CommandsNodes (cs ++ ds) (x ∷ xs)
  unfolding flat_map
  command-more cs ds x xs i h =
      omega (
        arith,
        count-append NODES cs ds,
        command-nodes i,
        h,
        sum-append nodes (in_command (command_of ws vs x)) (flat_map in_command (map (command_of ws vs) xs)),
      )

  commands-nodes : {cs : List Part} {xs : List T.Command} → Several CommandIs cs xs → CommandsNodes cs xs
  unfolding count flat_map sum_over
  commands-nodes is = several_all CommandsNodes command-more refl is

  clause-nodes : {k : ℕ} {ps : List Part} {x : T.Clause} → ClauseIs k ps x → count NODES ps ≡ nodes (clause_of ws vs x).whole + nodes (clause_of ws vs x).each
  unfolding view elem count clause_of
  clause-nodes {k} (is_clause {ps = ps} {qs = qs} x y) =
      omega (arith, count-append NODES ps (plain EACH ∷ qs ++ (plain DOT ∷ [])), count-append NODES qs (plain DOT ∷ []), expression_nodes x 0, expression_nodes y 0)

-- A declared name is no node.
declared-nodes : (s : Kind) (ns : List Name) → count NODES (declared s ns) ≡ 0
unfolding count view name_counts elem
declared-nodes s [] = refl
declared-nodes s (n ∷ ns) = rw (none s, declared-nodes s ns)
  where
    none : (s : Kind) → elem NODES (view (declares s)).adds ≡ false
    none shared_name = refl
    none row_name = refl
    none command_name = refl

text-nodes : {ps : List Part} {x : T.Tree} → TextIs ps x → nodes_in (expressions (model_of x)) ≡ count NODES ps
unfolding view elem count model_of expressions sum_over
text-nodes (is_text {ss = ss} {ks = ks} {cs = cs} ws vs i j is) =
    omega (
      arith,
      count-append NODES (declared shared_name ws) (plain DOT ∷ plain ROW ∷ declared row_name vs ++ (plain DOT ∷ ss ++ (ks ++ cs))),
      count-append NODES (declared row_name vs) (plain DOT ∷ ss ++ (ks ++ cs)),
      count-append NODES ss (ks ++ cs),
      count-append NODES ks cs,
      declared-nodes shared_name ws,
      declared-nodes row_name vs,
      clause-nodes (words_of ws) (words_of vs) i,
      clause-nodes (words_of ws) (words_of vs) j,
      commands-nodes (words_of ws) (words_of vs) is,
    )

pub nodes-counted : NodesCounted
unfolding total
nodes-counted text m t =
    let s = t.says.says in
    (subst (λ (n : Model). nodes_in (expressions n) ≡ count NODES s.parts) t.meant (text-nodes s.form), total-few NODES s.kept)
