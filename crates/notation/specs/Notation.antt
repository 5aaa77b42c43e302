-- The notation: which tokens, each in its role, say which tree. One constructor for each form.
-- Kinds of name, stars and limits are judged apart, by the tokens' roles (Rules.antt).
-- Assumes nothing.
use Rattle.std.specs.Prelude.{Bool, true, false, List, [], ◌∷◌, ◌++◌, map, ℕ, suc}
use Rattle.notation.specs.Tokens.{Token, sign, name, Name, SHARED, ROW, START, KEEP, EACH, COMMAND, IF, DO, ELSE, FOR, END, SKIP, AND, OR, NOT, ZERO, ONE, STAR, DOT, SEMI, ASSIGN, OPEN, CLOSE}

-- What a name is declared as.
pub data Kind : Type 0 where
  shared_name row_name command_name : Kind

-- Where an expression stands: whether it may have row names, and whether it may have stars.
pub record Mode : Type 0 where
  pub rows : Bool
  pub stars : Bool

-- In `start` and `keep`: the shared expression, and the row expression after `each`.
abbrev pub fixed_shared : Mode
fixed_shared = record { rows = false; stars = false }

abbrev pub fixed_row : Mode
fixed_row = record { rows = true; stars = false }

-- In a command: a shared expression, and a row expression.
abbrev pub free_shared : Mode
free_shared = record { rows = false; stars = true }

abbrev pub free_row : Mode
free_row = record { rows = true; stars = true }

-- The role of a token in a text. The rules on names, stars and limits go by the roles.
pub data Role : Type 0 where
  quiet : Role  -- it only holds the text together
  declares : Kind → Role  -- the name is declared
  uses : Mode → Role  -- the name is a node of an expression
  constant : Role  -- `0` or `1`: a node
  chance : Mode → Role  -- a star: a node
  joins : Role  -- `and` or `or`: a node
  negates : ℕ → Role  -- `not`: a node; what follows it is at this depth
  opens : ℕ → Role  -- an open parenthesis; what follows it is at this depth
  target : Kind → Role  -- the name is assigned to: it begins an item
  begins_item : Role  -- `skip` or `for`
  begins_command : Role  -- `command`

-- A token in its role.
pub data Part : Type 0 where
  part : Role → Token → Part

-- A sign that only holds the text together.
abbrev pub plain : ℕ → Part
plain k = part quiet (sign k)

-- Trees: what a text says, with its names where they stand.
pub data Expr : Type 0 where
  false' true' star' : Expr
  name' : Name → Expr
  not' : Expr → Expr
  and' or' : Expr → Expr → Expr

pub data RowItem : Type 0 where
  skip' : RowItem
  set' : Name → Expr → RowItem

pub data Item : Type 0 where
  skip' : Item
  set' : Name → Expr → Item
  for' : Expr → List RowItem → List RowItem → Item

pub data Clause : Type 0 where
  clause' : Expr → Expr → Clause

pub data Command : Type 0 where
  command' : Name → Expr → List Item → List Item → Command

pub data Tree : Type 0 where
  tree' : List Name → List Name → Clause → Clause → List Command → Tree

-- Expressions, at three levels: `not` binds tightest, then `and`, then `or`; equal operators group to the left.
pub data Level : Type 0 where
  factor_level and_level or_level : Level

-- The number is the depth at which the expression stands: how many open parentheses and `not` are above it.
pub data ExpressionIs (m : Mode) : Level → ℕ → List Part → Expr → Type 0 where
  is_zero : {d : ℕ} → ExpressionIs m factor_level d (part constant (sign ZERO) ∷ []) false'
  is_one : {d : ℕ} → ExpressionIs m factor_level d (part constant (sign ONE) ∷ []) true'
  is_star : {d : ℕ} → ExpressionIs m factor_level d (part (chance m) (sign STAR) ∷ []) star'
  is_name : {d : ℕ} (w : Name) → ExpressionIs m factor_level d (part (uses m) (name w) ∷ []) (name' w)
  is_not : {d : ℕ} {ps : List Part} {e : Expr} → ExpressionIs m factor_level (suc d) ps e → ExpressionIs m factor_level d (part (negates (suc d)) (sign NOT) ∷ ps) (not' e)
  is_parens : {d : ℕ} {ps : List Part} {e : Expr} → ExpressionIs m or_level (suc d) ps e → ExpressionIs m factor_level d (part (opens (suc d)) (sign OPEN) ∷ ps ++ (plain CLOSE ∷ [])) e
  is_factor : {d : ℕ} {ps : List Part} {e : Expr} → ExpressionIs m factor_level d ps e → ExpressionIs m and_level d ps e
  is_and : {d : ℕ} {ps qs : List Part} {a b : Expr} → ExpressionIs m and_level d ps a → ExpressionIs m factor_level d qs b → ExpressionIs m and_level d (ps ++ part joins (sign AND) ∷ qs) (and' a b)
  is_term : {d : ℕ} {ps : List Part} {e : Expr} → ExpressionIs m and_level d ps e → ExpressionIs m or_level d ps e
  is_or : {d : ℕ} {ps qs : List Part} {a b : Expr} → ExpressionIs m or_level d ps a → ExpressionIs m and_level d qs b → ExpressionIs m or_level d (ps ++ part joins (sign OR) ∷ qs) (or' a b)

-- An expression by itself, with nothing above it.
abbrev pub Whole : Mode → List Part → Expr → Type 0
Whole m ps e = ExpressionIs m or_level 0 ps e

-- One or more, joined by semicolons.
pub data Joined {A : Type 0} (One : List Part → A → Type 0) : List Part → List A → Type 0 where
  last : {ps : List Part} {a : A} → One ps a → Joined One ps (a ∷ [])
  followed : {ps qs : List Part} {a : A} {more : List A} → One ps a → Joined One qs more → Joined One (ps ++ plain SEMI ∷ qs) (a ∷ more)

-- `skip`, or a row name `:=` a row expression.
pub data RowItemIs : List Part → RowItem → Type 0 where
  is_skip : RowItemIs (part begins_item (sign SKIP) ∷ []) skip'
  is_set : {ps : List Part} {e : Expr} (w : Name) → Whole free_row ps e → RowItemIs (part (target row_name) (name w) ∷ plain ASSIGN ∷ ps) (set' w e)

-- `skip`; a shared name `:=` a shared expression; or `for`, a row expression, `do`, row items, `else`, row items, `end`.
pub data ItemIs : List Part → Item → Type 0 where
  is_skip : ItemIs (part begins_item (sign SKIP) ∷ []) skip'
  is_set : {ps : List Part} {e : Expr} (w : Name) → Whole free_shared ps e → ItemIs (part (target shared_name) (name w) ∷ plain ASSIGN ∷ ps) (set' w e)
  is_for : {cs ps qs : List Part} {e : Expr} {xs ys : List RowItem} → Whole free_row cs e → Joined RowItemIs ps xs → Joined RowItemIs qs ys →
      ItemIs (part begins_item (sign FOR) ∷ cs ++ (plain DO ∷ ps ++ (plain ELSE ∷ qs ++ (plain END ∷ [])))) (for' e xs ys)

-- `command`, a name, `if`, a shared expression, `do`, items, `else`, items, full stop.
pub data CommandIs : List Part → Command → Type 0 where
  is_command : {cs ps qs : List Part} {e : Expr} {xs ys : List Item} (w : Name) → Whole free_shared cs e → Joined ItemIs ps xs → Joined ItemIs qs ys →
      CommandIs (part begins_command (sign COMMAND) ∷ part (declares command_name) (name w) ∷ plain IF ∷ cs ++ (plain DO ∷ ps ++ (plain ELSE ∷ qs ++ (plain DOT ∷ [])))) (command' w e xs ys)

-- The word k, which is `start` or `keep`, a shared expression, `each`, a row expression, full stop.
pub data ClauseIs (k : ℕ) : List Part → Clause → Type 0 where
  is_clause : {ps qs : List Part} {a b : Expr} → Whole fixed_shared ps a → Whole fixed_row qs b → ClauseIs k (plain k ∷ ps ++ (plain EACH ∷ qs ++ (plain DOT ∷ []))) (clause' a b)

-- One or more, one after the other.
pub data Several {A : Type 0} (One : List Part → A → Type 0) : List Part → List A → Type 0 where
  final : {ps : List Part} {a : A} → One ps a → Several One ps (a ∷ [])
  and_then : {ps qs : List Part} {a : A} {more : List A} → One ps a → Several One qs more → Several One (ps ++ qs) (a ∷ more)

-- Names declared as one kind, none or more.
abbrev pub declared : Kind → List Name → List Part
declared s ws = map (λ w. part (declares s) (name w)) ws

-- A whole text: `shared`, names, full stop; `row`, names, full stop; `start`; `keep`; one or more commands, and nothing after the last.
pub data TextIs : List Part → Tree → Type 0 where
  is_text : {ss ks cs : List Part} {s k : Clause} {xs : List Command} (ws vs : List Name) → ClauseIs START ss s → ClauseIs KEEP ks k → Several CommandIs cs xs →
      TextIs (plain SHARED ∷ declared shared_name ws ++ (plain DOT ∷ plain ROW ∷ declared row_name vs ++ (plain DOT ∷ ss ++ (ks ++ cs)))) (tree' ws vs s k xs)
