-- The grammar as a table: what a symbol may begin with, what then has to follow, and the tree that comes of it.
-- It is the executable form of `Notation`, and what a reader may lean on; nothing here has to be believed.
-- Assumes nothing.
use Rattle.std.specs.Prelude.{◌≡◌, Bool, true, false, cond, not, ◌&&◌, ◌||◌, List, [], ◌∷◌, ◌++◌, ℕ, suc, eqb}
use Rattle.std.proofs.Math.Option.{Option, none, some}
use Rattle.notation.specs.Tokens.{Token, sign, name, Name, SHARED, ROW, START, KEEP, EACH, COMMAND, IF, DO, ELSE, FOR, END, SKIP, AND, OR, NOT, ZERO, ONE, STAR, DOT, SEMI, ASSIGN, OPEN, CLOSE}
use Rattle.notation.specs.Notation.{Kind, shared_name, row_name, command_name, Mode, fixed_shared, fixed_row, free_shared, free_row, Role, quiet, declares, uses, constant, chance, joins, negates, opens, target, begins_item, begins_command, Part, part, Expr, false', true', star', name', not', and', or', RowItem, Item, for', Clause, clause', Command, command', Tree, tree'}
use Rattle.notation.specs.Rules.{elem}

-- What may be wanted next: the table's symbols.
pub data Sym : Type 0 where
  lit : ℕ → Sym  -- the sign alone
  whole rows : Sym  -- a text; from `row` to its full stop
  clause : ℕ → Sym  -- `start` or `keep`
  names : Kind → Sym  -- names to declare, or none
  title : Sym  -- a command's name
  one_command commands : Sym  -- a command; more commands, or none
  factor ands ors : Mode → ℕ → Sym  -- a factor; more factors of a conjunction; more conjunctions of a disjunction
  item items : Sym  -- an item; more items, or none
  row_item row_items : Sym

-- What comes of a symbol: of more factors or more items, what goes on with the left operand or the first item.
abbrev pub Val : Sym → Type 0
Val (lit k) = Unit {0}
Val whole = Tree
Val rows = List Name
Val (clause k) = Clause
Val (names s) = List Name
Val title = Name
Val one_command = Command
Val commands = List Command
Val (factor m d) = Expr
Val (ands m d) = Expr → Expr
Val (ors m d) = Expr → Expr
Val item = Item
Val items = List Item
Val row_item = RowItem
Val row_items = List RowItem

-- What makes an X of what comes of the symbols, in order.
abbrev pub Cont : List Sym → Type 0 → Type 0
Cont [] X = X
Cont (n ∷ σ) X = Val n → Cont σ X

abbrev pub feed : (X : Type 0) (σ α : List Sym) → Cont α X → (X → Cont σ Tree) → Cont (α ++ σ) Tree
feed X σ [] x k = k x
feed X σ (n ∷ α) f k = λ v. feed X σ α (f v) k

-- A line of the table: at this sign, or at a name, the token has this role, these symbols have to follow, and this makes of them what comes of the line's own symbol.
pub data Line (n : Sym) : Type 0 where
  on : ℕ → Role → (α : List Sym) → Cont α (Val n) → Line n
  named : Role → (α : List Sym) → (Name → Cont α (Val n)) → Line n

abbrev pub sum : Mode → ℕ → List Sym → List Sym
sum m d σ = factor m d ∷ ands m d ∷ ors m d ∷ σ

abbrev pub command_rest : List Sym → List Sym
command_rest σ = title ∷ lit IF ∷ sum free_shared 0 (lit DO ∷ item ∷ items ∷ lit ELSE ∷ item ∷ items ∷ lit DOT ∷ σ)

unfoldable pub lines : (n : Sym) → List (Line n)
lines (lit k) = on k quiet [] tt ∷ []
lines whole =
    on SHARED quiet (names shared_name ∷ lit DOT ∷ rows ∷ clause START ∷ clause KEEP ∷ one_command ∷ commands ∷ [])
    (λ ws _ vs s k c cs. tree' ws vs s k (c ∷ cs)) ∷ []
lines rows = on ROW quiet (names row_name ∷ lit DOT ∷ []) (λ ws _. ws) ∷ []
lines (clause k) =
    on k quiet (sum fixed_shared 0 (lit EACH ∷ sum fixed_row 0 (lit DOT ∷ [])))
    (λ f a o _ g b p _. clause' (o (a f)) (p (b g))) ∷ []
lines (names s) = named (declares s) (names s ∷ []) (λ w ws. w ∷ ws) ∷ []
lines title = named (declares command_name) [] (λ w. w) ∷ []
lines one_command =
    on COMMAND begins_command (command_rest [])
    (λ w _ f a o _ x xs _ y ys _. command' w (o (a f)) (x ∷ xs) (y ∷ ys)) ∷ []
lines commands =
    on COMMAND begins_command (command_rest (commands ∷ []))
    (λ w _ f a o _ x xs _ y ys _ cs. command' w (o (a f)) (x ∷ xs) (y ∷ ys) ∷ cs) ∷ []
lines (factor m d) =
    on ZERO constant [] false' ∷
    on ONE constant [] true' ∷
    on STAR (chance m) [] star' ∷
    named (uses m) [] (λ w. name' w) ∷
    on NOT (negates (suc d)) (factor m (suc d) ∷ []) (λ e. not' e) ∷
    on OPEN (opens (suc d)) (sum m (suc d) (lit CLOSE ∷ [])) (λ f a o _. o (a f)) ∷
    []
lines (ands m d) = on AND joins (factor m d ∷ ands m d ∷ []) (λ f a e. a (and' e f)) ∷ []
lines (ors m d) = on OR joins (sum m d []) (λ f a o e. o (or' e (a f))) ∷ []
lines item =
    on SKIP begins_item [] Item.skip' ∷
    named (target shared_name) (lit ASSIGN ∷ sum free_shared 0 []) (λ w _ f a o. Item.set' w (o (a f))) ∷
    on FOR begins_item (sum free_row 0 (lit DO ∷ row_item ∷ row_items ∷ lit ELSE ∷ row_item ∷ row_items ∷ lit END ∷ []))
    (λ f a o _ x xs _ y ys _. for' (o (a f)) (x ∷ xs) (y ∷ ys)) ∷
    []
lines items = on SEMI quiet (item ∷ items ∷ []) (λ x xs. x ∷ xs) ∷ []
lines row_item =
    on SKIP begins_item [] RowItem.skip' ∷
    named (target row_name) (lit ASSIGN ∷ sum free_row 0 []) (λ w _ f a o. RowItem.set' w (o (a f))) ∷
    []
lines row_items = on SEMI quiet (row_item ∷ row_items ∷ []) (λ x xs. x ∷ xs) ∷ []

-- What comes of a symbol that nothing stands for, if nothing may.
unfoldable pub skips : (n : Sym) → Option (Val n)
skips (lit k) = none
skips whole = none
skips rows = none
skips (clause k) = none
skips (names s) = some []
skips title = none
skips one_command = none
skips commands = some []
skips (factor m d) = none
skips (ands m d) = some (λ e. e)
skips (ors m d) = some (λ e. e)
skips item = none
skips items = some []
skips row_item = none
skips row_items = some []

-- The kind of a token: 0 for a name.
abbrev pub kind : Token → ℕ
kind (sign k) = suc k
kind (name w) = 0

-- The kinds of token that may go on with a symbol that could have ended before.
unfoldable pub more : Sym → List ℕ
more (lit k) = []
more whole = suc COMMAND ∷ []
more rows = []
more (clause k) = []
more (names s) = 0 ∷ []
more title = []
more one_command = []
more commands = suc COMMAND ∷ []
more (factor m d) = []
more (ands m d) = suc AND ∷ []
more (ors m d) = suc AND ∷ suc OR ∷ []
more item = suc AND ∷ suc OR ∷ []
more items = suc AND ∷ suc OR ∷ suc SEMI ∷ []
more row_item = suc AND ∷ suc OR ∷ []
more row_items = suc AND ∷ suc OR ∷ suc SEMI ∷ []

-- The first line that fits a token.
pub record Found (n : Sym) : Type 0 where
  pub role : Role
  pub next : List Sym
  pub act : Cont next (Val n)

unfoldable pub find : {n : Sym} → List (Line n) → Token → Option (Found n)
find [] t = none
find (on k r α f ∷ ls) (sign j) = cond (eqb k j) (some (record { role = r; next = α; act = f })) (find ls (sign j))
find (on k r α f ∷ ls) (name w) = find ls (name w)
find (named r α f ∷ ls) (sign j) = find ls (sign j)
find (named r α f ∷ ls) (name w) = some (record { role = r; next = α; act = f w })

-- Which tokens, in their roles, the symbols stand for, and what comes of them.
pub data Reads : (σ : List Sym) → Cont σ Tree → List Part → Tree → Type 0 where
  done : {x : Tree} → Reads [] x [] x
  over : {n : Sym} {σ : List Sym} {k : Val n → Cont σ Tree} {ps : List Part} {x : Tree} {v : Val n} → skips n ≡ some v → Reads σ (k v) ps x → Reads (n ∷ σ) k ps x
  takes : {n : Sym} {σ : List Sym} {k : Val n → Cont σ Tree} {ps : List Part} {x : Tree} {t : Token} (f : Found n) → find (lines n) t ≡ some f →
      Reads (f.next ++ σ) (feed (Val n) σ f.next f.act k) ps x → Reads (n ∷ σ) k (part f.role t ∷ ps) x

-- What is wanted next, and what then comes of it.
pub record State : Type 0 where
  pub want : List Sym
  pub cont : Cont want Tree

-- One token: the symbol that takes it is the first that has a line for it; those passed over must be ones that nothing may stand for.
abbrev pub pick : (n : Sym) (σ : List Sym) → (Val n → Cont σ Tree) → Option (Found n) → Option (Role × State) → Option (Role × State)
pick n σ k (some f) o = some (f.role, record { want = f.next ++ σ; cont = feed (Val n) σ f.next f.act k })
pick n σ k none o = o

abbrev pub past : {A B : Type 0} → Option A → (A → Option B) → Option B
past none k = none
past (some a) k = k a

unfoldable pub step : (σ : List Sym) → Cont σ Tree → Token → Option (Role × State)
step [] x t = none
step (n ∷ σ) k t = pick n σ k (find (lines n) t) (past (skips n) (λ v. step σ (k v) t))

-- What comes of the symbols if the text ends here, if it may.
unfoldable pub ending : (σ : List Sym) → Cont σ Tree → Option Tree
ending [] x = some x
ending (n ∷ σ) k = past (skips n) (λ v. ending σ (k v))

abbrev pub is_some : {A : Type 0} → Option A → Bool
is_some none = false
is_some (some a) = true

abbrev pub optional : Sym → Bool
optional n = is_some (skips n)

-- Whether the text may end here.
unfoldable pub ends : List Sym → Bool
ends [] = true
ends (n ∷ σ) = optional n && ends σ

-- Of two lists of kinds: no kind of the first is in the second, and every one is.
abbrev pub apart : List ℕ → List ℕ → Bool
apart [] js = true
apart (k ∷ ks) js = not (elem k js) && apart ks js

abbrev pub within : List ℕ → List ℕ → Bool
within [] js = true
within (k ∷ ks) js = elem k js && within ks js

unfoldable pub kinds : {n : Sym} → List (Line n) → List ℕ
kinds [] = []
kinds (on k r α f ∷ ls) = suc k ∷ kinds ls
kinds (named r α f ∷ ls) = 0 ∷ kinds ls

unfoldable pub firsts : List Sym → List ℕ
firsts [] = []
firsts (n ∷ σ) = kinds (lines n) ++ cond (optional n) (firsts σ) []

-- The table is LL(1): what may follow a symbol in a line is nothing that may go on with the symbol,
-- and what may go on with a line's end may go on with the line's own symbol.
unfoldable pub closed : Sym → List Sym → Bool
closed n [] = true
closed n (m ∷ β) = apart (firsts β) (more m) && ((not (ends β) || within (more m) (more n)) && closed n β)

unfoldable pub closed_lines : (n : Sym) → List (Line n) → Bool
closed_lines n [] = true
closed_lines n (on k r α f ∷ ls) = closed n α && closed_lines n ls
closed_lines n (named r α f ∷ ls) = closed n α && closed_lines n ls

unfoldable pub ll1 : Sym → Bool
ll1 n = (not (optional n) || within (kinds (lines n)) (more n)) && closed_lines n (lines n)
