-- The rules on names, stars and limits: each is a test of one token, in its role, against the parts that stand before it.
-- Assumes nothing.
use Rattle.std.specs.Prelude.{◌≡◌, Bool, true, false, cond, not, ◌&&◌, ◌||◌, List, [], ◌∷◌, ◌++◌, ℕ, ◌+◌, eqb, ltb, get_or}
use Rattle.std.proofs.Math.Option.{Option, none, some}
use Rattle.notation.specs.Bytes.{same_word}
use Rattle.notation.specs.Tokens.{Token, sign, name, Word}
use Rattle.notation.specs.Notation.{Kind, shared_name, row_name, command_name, Mode, Role, quiet, declares, uses, constant, chance, joins, negates, opens, target, begins_item, begins_command, Part, part}

-- The two kinds are one.
unfoldable pub same_kind : Kind → Kind → Bool
same_kind shared_name shared_name = true
same_kind shared_name row_name = false
same_kind shared_name command_name = false
same_kind row_name shared_name = false
same_kind row_name row_name = true
same_kind row_name command_name = false
same_kind command_name shared_name = false
same_kind command_name row_name = false
same_kind command_name command_name = true

-- The kinds of name that an expression may have: shared names, and row names where its mode says so.
unfoldable pub allowed : Mode → Kind → Bool
allowed m shared_name = true
allowed m row_name = m.rows
allowed m command_name = false

-- What is counted, by its place in the list of limits.
abbrev pub SHARED-NAMES : ℕ
SHARED-NAMES = 0

abbrev pub ROW-NAMES : ℕ
ROW-NAMES = 1

abbrev pub NAMES : ℕ
NAMES = 2

abbrev pub COMMANDS : ℕ
COMMANDS = 3

abbrev pub ITEMS : ℕ
ITEMS = 4

abbrev pub NODES : ℕ
NODES = 5

abbrev pub STARS : ℕ
STARS = 6

-- The limits: shared names, row names, both together, commands, items, expression nodes, and stars in a command.
abbrev pub limits : List ℕ
limits = 8 ∷ 10 ∷ 12 ∷ 16 ∷ 256 ∷ 1024 ∷ 8 ∷ []

-- The limit on what is counted at place k.
abbrev pub limit_of : ℕ → ℕ
limit_of k = get_or limits k 0

-- How deep parentheses and `not` may nest.
abbrev pub depth_limit : ℕ
depth_limit = 16

-- What a declared name counts as.
unfoldable pub name_counts : Kind → List ℕ
name_counts shared_name = SHARED-NAMES ∷ NAMES ∷ []
name_counts row_name = ROW-NAMES ∷ NAMES ∷ []
name_counts command_name = []

-- What the rules see of a role: the kind that it declares; the kinds of which its name must be; whether it is a star that may not stand here;
-- what it counts as; whether a new command begins; the depth that it opens.
pub record View : Type 0 where
  pub declared : Option Kind
  pub kinds : Option (Kind → Bool)
  pub barred : Bool
  pub adds : List ℕ
  pub anew : Bool
  pub depth : ℕ

abbrev counted : List ℕ → View
counted ks = record { declared = none; kinds = none; barred = false; adds = ks; anew = false; depth = 0 }

unfoldable pub view : Role → View
view quiet = counted []
view (declares s) = record { declared = some s; kinds = none; barred = false; adds = name_counts s; anew = false; depth = 0 }
view (uses m) = record { declared = none; kinds = some (allowed m); barred = false; adds = NODES ∷ []; anew = false; depth = 0 }
view constant = counted (NODES ∷ [])
view (chance m) = record { declared = none; kinds = none; barred = not m.stars; adds = NODES ∷ STARS ∷ []; anew = false; depth = 0 }
view joins = counted (NODES ∷ [])
view (negates d) = record { declared = none; kinds = none; barred = false; adds = NODES ∷ []; anew = false; depth = d }
view (opens d) = record { declared = none; kinds = none; barred = false; adds = []; anew = false; depth = d }
view (target s) = record { declared = none; kinds = some (same_kind s); barred = false; adds = ITEMS ∷ []; anew = false; depth = 0 }
view begins_item = counted (ITEMS ∷ [])
view begins_command = record { declared = none; kinds = none; barred = false; adds = COMMANDS ∷ []; anew = true; depth = 0 }

-- The word of a token that is a name.
abbrev pub word_of : Token → Word
word_of (sign k) = []
word_of (name n) = n.word

-- The names that the parts declare, each with its kind, in order.
abbrev pub named : Option Kind → Word → List (Word × Kind) → List (Word × Kind)
named none w ns = ns
named (some s) w ns = (w, s) ∷ ns

unfoldable pub names : List Part → List (Word × Kind)
names [] = []
names (part r t ∷ ps) = named (view r).declared (word_of t) (names ps)

-- Whether the word is among the names, with a kind for which the test holds.
unfoldable pub has : List (Word × Kind) → (Kind → Bool) → Word → Bool
has [] f w = false
has (n ∷ ns) f w = (f n.1 && same_word w n.0) || has ns f w

-- The number is in the list.
unfoldable pub elem : ℕ → List ℕ → Bool
elem k [] = false
elem k (j ∷ js) = eqb j k || elem k js

-- How many of the parts count as k.
unfoldable pub count : ℕ → List Part → ℕ
count k [] = 0
count k (part r t ∷ ps) = cond (elem k (view r).adds) 1 0 + count k ps

-- The parts from the last `command` on, those before them being us.
unfoldable pub this_command : List Part → List Part → List Part
this_command us [] = us
this_command us (part r t ∷ ps) = this_command (cond (view r).anew [] us ++ part r t ∷ []) ps

-- How many there are of k, of stars those in the command that is being read.
unfoldable pub total : ℕ → List Part → ℕ
total k ps = count k (cond (eqb k STARS) (this_command [] ps) ps)

-- One of the counts ks is over its limit.
unfoldable pub over : List ℕ → List Part → Bool
over [] ps = false
over (k ∷ ks) ps = ltb (limit_of k) (total k ps) || over ks ps

-- A name to be declared is declared already.
abbrev pub again : List Part → Option Kind → Word → Bool
again us none w = false
again us (some s) w = has (names us) (λ s. true) w

-- A name that is used is undeclared, or of a kind that may not stand here.
abbrev pub unknown : List Part → Option (Kind → Bool) → Word → Bool
unknown us none w = false
unknown us (some f) w = not (has (names us) f w)

-- The lowest number of a rule that the token breaks, after the parts us: 4, declared before; 5, undeclared or of a kind not allowed here;
-- 6, a star in `start` or `keep`; 7, the depth, or one of the counts that the token adds to, goes over its limit.
unfoldable pub breach : List Part → Part → Option ℕ
breach us (part r t) =
    cond (again us (view r).declared (word_of t)) (some 4)
    (cond (unknown us (view r).kinds (word_of t)) (some 5)
    (cond (view r).barred (some 6)
    (cond (ltb depth_limit (view r).depth || over (view r).adds (us ++ part r t ∷ [])) (some 7)
    none)))

-- No token breaks a rule.
abbrev pub Kept : List Part → Type 0
Kept ps = (us : List Part) (p : Part) (vs : List Part) → ps ≡ us ++ p ∷ vs → breach us p ≡ none
