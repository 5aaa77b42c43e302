-- Texts: which texts say which model, and the first refusal of a text that says none.
-- Assumes nothing.
use Rattle.std.specs.Prelude.{◌≡◌, Bool, true, false, cond, ◌||◌, List, [], ◌∷◌, ◌++◌, map, ℕ, suc, ◌≤◌, ◌<◌, length}
use Rattle.std.proofs.Math.Option.{none, some}
use Rattle.notation.specs.Bytes.{same_word}
use Rattle.notation.specs.Tokens.{Token, Word, Name, Lexeme, at, Cut}
use Rattle.notation.specs.Notation as T
use Rattle.notation.specs.Notation.{Role, Part, part, Tree, tree', TextIs}
use Rattle.notation.specs.Rules.{breach, Kept}
use Rattle.notation.specs.Model as M
use Rattle.notation.specs.Model.{Model}

-- The place of a word among words.
unfoldable pub place_of : Word → List Word → ℕ
place_of w [] = 0
place_of w (v ∷ vs) = cond (same_word w v) 0 (suc (place_of w vs))

unfoldable pub among : Word → List Word → Bool
among w [] = false
among w (v ∷ vs) = same_word w v || among w vs

-- A part of a model, its stars numbered from some number on in text order, and the next number.
pub record Numbered (A : Type 0) : Type 0 where
  pub is : A
  pub next : ℕ

abbrev pub numbered : {A : Type 0} → A → ℕ → Numbered A
numbered a k = record { is = a; next = k }

-- What a tree says, where its shared names are ws and its row names vs.
module _ (ws vs : List Word) where
  unfoldable pub name_of : Word → M.Expr
  name_of w = cond (among w ws) (M.shared (place_of w ws)) (M.row (place_of w vs))

  unfoldable pub expr_of : T.Expr → ℕ → Numbered M.Expr
  expr_of T.false' k = numbered (M.lit false) k
  expr_of T.true' k = numbered (M.lit true) k
  expr_of T.star' k = numbered (M.star k) (suc k)
  expr_of (T.name' n) k = numbered (name_of n.word) k
  expr_of (T.not' e) k = let a = expr_of e k in numbered (M.neg a.is) a.next
  expr_of (T.and' e f) k = let a = expr_of e k in let b = expr_of f a.next in numbered (M.conj a.is b.is) b.next
  expr_of (T.or' e f) k = let a = expr_of e k in let b = expr_of f a.next in numbered (M.disj a.is b.is) b.next

  unfoldable pub row_item_of : T.RowItem → ℕ → Numbered M.RowItem
  row_item_of T.RowItem.skip' k = numbered M.skip_row k
  row_item_of (T.RowItem.set' n e) k = let a = expr_of e k in numbered (M.put_row (place_of n.word vs) a.is) a.next

  unfoldable pub row_items_of : List T.RowItem → ℕ → Numbered (List M.RowItem)
  row_items_of [] k = numbered [] k
  row_items_of (x ∷ xs) k = let a = row_item_of x k in let b = row_items_of xs a.next in numbered (a.is ∷ b.is) b.next

  unfoldable pub item_of : T.Item → ℕ → Numbered M.Item
  item_of T.Item.skip' k = numbered M.skip k
  item_of (T.Item.set' n e) k = let a = expr_of e k in numbered (M.put (place_of n.word ws) a.is) a.next
  item_of (T.for' e xs ys) k =
      let a = expr_of e k in
      let b = row_items_of xs a.next in
      let c = row_items_of ys b.next in
      numbered (M.for a.is b.is c.is) c.next

  unfoldable pub items_of : List T.Item → ℕ → Numbered (List M.Item)
  items_of [] k = numbered [] k
  items_of (x ∷ xs) k = let a = item_of x k in let b = items_of xs a.next in numbered (a.is ∷ b.is) b.next

  unfoldable pub command_of : T.Command → M.Command
  command_of (T.command' n e xs ys) =
      let a = expr_of e 0 in
      let b = items_of xs a.next in
      let c = items_of ys b.next in
      record { test = a.is; do_items = b.is; else_items = c.is }

  unfoldable pub clause_of : T.Clause → M.Clause
  clause_of (T.clause' a b) = record { whole = (expr_of a 0).is; each = (expr_of b 0).is }

abbrev pub words_of : List Name → List Word
words_of ns = map (λ n. n.word) ns

unfoldable pub model_of : Tree → Model
model_of (tree' ws vs s k cs) =
    record {
      shared_names = length ws;
      row_names = length vs;
      start = clause_of (words_of ws) (words_of vs) s;
      keep = clause_of (words_of ws) (words_of vs) k;
      commands = map (command_of (words_of ws) (words_of vs)) cs;
    }

-- The names that a tree declares, in text order: shared names, row names, commands.
abbrev pub title_of : T.Command → Name
title_of (T.command' n e xs ys) = n

unfoldable pub names_of : Tree → List Name
names_of (tree' ws vs s k cs) = ws ++ (vs ++ map title_of cs)

-- The lexemes are the tokens of the parts.
pub data Spells : List Lexeme → List Part → Type 0 where
  spells_none : Spells [] []
  spells : {us : List Lexeme} {ps : List Part} (i : ℕ) (r : Role) (t : Token) → Spells us ps → Spells (at i (some t) ∷ us) (part r t ∷ ps)

-- Parts that a text can begin with.
pub record Begins (ps : List Part) : Type 0 where
  pub rest : List Part
  pub tree : Tree
  pub form : TextIs (ps ++ rest) tree

-- Lexemes that a text can begin with.
pub record Viable (us : List Lexeme) : Type 0 where
  pub parts : List Part
  pub spelt : Spells us parts
  pub begins : Begins parts

-- Lexemes without a fault: a text can begin with them, and no rule is broken.
pub record Faultless (us : List Lexeme) : Type 0 where
  pub parts : List Part
  pub spelt : Spells us parts
  pub begins : Begins parts
  pub kept : Kept parts

-- Which lexemes say which tree.
pub record Says (us : List Lexeme) (x : Tree) : Type 0 where
  pub parts : List Part
  pub spelt : Spells us parts
  pub form : TextIs parts x
  pub kept : Kept parts

-- The first refusal in lexemes of a text of the given length: its number and place.
pub data Refused (len : ℕ) : List Lexeme → ℕ → ℕ → Type 0 where
  -- a byte that is not allowed, or a word that is too long
  at_byte : (us : List Lexeme) (i : ℕ) (ts : List Lexeme) → Faultless us → Refused len (us ++ at i none ∷ ts) 2 i
  -- a text can begin with what stands before, and with this token it cannot
  at_token : (us : List Lexeme) (i : ℕ) (t : Token) (ts : List Lexeme) → Faultless us → (Viable (us ++ at i (some t) ∷ []) → ⊥) → Refused len (us ++ at i (some t) ∷ ts) 3 i
  -- the text may not end here
  at_end : (us : List Lexeme) (f : Faultless us) → ((x : Tree) → TextIs f.parts x → ⊥) → Refused len us 3 len
  -- the token may stand here, and breaks a rule
  at_rule : (us : List Lexeme) (i : ℕ) (r : Role) (t : Token) (ts : List Lexeme) (n : ℕ) (f : Faultless us) → Begins (f.parts ++ part r t ∷ []) → breach f.parts (part r t) ≡ some n →
      Refused len (us ++ at i (some t) ∷ ts) n i

-- The longest text.
abbrev pub longest_text : ℕ
longest_text = 16384

-- Which bytes say which tree.
pub record TextSaysTree (text : List ℕ) (x : Tree) : Type 0 where
  pub fits : length text ≤ longest_text
  pub lexemes : List Lexeme
  pub cut : Cut 0 text lexemes
  pub says : Says lexemes x

-- WHICH TEXTS SAY WHICH MODEL.
pub record TextSays (text : List ℕ) (m : Model) : Type 0 where
  pub tree : Tree
  pub says : TextSaysTree text tree
  pub meant : model_of tree ≡ m

-- THE FIRST REFUSAL OF A TEXT: its number and place.
pub data TextRefused (text : List ℕ) : ℕ → ℕ → Type 0 where
  too_long : longest_text < length text → TextRefused text 1 longest_text
  inside : {n i : ℕ} (us : List Lexeme) → length text ≤ longest_text → Cut 0 text us → Refused (length text) us n i → TextRefused text n i
