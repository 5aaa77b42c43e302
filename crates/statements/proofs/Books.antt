-- What the rules say of a token by the cursor's counts, and the book after the token.
-- Assumes nothing.
use mathlib.Core.Path.{◌≡◌, refl}
use mathlib.Core.Bool.{Bool, true, false, cond, ◌||◌}
use mathlib.Core.List.{List}
use mathlib.Core.Option.{Option, none, some}
use Prim.Native.Nat.{ℕ, suc, ◌+◌, ◌≤◌, ◌<◌}
use native.Mathlib.Numerals.{add-one}
use native.Mathlib.Omega.{arith}
use lib.Dec.{ltb}
use borrow.Author.Tests.{lt-ltb, le-ltb}
use Rattle.notation.specs.Tokens.{Token, Name, name}
use Rattle.notation.specs.Notation.{Kind, Mode, part, quiet, uses, constant, chance, joins, negates, opens, target, begins_item}
use Rattle.notation.specs.Rules.{view, has, elem, allowed, same_kind}
use Rattle.notation.specs.working.Ledger.{Book, note, fault, tally, exceeds}
use Rattle.lexer.specs.declared.pieces.Piece.{Piece}
use Rattle.statements.specs.declared.cursor.Cursor.{Cursor}
use Rattle.statements.specs.declared.cursor.Ledger.{Ledger}
use Rattle.statements.specs.working.Names.{names_kept}
use Rattle.statements.specs.working.Cursors.{book_of, moved}

module _ (text names : List ℕ) (l : Ledger) (c : Cursor) where
  abbrev B : Book
  B = book_of text names l c

  -- ---- what the rules say

  pub quiet-fits : (t : Token) → fault B (part quiet t) ≡ none
  unfolding fault view exceeds
  quiet-fits t = refl

  pub joins_full : (t : Token) → 1024 ≤ c.nodes → fault B (part joins t) ≡ some 7
  unfolding fault view tally elem exceeds
  joins_full t h = rw (lt-ltb 1024 (suc c.nodes) (omega arith))

  pub joins-fits : (t : Token) → c.nodes < 1024 → fault B (part joins t) ≡ none
  unfolding fault view tally elem exceeds
  joins-fits t h = rw (le-ltb 1024 (suc c.nodes) (omega arith))

  pub constant_full : (t : Token) → 1024 ≤ c.nodes → fault B (part constant t) ≡ some 7
  unfolding fault view tally elem exceeds
  constant_full t h = rw (lt-ltb 1024 (suc c.nodes) (omega arith))

  pub constant-fits : (t : Token) → c.nodes < 1024 → fault B (part constant t) ≡ none
  unfolding fault view tally elem exceeds
  constant-fits t h = rw (le-ltb 1024 (suc c.nodes) (omega arith))

  pub negates_deep : (t : Token) (d : ℕ) → 16 < d → fault B (part (negates d) t) ≡ some 7
  unfolding fault view tally elem exceeds
  negates_deep t d h = rw (lt-ltb 16 d h)

  pub negates_full : (t : Token) (d : ℕ) → d ≤ 16 → 1024 ≤ c.nodes → fault B (part (negates d) t) ≡ some 7
  unfolding fault view tally elem exceeds
  negates_full t d k h = rw (le-ltb 16 d k, lt-ltb 1024 (suc c.nodes) (omega arith))

  pub negates-fits : (t : Token) (d : ℕ) → d ≤ 16 → c.nodes < 1024 → fault B (part (negates d) t) ≡ none
  unfolding fault view tally elem exceeds
  negates-fits t d k h = rw (le-ltb 16 d k, le-ltb 1024 (suc c.nodes) (omega arith))

  pub opens_deep : (t : Token) (d : ℕ) → 16 < d → fault B (part (opens d) t) ≡ some 7
  unfolding fault view tally elem exceeds
  opens_deep t d h = rw (lt-ltb 16 d h)

  pub opens-fits : (t : Token) (d : ℕ) → d ≤ 16 → fault B (part (opens d) t) ≡ none
  unfolding fault view tally elem exceeds
  opens-fits t d k = rw (le-ltb 16 d k)

  pub chance-barred : (t : Token) (m : Mode) → m.stars ≡ false → fault B (part (chance m) t) ≡ some 6
  unfolding fault view tally elem exceeds
  chance-barred t m h = rw h

  pub chance-many : (t : Token) (m : Mode) → m.stars ≡ true → 8 ≤ c.stars → fault B (part (chance m) t) ≡ some 7
  unfolding fault view tally elem exceeds
  chance-many t m h s = rw (h, lt-ltb 8 (suc c.stars) (omega arith)) (go (ltb 1024 (suc c.nodes)))
    where
      go : (x : Bool) → cond {A = Option ℕ} (x || true) (some 7) none ≡ some 7
      go true = refl
      go false = refl

  pub chance_full : (t : Token) (m : Mode) → m.stars ≡ true → 1024 ≤ c.nodes → fault B (part (chance m) t) ≡ some 7
  unfolding fault view tally elem exceeds
  chance_full t m h k = rw (h, lt-ltb 1024 (suc c.nodes) (omega arith))

  pub chance-fits : (t : Token) (m : Mode) → m.stars ≡ true → c.stars < 8 → c.nodes < 1024 → fault B (part (chance m) t) ≡ none
  unfolding fault view tally elem exceeds
  chance-fits t m h s k = rw (h, le-ltb 1024 (suc c.nodes) (omega arith), le-ltb 8 (suc c.stars) (omega arith))

  pub uses-unknown : (w : Name) (m : Mode) → has (names_kept text names l) (allowed m) w.word ≡ false → fault B (part (uses m) (name w)) ≡ some 5
  unfolding fault view tally elem exceeds
  uses-unknown w m h = rw h

  pub uses_full : (w : Name) (m : Mode) → has (names_kept text names l) (allowed m) w.word ≡ true → 1024 ≤ c.nodes → fault B (part (uses m) (name w)) ≡ some 7
  unfolding fault view tally elem exceeds
  uses_full w m h k = rw (h, lt-ltb 1024 (suc c.nodes) (omega arith))

  pub uses-fits : (w : Name) (m : Mode) → has (names_kept text names l) (allowed m) w.word ≡ true → c.nodes < 1024 → fault B (part (uses m) (name w)) ≡ none
  unfolding fault view tally elem exceeds
  uses-fits w m h k = rw (h, le-ltb 1024 (suc c.nodes) (omega arith))

  pub target-unknown : (w : Name) (k : Kind) → has (names_kept text names l) (same_kind k) w.word ≡ false → fault B (part (target k) (name w)) ≡ some 5
  unfolding fault view tally elem exceeds
  target-unknown w k h = rw h

  pub target_full : (w : Name) (k : Kind) → has (names_kept text names l) (same_kind k) w.word ≡ true → 256 ≤ c.items → fault B (part (target k) (name w)) ≡ some 7
  unfolding fault view tally elem exceeds
  target_full w k h i = rw (h, lt-ltb 256 (suc c.items) (omega arith))

  pub target_fits : (w : Name) (k : Kind) → has (names_kept text names l) (same_kind k) w.word ≡ true → c.items < 256 → fault B (part (target k) (name w)) ≡ none
  unfolding fault view tally elem exceeds
  target_fits w k h i = rw (h, le-ltb 256 (suc c.items) (omega arith))

  pub item_full : (t : Token) → 256 ≤ c.items → fault B (part begins_item t) ≡ some 7
  unfolding fault view tally elem exceeds
  item_full t h = rw (lt-ltb 256 (suc c.items) (omega arith))

  pub item-fits : (t : Token) → c.items < 256 → fault B (part begins_item t) ≡ none
  unfolding fault view tally elem exceeds
  item-fits t h = rw (le-ltb 256 (suc c.items) (omega arith))

  -- ---- the book after a token

  module _ (u : Piece) where
    pub note-quiet : (t : Token) → note B (part quiet t) ≡ book_of text names l (moved u c c.items c.nodes c.stars)
    unfolding note view tally elem
    note-quiet t = refl

    pub note-opens : (d : ℕ) (t : Token) → note B (part (opens d) t) ≡ book_of text names l (moved u c c.items c.nodes c.stars)
    unfolding note view tally elem
    note-opens d t = refl

    pub note-joins : (t : Token) → note B (part joins t) ≡ book_of text names l (moved u c c.items (c.nodes + 1) c.stars)
    unfolding note view tally elem
    note-joins t = rw add-one refl

    pub note-constant : (t : Token) → note B (part constant t) ≡ book_of text names l (moved u c c.items (c.nodes + 1) c.stars)
    unfolding note view tally elem
    note-constant t = rw add-one refl

    pub note-negates : (d : ℕ) (t : Token) → note B (part (negates d) t) ≡ book_of text names l (moved u c c.items (c.nodes + 1) c.stars)
    unfolding note view tally elem
    note-negates d t = rw add-one refl

    pub note-uses : (m : Mode) (t : Token) → note B (part (uses m) t) ≡ book_of text names l (moved u c c.items (c.nodes + 1) c.stars)
    unfolding note view tally elem
    note-uses m t = rw add-one refl

    pub note-chance : (m : Mode) (t : Token) → note B (part (chance m) t) ≡ book_of text names l (moved u c c.items (c.nodes + 1) (c.stars + 1))
    unfolding note view tally elem
    note-chance m t = rw (add-one c.nodes, add-one c.stars) refl

    pub note-target : (k : Kind) (t : Token) → note B (part (target k) t) ≡ book_of text names l (moved u c (c.items + 1) c.nodes c.stars)
    unfolding note view tally elem
    note-target k t = rw add-one refl

    pub note-item : (t : Token) → note B (part begins_item t) ≡ book_of text names l (moved u c (c.items + 1) c.nodes c.stars)
    unfolding note view tally elem
    note-item t = rw add-one refl
