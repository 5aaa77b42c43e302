-- What a cursor stands for in a reading, and what a reader of one symbol answers: the descent's own answer, with the code stored.
-- Assumes nothing.
use Rattle.std.specs.Prelude.{◌≡◌, List, [], ◌∷◌, ℕ, ◌+◌, ◌*◌, ◌≤◌, length, Result, Ok, Err}
use Rattle.std.proofs.lemmas.List.Edits.{sets}
use Rattle.notation.specs.Notation.{Mode}
use Rattle.notation.specs.Rules.{NAMES, COMMANDS, ITEMS, NODES, STARS, limit_of}
use Rattle.notation.specs.Texts.{Numbered, longest_text}
use Rattle.notation.specs.working.Ledger.{Book}
use Rattle.notation.specs.working.Descent.{Got, got, stop}
use Rattle.refusals.specs.declared.Reason.{Reason}
use Rattle.refusals.specs.declared.Refusal.{Refusal}
use Rattle.refusals.specs.Reasons.{number_of}
use Rattle.lexer.specs.working.Kinds.{kind_number}
use Rattle.lexer.specs.declared.pieces.Piece.{Piece}
use Rattle.statements.specs.declared.cursor.Cursor.{Cursor}
use Rattle.statements.specs.declared.cursor.Ledger.{Ledger}
use Rattle.statements.specs.declared.cursor.Scope.{Scope}
use Rattle.lexer.specs.working.Pieces.{misplaced, listed, Fresh, piece_at}
use Rattle.statements.specs.working.Names.{names_kept}

-- What a reader answers, and the answer that a result and the cursor behind it make.
abbrev pub Parsed : Type 0
Parsed = Result Cursor Refusal

abbrev pub reached : Result (Unit {0}) Refusal → Cursor → Parsed
reached (Ok u) c = Ok c
reached (Err r) c = Err r

-- The refusal for a reason, told of a piece.
abbrev pub refused_at : Reason → Piece → Refusal
refused_at q t = record { reason = q; place = t.start }

-- The descent's answer where it refuses so.
abbrev pub stopped : {A : Type 0} → Refusal → Got A
stopped r = stop (number_of r.reason) r.place

abbrev pub mode_of : Scope → Mode
mode_of sc = record { rows = sc.rows; stars = sc.stars }

-- The book that names, ledger and cursor stand for.
abbrev pub book_of : List ℕ → List ℕ → Ledger → Cursor → Book
book_of text names l c =
    record { names = names_kept text names l; counts = l.shared ∷ l.row ∷ (l.shared + l.row) ∷ l.commands ∷ c.items ∷ c.nodes ∷ c.stars ∷ [] }

-- The cursor with another next piece and other counts.
abbrev pub moved : Piece → Cursor → ℕ → ℕ → ℕ → Cursor
moved u c items nodes stars = record { next = u; emitted = c.emitted; items = items; nodes = nodes; stars = stars }

-- The cursor past its piece.
abbrev pub passed : List ℕ → Cursor → Cursor
passed text c = moved (piece_at text c.next.end) c c.items c.nodes c.stars

-- The cursor with one code word more.
abbrev pub emitted : Cursor → Cursor
emitted c = record { next = c.next; emitted = c.emitted + 1; items = c.items; nodes = c.nodes; stars = c.stars }

-- The answer where a sign of this kind has to stand.
unfoldable pub Expected : List ℕ → Cursor → ℕ → Parsed → Type 0
Expected text c k (Ok d) = (kind_number c.next.kind ≡ k) × (d ≡ passed text c)
Expected text c k (Err r) = (kind_number c.next.kind ≡ k → ⊥) × (r ≡ misplaced c.next)

-- What holds wherever a reader is called: the counts are within their limits, and there is room for the code to come and for `spare` words besides.
pub record Ready (text : List ℕ) (l : Ledger) (spare : ℕ) (c : Cursor) : Type 0 where
  pub fits : length text ≤ longest_text
  pub fresh : Fresh text c.next
  pub names : l.shared + l.row ≤ limit_of NAMES
  pub commands : l.commands ≤ limit_of COMMANDS
  pub items : c.items ≤ limit_of ITEMS
  pub nodes : c.nodes ≤ limit_of NODES
  pub stars : c.stars ≤ limit_of STARS
  pub room : c.emitted + spare ≤ c.nodes + 3 * c.items + 3 * l.commands

-- Something was read from the cursor c₀ on, and its code is stored. `code k a` is the code of a, with its stars numbered from k on, and the next number.
-- A node pays for one code word and an item for three; `extra` is how many words go beyond that.
pub record Done {A : Type 0} (text names : List ℕ) (l : Ledger) (code : ℕ → A → Numbered (List ℕ)) (extra : ℕ) (c₀ : Cursor) (before : List ℕ) (g : Got A) (after : List ℕ) (c : Cursor) : Type 0 where
  pub tree : A
  pub says : g ≡ got tree (listed text c.next) (book_of text names l c)
  pub stored : after ≡ sets before c₀.emitted (code c₀.stars tree).is
  pub long : c.emitted ≡ c₀.emitted + length (code c₀.stars tree).is
  pub numbered : c.stars ≡ (code c₀.stars tree).next
  pub level : c.emitted + (c₀.nodes + 3 * c₀.items) ≤ c₀.emitted + (c.nodes + 3 * c.items) + extra
  pub more_nodes : c₀.nodes ≤ c.nodes
  pub more_items : c₀.items ≤ c.items
  pub nodes : c.nodes ≤ limit_of NODES
  pub items : c.items ≤ limit_of ITEMS
  pub stars : c.stars ≤ limit_of STARS
  pub fresh : Fresh text c.next

-- What a refusal leaves of an array: only from place i on was anything written, what stood below is unchanged.
pub record Wrote (i : ℕ) (before after : List ℕ) : Type 0 where
  pub words : List ℕ
  pub is : after ≡ sets before i words

-- The answer is what the descent answers, g. What was stored before the reader began stands after a refusal too.
pub data Says {A : Type 0} (text names : List ℕ) (l : Ledger) (code : ℕ → A → Numbered (List ℕ)) (extra : ℕ) (c₀ : Cursor) (before : List ℕ) (g : Got A) (after : List ℕ) : Parsed → Type 0 where
  was_read : {c : Cursor} → Done text names l code extra c₀ before g after c → Says text names l code extra c₀ before g after (Ok c)
  was_refused : {r : Refusal} → g ≡ stopped r → Wrote c₀.emitted before after → Says text names l code extra c₀ before g after (Err r)
