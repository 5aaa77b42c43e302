-- How the cursor moves past a piece, and that a reader may be called after it.
-- Assumes nothing.
use mathlib.Core.Path.{◌≡◌, refl, sym, subst}
use mathlib.Core.List.{List}
use Prim.Native.Nat.{ℕ, ◌+◌, ◌*◌, ◌≤◌, ◌<◌}
use native.Mathlib.Omega.{arith}
use Rattle.statements.specs.declared.cursor.Cursor.{Cursor}
use Rattle.statements.specs.declared.cursor.Ledger.{Ledger}
use Rattle.lexer.specs.working.Pieces.{piece_at}
use Rattle.statements.specs.working.Cursors.{moved, Ready}
use Rattle.lexer.proofs.Lexing.{Tokened, tokened}

-- The cursor is past the piece of c, with these counts.
pub record Past (text : List ℕ) (c : Cursor) (items nodes stars : ℕ) (d : Cursor) : Type 0 where
  pub next : Tokened text c.next.end d.next
  pub is : d ≡ moved d.next c items nodes stars
  pub place : d.emitted ≡ c.emitted
  pub items_are : d.items ≡ items
  pub nodes_are : d.nodes ≡ nodes
  pub stars_are : d.stars ≡ stars

-- A cursor that was moved is past its piece.
pub is-past : {text : List ℕ} {c d : Cursor} {items nodes stars : ℕ} → d ≡ moved (piece_at text c.next.end) c items nodes stars → Past text c items nodes stars d
is-past {text} {c} {d} {items} {nodes} {stars} e =
    subst (λ (z : Cursor). Past text c items nodes stars z) (sym e)
    (record { next = tokened text c.next.end; is = refl; place = refl; items_are = refl; nodes_are = refl; stars_are = refl })

-- Less spare room will do.
pub ready-less : {text : List ℕ} {l : Ledger} {spare spare' : ℕ} {c : Cursor} → Ready text l spare c → spare' ≤ spare → Ready text l spare' c
ready-less r h = record {
  fits = r.fits;
  fresh = r.fresh;
  names = r.names;
  commands = r.commands;
  items = r.items;
  nodes = r.nodes;
  stars = r.stars;
  room = omega (arith, r.room);
}

-- A reader may be called past a piece.
pub past-ready : {text : List ℕ} {l : Ledger} {spare spare' : ℕ} {c d : Cursor} {items nodes stars : ℕ} → Ready text l spare c → Past text c items nodes stars d →
    items ≤ 256 → nodes ≤ 1024 → stars ≤ 8 → c.emitted + spare' ≤ nodes + 3 * items + 3 * l.commands → Ready text l spare' d
past-ready r q i n s h = record {
  fits = r.fits;
  fresh = q.next.fresh;
  names = r.names;
  commands = r.commands;
  items = omega arith;
  nodes = omega arith;
  stars = omega arith;
  room = omega arith;
}

-- Past a piece that is not counted; and past a node, which pays for one code word.
pub past_same : {text : List ℕ} {l : Ledger} {spare : ℕ} {c d : Cursor} → Ready text l spare c → Past text c c.items c.nodes c.stars d → Ready text l spare d
past_same r q = past-ready r q r.items r.nodes r.stars r.room

pub past-node : {text : List ℕ} {l : Ledger} {c d : Cursor} → Ready text l 0 c → c.nodes < 1024 → Past text c c.items (c.nodes + 1) c.stars d → Ready text l 1 d
past-node r x q = past-ready r q r.items (omega arith) r.stars (omega (arith, r.room))
