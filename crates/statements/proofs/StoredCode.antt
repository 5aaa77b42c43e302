-- What was read and stored, or written before a refusal: taken apart by the answer, and joined with what is read after it.
-- Assumes nothing.
use Rattle.std.specs.Prelude.{Result, Ok, Err}
use Rattle.std.specs.Result.{IsErrAnd}
use mathlib.Core.Path.{◌≡◌, refl, sym, ap, ◌∙◌, subst}
use mathlib.Core.List.{List, [], ◌∷◌, ◌++◌}
use Prim.Native.Nat.{ℕ, suc, ◌+◌}
use native.Mathlib.Nat.{add-zero}
use native.Mathlib.Omega.{arith}
use lib.ListN.{length, set}
use lib.Seq.{sets}
use Rattle.notation.specs.Tokens.{Lexeme}
use Rattle.notation.specs.Texts.{Numbered}
use Rattle.notation.specs.working.Ledger.{Book}
use Rattle.notation.specs.working.Descent.{Got, got, then_reads}
use Rattle.statements.specs.declared.cursor.Cursor.{Cursor}
use Rattle.statements.specs.declared.cursor.Ledger.{Ledger}
use Rattle.refusals.specs.declared.Refusal.{Refusal}
use Rattle.lexer.specs.working.Pieces.{listed}
use Rattle.statements.specs.working.Cursors.{Parsed, stopped, book_of, Ready, Done, Wrote, Says, was_read, was_refused}

-- ---- stores

pub sets-append : (vs ws l : List ℕ) (i : ℕ) → sets l i (vs ++ ws) ≡ sets (sets l i vs) (i + length vs) ws
sets-append [] ws l i = rw add-zero
sets-append (a ∷ vs) ws l i = sets-append vs ws (set l i a) (suc i) ∙ ap (λ (k : ℕ). sets (sets (set l i a) (suc i) vs) k ws) (omega arith)

-- A list stored behind another one.
pub stores : (p b m : List ℕ) (e c : ℕ) (vs ws : List ℕ) → b ≡ sets p e vs → c ≡ e + length vs → m ≡ sets b c ws → m ≡ sets p e (vs ++ ws)
stores p b m e c vs ws h k j = j ∙ ap (λ (x : List ℕ). sets x c ws) h ∙ ap (λ (i : ℕ). sets (sets p e vs) i ws) k ∙ sym (sets-append vs ws p e)

-- ---- what a refusal leaves of an array

pub wrote_none : {i : ℕ} {p : List ℕ} → Wrote i p p
wrote_none = record { words = []; is = refl }

-- The same array, and the same place.
pub wrote_same : {i : ℕ} {p a b : List ℕ} → a ≡ b → Wrote i p b → Wrote i p a
wrote_same e w = record { words = w.words; is = e ∙ w.is }

pub wrote_from : {i j : ℕ} {p a : List ℕ} → i ≡ j → Wrote i p a → Wrote j p a
wrote_from {p = p} e w = record { words = w.words; is = w.is ∙ ap (λ (k : ℕ). sets p k w.words) e }

-- Written behind a list that was stored.
pub wrote_behind : (p b m : List ℕ) (e c : ℕ) (vs : List ℕ) → b ≡ sets p e vs → c ≡ e + length vs → Wrote c b m → Wrote e p m
wrote_behind p b m e c vs h k w = record { words = vs ++ w.words; is = stores p b m e c vs w.words h k w.is }

-- ---- answers

-- What `?` passes on is the refusal that came.
pub passed : {T : Type 0} (r : Result T Refusal) {q : Refusal} → IsErrAnd r (λ x. x ≡ q) → r ≡ Err q
passed (Ok c) e = absurd e
passed (Err x) e = ap Err e

module _ {A : Type 0} {text names : List ℕ} {l : Ledger} {code : ℕ → A → Numbered (List ℕ)} {extra : ℕ} {s : Cursor} {p : List ℕ} {g : Got A} {b : List ℕ} where
  -- An answer taken apart, and seen as another one.
  pub said_ok : {c : Cursor} → Says text names l code extra s p g b (Ok c) → Done text names l code extra s p g b c
  said_ok (was_read d) = d

  pub said_bad : {r : Refusal} → Says text names l code extra s p g b (Err r) → (g ≡ stopped r) × Wrote s.emitted p b
  said_bad (was_refused h w) = (h, w)

  pub said_as : {r r' : Parsed} → r ≡ r' → Says text names l code extra s p g b r → Says text names l code extra s p g b r'
  said_as e h = subst (λ (x : Parsed). Says text names l code extra s p g b x) e h

  -- Refused as the descent refuses.
  pub was_stopped : {r q : Refusal} → r ≡ q → g ≡ stopped q → Wrote s.emitted p b → Says text names l code extra s p g b (Err r)
  was_stopped e h w = was_refused (h ∙ ap stopped (sym e)) w

  pub says_of : {o : Got A} {r : Parsed} → o ≡ g → Says text names l code extra s p g b r → Says text names l code extra s p o b r
  says_of {r = r} e h = subst (λ (x : Got A). Says text names l code extra s p x b r) (sym e) h

  module _ {c : Cursor} (d : Done text names l code extra s p g b c) where
    pub done_wrote : Wrote s.emitted p b
    done_wrote = record { words = (code s.stars d.tree).is; is = d.stored }

    -- The same code, for another value.
    unfoldable pub done-map : {B : Type 0} {code' : ℕ → B → Numbered (List ℕ)} {G : Got B} (v : B) → code' s.stars v ≡ code s.stars d.tree →
        G ≡ got v (listed text c.next) (book_of text names l c) → Done text names l code' extra s p G b c
    done-map v same e = record {
      tree = v;
      says = e;
      stored = d.stored ∙ ap (λ (z : Numbered (List ℕ)). sets p s.emitted z.is) (sym same);
      long = d.long ∙ ap (λ (z : Numbered (List ℕ)). s.emitted + length z.is) (sym same);
      numbered = d.numbered ∙ ap (λ (z : Numbered (List ℕ)). z.next) (sym same);
      level = d.level;
      more_nodes = d.more_nodes;
      more_items = d.more_items;
      nodes = d.nodes;
      items = d.items;
      stars = d.stars;
      fresh = d.fresh;
    }

    -- Written behind what was read.
    pub done_then : {m : List ℕ} → Wrote c.emitted b m → Wrote s.emitted p m
    done_then {m} w = wrote_behind p b m s.emitted c.emitted (code s.stars d.tree).is d.stored d.long w

    -- What follows may be read where this was.
    pub done-ready : (spare : ℕ) → Ready text l (extra + spare) s → Ready text l spare c
    done-ready spare r = record {
      fits = r.fits;
      fresh = d.fresh;
      names = r.names;
      commands = r.commands;
      items = d.items;
      nodes = d.nodes;
      stars = d.stars;
      room = omega (arith, r.room, d.level);
    }

-- ---- one after the other

-- A reader that stops where another one does is refused as that one is.
pub says-alike : {A B : Type 0} {text names : List ℕ} {l : Ledger} {code : ℕ → A → Numbered (List ℕ)} {extra : ℕ} {code' : ℕ → B → Numbered (List ℕ)} {extra' : ℕ}
    {s : Cursor} {p : List ℕ} {g : Got A} {G : Got B} {b : List ℕ} {q : Refusal} →
    Says text names l code extra s p g b (Err q) → (g ≡ stopped q → G ≡ stopped q) → Says text names l code' extra' s p G b (Err q)
says-alike h f =
    let k = said_bad h in
    was_refused (f k.0) k.1

pub then_bad : {A B : Type 0} (f : A → List Lexeme → Book → Got B) {o : Got A} {g : Got B} (q : Refusal) → g ≡ then_reads o f → o ≡ stopped q → g ≡ stopped q
then_bad f q e h = e ∙ ap (λ (x : Got _). then_reads x f) h
