-- Recursive descent answers what the reading answers.
-- Assumes nothing.
use mathlib.Core.Path.{◌≡◌, refl, ◌∙◌}
use mathlib.Core.List.{List, [], ◌∷◌, ◌++◌}
use mathlib.Core.Option.{Option, none, some}
use Prim.Native.Nat.{ℕ, zero, suc, ◌≤◌, ◌<◌}
use native.Mathlib.Omega.{arith}
use native.Mathlib.Nat.{not-suc-le-zero}
use lib.ListN.{length}
use Rattle.notation.specs.Tokens.{Lexeme, at}
use Rattle.notation.specs.Notation.{part, Tree}
use Rattle.notation.specs.working.Ledger.{Book, blank_book, note, fault}
use Rattle.notation.specs.working.Table.{Sym, whole, Val, Cont, feed, Found, find, lines, skips, State, pick, past, step, ending}
use Rattle.notation.specs.working.Machine.{Outcome, read, refused, at_last, ruled, stepped, reads, reading}
use Rattle.notation.specs.working.Descent.{Got, got, stop, Reader, then_reads, sequence, pass, ruling, taken, descend}

-- The whole reading after one symbol's.
abbrev pub follow : {A : Type 0} → Got A → (A → List Lexeme → Book → Outcome) → Outcome
follow (got a ts b) f = f a ts b
follow (stop n i) f = refused n i

-- What is left is no longer than what there was.
abbrev pub Shorter : {A : Type 0} → ℕ → Got A → Type 0
Shorter l (got a ts b) = length ts ≤ l
Shorter l (stop n i) = Unit {0}

longer : {A : Type 0} {k l : ℕ} → k ≤ l → (g : Got A) → Shorter k g → Shorter l g
longer h (got a ts b) i = omega arith
longer h (stop n j) i = tt

abbrev pub at_state : (σ : List Sym) → Cont σ Tree → State
at_state σ k = record { want = σ; cont = k }

-- A symbol's reader serves, for fewer than l tokens: the whole reading is the symbol's, followed by the rest's.
pub record Serves (len l : ℕ) (d : Reader) : Type 0 where
  pub short : (m : Sym) (ts : List Lexeme) (b : Book) → length ts < l → Shorter (length ts) (d m ts b)
  pub same : (m : Sym) (σ : List Sym) (k : Val m → Cont σ Tree) (ts : List Lexeme) (b : Book) → length ts < l →
      reads len ts (at_state (m ∷ σ) k) b ≡ follow (d m ts b) (λ v ts b. reads len ts (at_state σ (k v)) b)

module _ (len l : ℕ) (d : Reader) (s : Serves len l d) where
  sequence-short : (X : Type 0) (α : List Sym) (f : Cont α X) (ts : List Lexeme) (b : Book) → length ts < l → Shorter (length ts) (sequence d α f ts b)
  unfolding sequence
  sequence-short X [] x ts b h = omega arith
  sequence-short X (m ∷ α) f ts b h = go (d m ts b) (s.short m ts b h) (λ v us b h. sequence-short X α (f v) us b h)
    where
      go : (g : Got (Val m)) → Shorter (length ts) g
          → ((v : Val m) (us : List Lexeme) (b : Book) → length us < l → Shorter (length us) (sequence d α (f v) us b))
          → Shorter (length ts) (then_reads g (λ v ts b. sequence d α (f v) ts b))
      go (got v us b) i rec = longer i (sequence d α (f v) us b) (rec v us b (omega arith))
      go (stop n j) i rec = tt

  sequence-same : (X : Type 0) (α σ : List Sym) (f : Cont α X) (k : X → Cont σ Tree) (ts : List Lexeme) (b : Book) → length ts < l →
      reads len ts (at_state (α ++ σ) (feed X σ α f k)) b ≡ follow (sequence d α f ts b) (λ v ts b. reads len ts (at_state σ (k v)) b)
  unfolding sequence
  sequence-same X [] σ x k ts b h = refl
  sequence-same X (m ∷ α) σ f k ts b h =
      s.same m (α ++ σ) (λ v. feed X σ α (f v) k) ts b h ∙ go (d m ts b) (s.short m ts b h) (λ v us b h. sequence-same X α σ (f v) k us b h)
    where
      go : (g : Got (Val m)) → Shorter (length ts) g →
          ((v : Val m) (us : List Lexeme) (b : Book) → length us < l → reads len us (at_state (α ++ σ) (feed X σ α (f v) k)) b
          ≡ follow (sequence d α (f v) us b) (λ v ts b. reads len ts (at_state σ (k v)) b)) →
          follow g (λ v ts b. reads len ts (at_state (α ++ σ) (feed X σ α (f v) k)) b) ≡ follow (then_reads g (λ v ts b. sequence d α (f v) ts b)) (λ v ts b. reads len ts (at_state σ (k v)) b)
      go (got v us b) i rec = rec v us b (omega arith)
      go (stop n j) i rec = refl

pass-short : {A : Type 0} (o : Option A) (ts : List Lexeme) (b : Book) (n i : ℕ) → Shorter (length ts) (pass o ts b n i)
pass-short none ts b n i = tt
pass-short (some v) ts b n i = omega arith

descend-short : (len l : ℕ) → Serves len l (descend len l) → (m : Sym) (ts : List Lexeme) (b : Book) → length ts < suc l → Shorter (length ts) (descend len (suc l) m ts b)
unfolding descend
descend-short len l s m [] b h = pass-short (skips m) [] b 3 len
descend-short len l s m (at i none ∷ ts) b h = pass-short (skips m) (at i none ∷ ts) b 2 i
descend-short len l s m (at i (some t) ∷ ts) b h = go (find (lines m) t)
  where
    rule : (f : Found m) (o : Option ℕ) → Shorter (suc (length ts)) (ruling i o (sequence (descend len l) f.next f.act ts (note b (part f.role t))))
    rule f none = longer {k = length ts} {l = suc (length ts)} (omega arith) (sequence (descend len l) f.next f.act ts (note b (part f.role t)))
        (sequence-short len l (descend len l) s (Val m) f.next f.act ts (note b (part f.role t)) (omega arith))
    rule f (some n) = tt

    go : (o : Option (Found m)) → Shorter (suc (length ts)) (taken (descend len l) i o t ts b (pass (skips m) (at i (some t) ∷ ts) b 3 i))
    go none = pass-short (skips m) (at i (some t) ∷ ts) b 3 i
    go (some f) = rule f (fault b (part f.role t))

descend-same : (len l : ℕ) → Serves len l (descend len l) → (m : Sym) (σ : List Sym) (k : Val m → Cont σ Tree) (ts : List Lexeme) (b : Book) → length ts < suc l →
    reads len ts (at_state (m ∷ σ) k) b ≡ follow (descend len (suc l) m ts b) (λ v ts b. reads len ts (at_state σ (k v)) b)
unfolding descend reads ending step
descend-same len l s m σ k [] b h = go (skips m)
  where
    go : (o : Option (Val m)) → at_last len (past o (λ v. ending σ (k v))) ≡ follow (pass o [] b 3 len) (λ v ts b. reads len ts (at_state σ (k v)) b)
    go none = refl
    go (some v) = refl
descend-same len l s m σ k (at i none ∷ ts) b h = go (skips m)
  where
    go : (o : Option (Val m)) → refused 2 i ≡ follow (pass o (at i none ∷ ts) b 2 i) (λ v ts b. reads len ts (at_state σ (k v)) b)
    go none = refl
    go (some v) = refl
descend-same len l s m σ k (at i (some t) ∷ ts) b h = go (find (lines m) t) (skips m)
  where
    rule : (f : Found m) (o : Option ℕ) → ruled i o (reads len ts (at_state (f.next ++ σ) (feed (Val m) σ f.next f.act k)) (note b (part f.role t))) ≡
        follow (ruling i o (sequence (descend len l) f.next f.act ts (note b (part f.role t)))) (λ v ts b. reads len ts (at_state σ (k v)) b)
    rule f none = sequence-same len l (descend len l) s (Val m) f.next σ f.act k ts (note b (part f.role t)) (omega arith)
    rule f (some n) = refl

    go : (o : Option (Found m)) (c : Option (Val m)) → stepped i b t (pick m σ k o (past c (λ v. step σ (k v) t))) (λ r s. reads len ts s (note b (part r t))) ≡
        follow (taken (descend len l) i o t ts b (pass c (at i (some t) ∷ ts) b 3 i)) (λ v ts b. reads len ts (at_state σ (k v)) b)
    go none none = refl
    go none (some v) = refl
    go (some f) c = rule f (fault b (part f.role t))

pub serves : (len l : ℕ) → Serves len l (descend len l)
serves len zero = record { short = λ m ts b h. absurd (not-suc-le-zero h); same = λ m σ k ts b h. absurd (not-suc-le-zero h) }
serves len (suc l) = record { short = descend-short len l (serves len l); same = descend-same len l (serves len l) }

-- The whole text, by recursive descent.
abbrev pub at_close : ℕ → Tree → List Lexeme → Outcome
at_close len x [] = read x
at_close len x (at i none ∷ ts) = refused 2 i
at_close len x (at i (some t) ∷ ts) = refused 3 i

close : (len : ℕ) (x : Tree) (ts : List Lexeme) (b : Book) → reads len ts (at_state [] x) b ≡ at_close len x ts
unfolding reads ending step
close len x [] b = refl
close len x (at i none ∷ ts) b = refl
close len x (at i (some t) ∷ ts) b = refl

pub descent : (len : ℕ) (ts : List Lexeme) → reading len ts ≡ follow (descend len (suc (length ts)) whole ts blank_book) (λ x ts b. at_close len x ts)
descent len ts = (serves len (suc (length ts))).same whole [] (λ x. x) ts blank_book (omega arith) ∙ simp (close len)
