-- The laws of a symbol's reader: what the functions of a recursive-descent reader are shown by.
-- Assumes nothing.
use mathlib.Core.Path.{◌≡◌, refl, ap}
use mathlib.Core.List.{List, [], ◌∷◌}
use mathlib.Core.Option.{Option, none, some}
use Prim.Native.Nat.{ℕ, zero, suc, ◌<◌}
use native.Mathlib.Omega.{arith}
use native.Mathlib.Nat.{not-suc-le-zero}
use lib.ListN.{length}
use Rattle.notation.specs.Tokens.{Token, sign, AND, OR, Lexeme, at}
use Rattle.notation.specs.Notation.{part, Mode, joins, Expr, and', or'}
use Rattle.notation.specs.working.Ledger.{Book, note, fault}
use Rattle.notation.specs.working.Table.{Sym, factor, ands, ors, Val, Cont, Found, find, lines, skips}
use Rattle.notation.specs.working.Descent.{Got, got, stop, Reader, then_reads, sequence, pass, ruling, taken, descend, reader, or_reader, and_reader, or_loop, and_loop}
use Rattle.notation.proofs.Descents.{Shorter, serves}

-- Readers that agree on fewer than l tokens agree on sequences.
sequence-agree : (X : Type 0) (l : ℕ) (d e : Reader) → ((m : Sym) (ts : List Lexeme) (b : Book) → length ts < l → Shorter (length ts) (d m ts b)) →
    ((m : Sym) (ts : List Lexeme) (b : Book) → length ts < l → d m ts b ≡ e m ts b) → (α : List Sym) (f : Cont α X) (ts : List Lexeme) (b : Book) → length ts < l →
    sequence d α f ts b ≡ sequence e α f ts b
unfolding sequence
sequence-agree X l d e short agree [] x ts b h = refl
sequence-agree X l d e short agree (m ∷ α) f ts b h =
    rw (← (agree m ts b h)) (go (d m ts b) (short m ts b h) (λ v us b h. sequence-agree X l d e short agree α (f v) us b h))
  where
    go : (g : Got (Val m)) → Shorter (length ts) g → ((v : Val m) (us : List Lexeme) (b : Book) → length us < l → sequence d α (f v) us b ≡ sequence e α (f v) us b) →
        then_reads g (λ v ts b. sequence d α (f v) ts b) ≡ then_reads g (λ v ts b. sequence e α (f v) ts b)
    go (got v us b) i rec = rec v us b (omega arith)
    go (stop n j) i rec = refl

-- The bound doesn't matter.
any_bound : (len k l : ℕ) (m : Sym) (ts : List Lexeme) (b : Book) → length ts < k → length ts < l → descend len k m ts b ≡ descend len l m ts b
unfolding descend
any_bound len zero l m ts b h i = absurd (not-suc-le-zero h)
any_bound len (suc k) zero m ts b h i = absurd (not-suc-le-zero i)
any_bound len (suc k) (suc l) m [] b h i = refl
any_bound len (suc k) (suc l) m (at j none ∷ ts) b h i = refl
any_bound len (suc k) (suc l) m (at j (some t) ∷ ts) b h i = go (find (lines m) t) (λ m us b u. any_bound len k l m us b (omega arith) (omega arith))
  where
    go : (o : Option (Found m)) → ((m : Sym) (us : List Lexeme) (b : Book) → length us < suc (length ts) → descend len k m us b ≡ descend len l m us b) →
        taken (descend len k) j o t ts b (pass (skips m) (at j (some t) ∷ ts) b 3 j) ≡ taken (descend len l) j o t ts b (pass (skips m) (at j (some t) ∷ ts) b 3 j)
    go none rec = refl
    go (some f) rec = ap (ruling j (fault b (part f.role t)))
        (sequence-agree (Val m) (suc (length ts)) (descend len k) (descend len l) (λ m us b u. (serves len k).short m us b (omega arith)) rec f.next
        f.act ts (note b (part f.role t)) (omega arith))

-- At a token: the law of every symbol.
pub reader_token : (len : ℕ) (n : Sym) (i : ℕ) (t : Token) (ts : List Lexeme) (b : Book) →
    reader len n (at i (some t) ∷ ts) b ≡ taken (reader len) i (find (lines n) t) t ts b (pass (skips n) (at i (some t) ∷ ts) b 3 i)
unfolding reader descend
reader_token len n i t ts b = go (find (lines n) t)
  where
    go : (o : Option (Found n)) → taken (descend len (suc (length ts))) i o t ts b (pass (skips n) (at i (some t) ∷ ts) b 3 i)
        ≡ taken (reader len) i o t ts b (pass (skips n) (at i (some t) ∷ ts) b 3 i)
    go none = refl
    go (some f) = ap (ruling i (fault b (part f.role t))) (sequence-agree (Val n) (suc (length ts)) (descend len (suc (length ts))) (reader len)
        (λ m us b u. (serves len (suc (length ts))).short m us b u) (λ m us b u. any_bound len (suc (length ts)) (suc (length us)) m us b u (omega arith))
        f.next f.act ts (note b (part f.role t)) (omega arith))

-- At the end of the text, and at a faulty byte.
pub reader-end : (len : ℕ) (n : Sym) (b : Book) → reader len n [] b ≡ pass (skips n) [] b 3 len
unfolding reader descend
reader-end len n b = refl

pub reader_byte : (len : ℕ) (n : Sym) (i : ℕ) (ts : List Lexeme) (b : Book) → reader len n (at i none ∷ ts) b ≡ pass (skips n) (at i none ∷ ts) b 2 i
unfolding reader descend
reader_byte len n i ts b = refl

-- Joining what was got.
pub then_then : {A B C : Type 0} (g : Got A) (h : A → List Lexeme → Book → Got B) (k : B → List Lexeme → Book → Got C) → then_reads (then_reads g h) k ≡ then_reads g (λ a ts b. then_reads (h a ts b) k)
then_then (got a ts b) h k = refl
then_then (stop n i) h k = refl

pub then_ruling : {A B : Type 0} (i : ℕ) (o : Option ℕ) (g : Got A) (k : A → List Lexeme → Book → Got B) → then_reads (ruling i o g) k ≡ ruling i o (then_reads g k)
then_ruling i none g k = refl
then_ruling i (some n) g k = refl

-- A term is a factor and then the loop over `and`; an expression is a term and then the loop over `or`.
pub and-level-is : (len : ℕ) (m : Mode) (d : ℕ) (ts : List Lexeme) (b : Book) → and_reader len m d ts b ≡ then_reads (reader len (factor m d) ts b) (λ f ts b. and_loop len m d f ts b)
unfolding sequence
and-level-is len m d ts b = refl

pub or-level-is : (len : ℕ) (m : Mode) (d : ℕ) (ts : List Lexeme) (b : Book) → or_reader len m d ts b ≡ then_reads (and_reader len m d ts b) (λ e ts b. or_loop len m d e ts b)
unfolding sequence
or-level-is len m d ts b = simp then_then

-- A turn of the loop over `and`.
pub and_loop_turn : (len : ℕ) (m : Mode) (d : ℕ) (e : Expr) (i : ℕ) (ts : List Lexeme) (b : Book) →
    and_loop len m d e (at i (some (sign AND)) ∷ ts) b
    ≡ ruling i (fault b (part joins (sign AND)))
    (then_reads (reader len (factor m d) ts (note b (part joins (sign AND)))) (λ f ts b. and_loop len m d (and' e f) ts b))
unfolding sequence find lines skips
and_loop_turn len m d e i ts b = rw (reader_token len (ands m d)) (simp (then_ruling, then_then))

-- A turn of the loop over `or`.
pub or_loop_turn : (len : ℕ) (m : Mode) (d : ℕ) (e : Expr) (i : ℕ) (ts : List Lexeme) (b : Book) →
    or_loop len m d e (at i (some (sign OR)) ∷ ts) b
    ≡ ruling i (fault b (part joins (sign OR))) (then_reads (and_reader len m d ts (note b (part joins (sign OR)))) (λ f ts b. or_loop len m d (or' e f) ts b))
unfolding sequence find lines skips
or_loop_turn len m d e i ts b = rw (reader_token len (ors m d)) (simp (then_ruling, then_then))
