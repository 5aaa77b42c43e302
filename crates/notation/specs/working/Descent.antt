-- Recursive descent: what a reader of one symbol answers. A function of the reader cites `descend` at its own symbol.
-- Assumes nothing.
use Rattle.std.specs.Prelude.{List, [], ◌∷◌, ℕ, zero, suc, length}
use Rattle.std.proofs.Math.Option.{Option, none, some}
use Rattle.notation.specs.Tokens.{Token, Lexeme, at}
use Rattle.notation.specs.Notation.{part, Mode, Expr}
use Rattle.notation.specs.working.Table.{Sym, factor, ands, ors, Val, Cont, Found, find, lines, skips}
use Rattle.notation.specs.working.Ledger.{Book, note, fault}

-- What came of a symbol, the tokens left and the book; or the refusal.
pub data Got (A : Type 0) : Type 0 where
  got : A → List Lexeme → Book → Got A
  stop : ℕ → ℕ → Got A

-- What reads one symbol.
abbrev pub Reader : Type 0
Reader = (m : Sym) → List Lexeme → Book → Got (Val m)

abbrev pub then_reads : {A B : Type 0} → Got A → (A → List Lexeme → Book → Got B) → Got B
then_reads (got a ts b) f = f a ts b
then_reads (stop n i) f = stop n i

-- One symbol after the other.
unfoldable pub sequence : {X : Type 0} → Reader → (α : List Sym) → Cont α X → List Lexeme → Book → Got X
sequence d [] x ts b = got x ts b
sequence d (m ∷ α) f ts b = then_reads (d m ts b) (λ v ts b. sequence d α (f v) ts b)

-- A symbol that doesn't take the next token: nothing stands for it, or the text is refused.
abbrev pub pass : {A : Type 0} → Option A → List Lexeme → Book → ℕ → ℕ → Got A
pass none ts b n i = stop n i
pass (some v) ts b n i = got v ts b

abbrev pub ruling : {A : Type 0} → ℕ → Option ℕ → Got A → Got A
ruling i none g = g
ruling i (some n) g = stop n i

abbrev pub taken : {n : Sym} → Reader → ℕ → Option (Found n) → Token → List Lexeme → Book → Got (Val n) → Got (Val n)
taken d i none t ts b g = g
taken d i (some f) t ts b g = ruling i (fault b (part f.role t)) (sequence d f.next f.act ts (note b (part f.role t)))

-- `len` is the text's length, and `l` bounds the tokens that are left.
unfoldable pub descend : ℕ → ℕ → Reader
descend len zero n ts b = stop 0 0
descend len (suc l) n [] b = pass (skips n) [] b 3 len
descend len (suc l) n (at i none ∷ ts) b = pass (skips n) (at i none ∷ ts) b 2 i
descend len (suc l) n (at i (some t) ∷ ts) b = taken (descend len l) i (find (lines n) t) t ts b (pass (skips n) (at i (some t) ∷ ts) b 3 i)

-- A symbol's reader. Its laws are in `proofs/Readers.antt`: a function of the reader is shown to answer this, at its own symbol.
unfoldable pub reader : ℕ → Reader
reader len n ts b = descend len (suc (length ts)) n ts b

-- Two levels of an expression: terms joined by `or`, and the factors of one term, joined by `and`.
abbrev pub or_reader : ℕ → Mode → ℕ → List Lexeme → Book → Got Expr
or_reader len m d ts b = sequence (reader len) (factor m d ∷ ands m d ∷ ors m d ∷ []) (λ f a o. o (a f)) ts b

abbrev pub and_reader : ℕ → Mode → ℕ → List Lexeme → Book → Got Expr
and_reader len m d ts b = sequence (reader len) (factor m d ∷ ands m d ∷ []) (λ f a. a f) ts b

-- The rest of each, once the expression e is read: what a loop has still to do.
abbrev pub and_loop : ℕ → Mode → ℕ → Expr → List Lexeme → Book → Got Expr
and_loop len m d e ts b = then_reads (reader len (ands m d) ts b) (λ a ts b. got (a e) ts b)

abbrev pub or_loop : ℕ → Mode → ℕ → Expr → List Lexeme → Book → Got Expr
or_loop len m d e ts b = then_reads (reader len (ors m d) ts b) (λ o ts b. got (o e) ts b)
