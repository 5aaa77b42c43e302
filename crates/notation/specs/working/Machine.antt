-- The reading of a list of tokens, one after the other, by the table and the rules.
-- Assumes nothing.
use Rattle.std.specs.Prelude.{List, [], ◌∷◌, ℕ}
use Rattle.std.proofs.Math.Option.{Option, none, some}
use Rattle.notation.specs.Tokens.{Token, Lexeme, at}
use Rattle.notation.specs.Notation.{Role, part, Tree}
use Rattle.notation.specs.working.Table.{whole, State, step, ending}
use Rattle.notation.specs.working.Ledger.{Book, blank_book, note, fault}

pub data Outcome : Type 0 where
  read : Tree → Outcome
  refused : ℕ → ℕ → Outcome

abbrev pub at_last : ℕ → Option Tree → Outcome
at_last len none = refused 3 len
at_last len (some x) = read x

abbrev pub ruled : ℕ → Option ℕ → Outcome → Outcome
ruled i none o = o
ruled i (some n) o = refused n i

abbrev pub stepped : ℕ → Book → Token → Option (Role × State) → (Role → State → Outcome) → Outcome
stepped i b t none f = refused 3 i
stepped i b t (some y) f = ruled i (fault b (part y.0 t)) (f y.0 y.1)

-- `len` is the text's length, and `b` keeps what has been read.
unfoldable pub reads : ℕ → List Lexeme → State → Book → Outcome
reads len [] s b = at_last len (ending s.want s.cont)
reads len (at i none ∷ ts) s b = refused 2 i
reads len (at i (some t) ∷ ts) s b = stepped i b t (step s.want s.cont t) (λ r s. reads len ts s (note b (part r t)))

abbrev pub start : State
start = record { want = whole ∷ []; cont = λ x. x }

abbrev pub reading : ℕ → List Lexeme → Outcome
reading len ts = reads len ts start blank_book
