-- Readers one after the other: a pair of values, a sign after a value, and a test with its two branches.
-- Assumes nothing.
use Rattle.std.specs.Prelude.{List, ◌++◌, ℕ}
use Rattle.notation.specs.Tokens.{Lexeme, DO, ELSE}
use Rattle.notation.specs.Notation.{Expr}
use Rattle.notation.specs.Texts.{Numbered, numbered}
use Rattle.notation.specs.Layout.{WHEN, OTHERWISE, DONE}
use Rattle.notation.specs.working.Ledger.{Book}
use Rattle.notation.specs.working.Table.{lit}
use Rattle.notation.specs.working.Descent.{Got, got, then_reads, reader}
use Rattle.statements.specs.declared.cursor.Ledger.{Ledger}
use Rattle.statements.specs.working.Expressions.{expr_words}
use Rattle.statements.specs.working.Items.{with_word}

-- Two values that were read one after the other.
pub record Pair (A B : Type 0) : Type 0 where
  pub one : A
  pub two : B

abbrev pub pair_of : {A B : Type 0} → A → B → Pair A B
pair_of a b = record { one = a; two = b }

-- Their codes, one behind the other.
abbrev pub paired : {A B : Type 0} → (ℕ → A → Numbered (List ℕ)) → (ℕ → B → Numbered (List ℕ)) → ℕ → Pair A B → Numbered (List ℕ)
paired code more k v =
    numbered ((code k v.one).is ++ (more (code k v.one).next v.two).is) (more (code k v.one).next v.two).next

-- The reader of the second, given that of the first.
abbrev pub pairing : {A B : Type 0} → Got A → (List Lexeme → Book → Got B) → Got (Pair A B)
pairing g h = then_reads g (λ a ts b. then_reads (h ts b) (λ v ts b. got (pair_of a v) ts b))

-- What is read, and then a sign.
abbrev pub signed_by : {A : Type 0} → ℕ → ℕ → Got A → Got A
signed_by len kind g = then_reads g (λ a ts b. then_reads (reader len (lit kind) ts b) (λ u ts b. got a ts b))

-- What a test and two branches make.
abbrev pub Tested : Type 0 → Type 0
Tested A = Pair Expr (Pair (List A) (List A))

-- The test, `do`, the first branch, `else`, the second branch and the last sign.
abbrev pub tested : {A : Type 0} → ℕ → (List Lexeme → Book → Got (List A)) → ℕ → Got Expr → Got (Tested A)
tested len all last g = pairing (signed_by len DO g) (λ ts b. pairing (signed_by len ELSE (all ts b)) (λ ts b. signed_by len last (all ts b)))

abbrev pub tested_words : {A : Type 0} → List ℕ → List ℕ → Ledger → (ℕ → List A → Numbered (List ℕ)) → ℕ → Tested A → Numbered (List ℕ)
tested_words text names l code = paired (with_word (expr_words text names l) WHEN) (paired (with_word code OTHERWISE) (with_word code DONE))
