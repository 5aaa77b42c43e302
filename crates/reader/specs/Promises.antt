-- What is promised of the answers to texts, as a type that a theorem of proofs/ inhabits.
-- Assumes nothing.
use Rattle.std.specs.Prelude.{◌≡◌, List, ◌↔◌, ℕ, length, Ok}
use Rattle.notation.specs.Notation.{Tree}
use Rattle.notation.specs.Model.{Model}
use Rattle.notation.specs.Texts.{TextSaysTree, TextSays, TextRefused, model_of, names_of}
use Rattle.notation.specs.Layout.{layout_of}
use Rattle.notation.specs.Case.{Recased}
use Rattle.reader.specs.Read.{code_of, empty_code, reading_of, read_code}
use Rattle.reader.specs.Answers.{model, returned, wording_of}

-- The model has these counts.
abbrev pub Counted : Model → ℕ → ℕ → ℕ → Type 0
Counted m shared row commands = (m.shared_names ≡ shared) × (m.row_names ≡ row) × (length m.commands ≡ commands)

-- The answer is a model's counts exactly where the text says a model that has them; then the code is the flat form of the model and the places of its names.
-- It is a refusal exactly where that is the text's first, and then nothing stands beside it.
pub record Answers (text : List ℕ) : Type 0 where
  pub reads : (a b k : ℕ) → (wording_of (reading_of text) ≡ model a b k) ↔ ((m : Model) × TextSays text m × Counted m a b k)
  pub code : (x : Tree) → TextSaysTree text x → reading_of text ≡ Ok (code_of (layout_of (model_of x)) (names_of x))
  pub refuses : (n i : ℕ) → (wording_of (reading_of text) ≡ returned n i) ↔ TextRefused text n i
  pub empty : (n i : ℕ) → TextRefused text n i → read_code text ≡ empty_code

abbrev pub ReadAnswers : Type 0
ReadAnswers = (text : List ℕ) → Answers text

-- The case of letters inside names changes nothing of what the reader returns.
abbrev pub ReadWithoutCase : Type 0
ReadWithoutCase = (text other : List ℕ) → Recased text other → reading_of text ≡ reading_of other
