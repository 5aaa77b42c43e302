-- What is promised of the numbers that C is given, each promise a type that a theorem of proofs/ inhabits.
-- Assumes nothing.
use Rattle.std.specs.Prelude.{◌≡◌, List, ℕ, length}
use Rattle.notation.specs.Model.{Model}
use Rattle.notation.specs.Texts.{TextSays, TextRefused}
use Rattle.reader.specs.Read.{reading_of}
use Rattle.reader.specs.Answers as R
use Rattle.acceptance.specs.Promises.{answer_to}
use Rattle.packing.specs.Packed.{packed}
use Rattle.packing.specs.Outcomes.{test_number, wording_for}
use Rattle.loader.specs.Numbers.{model_number, read_number, reading_for}

-- The number of an answer of the test tells the answer.
abbrev pub TestNumbersTell : Type 0
TestNumbersTell = (text b : List ℕ) → wording_for (test_number (answer_to text b)) ≡ answer_to text b

-- What the reader answers to a text.
abbrev pub reading_to : List ℕ → R.Wording
reading_to text = R.wording_of (reading_of text)

-- The number of an answer of the reader tells the answer: it has the counts of the model that the text says, or the text's first refusal.
pub record ReadTold (text : List ℕ) : Type 0 where
  pub back : reading_for (read_number (reading_to text)) ≡ reading_to text
  pub model : (m : Model) → TextSays text m → read_number (reading_to text) ≡ model_number m.shared_names m.row_names (length m.commands)
  pub refusal : (n i : ℕ) → TextRefused text n i → read_number (reading_to text) ≡ packed n i

abbrev pub ReadNumbersTell : Type 0
ReadNumbersTell = (text : List ℕ) → ReadTold text
