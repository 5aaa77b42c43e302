-- What `read` answers on every text.
-- Assumes nothing.
use Rattle.std.specs.Prelude.{List, [], ◌∷◌, ℕ, suc, ◌+◌, length, replicate, set, Result, Ok, Err}
use Rattle.std.proofs.lemmas.List.Edits.{sets}
use Rattle.notation.specs.Tokens.{Name}
use Rattle.notation.specs.Texts.{model_of, names_of}
use Rattle.notation.specs.Layout.{Layout, layout_of}
use Rattle.notation.specs.working.Machine.{Outcome, read, refused}
use Rattle.notation.specs.working.Answer.{answer}
use Rattle.refusals.specs.declared.Refusal.{Refusal}
use Rattle.refusals.specs.Reasons.{refusal_of}
use Rattle.reader.specs.declared.Code.{Code}

-- An array of n numbers: the list at its front, and zeros behind it.
abbrev pub filled : ℕ → List ℕ → List ℕ
filled n l = sets (replicate n 0) 0 l

-- Names stored from number i on: each one's place at its number, and its length 28 further on.
unfoldable pub placed : List ℕ → ℕ → List Name → List ℕ
placed names i [] = names
placed names i (n ∷ ns) = placed (set (set names i n.place) (28 + i) (length n.word)) (suc i) ns

-- The array of names.
abbrev pub name_array : List Name → List ℕ
name_array ns = placed (replicate 56 0) 0 ns

-- The flat form of a model and its names, in arrays.
unfoldable pub code_of : Layout → List Name → Code
code_of x ns =
    record {
      ops = filled 2048 x.code;
      ends = filled 20 x.ends;
      stars = filled 16 x.stars;
      names = name_array ns;
      shared = x.shared;
      row = x.row;
      commands = x.commands;
    }

-- The flat form of nothing.
abbrev pub empty_code : Code
empty_code =
    record { ops = replicate 2048 0; ends = replicate 20 0; stars = replicate 16 0; names = replicate 56 0; shared = 0; row = 0; commands = 0 }

-- The flat form of the model and the names of a tree that was read; or the refusal.
unfoldable pub reading_in : Outcome → Result Code Refusal
reading_in (read x) = Ok (code_of (layout_of (model_of x)) (names_of x))
reading_in (refused n i) = Err (refusal_of n i)

-- The answer to a text. What it is on every input is said by `ReadAnswers`, which is proved of it.
abbrev pub reading_of : List ℕ → Result Code Refusal
reading_of text = reading_in (answer text)

-- The code that was read, or else that of nothing.
abbrev pub code_in : Result Code Refusal → Code
code_in (Ok c) = c
code_in (Err r) = empty_code

abbrev pub read_code : List ℕ → Code
read_code text = code_in (reading_of text)
