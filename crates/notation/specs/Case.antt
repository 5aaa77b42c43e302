-- How a name is spelt, and which texts are one but for the case of letters inside their names.
-- Assumes nothing.
use Rattle.std.specs.Prelude.{◌≡◌, true, false, List, [], ◌∷◌, ◌++◌, ℕ, length, take, drop}
use Rattle.std.proofs.Math.Option.{some}
use Rattle.notation.specs.Bytes.{word_byte, SameButForCase, all, begins}
use Rattle.notation.specs.Tokens.{Word, Name, name, word_token}

-- How a name is spelt: as many bytes as it has, from its place on in the text.
unfoldable pub spelling : List ℕ → Name → Word
spelling text n = take (length n.word) (drop n.place text)

-- As many bytes, each the same but for case.
abbrev pub Alike : List ℕ → List ℕ → Type 0
Alike [] [] = Unit {0}
Alike [] (b ∷ w) = ⊥
Alike (a ∷ v) [] = ⊥
Alike (a ∷ v) (b ∷ w) = SameButForCase a b × Alike v w

-- What may be written for a word: the word, and for a name each that is the same but for case.
pub data Respelt : Word → Word → Type 0 where
  kept : {w : Word} → Respelt w w
  recased : {v w : Word} (i : ℕ) (n : Name) → word_token i v ≡ some (name n) → Alike v w → Respelt v w

-- Texts that differ at most in the case of letters inside names: every name may be respelt wherever it stands, and all else stays.
pub data Recased : List ℕ → List ℕ → Type 0 where
  ended : Recased [] []
  other : {b : ℕ} {bs cs : List ℕ} → word_byte b ≡ false → Recased bs cs → Recased (b ∷ bs) (b ∷ cs)
  -- a word is as long as can be
  word : {bs cs : List ℕ} (b c : ℕ) (v w : Word) → all word_byte (b ∷ v) ≡ true → begins word_byte bs ≡ false → Respelt (b ∷ v) (c ∷ w) → Recased bs cs →
      Recased (b ∷ v ++ bs) (c ∷ w ++ cs)
