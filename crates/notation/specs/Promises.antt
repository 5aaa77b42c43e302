-- What is promised of texts, each promise a type that a theorem of proofs/ inhabits.
-- Assumes nothing.
use Rattle.std.specs.Prelude.{◌≡◌, not, List, [], ◌∷◌, ◌++◌, ◌↔◌, ◌⊎◌, ℕ, ◌≤◌, ◌<◌, length}
use Rattle.std.proofs.Math.Option.{some}
use Rattle.notation.specs.Bytes.{bytes, letter, word_byte, blank_byte, SameButForCase, in_lower_case}
use Rattle.notation.specs.Tokens.{Word, Name, sign, name, OTHER, reserved, word_token, barred_byte, Lexeme, at}
use Rattle.notation.specs.Notation.{Tree}
use Rattle.notation.specs.Rules.{elem, limit_of, NODES}
use Rattle.notation.specs.Model.{Model, Expr, Place}
use Rattle.notation.specs.Layout.{layout_of}
use Rattle.notation.specs.Regular.{Regular, Every, Among}
use Rattle.notation.specs.Expressions.{nodes_in, node_count, expressions, StandsIn}
use Rattle.notation.specs.Texts.{TextSaysTree, TextSays, TextRefused, longest_text, names_of, Faultless, Refused}
use Rattle.notation.specs.Case.{spelling, Alike, Recased}
use Rattle.notation.specs.working.Machine.{read, refused}
use Rattle.notation.specs.working.Answer.{answer}

-- The bytes of a text, written out: the letters of both cases, those of words, and all that are allowed.
abbrev pub lower_letters : List ℕ
lower_letters = bytes "abcdefghijklmnopqrstuvwxyz"

abbrev pub upper_letters : List ℕ
upper_letters = bytes "ABCDEFGHIJKLMNOPQRSTUVWXYZ"

abbrev pub letters : List ℕ
letters = lower_letters ++ upper_letters

abbrev pub in_words : List ℕ
in_words = letters ++ bytes "0123456789_"

abbrev pub in_texts : List ℕ
in_texts = in_words ++ bytes " \n.;:=()*"

-- The tests of a byte ask whether it is among those.
pub record ByteTold (b : ℕ) : Type 0 where
  pub letters : letter b ≡ elem b letters
  pub words : word_byte b ≡ elem b in_words
  pub blanks : blank_byte b ≡ elem b (bytes " \n")
  pub barred : barred_byte b ≡ not (elem b in_texts)

abbrev pub BytesTold : Type 0
BytesTold = (b : ℕ) → b < 256 → ByteTold b

-- Elements of two lists that stand at the same place.
abbrev pub pairs : List ℕ → List ℕ → List (ℕ × ℕ)
pairs [] bs = []
pairs (a ∷ as') [] = []
pairs (a ∷ as') (b ∷ bs) = (a, b) ∷ pairs as' bs

-- Two bytes are the same but for case exactly if they are one, or one of the 26 letters in both cases.
abbrev pub LettersPaired : Type 0
LettersPaired = (a b : ℕ) → a < 256 → b < 256 → SameButForCase a b ↔ ((a ≡ b) ⊎ (Among (a, b) (pairs lower_letters upper_letters) ⊎ Among (b, a) (pairs lower_letters upper_letters)))

-- A word that is a name is the same name in every case.
abbrev pub NamesWithoutCase : Type 0
NamesWithoutCase = (i : ℕ) (v w : Word) (n : Name) → Alike v w → word_token i v ≡ some (name n) → word_token i w ≡ some (name n)

-- Two words that are names are the same name only then.
abbrev pub NamesByLetters : Type 0
NamesByLetters = (i j : ℕ) (v w : Word) (n m : Name) → word_token i v ≡ some (name n) → word_token j w ≡ some (name m) → (n.word ≡ m.word) ↔ Alike v w

-- A reserved word in another case is a token that the notation uses nowhere.
abbrev pub ReservedInLowerCase : Type 0
ReservedInLowerCase = (i : ℕ) (v w : Word) → Among v reserved → Alike v w → (v ≡ w → ⊥) → word_token i w ≡ some (sign OTHER)

-- Such a token is refused with 3 wherever it stands, if nothing before it is at fault.
abbrev pub OtherNowhere : Type 0
OtherNowhere = (len : ℕ) (us : List Lexeme) (i : ℕ) (ts : List Lexeme) → Faultless us → Refused len (us ++ at i (some (sign OTHER)) ∷ ts) 3 i

-- Every name that a text declares is spelt in the text, at its place, as its word is but for case.
abbrev pub NamesSpelt : Type 0
NamesSpelt = (text : List ℕ) (x : Tree) → TextSaysTree text x → Every (λ (n : Name). in_lower_case (spelling text n) ≡ n.word) (names_of x)

-- Both texts say the same, or have the same first refusal.
pub record SayTheSame (a b : List ℕ) : Type 0 where
  pub trees : (x : Tree) → TextSaysTree a x ↔ TextSaysTree b x
  pub models : (m : Model) → TextSays a m ↔ TextSays b m
  pub refusals : (n i : ℕ) → TextRefused a n i ↔ TextRefused b n i

-- To change the case of letters inside names, anywhere in a text, changes neither what the text says nor its first refusal.
abbrev pub CaseSaysNothing : Type 0
CaseSaysNothing = (a b : List ℕ) → Recased a b → SayTheSame a b

-- No text says two trees: what it says is one down to the names and the places where they stand.
abbrev pub OneTree : Type 0
OneTree = (text : List ℕ) (x y : Tree) → TextSaysTree text x → TextSaysTree text y → x ≡ y

-- No text says two models.
abbrev pub OneModel : Type 0
OneModel = (text : List ℕ) (m n : Model) → TextSays text m → TextSays text n → m ≡ n

-- Every text says a model or has a first refusal, never both, and it has one first refusal only.
pub record Answered (text : List ℕ) : Type 0 where
  pub some : ((m : Model) × TextSays text m) ⊎ ((n i : ℕ) × TextRefused text n i)
  pub apart : (m : Model) (n i : ℕ) → TextSays text m → TextRefused text n i → ⊥
  pub once : (n i m j : ℕ) → TextRefused text n i → TextRefused text m j → (n ≡ m) × (i ≡ j)

abbrev pub OneAnswer : Type 0
OneAnswer = (text : List ℕ) → Answered text

-- The computed answer is a tree exactly where the text says that tree, and a refusal exactly where that is the text's first.
abbrev pub SaysIffAnswer : Type 0
SaysIffAnswer = (text : List ℕ) (x : Tree) → TextSaysTree text x ↔ (answer text ≡ read x)

abbrev pub RefusedIffAnswer : Type 0
RefusedIffAnswer = (text : List ℕ) (n i : ℕ) → TextRefused text n i ↔ (answer text ≡ refused n i)

-- A model that a text says has its names in range, its stars numbered in text order, and no more names, commands and stars than the limits allow.
abbrev pub AllRegular : Type 0
AllRegular = (text : List ℕ) (m : Model) → TextSays text m → Regular m

-- The list of a model's expressions has all that stand in it, and no others.
abbrev pub ExpressionsListed : Type 0
ExpressionsListed = (m : Model) (e : Expr) → Among e (expressions m) ↔ ((p : Place) × StandsIn m p e)

-- The nodes of a model's expressions are as many as its text counts, and that is within the limit.
abbrev pub NodesCounted : Type 0
NodesCounted = (text : List ℕ) (m : Model) (t : TextSays text m) → (nodes_in (expressions m) ≡ node_count t) × (node_count t ≤ limit_of NODES)

-- The flat form tells the model: two models that texts say and that have the same flat form are the same.
abbrev pub LayoutTells : Type 0
LayoutTells = (m n : Model) → Regular m → Regular n → layout_of m ≡ layout_of n → m ≡ n

-- A first refusal has a number from 1 to 7; its place is in the text or at its end, and no further than the longest text reaches.
pub record Bounded (text : List ℕ) (n i : ℕ) : Type 0 where
  pub low : 1 ≤ n
  pub high : n ≤ 7
  pub in_text : i ≤ length text
  pub near : i ≤ longest_text

abbrev pub RefusalsBounded : Type 0
RefusalsBounded = (text : List ℕ) (n i : ℕ) → TextRefused text n i → Bounded text n i
