-- Pieces of a text, as the code keeps them, and what they stand for among the text's lexemes.
-- Assumes nothing.
use Rattle.std.specs.Prelude.{◌≡◌, Bool, false, cond, not, ◌&&◌, ◌||◌, List, [], ◌∷◌, ℕ, suc, ◌+◌, ◌*◌, ◌-◌, ◌≤◌, ◌<◌, eqb, ltb, leb, length, get_or, drop}
use denote.Ref.{Bor}
use Rattle.std.specs.Prelude as C
use Rattle.std.specs.List.{find, list_any}
use Rattle.std.proofs.Math.Option.{Option, none, some}
use Rattle.std.proofs.Math.Seq.{slice}
use Rattle.notation.specs.Bytes.{letter, word_byte, blank_byte, in_lower_case, same_word, upper_letter}
use Rattle.notation.specs.Tokens.{Token, sign, name, Name, Word, Lexeme, at, reserved, word_in, is_none, longest_word, mark_of, ZERO, ONE, ASSIGN, OTHER}
use Rattle.notation.specs.working.Lexing.{span, tokens_from}
use Rattle.refusals.specs.declared.Refusal.{Refusal}
use Rattle.refusals.specs.declared.Reason.TheVariants.{NoToken, Unexpected}
use Rattle.lexer.specs.declared.pieces.Kind.{Kind}
use Rattle.lexer.specs.declared.pieces.Piece.{Piece}
use Rattle.lexer.specs.working.Kinds.{kind_number, kind_of}

-- How many words are reserved.
abbrev pub WORDS : ℕ
WORDS = 15

-- The letters of the longest.
abbrev pub LONGEST : ℕ
LONGEST = 7

-- The kinds of pieces that are no signs: a name, what is no token, and the end of the text.
abbrev pub NAME : ℕ
NAME = 24

abbrev pub BAD : ℕ
BAD = 25

abbrev pub FINISH : ℕ
FINISH = 26

-- The kind of the sign that was found.
abbrev pub found : Option ℕ → C.Option Kind
found none = C.None
found (some k) = C.Some (kind_of k)

-- The kind of a word in a table of words with their kinds, and whether it is one of them.
unfoldable pub kind_in : Word → List (Bor Word × Kind) → C.Option Kind
kind_in w ps = C.option_map (λ p. p.1) (find (λ p. same_word w p.0.now) ps)

unfoldable pub is_in : Word → List (Bor Word × Kind) → Bool
is_in w ps = list_any (λ p. same_word w p.0.now) ps

-- The word is reserved but for case, and not in lower case.
unfoldable pub other_case : Word → Bool
other_case w = list_any upper_letter w && not (is_none (word_in (in_lower_case w) reserved 0))

-- The piece of the kind with a number.
abbrev pub piece_of : ℕ → ℕ → ℕ → Piece
piece_of k s e = record { kind = kind_of k; start = s; end = e }

-- The refusal of a piece that may not stand where it does.
abbrev pub misplaced : Piece → Refusal
misplaced t = record { reason = cond (eqb (kind_number t.kind) BAD) NoToken Unexpected; place = t.start }

-- The name that a piece is.
abbrev pub name_in : List ℕ → Piece → Name
name_in text t = record { place = t.start; word = in_lower_case (slice t.start t.end text) }

-- The token that a piece is.
unfoldable pub token_of : List ℕ → Piece → Option Token
token_of text t = cond (eqb (kind_number t.kind) BAD) none (some (cond (eqb (kind_number t.kind) NAME) (name (name_in text t)) (sign (kind_number t.kind))))

-- The lexemes that begin with the piece: none if it is the end of the text.
unfoldable pub listed : List ℕ → Piece → List Lexeme
listed text t = cond (eqb (kind_number t.kind) FINISH) [] (at t.start (token_of text t) ∷ tokens_from text t.end)

-- What holds of every piece of a text.
pub record Fresh (text : List ℕ) (t : Piece) : Type 0 where
  pub last : kind_number t.kind ≡ FINISH → t.start ≡ length text
  pub ordered : t.start ≤ t.end
  pub inside : t.end ≤ length text
  pub short : kind_number t.kind ≡ NAME → t.end ≤ t.start + longest_word
  pub named : kind_number t.kind ≡ NAME → (t.start < t.end) × (0 < get_or text (t.end - 1) 0)

-- ---- the next piece, as a computation

-- How many blanks stand at the front.
unfoldable pub blanks : List ℕ → ℕ
blanks [] = 0
blanks (b ∷ bs) = cond (blank_byte b) (suc (blanks bs)) 0

-- The piece from s to e that a word of the one byte b is.
unfoldable pub byte_piece : ℕ → ℕ → ℕ → Piece
byte_piece b s e = cond (letter b) (piece_of NAME s e) (cond (eqb b 48) (piece_of ZERO s e) (cond (eqb b 49) (piece_of ONE s e) (piece_of OTHER s e)))

-- The piece from s to e of the sign that was found, or else the other piece.
abbrev pub known_piece : Option ℕ → ℕ → ℕ → Piece → Piece
known_piece none s e t = t
known_piece (some k) s e t = piece_of k s e

-- The piece that the word from s to e is: b is its first byte, k its number among the reserved words, and x says whether it is one in another case.
unfoldable pub numbered_piece : Option ℕ → Bool → ℕ → ℕ → ℕ → Piece
numbered_piece k x b s e =
    cond (ltb (e - s) 2) (byte_piece b s e)
    (cond (ltb longest_word (e - s)) (piece_of BAD s e)
    (known_piece k s e (cond (letter b) (cond x (piece_of OTHER s e) (piece_of NAME s e)) (piece_of OTHER s e))))

unfoldable pub word_piece : List ℕ → ℕ → ℕ → Piece
word_piece text s e = numbered_piece (word_in (slice s e text) reserved 0) (other_case (slice s e text)) (get_or text s 0) s e

-- The piece of one byte at s that a sign is, or what is no token.
abbrev pub sign_piece : ℕ → Option ℕ → Piece
sign_piece s none = piece_of BAD s (s + 1)
sign_piece s (some k) = piece_of k s (s + 1)

-- The piece that the mark b is at s, with the byte after it, or 0.
unfoldable pub mark_piece : ℕ → ℕ → ℕ → Piece
mark_piece b next s = cond (eqb b 58) (cond (eqb next 61) (piece_of ASSIGN s (s + 2)) (piece_of OTHER s (s + 1))) (sign_piece s (mark_of b))

-- Where a mark at s of the kind with a number ends.
abbrev pub mark_end : ℕ → ℕ → ℕ
mark_end k s = cond (eqb k ASSIGN) (s + 2) (s + 1)

-- The piece that begins at s, where no blank stands.
unfoldable pub piece_from : List ℕ → ℕ → Piece
piece_from text s =
    cond (leb (length text) s) (piece_of FINISH (length text) (length text))
    (cond (word_byte (get_or text s 0)) (word_piece text s (s + span (drop s text))) (mark_piece (get_or text s 0) (get_or text (s + 1) 0) s))

-- The next piece from place i on.
unfoldable pub piece_at : List ℕ → ℕ → Piece
piece_at text i = piece_from text (i + blanks (drop i text))
