-- Each answer is the kind that the definition gives a word that passed the tests so far.
use mathlib.Core.Path.{◌≡◌, sym, ap, ◌∙◌}
use Prim.Native.Nat.{ℕ}
use mathlib.Core.Bool.{cond}
use lib.ListN.{get_or}
use lib.Seq.{slice}
use borrow.Author.Tests.{lt-ltb, le-ltb}
use Rattle.notation.specs.Bytes.{letter}
use Rattle.notation.specs.Tokens.{OTHER}
use Rattle.lexer.specs.declared.pieces.Kind.{Kind}
use Rattle.lexer.specs.working.Kinds.{kind_number, kind_of}
use Rattle.lexer.specs.working.Pieces.{NAME, other_case, piece_of, numbered_piece, word_piece}
use Rattle.lexer.proofs.KindNumbers.{kind_told}
use Rattle.lexer.proofs.Spelling.{letter_is, found_some, found_none}
use Rattle.lexer.proofs.pieces.word_kind.Goals as goal
use Rattle.lexer.proofs.pieces.word_kind.Goals.{In_default}

-- The piece of the kind that was found.
found-piece : (k : Kind) (i s e : ℕ) → k ≡ kind_of i → piece_of (kind_number k) s e ≡ piece_of i s e
found-piece k i s e h = ap (λ (j : Kind). record { kind = j; start = s; end = e }) (kind_told k ∙ h)

-- A word of several bytes, not long and not reserved as it is written.
unreserved : (c : In_default) →
    let a = c.args in
    cond (letter (get_or a.text.now a.s 0)) (cond (other_case (slice a.s a.e a.text.now)) (piece_of OTHER a.s a.e) (piece_of NAME a.s a.e)) (piece_of OTHER a.s a.e)
    ≡ word_piece a.text.now a.s a.e
unfolding numbered_piece word_piece
unreserved c =
    rw (le-ltb _ _ c.if-n-lt2.false, le-ltb _ _ c.if-n-gt-MAX_WORD.false, found_none _ (λ k z. c.in_default.not-Some k (c.reserved_at.ensures ∙ z)))

pub returns-then-n-lt2 : goal.returns-then-n-lt2
unfolding numbered_piece word_piece
returns-then-n-lt2 c = rw (lt-ltb _ _ c.if-n-lt2.true) (c.byte_kind.ensures _ _)

pub returns-then-n-gt-MAX_WORD : goal.returns-then-n-gt-MAX_WORD
unfolding numbered_piece word_piece
returns-then-n-gt-MAX_WORD c =
    rw (le-ltb _ _ c.if-n-lt2.false, lt-ltb _ _ c.if-n-gt-MAX_WORD.true)

pub returns-in-Some : goal.returns-in-Some
unfolding numbered_piece word_piece
returns-in-Some c =
    let f = found_some _ _ (sym c.reserved_at.ensures ∙ c.in-Some.is) in
    rw (le-ltb _ _ c.if-n-lt2.false, le-ltb _ _ c.if-n-gt-MAX_WORD.false, f.1.0) (found-piece _ _ _ _ f.1.1)

pub returns-then-not-is_ascii_alphabetic : goal.returns-then-not-is_ascii_alphabetic
returns-then-not-is_ascii_alphabetic c =
    rw (sym (letter_is (get_or c.args.text.now c.args.s 0)) ∙ sym c.is_ascii_alphabetic.ensures.value ∙ c.if-not-is_ascii_alphabetic.true) at (unreserved (goal.at.returns-then-not-is_ascii_alphabetic c).In_default)

pub returns-then-reserved_in_other_case : goal.returns-then-reserved_in_other_case
returns-then-reserved_in_other_case c =
    rw (
      sym (letter_is (get_or c.args.text.now c.args.s 0)) ∙ sym c.is_ascii_alphabetic.ensures.value ∙ c.if-not-is_ascii_alphabetic.false,
      sym c.reserved_in_other_case.ensures ∙ c.if-reserved_in_other_case.true,
    ) at (unreserved (goal.at.returns-then-reserved_in_other_case c).In_default)

pub returns : goal.returns
returns c =
    rw (
      sym (letter_is (get_or c.args.text.now c.args.s 0)) ∙ sym c.is_ascii_alphabetic.ensures.value ∙ c.if-not-is_ascii_alphabetic.false,
      sym c.reserved_in_other_case.ensures ∙ c.if-reserved_in_other_case.false,
    ) at (unreserved (goal.at.returns c).In_default)
