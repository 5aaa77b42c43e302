-- A word that is longer than seven letters, or that has no letter of upper case, is none; any other is looked for in lower case.
use mathlib.Core.Path.{refl, sym, ap, ◌∙◌, subst⁻¹}
use Prim.Native.Nat.{ℕ, ◌<◌}
use lib.Seq.{length-slice}
use Rattle.notation.specs.Bytes.{bytes}
use Rattle.notation.specs.Tokens.{reserved}
use Rattle.lexer.specs.working.Kinds.{kind_of}
use Rattle.lexer.specs.working.Pieces.{LONGEST, other_case}
use Rattle.lexer.proofs.Spelling.{kinded, part_is, other-long, other_none, other-found}
use Rattle.lexer.proofs.words.reserved_in_other_case.Goals as goal

pub returns-then-e-s-gt-LONGEST : goal.returns-then-e-s-gt-LONGEST
returns-then-e-s-gt-LONGEST c =
    other-long _ (subst⁻¹ (λ (n : ℕ). LONGEST < n) (length-slice _ _ _ c.requires.1) c.if-e-s-gt-LONGEST.true)

pub returns-then-has_upper : goal.returns-then-has_upper
unfolding reserved bytes kinded kind_of
returns-then-has_upper c =
    c.is_among.ensures ∙ other-found _ (sym c.has_upper.ensures ∙ c.if-has_upper.true) _ (record { rows = refl }) ∙ ap other_case (part_is _ _ _ c.requires.0)

pub returns-else-has_upper : goal.returns-else-has_upper
returns-else-has_upper c = c.if-has_upper.false ∙ other_none _ (sym c.has_upper.ensures ∙ c.if-has_upper.false) ∙ ap other_case (part_is _ _ _ c.requires.0)
