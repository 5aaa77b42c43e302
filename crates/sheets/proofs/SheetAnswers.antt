-- Every sheet says one contents or has one first refusal.
-- Assumes nothing.
use mathlib.Core.Path.{◌≡◌, refl}
use mathlib.Core.Logic.{◌⊎◌, inl, inr}
use mathlib.Core.List.{List}
use Prim.Native.Nat.{ℕ}
use native.Mathlib.Omega.{arith}
use Rattle.meaning.specs.Evidence.{Sheet}
use Rattle.sheets.specs.Sheets.{System}
use Rattle.sheets.specs.working.SheetReading.{Reading, refused, holds, sheet_of}
use Rattle.sheets.specs.SheetTexts.{NumbersFit, SheetSays, AreBytes, SheetRefused}
use Rattle.sheets.specs.Promises.{SheetAnswered, OneAnswer}
use Rattle.sheets.proofs.SheetRefusals.{refused_iff_reads}
use Rattle.sheets.proofs.SheetSplit.{says_iff_reads}

module _ (M : System) (few : NumbersFit M) (b : List ℕ) (bytes : AreBytes b) where
  reads : (x : Sheet) → SheetSays M b x → sheet_of M b ≡ holds x
  reads x w = (says_iff_reads M few b bytes x).0 w

  refuses : (n p : ℕ) → SheetRefused M b n p → sheet_of M b ≡ refused n p
  refuses n p r = (refused_iff_reads M b n p).0 r

  either_way : (r : Reading) → sheet_of M b ≡ r → ((x : Sheet) × SheetSays M b x) ⊎ ((n : ℕ) × (p : ℕ) × SheetRefused M b n p)
  either_way (holds x) e = inl (x, (says_iff_reads M few b bytes x).1 e)
  either_way (refused n p) e = inr (n, p, (refused_iff_reads M b n p).1 e)

  answered : SheetAnswered M b
  answered =
      record {
        some = either_way (sheet_of M b) refl;
        one_contents = λ x y v w. let i = reads x v in let j = reads y w in cc;
        one_refusal = λ n p k q v w. let i = refuses n p v in let j = refuses k q w in (cc, cc);
        not_both = λ x n p v w. let i = reads x v in let j = refuses n p w in let z : ◌≡◌ {A = ℕ} 0 1 = cc in omega arith;
      }

pub one_answer : OneAnswer
one_answer M few b bytes = answered M few b bytes
