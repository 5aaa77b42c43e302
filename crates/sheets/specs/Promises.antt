-- What is promised of sheets, each promise a type that a theorem of proofs/ inhabits.
-- Assumes nothing.
use Rattle.std.specs.Prelude.{◌≡◌, ◌↔◌, ◌⊎◌, true, false, List, ℕ, ◌<◌, ◌≤◌}
use Rattle.meaning.specs.Bits.{bit}
use Rattle.meaning.specs.Evidence.{Sheet}
use Rattle.sheets.specs.Sheets.{System}
use Rattle.sheets.specs.SheetTexts.{unused_clear, NumbersFit, AreBytes, SheetSays, SheetRefused}
use Rattle.sheets.specs.working.SheetReading.{refused, holds, sheet_of}

-- The test of the unused bits asks that each bit of the byte from `states` up is 0.
abbrev pub UnusedTell : Type 0
UnusedTell = (states byte : ℕ) → byte < 256 → (unused_clear states byte ≡ true) ↔ ((j : ℕ) → states ≤ j → j < 8 → bit byte j ≡ false)

-- The reading finds contents exactly where the bytes say them.
abbrev pub SaysIffReads : Type 0
SaysIffReads = (M : System) → NumbersFit M → (b : List ℕ) → AreBytes b → (x : Sheet) → SheetSays M b x ↔ (sheet_of M b ≡ holds x)

-- The reading refuses exactly with the first refusal.
abbrev pub RefusedIffReads : Type 0
RefusedIffReads = (M : System) (b : List ℕ) (n p : ℕ) → SheetRefused M b n p ↔ (sheet_of M b ≡ refused n p)

-- The bytes say one contents or have one first refusal, and never both.
pub record SheetAnswered (M : System) (b : List ℕ) : Type 0 where
  pub some : ((x : Sheet) × SheetSays M b x) ⊎ ((n p : ℕ) × SheetRefused M b n p)
  pub one_contents : (x y : Sheet) → SheetSays M b x → SheetSays M b y → x ≡ y
  pub one_refusal : (n p k q : ℕ) → SheetRefused M b n p → SheetRefused M b k q → (n ≡ k) × (p ≡ q)
  pub not_both : (x : Sheet) (n p : ℕ) → SheetSays M b x → ¬ (SheetRefused M b n p)

abbrev pub OneAnswer : Type 0
OneAnswer = (M : System) → NumbersFit M → (b : List ℕ) → AreBytes b → SheetAnswered M b
