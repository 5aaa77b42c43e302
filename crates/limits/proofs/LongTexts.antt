-- Texts as long as they may be, and longer: at each limit that takes a long text, the answer as the definitions compute it.
-- Assumes nothing.
use mathlib.Core.Path.{◌≡◌, refl}
use mathlib.Core.List.{List, [], ◌∷◌, ◌++◌, map}
use lib.ListN.{replicate}
use Prim.Native.Nat.{ℕ, zero, suc}
use Prim.Native.Char.{code}
use Prim.Native.String as S
use Prim.Native.String.{String}
use Rattle.notation.specs.Bytes.{bytes, in_lower_case, same_word}
use Rattle.notation.specs.Tokens.{reserved, word_in, word_token}
use Rattle.notation.specs.Rules.{same_kind, allowed, name_counts, view, has, elem}
use Rattle.notation.specs.Regular.{Every}
use Rattle.notation.specs.working.Lexing.{span, mark, front, lexemes, tokens_from}
use Rattle.notation.specs.working.Ledger.{tally, note, exceeds, fault}
use Rattle.notation.specs.working.Table.{lines, skips, find, step, ending}
use Rattle.notation.specs.working.Machine.{reads}
use Rattle.notation.specs.working.Answer.{answer}
use Rattle.notation.proofs.Cases.{is_read, is_refused, Case, ◌gives◌, came, begun}
use Rattle.notation.proofs.CaseFacts.{Holds, each_holds}

-- n times the same bytes, and a command of 34 bytes for each letter.
abbrev pub times : ℕ → String → List ℕ
times zero s = []
times (suc n) s = bytes s ++ times n s

abbrev pub each_named : String → List ℕ
each_named S.[] = []
each_named (S.◌∷◌ c s) = bytes "command " ++ (code c ∷ bytes " if 1 do skip else skip. " ++ each_named s)

-- So many spaces.
abbrev pub blanks : ℕ → List ℕ
blanks n = replicate n (code " ")

unfoldable pub long_cases : List Case
long_cases =
    -- 16 commands, and 17
    (begun "" ++ each_named "ABCDEFGHIJKLNOPQ") gives is_read ∷
    (begun "" ++ each_named "ABCDEFGHIJKLNOPQR") gives is_refused 7 594 ∷
    -- 256 items, and 257: `skip`, assignments, `for` and the items in it
    (begun "command c if 1 do " ++ times 254 "skip; " ++ bytes "skip else skip.") gives is_read ∷
    (begun "command c if 1 do " ++ times 255 "skip; " ++ bytes "skip else skip.") gives is_refused 7 1608 ∷
    (begun "command c if 1 do " ++ times 84 "for w do x := 1 else skip end; " ++ bytes "m := 1; m := 0; skip else m := 1.") gives is_read ∷
    (begun "command c if 1 do " ++ times 84 "for w do x := 1 else skip end; " ++ bytes "m := 1; m := 0; skip else m := 1; for") gives is_refused 7 2706 ∷
    -- 1,024 nodes, and 1,025: five before `do`, then two, then three in each repetition
    (begun "command c if 1 do m := not *" ++ times 339 " or not 0" ++ bytes " else skip.") gives is_read ∷
    (begun "command c if 1 do m := not *" ++ times 339 " or not 0" ++ bytes " or 1") gives is_refused 7 3130 ∷
    -- 16,384 bytes, and 16,385
    (begun "command c if 1 do skip else skip." ++ blanks 16301) gives is_read ∷
    (begun "command c if 1 do skip else skip." ++ blanks 16302) gives is_refused 1 16384 ∷
    blanks 16384 gives is_refused 3 16384 ∷
    times 16385 "@" gives is_refused 1 16384 ∷
    []

pub all-long-cases : map (λ (c : Case). came c.expected (answer c.text)) long_cases ≡ map (λ (c : Case). c.expected) long_cases
unfolding bytes in_lower_case same_word reserved word_in word_token same_kind allowed name_counts view has elem span mark front lexemes tokens_from tally note exceeds fault lines
    skips find step ending reads answer long_cases
all-long-cases = refl

-- Each line is a fact of the definitions: its text says some model, or has that first refusal.
pub all-long-cases_hold : Every (λ (c : Case). Holds c.text c.expected) long_cases
all-long-cases_hold = each_holds long_cases all-long-cases
