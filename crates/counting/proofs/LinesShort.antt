-- How long the lines of a map are.
-- Assumes nothing.
use mathlib.Core.List.{List, [], ◌∷◌}
use mathlib.Core.Bool.{◌&&◌}
use Prim.Native.Nat.{ℕ, ◌*◌, ◌≤◌, ◌<◌}
use native.Mathlib.Omega.{arith}
use lib.Dec.{eqb, ltb}
use lib.ListN.{length, length-append}
use Rattle.notation.specs.Bytes.{bytes}
use Rattle.notation.specs.Regular.{Every}
use Rattle.meaning.specs.Evidence.{in_map}
use Rattle.notation.proofs.Members.{weaken}
use Rattle.lines.specs.Lines.{decimal_of}
use Rattle.lines.proofs.Digits.{digits-below}
use Rattle.lines.proofs.LineLengths.{two-words, three_words}
use Rattle.exploration.specs.Members.{member_count}
use Rattle.counting.specs.Counts.{setting_of, count_at, settings_in}
use Rattle.counting.specs.CountLines.{states_line, setting_line, setting_lines, count_lines}
use Rattle.exploration.proofs.Members.{most}
use Rattle.counting.proofs.Below.{each_below}

-- A count has at most four digits, a setting at most three.
states-short : (n : ℕ) → n < 10000 → length (states_line n) ≤ 12
unfolding bytes
states-short n h = omega (arith, two-words (bytes "states") (decimal_of n), digits-below 3 19 n h)

setting_short : (j n : ℕ) → j < 1000 → n < 10000 → length (setting_line j n) ≤ 12
unfolding bytes
setting_short j n h g = omega (arith, three_words (bytes "at") (decimal_of j) (decimal_of n), digits-below 2 19 j h, digits-below 3 19 n g)

settings_short : (f : ℕ → ℕ) (js : List ℕ) → ((j : ℕ) → f j < 10000) → Every (λ (j : ℕ). j < 1000) js → length (setting_lines f js) ≤ 12 * length js
unfolding setting_lines
settings_short f [] h g = omega arith
settings_short f (j ∷ js) h g =
    omega (arith, length-append (setting_line j (f j)) (setting_lines f js), setting_short j (f j) g.0 (h j), settings_short f js h g.1)

pub count-lines-short : (states settings : ℕ) (map : List ℕ) → states ≤ 4096 → settings ≤ 256 → length (count_lines states settings map) ≤ 3084
unfolding count_lines
count-lines-short states settings map h g =
    let js = settings_in states settings map in
    let f = count_at states settings map in
    let small : (j : ℕ) → f j < 10000 = λ j. omega (arith, most (λ s. in_map map s && eqb (setting_of settings s) j) states) in
    let low : Every (λ (j : ℕ). j < 1000) js =
    weaken (λ (j : ℕ). j < settings) (λ (j : ℕ). j < 1000) (λ j l. omega (arith, l, g)) js (each_below (λ j. ltb 0 (f j)) settings settings (omega arith)) in
    omega (
      arith,
      length-append (states_line (member_count states map)) (setting_lines f js),
      states-short (member_count states map) (omega (arith, most (in_map map) states)),
      settings_short f js small low,
      most (λ j. ltb 0 (f j)) settings,
    )
