-- The lines of a map: the total, and then those of the table.
-- Assumes nothing.
use mathlib.Core.Path.{◌≡◌, sym, ap, ◌∙◌, subst}
use mathlib.Core.List.{List, ◌++◌}
use Prim.Native.Nat.{ℕ, ◌^◌, ◌≤◌}
use native.Mathlib.Omega.{arith}
use lib.ListN.{length, take}
use Rattle.lines.specs.declared.Writer.{Writer}
use Rattle.lines.specs.Writers.{HasRoom, Writes}
use Rattle.lines.proofs.Writers.{behind, first-room, rest-room}
use Rattle.counting.specs.Counts.{count_at, settings_in, ones_of}
use Rattle.counting.specs.CountLines.{states_line, setting_lines, count_lines}
use Rattle.counting.specs.working.Counting.{table, table_lines, Countable}
use Rattle.counting.proofs.MapBytes.{few_settings, total-told}
use Rattle.counting.proofs.Tables.{table-length}
use Rattle.counting.proofs.TableLines.{table-lines, first-lines}

-- The table of counts, from the number of states that it was made for.
pub counts-told : (settings : ℕ) (map counts : List ℕ) {states k : ℕ} → states ≡ k → counts ≡ table (count_at states settings map) → counts ≡ table (count_at k settings map)
counts-told settings map counts e T = T ∙ ap (λ s. table (count_at s settings map)) e

module _ {bits shared : ℕ} {map : List ℕ} (S : Countable bits shared map) where
  abbrev at : ℕ → ℕ
  at = count_at (2 ^ bits) (2 ^ shared) map

  abbrev rest : List ℕ
  rest = setting_lines at (settings_in (2 ^ bits) (2 ^ shared) map)

  split : (total : ℕ) → total ≡ ones_of map → count_lines (2 ^ bits) (2 ^ shared) map ≡ states_line total ++ rest
  unfolding count_lines
  split total e = ap (λ k. states_line k ++ rest) (sym (total-told S total e))

  module _ {out : Writer} (total : ℕ) (e : total ≡ ones_of map) where
    room : HasRoom out (count_lines (2 ^ bits) (2 ^ shared) map) → HasRoom out (states_line total ++ rest)
    room f = subst (HasRoom out) (split total e) f

    pub total-room : HasRoom out (count_lines (2 ^ bits) (2 ^ shared) map) → HasRoom out (states_line total)
    total-room f = first-room (states_line total) rest (room f)

    module _ {next : Writer} (P : Writes out (states_line total) next) (settings : ℕ) (s : settings ≡ 2 ^ shared)
        (counts : List ℕ) (T : counts ≡ table (count_at (2 ^ bits) settings map)) where
      pub few : settings ≤ length counts
      few = omega (arith, s, few_settings S, ap length T ∙ table-length (count_at (2 ^ bits) settings map))

      lines : table_lines (take settings counts) (length (take settings counts)) ≡ rest
      lines =
          first-lines counts settings few
          ∙ ap (table_lines counts) s
          ∙ table-lines at counts (2 ^ shared) (T ∙ ap (λ k. table (count_at (2 ^ bits) k map)) s) (few_settings S)

      pub settings_room : HasRoom out (count_lines (2 ^ bits) (2 ^ shared) map) → HasRoom next (table_lines (take settings counts) (length (take settings counts)))
      settings_room f = subst (HasRoom next) (sym lines) (rest-room rest P (room f))

      pub all-put : {end : Writer} → Writes next (table_lines (take settings counts) (length (take settings counts))) end → Writes out (count_lines (2 ^ bits) (2 ^ shared) map) end
      all-put {end} Q = subst (λ l. Writes out l end) (sym (split total e)) (behind P (subst (λ l. Writes next l end) lines Q))
