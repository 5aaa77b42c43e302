-- How many trials a search makes. A trial is one command with one choice word at one state.
-- Assumes nothing.
use Rattle.std.proofs.Math.Option.{Option, none, some}
use Rattle.std.specs.Prelude.{ℕ, ◌*◌}
use Rattle.notation.specs.Model.{Model}
use Rattle.notation.specs.Regular.{sum_over}
use Rattle.meaning.specs.OneRow.{state_count, word_count}
use Rattle.meaning.specs.Evidence.{Verdict, safe_by, void_by, unsafe_by}
use Rattle.exploration.specs.Members.{member_count}

-- How many there are at one state: the choice words of all commands.
abbrev pub trials_at_state : Model → ℕ
trials_at_state m = sum_over word_count m.commands

-- No search makes more: every command with every word at every state.
abbrev pub most_trials : Model → ℕ
most_trials m = state_count m * trials_at_state m

-- The trials that go with a verdict. Safe: each member of the map with every command and every word. Void: none was made.
-- Unsafe: no number is given, for the search ends where it meets a break.
unfoldable pub trials_of : Model → Verdict → Option ℕ
trials_of m (safe_by map) = some (member_count (state_count m) map * trials_at_state m)
trials_of m (void_by map) = some 0
trials_of m (unsafe_by s xs) = none
