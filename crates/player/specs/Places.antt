-- Places of a trace: the state at each, which records stand on the trace, and where moves lead.
-- Assumes nothing.
use Rattle.std.specs.Prelude.{◌≡◌, cond, List, ℕ, ◌+◌, ◌-◌, ◌≤◌, ltb, length, take, Option, Some, None}
use Rattle.meaning.specs.OneRow.{TraceStep, last_of}
use Rattle.player.specs.declared.record.Player.{Player}
use Rattle.player.specs.declared.record.Direction.{Direction}
use Rattle.player.specs.declared.record.Direction.TheVariants.{Forward, Back, Beginning}

-- The state at place k of a trace: the one that its first k steps give, from the start state s on.
abbrev pub state_at : ℕ → List TraceStep → ℕ → ℕ
state_at s xs k = last_of s (take k xs)

-- A record stands on a trace: it has a place of the trace, and the state that the trace has there.
pub record StandsOn (s : ℕ) (xs : List TraceStep) (p : Player) : Type 0 where
  pub place : p.place ≤ length xs
  pub state : p.state ≡ state_at s xs p.place

-- The place where a move leads from place k of a trace of n steps. Only behind the last step and before the first is there none.
unfoldable pub leads : Direction → ℕ → ℕ → Option ℕ
leads Forward n k = cond (ltb k n) (Some (k + 1)) None
leads Back n k = cond (ltb 0 k) (Some (k - 1)) None
leads Beginning n k = Some 0
