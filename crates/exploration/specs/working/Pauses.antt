-- The search in portions: where it stands in a pause, what a position and two tables say of that, and how they are judged before anything goes on from there.
-- Assumes nothing.
use Rattle.std.specs.Prelude.{ℕ, suc, zero, ◌+◌, ◌*◌, ◌≤◌, ◌≡◌, Bool, true, false, cond, ◌&&◌, List, ◌++◌, length, get_or, take, drop, eqb, leb, ltb}
use Rattle.exploration.specs.Pause.{Pause}
use Rattle.exploration.specs.working.Transitions.{Transitions, moves}
use Rattle.exploration.specs.working.Runs.{first_move}
use Rattle.exploration.specs.working.Exploring.{Seen, Progress, broke, through, progress, begun, explore, place_from}
use Rattle.exploration.specs.working.Trials.{trials_from}
use Rattle.exploration.specs.working.Tables.{seen, marked, Ready, Kept}

-- What is met, and whether the last state met breaks.
abbrev pub seen_in : Progress → Seen
seen_in (broke x) = x
seen_in (through x) = x

abbrev pub broke_off : Progress → Bool
broke_off (broke x) = true
broke_off (through x) = false

-- Where a search stands: how it went, how many states of the queue are gone through whole, how many trials were made.
pub record Stand : Type 0 where
  pub went : Progress
  pub expanded : ℕ
  pub trials : ℕ

-- When the start states are taken in.
abbrev pub opened : Transitions → Stand
opened M = record { went = begun M; expanded = 0; trials = 0 }

-- After n more states at most; nothing changes behind a break.
abbrev pub gone_on : Transitions → ℕ → Progress → ℕ → ℕ → Stand
gone_on M n (broke x) head made = record { went = broke x; expanded = head; trials = made }
gone_on M n (through x) head made = record { went = explore M n head x; expanded = place_from M n head x; trials = made + length (trials_from M n head x) }

unfoldable pub further : Transitions → ℕ → Stand → Stand
further M n s = gone_on M n s.went s.expanded s.trials

-- After n states at most, from the beginning.
abbrev pub after : Transitions → ℕ → Stand
after M n = further M n (opened M)

-- What a pause there hands back.
abbrev pub pause_of : Stand → Pause
pause_of s = record { expanded = s.expanded; met = length (seen_in s.went).queue; broke = broke_off s.went; trials = s.trials }

-- What a position and the two tables say.
abbrev pub stand_in : Transitions → Pause → List ℕ → List ℕ → Stand
stand_in M p first second = record { went = progress p.broke (seen M first p.met second); expanded = p.expanded; trials = p.trials }

-- A list put over the front of a table.
abbrev pub over : List ℕ → List ℕ → List ℕ
over front l = front ++ drop (length front) l

-- A position and two tables that hold where a search stands.
pub record Holds (M : Transitions) (s : Stand) (p : Pause) (first second : List ℕ) : Type 0 where
  pub position : p ≡ pause_of s
  pub queue : take (length (seen_in s.went).queue) first ≡ (seen_in s.went).queue
  pub parents : take M.size second ≡ (seen_in s.went).parent

-- Whether the first n entries are numbers of states.
unfoldable pub all_states : ℕ → List ℕ → ℕ → Bool
all_states size l zero = true
all_states size l (suc n) = all_states size l n && ltb (get_or l n 0) size

-- More trials than any search makes; what is above is no number of trials.
abbrev pub trials_held : ℕ
trials_held = 33554432

-- Whether a search can go on from a position and two tables: as many states are marked as the queue has, all of them are states, and no more are expanded.
unfoldable pub intact : ℕ → Pause → List ℕ → List ℕ → Bool
intact size p first second =
    leb p.trials trials_held && (leb p.expanded p.met && (eqb (marked (take size second)) p.met && all_states size first p.met))

-- What such a judgement says.
pub record Judged (M : Transitions) (p : Pause) (first second : List ℕ) : Type 0 where
  pub ready : Ready M first p.met second
  pub few : p.trials ≤ trials_held
  pub within : p.expanded ≤ p.met

-- After at most k states more, from position a and the tables (q₀, p₀): the position is b, and the tables hold q and p.
pub record GoneOn (M : Transitions) (k : ℕ) (a : Pause) (q₀ p₀ : List ℕ) (b : Pause) (q p : List ℕ) : Type 0 where
  pub kept : Kept M q₀ a.met p₀ q b.met p
  pub stand : stand_in M b q p ≡ further M k (stand_in M a q₀ p₀)
  pub within : b.expanded ≤ b.met
  pub few : b.trials ≤ 2 * trials_held

-- Whether the first move that is found from s to t is a move, and leads there.
unfoldable pub leads : Transitions → ℕ → ℕ → Bool
leads M s t =
    let m = first_move M s t (moves M) in
    ltb m.command M.commands && (ltb m.word (M.words m.command) && eqb (M.step s m.command m.word) t)

-- What the entry of a state in the table of parents says: its own number plus 1 of a start state; or else, if it is that of another state, go on there.
abbrev pub back_from : Transitions → (ℕ → Bool) → ℕ → ℕ → Bool
back_from M further t zero = false
back_from M further t (suc s) = cond (eqb s t) (M.starts t) (cond (ltb s M.size) (cond (leads M s t) (further s) false) false)

-- Whether a table of parents records a run to t, of less than n steps.
unfoldable pub records_to : Transitions → List ℕ → ℕ → ℕ → Bool
records_to M p zero t = false
records_to M p (suc n) t = back_from M (records_to M p n) t (get_or p t 0)
