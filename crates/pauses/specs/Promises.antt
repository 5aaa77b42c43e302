-- What is promised of a search in portions, each promise a type that a theorem of proofs/ inhabits.
-- Assumes nothing.
use Rattle.std.specs.Prelude.{◌≡◌, ◌↔◌, ◌⊎◌, true, false, List, [], ◌∷◌, ℕ, ◌+◌, ◌-◌, ◌*◌, ◌<◌, ◌≤◌, length, get_or, take, drop}
use Rattle.std.proofs.Math.Option
use Rattle.std.proofs.Math.Option.{Option}
use Prim.Native.String.{String}
use Rattle.std.proofs.lemmas.List.Edits.{sets}
use Rattle.notation.specs.Model.{Model}
use Rattle.notation.specs.Texts.{longest_text, TextSays, TextRefused}
use Rattle.notation.specs.Case.{Recased}
use Rattle.meaning.specs.Meaning.{command_at}
use Rattle.meaning.specs.OneRow.{state_count, word_count, starts, breaks, next, TraceStep}
use Rattle.sheets.specs.Sheets.{system_of, sheet_room}
use Rattle.exploration.specs.Pause.{Pause}
use Rattle.exploration.specs.Order.{RunBefore}
use Rattle.exploration.specs.Findings.{Reaches, TraceTo, FirstBreak}
use Rattle.exploration.specs.Trials.{trials_at_state}
use Rattle.verdicts.specs.Answers as F
use Rattle.verdicts.specs.Left.{Left, zeroed}
use Rattle.verdicts.specs.Promises.{Room, answer_of, SearchRefused}
use Rattle.verdicts.specs.working.Searching.{left_alone, search_of}
use Rattle.conditions.specs.Outcomes as O
use Rattle.questions.specs.Answers as Q
use Rattle.questions.specs.Promises as QP
use Rattle.pauses.specs.Answers.{Wording, paused, returned}
use Rattle.pauses.specs.Held.{Held}
use Rattle.pauses.specs.working.Pausing.{open_of, portion_of, finish_of, met_of}

-- The two lent tables have an entry for each state.
abbrev pub TableRoom : Model → List ℕ → List ℕ → Type 0
TableRoom m first second = (state_count m ≤ length first) × (state_count m ≤ length second)

-- A position, and what the two tables hold.
pub record Paused : Type 0 where
  pub position : Pause
  pub first : List ℕ
  pub second : List ℕ

-- A call hands this position back and leaves this in the tables.
abbrev pub HandsBack : Held → Paused → Type 0
HandsBack H a = (H.answer ≡ paused a.position) × (H.first ≡ a.first) × (H.second ≡ a.second)

-- The same position over tables that have the same entries for the states, wherever they are, however long, and whatever they have beyond.
pub record Moved (m : Model) (a b : Paused) : Type 0 where
  pub position : b.position ≡ a.position
  pub first : take (state_count m) b.first ≡ take (state_count m) a.first
  pub second : take (state_count m) b.second ≡ take (state_count m) a.second

-- From one pause to a later one of the same search: portions of any number of states, between which the tables may move.
pub data Later (text : List ℕ) (m : Model) (a : Paused) : Paused → Type 0 where
  here : Later text m a a
  portioned : (b : Paused) → Later text m a b → (k : ℕ) (c : Paused) → HandsBack (portion_of text b.position k b.first b.second) c → Later text m a c
  moved : (b : Paused) → Later text m a b → (c : Paused) → Moved m b c → Later text m a c

-- Position and tables are as calls for this text left them: a search was opened, over tables that held anything, and this is a later pause of it.
pub record Unaltered (text : List ℕ) (m : Model) (a : Paused) : Type 0 where
  pub lent_first : List ℕ
  pub lent_second : List ℕ
  pub start : Paused
  pub opened : HandsBack (open_of text lent_first lent_second) start
  pub since : Later text m start a

-- The state numbered t is among the first n entries of a table.
abbrev pub Among : ℕ → List ℕ → ℕ → Type 0
Among n l t = (i : ℕ) × (i < n) × (get_or l i 0 ≡ t)

-- A step leads to t from a state among the first n entries.
pub record StepFrom (m : Model) (n : ℕ) (l : List ℕ) (t : ℕ) : Type 0 where
  pub place : ℕ
  pub within : place < n
  pub command : ℕ
  pub word : ℕ
  pub command_fits : command < length m.commands
  pub word_fits : word < word_count (command_at m command)
  pub leads : next m (get_or l place 0) command word ≡ t

-- A run leads to the state numbered t that does not come after the run from s by xs.
abbrev pub ReachesNoLater : Model → ℕ → List TraceStep → ℕ → Type 0
ReachesNoLater m s xs t = (u : ℕ) × (ys : List TraceStep) × TraceTo m u ys t × ¬ (RunBefore s xs u ys)

-- Where the last state met breaks: a run leads there that is the first of all breaking runs, and a state is met exactly if a run leads to it that does not come after that one.
pub record Broken (m : Model) (a : Paused) : Type 0 where
  pub some : 1 ≤ a.position.met
  pub breaking : breaks m (get_or a.first (a.position.met - 1) 0) ≡ true
  pub start : ℕ
  pub steps : List TraceStep
  pub leads : TraceTo m start steps (get_or a.first (a.position.met - 1) 0)
  pub first_of_all : FirstBreak m start steps
  pub exactly : (t : ℕ) → t < state_count m → Among a.position.met a.first t ↔ ReachesNoLater m start steps t

-- What a pause tells: the first table begins with the states met, and these with the states expanded.
pub record PauseMeans (m : Model) (a : Paused) : Type 0 where
  pub room : TableRoom m a.first a.second
  pub few_expanded : a.position.expanded ≤ a.position.met
  pub few_met : a.position.met ≤ state_count m
  -- as long as no state met breaks: every command was tried with every choice word at each state expanded
  pub tried : a.position.broke ≡ false → a.position.trials ≡ a.position.expanded * trials_at_state m
  -- runs of the table of one row reach the states met
  pub reached : (i : ℕ) → i < a.position.met → Reaches m (get_or a.first i 0)
  -- as long as no state met breaks: these are just the start states and the results of steps from the states expanded
  pub exactly : a.position.broke ≡ false → (t : ℕ) → t < state_count m
      → Among a.position.met a.first t ↔ ((starts m t ≡ true) ⊎ StepFrom m a.position.expanded a.first t)
  -- the states met stand in the order of their first runs: a run leads to the earlier of two that no run to the later one comes before
  pub ordered : (i j : ℕ) → i < j → j < a.position.met
      → (s : ℕ) × (xs : List TraceStep) × TraceTo m s xs (get_or a.first i 0)
      × ((t : ℕ) (ys : List TraceStep) → TraceTo m t ys (get_or a.first j 0) → ¬ (RunBefore t ys s xs))
  -- whether a state met breaks
  pub unbroken : a.position.broke ≡ false → (i : ℕ) → i < a.position.met → breaks m (get_or a.first i 0) ≡ false
  pub broken : a.position.broke ≡ true → Broken m a

-- Of every pause that nobody altered.
abbrev pub PausesTell : Type 0
PausesTell = (text : List ℕ) (m : Model) → TextSays text m → (a : Paused) → Unaltered text m a → PauseMeans m a

-- The search is at its end: the last state met breaks, or no state is left to expand.
abbrev pub Ended : Pause → Type 0
Ended p = (p.broke ≡ true) ⊎ (p.met ≤ p.expanded)

-- What a portion of k states does from one pause to the next: so many states are expanded, or fewer up to the end;
-- what the tables have beyond the states met, or beyond the states, stays; and of no states, or behind the end, nothing changes.
pub record PortionMeans (m : Model) (a : Paused) (k : ℕ) (b : Paused) : Type 0 where
  pub most : b.position.expanded ≤ a.position.expanded + k
  pub least : Ended b.position ⊎ (b.position.expanded ≡ a.position.expanded + k)
  pub grows : a.position.met ≤ b.position.met
  pub first_kept : drop b.position.met b.first ≡ drop b.position.met a.first
  pub second_kept : drop (state_count m) b.second ≡ drop (state_count m) a.second
  pub unchanged : (k ≡ 0) ⊎ Ended a.position → b ≡ a

-- Every portion of a search that nobody altered hands a position back.
abbrev pub PortionsTell : Type 0
PortionsTell =
    (text : List ℕ) (m : Model) → TextSays text m → (a : Paused) → Unaltered text m a → (k : ℕ)
    → (b : Paused) × HandsBack (portion_of text a.position k a.first a.second) b × PortionMeans m a k b

-- Portions one after the other, from what the call before them left; after a refusal nothing is called.
abbrev pub next_portion : List ℕ → ℕ → Wording → List ℕ → List ℕ → Held
next_portion text k (paused p) first second = portion_of text p k first second
next_portion text k (returned n i) first second = record { answer = returned n i; first = first; second = second }

unfoldable pub portions_from : List ℕ → List ℕ → Held → Held
portions_from text [] H = H
portions_from text (k ∷ ks) H = portions_from text ks (next_portion text k H.answer H.first H.second)

-- The search is finished after them.
abbrev pub finish_from : List ℕ → Wording → List ℕ → List ℕ → List ℕ → Left
finish_from text (paused p) first second sheet = finish_of text p first second sheet
finish_from text (returned n i) first second sheet = left_alone n i first second sheet

-- What opening, portions of these numbers of states, and finishing leave together.
abbrev pub in_portions : List ℕ → List ℕ → List ℕ → List ℕ → List ℕ → Left
in_portions text ks first second sheet =
    let H = portions_from text ks (open_of text first second) in
    finish_from text H.answer H.first H.second sheet

-- Whatever the portions are, that is what a search in one go leaves: answer, tables and sheet.
abbrev pub PortionsAgree : Type 0
PortionsAgree =
    (text : List ℕ) (m : Model) → TextSays text m → (ks first second sheet : List ℕ) → Room m first second sheet
    → in_portions text ks first second sheet ≡ search_of text first second sheet

-- So it is from every pause that nobody altered, over the tables of that pause.
abbrev pub FinishAgrees : Type 0
FinishAgrees =
    (text : List ℕ) (m : Model) → TextSays text m → (a : Paused) → Unaltered text m a → (sheet : List ℕ)
    → finish_of text a.position a.first a.second sheet ≡ search_of text a.first a.second sheet

-- A call is refused with this number and place, and both tables are as they were.
pub record HeldRefused (n i : ℕ) (first second : List ℕ) (H : Held) : Type 0 where
  pub answered : H.answer ≡ returned n i
  pub first_kept : H.first ≡ first
  pub second_kept : H.second ≡ second

-- THE ANSWERS THAT ARE FREE. Of any position and any tables, altered or not, a portion promises this alone where there is room:
-- it hands some position back, and changes nothing in the tables but entries of states.
pub record AnyHeld (m : Model) (first second : List ℕ) (H : Held) : Type 0 where
  pub position : Pause
  pub answered : H.answer ≡ paused position
  pub first_kept : drop (state_count m) H.first ≡ drop (state_count m) first
  pub second_kept : drop (state_count m) H.second ≡ drop (state_count m) second
  pub first_long : length H.first ≡ length first
  pub second_long : length H.second ≡ length second

-- Finishing promises this alone: some verdict with the length of some bytes, which stand at the front of the sheet buffer and are no more than
-- the longest sheet has; the entries of states in both tables are 0; all else is as it was.
pub record AnyLeft (m : Model) (first second sheet : List ℕ) (L : Left) : Type 0 where
  pub bytes : List ℕ
  pub few : length bytes ≤ sheet_room (system_of m)
  pub written : L.sheet ≡ sets sheet 0 bytes
  pub answered : (n i : ℕ) → ¬ (answer_of L ≡ F.returned n i)
  pub told : (s : String) (n : ℕ) (t : Option ℕ) → answer_of L ≡ F.verdict s n t → n ≡ length bytes
  pub first_cleared : L.first ≡ zeroed (state_count m) first
  pub second_cleared : L.second ≡ zeroed (state_count m) second

-- Where there is room a call goes on, and where there is none it is refused with 8, whatever the position is.
pub record AnyMeans (m : Model) (p : Pause) (k : ℕ) (first second sheet : List ℕ) (opens portions : Held) (finishes : Left) : Type 0 where
  pub opened : TableRoom m first second → AnyHeld m first second opens
  pub not_opened : ¬ (TableRoom m first second) → HeldRefused 8 0 first second opens
  pub portion : TableRoom m first second → AnyHeld m first second portions
  pub no_portion : ¬ (TableRoom m first second) → HeldRefused 8 0 first second portions
  pub finished : Room m first second sheet → AnyLeft m first second sheet finishes
  pub not_finished : ¬ (Room m first second sheet) → SearchRefused 8 0 first second sheet finishes

abbrev pub AnyTells : Type 0
AnyTells =
    (text : List ℕ) (m : Model) → TextSays text m → (p : Pause) (k : ℕ) (first second sheet : List ℕ)
    → AnyMeans m p k first second sheet (open_of text first second) (portion_of text p k first second) (finish_of text p first second sheet)

-- A text that says no model gets its own first refusal, whatever position and buffers are.
pub record RefusedMeans (text : List ℕ) (n i : ℕ) (p : Pause) (k : ℕ) (first second sheet : List ℕ) : Type 0 where
  pub opened : HeldRefused n i first second (open_of text first second)
  pub portion : HeldRefused n i first second (portion_of text p k first second)
  pub finished : SearchRefused n i first second sheet (finish_of text p first second sheet)

abbrev pub RefusedFirst : Type 0
RefusedFirst = (text : List ℕ) (n i : ℕ) → TextRefused text n i → (p : Pause) (k : ℕ) (first second sheet : List ℕ) → RefusedMeans text n i p k first second sheet

-- The numbers in a position that a call hands back, and in a refusal.
abbrev pub Bounded : Wording → Type 0
Bounded (paused p) = (p.expanded ≤ 4096) × (p.met ≤ 4096) × (p.trials ≤ 67108864)
Bounded (returned n i) = (1 ≤ n) × (n ≤ 8) × (i ≤ longest_text)

-- The numbers in the answer to a search that is finished: of one that was altered the number of trials may be as large as this.
abbrev pub FinishBounded : F.Wording → Type 0
FinishBounded (F.verdict s n t) = (n ≤ 7 + 10 * 4096) × (Option.get_or t 0 ≤ 67108864)
FinishBounded (F.returned n i) = (1 ≤ n) × (n ≤ 8) × (i ≤ longest_text)

pub record AllBounded (text : List ℕ) (p : Pause) (k : ℕ) (first second sheet : List ℕ) : Type 0 where
  pub opened : Bounded (open_of text first second).answer
  pub portion : Bounded (portion_of text p k first second).answer
  pub finished : FinishBounded (answer_of (finish_of text p first second sheet))

abbrev pub PausesBounded : Type 0
PausesBounded = (text : List ℕ) (p : Pause) (k : ℕ) (first second sheet : List ℕ) → AllBounded text p k first second sheet

-- The case of letters inside names changes neither answers nor what is left.
pub record SameCalls (text other : List ℕ) (p : Pause) (k : ℕ) (first second sheet : List ℕ) : Type 0 where
  pub opened : open_of text first second ≡ open_of other first second
  pub portion : portion_of text p k first second ≡ portion_of other p k first second
  pub finished : finish_of text p first second sheet ≡ finish_of other p first second sheet

abbrev pub PausedWithoutCase : Type 0
PausedWithoutCase = (text other : List ℕ) → Recased text other → (p : Pause) (k : ℕ) (first second sheet : List ℕ) → SameCalls text other p k first second sheet

-- What is replied to whether a state has been met.
abbrev pub met_reply : List ℕ → ℕ → List ℕ → List ℕ → Q.Wording
met_reply text t first second = Q.wording_of (met_of text t first second)

-- Yes is said exactly of the states met so far, and no of all others.
pub record MetMeans (a : Paused) (t : ℕ) (reply : Q.Wording) : Type 0 where
  pub yes : (reply ≡ Q.yes) ↔ Among a.position.met a.first t
  pub no : (reply ≡ Q.no) ↔ (¬ (Among a.position.met a.first t))

abbrev pub MetTells : Type 0
MetTells =
    (text : List ℕ) (m : Model) → TextSays text m → (a : Paused) → Unaltered text m a → (t : ℕ) → t < state_count m
    → MetMeans a t (met_reply text t a.first a.second)

-- A state of which yes is said is one that a run of the table of one row reaches.
abbrev pub MetReaches : Type 0
MetReaches =
    (text : List ℕ) (m : Model) → TextSays text m → (a : Paused) → Unaltered text m a → (t : ℕ)
    → met_reply text t a.first a.second ≡ Q.yes → Reaches m t

-- As long as no state met breaks: yes exactly for a start state, and for the result of a step from a state expanded so far.
abbrev pub MetExactly : Type 0
MetExactly =
    (text : List ℕ) (m : Model) → TextSays text m → (a : Paused) → Unaltered text m a → a.position.broke ≡ false → (t : ℕ) → t < state_count m
    → (met_reply text t a.first a.second ≡ Q.yes) ↔ ((starts m t ≡ true) ⊎ StepFrom m a.position.expanded a.first t)

-- Where the last state met breaks: yes exactly for a state that a run leads to which does not come after the first of all breaking runs.
abbrev pub MetAtBreak : Type 0
MetAtBreak =
    (text : List ℕ) (m : Model) → TextSays text m → (a : Paused) → Unaltered text m a → a.position.broke ≡ true
    → (s : ℕ) × (xs : List TraceStep) × FirstBreak m s xs
    × ((t : ℕ) → t < state_count m → (met_reply text t a.first a.second ≡ Q.yes) ↔ ReachesNoLater m s xs t)

-- Yes stays yes in every later pause of the same search.
abbrev pub MetStays : Type 0
MetStays =
    (text : List ℕ) (m : Model) → TextSays text m → (a b : Paused) → Unaltered text m a → Later text m a b → (t : ℕ)
    → met_reply text t a.first a.second ≡ Q.yes → met_reply text t b.first b.second ≡ Q.yes

-- The refusals of a question, of any tables: the text's own, then 8 where a table is too short, then 10 for a number that no state has; and no other reply is one.
pub record MetRefused (text : List ℕ) (t : ℕ) (first second : List ℕ) : Type 0 where
  pub of_text : (n i : ℕ) → TextRefused text n i → met_reply text t first second ≡ Q.told (O.returned n i)
  pub of_tables : (m : Model) → TextSays text m → ¬ (TableRoom m first second) → met_reply text t first second ≡ Q.told (O.returned 8 0)
  pub of_state : (m : Model) → TextSays text m → TableRoom m first second → state_count m ≤ t → met_reply text t first second ≡ Q.told (O.returned 10 0)
  pub answered : (m : Model) → TextSays text m → TableRoom m first second → t < state_count m
      → (met_reply text t first second ≡ Q.yes) ⊎ (met_reply text t first second ≡ Q.no)

abbrev pub MetRefusals : Type 0
MetRefusals = (text : List ℕ) (t : ℕ) (first second : List ℕ) → MetRefused text t first second

-- The numbers in a reply.
abbrev pub MetBounded : Type 0
MetBounded = (text : List ℕ) (t : ℕ) (first second : List ℕ) → QP.Bounded (met_reply text t first second)
