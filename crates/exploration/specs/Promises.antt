-- What is promised of the search as a computation, each promise a type that a theorem of proofs/ inhabits.
-- Assumes nothing.
use Rattle.std.specs.Prelude.{◌≡◌, ℕ, ◌≤◌}
use Rattle.std.proofs.Math.Option.{some}
use Rattle.notation.specs.Model.{Model}
use Rattle.notation.specs.Regular.{Regular}
use Rattle.exploration.specs.Findings.{Finds}
use Rattle.exploration.specs.Trials.{most_trials, trials_of}
use Rattle.exploration.specs.working.Transitions.{Transitions, Lawful}
use Rattle.exploration.specs.working.Exploring.{Seen, through, search}
use Rattle.exploration.specs.working.Trials.{trials, trial_count, every_trial}
use Rattle.exploration.specs.working.Found.{found_in, Agrees}

-- Where the transitions are those of a model's table of one row, what the search finds is what there is to find of the model.
abbrev pub FoundIsRight : Type 0
FoundIsRight = (T : Transitions) (m : Model) → Agrees T m → Regular m → Finds m (found_in T)

-- A search that meets no break makes every trial there is at each state of its queue, in the queue's order, and no others.
abbrev pub TrialsListed : Type 0
TrialsListed = (T : Transitions) → Lawful T → (x : Seen) → search T ≡ through x → trials T ≡ every_trial T x.queue

-- Where a verdict has a number of trials, the search that finds it made so many.
abbrev pub TrialsCounted : Type 0
TrialsCounted = (T : Transitions) (m : Model) → Agrees T m → (k : ℕ) → trials_of m (found_in T) ≡ some k → trial_count T ≡ k

-- No search makes more trials than there are at all states, whether or not it ends at a break.
abbrev pub TrialsWithin : Type 0
TrialsWithin = (T : Transitions) (m : Model) → Agrees T m → trial_count T ≤ most_trials m
