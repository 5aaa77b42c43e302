-- How far the numbers in the search's answers reach.
-- Assumes nothing.
use mathlib.Core.Path.{◌≡◌, ap, subst}
use mathlib.Core.Option.{Option, none, some, none-ne-some, some-injective}
use Prim.Native.Nat.{ℕ, ◌+◌, ◌*◌, ◌≤◌}
use Prim.Native.String.{String}
use native.Mathlib.Omega.{arith}
use lib.ListN.{length}
use Rattle.std.specs.Prelude.{Ok}
use Rattle.notation.specs.Model.{Model}
use Rattle.notation.proofs.Texts.{one-model}
use Rattle.notation.proofs.Places.{refusals_bounded}
use Rattle.notation.proofs.Regular.{all_regular}
use Rattle.sheets.specs.Sheets.{system_of, sheet_bytes}
use Rattle.verdicts.specs.Answers.{Wording, verdict, returned, wording_of}
use Rattle.verdicts.specs.Promises.{answer_of, TrialsBounded, Bounded, AnswersBounded}
use Rattle.meaning.specs.Evidence.{Verdict, safe_by, void_by, unsafe_by, evidence_of}
use Rattle.exploration.specs.Trials.{most_trials}
use Rattle.exploration.specs.working.Found.{transitions_of}
use Rattle.exploration.proofs.FindsRight.{own}
use Rattle.exploration.proofs.TrialCounts.{trials-within, trials-few}
use Rattle.verdicts.specs.Left.{Left}
use Rattle.verdicts.specs.working.Searching.{verdict_of}
use Rattle.verdicts.proofs.SearchTells.{found_of, made_of, sheet-short, no_room, of_text, whatever_left}
use Rattle.verdicts.proofs.SheetsPass.{few}

-- The search of a model makes no more trials than there are at all its states.
pub made-within : (m : Model) → made_of m ≤ most_trials m
made-within m = trials-within (transitions_of (system_of m)) m (own m)

verdict_bounded : (x : Verdict) (n t : ℕ) → n ≤ 7 + 10 * 4096 → t ≤ 16777216 → Bounded (wording_of (Ok (verdict_of x n t)))
unfolding verdict_of wording_of
verdict_bounded (safe_by map) n t h k = (h, k)
verdict_bounded (void_by map) n t h k = (h, omega arith)
verdict_bounded (unsafe_by s xs) n t h k = (h, omega arith)

pub answers_bounded : AnswersBounded
unfolding wording_of
answers_bounded text first second sheet =
    whatever_left text first second sheet (λ (l : Left). Bounded (answer_of l))
    (λ n i r. let B = refusals_bounded text n i r in (omega (arith, of_text r, B.low), omega (arith, of_text r, B.high), B.near))
    (λ m says h. (omega (arith, no_room), omega (arith, no_room), omega arith))
    (λ m says r.
    verdict_bounded (found_of m) (length (sheet_bytes (system_of m) (evidence_of (found_of m)))) (made_of m)
    (omega (arith, sheet-short m, few text m says)) (omega (arith, made-within m, trials-few m (all_regular text m says))))

-- The number of trials in an answer.
abbrev trials_in : Wording → Option ℕ
trials_in (verdict s n t) = t
trials_in (returned n p) = none

verdict-within : (m : Model) (x : Verdict) (n t : ℕ) → t ≤ most_trials m → (s : String) (l k : ℕ) → wording_of (Ok (verdict_of x n t)) ≡ verdict s l (some k) → k ≤ most_trials m
unfolding verdict_of wording_of
verdict-within m (safe_by map) n t h s l k e = omega (arith, some-injective t k (ap trials_in e), h)
verdict-within m (void_by map) n t h s l k e = omega (arith, some-injective 0 k (ap trials_in e))
verdict-within m (unsafe_by q xs) n t h s l k e = absurd (none-ne-some k (ap trials_in e))

pub trials_bounded : TrialsBounded
unfolding wording_of
trials_bounded text m says first second sheet s l k =
    whatever_left text first second sheet (λ (L : Left). answer_of L ≡ verdict s l (some k) → k ≤ most_trials m)
    (λ n i r e. absurd (none-ne-some k (ap trials_in e)))
    (λ o said h e. absurd (none-ne-some k (ap trials_in e)))
    (λ o said r e.
    subst (λ (u : Model). k ≤ most_trials u) (one-model text o m said says)
    (verdict-within o (found_of o) (length (sheet_bytes (system_of o) (evidence_of (found_of o)))) (made_of o) (made-within o) s l k e))
