-- The transitions of a model's code: what is picked for a word is a step, and no step leaves the states.
-- Assumes nothing.
use mathlib.Core.Path.{◌≡◌, refl, sym, ap, ◌∙◌, subst}
use mathlib.Core.List.{List, [], ◌∷◌}
use Prim.Native.Nat.{ℕ, zero, suc, ◌+◌, ◌*◌, ◌^◌, ◌<◌, ◌≤◌}
use native.Mathlib.Omega.{arith}
use native.Mathlib.Nat.{mod-lt}
use lib.ListN.{length, get_or, set, take}
use lib.Pow.{pow_pos}
use lib.Seq.{slice, get_or-take, get_or-set_other}
use Rattle.evaluation.specs.working.CodeMachine.{run_of, start_of}
use Rattle.evaluation.specs.working.Batches.{after_of}
use Rattle.evaluation.specs.working.CodeSystem.{segment_of, next_in, stars_in, Sound, Bounds}
use Rattle.evaluation.specs.declared.plan.Plan.{Plan}
use Rattle.evaluation.proofs.OneRowCode.{cut, words-few}
use Rattle.exploration.specs.working.Transitions.{Transitions, Lawful, moves}
use Rattle.exploration.specs.working.CodeTransitions.{transitions_in}
use Rattle.exploration.specs.working.Tables.{Ready, marked}
use Rattle.exploration.specs.working.Trials.{words_of}
use Rattle.exploration.proofs.TrialCounts.{moves-count}

pub step_picked : (ops : List ℕ) {ends : List ℕ} (bits s k w : ℕ) {from to x : ℕ} → Bounds ends (4 + k) from to
    → x ≡ after_of (slice from to ops) s bits w → x ≡ next_in ops ends bits s k w
unfolding next_in
step_picked ops bits s k w B h = h ∙ ap (λ (os : List ℕ). after_of os s bits w) (cut ops B)

pub next-below : (ops ends : List ℕ) (bits s k w : ℕ) → next_in ops ends bits s k w < 2 ^ bits
unfolding next_in after_of
next-below ops ends bits s k w = mod-lt (run_of (segment_of ops ends (4 + k)) w (start_of s)).state (pow_pos bits)

pub step-below : (ops ends : List ℕ) (bits s k w x : ℕ) → x ≡ next_in ops ends bits s k w → x < 2 ^ bits
step-below ops ends bits s k w x e = subst (λ (n : ℕ). n < 2 ^ bits) (sym e) (next-below ops ends bits s k w)

pub code_lawful : (ops : List ℕ) (plan : Plan) → Lawful (transitions_in ops plan)
code_lawful ops plan = record { step-below = λ s k w a b c. next-below ops plan.ends plan.bits s k w }

-- Where no state is met, all entries are 0; and the entries from s on stay 0 when the state before them is met.
none_met : (l : List ℕ) → marked l ≡ 0 → (i : ℕ) → get_or l i 0 ≡ 0
unfolding marked
none_met [] e i = refl
none_met (zero ∷ l) e zero = refl
none_met (zero ∷ l) e (suc i) = none_met l e i
none_met (suc v ∷ l) e i = absurd (omega arith)

pub unmet_first : (M : Transitions) (q p : List ℕ) → Ready M q 0 p → (i : ℕ) → 0 ≤ i → i < M.size → get_or p i 0 ≡ 0
unmet_first M q p R i a h = sym (get_or-take M.size p i 0 h) ∙ none_met (take M.size p) (sym R.counted) i

pub unmet_next : (p : List ℕ) (s v n : ℕ) → ((i : ℕ) → s ≤ i → i < n → get_or p i 0 ≡ 0) → (i : ℕ) → s + 1 ≤ i → i < n → get_or (set p s v) i 0 ≡ 0
unmet_next p s v n f i a h = get_or-set_other p s i v 0 (λ (e : i ≡ s). omega arith) ∙ f i (omega arith) h

-- A command in range has at most 256 words.
pub words-within : {plan : Plan} → Sound plan → (k : ℕ) → k < plan.commands → 2 ^ stars_in plan.stars k ≤ 256
unfolding stars_in
words-within {plan = plan} S k h = (words-few S k (get_or plan.stars k 0) (2 ^ get_or plan.stars k 0) h refl refl).1

-- And no state has more than 4096 moves.
few_words : (words : ℕ → ℕ) (c n : ℕ) → ((k : ℕ) → k < c + n → words k ≤ 256) → words_of words c n ≤ 256 * n
unfolding words_of
few_words words c zero h = omega arith
few_words words c (suc n) h = omega (arith, h c (omega arith), few_words words (c + 1) n (λ k l. h k (omega arith)))

pub moves-few : (ops : List ℕ) (plan : Plan) → Sound plan → length (moves (transitions_in ops plan)) ≤ 4096
moves-few ops plan S =
    omega (
      arith,
      moves-count (transitions_in ops plan) 0 plan.commands,
      few_words (transitions_in ops plan).words 0 plan.commands (λ k h. words-within S k (omega arith)),
      S.few_commands,
    )
