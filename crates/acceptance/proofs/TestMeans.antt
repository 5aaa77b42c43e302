-- Each outcome of the test is given exactly where its conditions say.
-- Assumes nothing.
use mathlib.Core.Path.{◌≡◌, refl, sym, ap, ◌∙◌, subst}
use mathlib.Core.Logic.{◌↔◌}
use mathlib.Core.Bool.{Bool, true, false, cond, true≢false}
use mathlib.Core.List.{List}
use Prim.Native.Nat.{ℕ, ◌+◌}
use native.Mathlib.Omega.{arith}
use lib.ListN.{length}
use Rattle.notation.specs.Model.{Model}
use Rattle.notation.specs.Regular.{Regular, Every}
use Rattle.meaning.specs.Meaning.{CanStart}
use Rattle.meaning.specs.OneRow.{One, state_count, starts, breaks, next, TraceStep, last_of}
use Rattle.meaning.specs.Evidence.{safe, trace, ConditionA, ConditionB, ConditionC, ConditionD, ConditionE, ConditionF, StepFits, IsVoid}
use Rattle.sheets.specs.Sheets.{System, size, system_of}
use Rattle.sheets.specs.SheetTexts.{NumbersFit, AreBytes, SheetSays, SheetRefused, too_long, misplaced, out_of_range}
use Rattle.acceptance.specs.Promises.{MapThat, TraceThat}
use Rattle.meaning.specs.working.Conditions.{test_void, test_a, test_b, test_c, test_e}
use Rattle.sheets.specs.working.SheetReading.{Reading, refused, holds, sheet_of}
use Rattle.conditions.specs.working.Judging.{passed_answer, map_answer, walk, trace_answer, answer_in, judge, outcome_of}
use Rattle.std.specs.Prelude.{Ok}
use Rattle.refusals.specs.Reasons.{number_of, reason_of}
use Rattle.refusals.proofs.Numbers.{number_told}
use Rattle.conditions.specs.Outcomes.{returned, wording_of}
use Rattle.conditions.specs.declared.outcome.Outcome.{Outcome}
use Rattle.conditions.specs.declared.outcome.Outcome.TheVariants.{SafeHolds, Void, TraceHolds, FailsA, FailsB, FailsC, FailsD, FailsE, FailsF}
use Rattle.meaning.proofs.Accept.{all-tests_tell, can_start}
use Rattle.evaluation.proofs.Powers.{pow_small}
use Rattle.sheets.proofs.SheetRefusals.{refused_iff_reads}
use Rattle.sheets.proofs.SheetSplit.{says_iff_reads}

-- What an outcome is about, 0 for a map, 1 for a trace; and which of its three conditions failed, if one did.
kind : Outcome → ℕ
kind SafeHolds = 0
kind Void = 0
kind FailsA = 0
kind FailsB = 0
kind FailsC = 0
kind TraceHolds = 1
kind FailsD = 1
kind FailsE = 1
kind FailsF = 1

failed : Outcome → ℕ
failed SafeHolds = 0
failed Void = 0
failed FailsA = 1
failed FailsB = 2
failed FailsC = 3
failed TraceHolds = 0
failed FailsD = 1
failed FailsE = 2
failed FailsF = 3

-- The first of three tests that fails.
unfoldable first_of : Bool → Bool → Bool → ℕ
first_of a b c = cond a (cond b (cond c 0 3) 2) 1

none_failed : (a b c : Bool) → first_of a b c ≡ 0 → (a ≡ true) × (b ≡ true) × (c ≡ true)
unfolding first_of
none_failed true true true e = (refl, refl, refl)
none_failed true true false e = (refl, refl, cc)
none_failed true false c e = (refl, cc, cc)
none_failed false b c e = (cc, cc, cc)

first_failed : (a b c : Bool) → first_of a b c ≡ 1 → a ≡ false
unfolding first_of
first_failed true true true e = cc
first_failed true true false e = cc
first_failed true false c e = cc
first_failed false b c e = refl

second_failed : (a b c : Bool) → first_of a b c ≡ 2 → (a ≡ true) × (b ≡ false)
unfolding first_of
second_failed true true true e = (refl, cc)
second_failed true true false e = (refl, cc)
second_failed true false c e = (refl, refl)
second_failed false b c e = (cc, cc)

third_failed : (a b c : Bool) → first_of a b c ≡ 3 → (a ≡ true) × (b ≡ true) × (c ≡ false)
unfolding first_of
third_failed true true true e = (refl, refl, cc)
third_failed true true false e = (refl, refl, refl)
third_failed true false c e = (refl, cc, cc)
third_failed false b c e = (cc, cc, cc)

map_chain : (a b c v : Bool)
    → (kind (cond a (cond b (cond c (cond v Void SafeHolds) FailsC) FailsB) FailsA) ≡ 0)
    × (failed (cond a (cond b (cond c (cond v Void SafeHolds) FailsC) FailsB) FailsA) ≡ first_of a b c)
unfolding kind failed first_of
map_chain true true true true = (refl, refl)
map_chain true true true false = (refl, refl)
map_chain true true false v = (refl, refl)
map_chain true false c v = (refl, refl)
map_chain false b c v = (refl, refl)

trace_chain : (a b c : Bool)
    → (kind (cond a (cond b (cond c TraceHolds FailsF) FailsE) FailsD) ≡ 1)
    × (failed (cond a (cond b (cond c TraceHolds FailsF) FailsE) FailsD) ≡ first_of a b c)
unfolding kind failed first_of
trace_chain true true true = (refl, refl)
trace_chain true true false = (refl, refl)
trace_chain true false c = (refl, refl)
trace_chain false b c = (refl, refl)

module _ (M : System) where
  map-answered : (map : List ℕ)
      → (kind (answer_in M (safe map)) ≡ 0)
      × (failed (answer_in M (safe map)) ≡ first_of (test_a (size M) M.starts map) (test_b (size M) M.breaks map) (test_c (size M) M.commands M.stars M.step map))
  unfolding answer_in map_answer passed_answer
  map-answered map =
      map_chain (test_a (size M) M.starts map) (test_b (size M) M.breaks map) (test_c (size M) M.commands M.stars M.step map)
      (test_void (size M) M.starts)

  trace-answered : (s : ℕ) (xs : List TraceStep)
      → (kind (answer_in M (trace s xs)) ≡ 1)
      × (failed (answer_in M (trace s xs)) ≡ first_of (M.starts s) (test_e M.step s xs) (M.breaks (last_of s xs)))
  unfolding answer_in trace_answer walk
  trace-answered s xs = trace_chain (M.starts s) (test_e M.step s xs) (M.breaks (last_of s xs))

no_iff : (t : Bool) (P : Type 0) → (t ≡ true) ↔ P → (t ≡ false) ↔ (¬ P)
no_iff true P i = (λ e. absurd (true≢false e), λ n. absurd (n (i.0 refl)))
no_iff false P i = (λ e p. true≢false (sym (i.1 p)), λ n. refl)

-- The words of an outcome are no refusal.
outcome-words : (o : Outcome) (n p : ℕ) → wording_of (Ok o) ≡ returned n p → ⊥
unfolding wording_of
outcome-words SafeHolds n p e = cc
outcome-words Void n p e = cc
outcome-words TraceHolds n p e = cc
outcome-words FailsA n p e = cc
outcome-words FailsB n p e = cc
outcome-words FailsC n p e = cc
outcome-words FailsD n p e = cc
outcome-words FailsE n p e = cc
outcome-words FailsF n p e = cc

-- What was read where an outcome was given.
module _ (M : System) (b : List ℕ) where
  given : (r : Reading) → sheet_of M b ≡ r → outcome_of M b ≡ judge M r
  unfolding outcome_of
  given r e = ap (judge M) e

  map-kind : (map : List ℕ) → sheet_of M b ≡ holds (safe map) → (o : Outcome) → outcome_of M b ≡ Ok o → kind o ≡ 0
  unfolding judge
  map-kind map e o q =
      let z : answer_in M (safe map) ≡ o = let y = given (holds (safe map)) e in cc in
      ap kind (sym z) ∙ (map-answered M map).0

  trace-kind : (s : ℕ) (xs : List TraceStep) → sheet_of M b ≡ holds (trace s xs) → (o : Outcome) → outcome_of M b ≡ Ok o → kind o ≡ 1
  unfolding judge
  trace-kind s xs e o q =
      let z : answer_in M (trace s xs) ≡ o = let y = given (holds (trace s xs)) e in cc in
      ap kind (sym z) ∙ (trace-answered M s xs).0

  -- A sheet is refused with one of two numbers, which the wording keeps.
  refusal-number : (n p : ℕ) → SheetRefused M b n p → number_of (reason_of n) ≡ n
  refusal-number n p (too_long h) = number_told 9 (omega arith) (omega arith)
  refusal-number n p (misplaced c m e) = number_told 9 (omega arith) (omega arith)
  refusal-number n p (out_of_range c a h) = number_told 10 (omega arith) (omega arith)

  refusal-worded : (n p : ℕ) → SheetRefused M b n p → wording_of (outcome_of M b) ≡ returned n p
  unfolding judge wording_of
  refusal-worded n p r =
      ap wording_of (given (refused n p) ((refused_iff_reads M b n p).0 r)) ∙ ap (λ (k : ℕ). returned k p) (refusal-number n p r)

  refused-back : (n p : ℕ) → wording_of (outcome_of M b) ≡ returned n p → (r : Reading) → sheet_of M b ≡ r → SheetRefused M b n p
  unfolding judge
  refused-back n p o (refused k q) e =
      let r = (refused_iff_reads M b k q).1 e in
      let z : returned k q ≡ returned n p = sym (refusal-worded k q r) ∙ o in
      let y : k ≡ n = cc in
      let x : q ≡ p = cc in
      subst (λ (j : ℕ). SheetRefused M b n j) x (subst (λ (i : ℕ). SheetRefused M b i q) y r)
  refused-back n p o (holds x) e =
      absurd (outcome-words (answer_in M x) n p (sym (ap wording_of (given (holds x) e)) ∙ o))

  pub refusal-means : (n p : ℕ) → (wording_of (outcome_of M b) ≡ returned n p) ↔ SheetRefused M b n p
  refusal-means n p = (λ o. refused-back n p o (sheet_of M b) refl, refusal-worded n p)

  module _ (few : NumbersFit M) (bytes : AreBytes b) where
    abbrev MapSaid : Outcome → Type 0
    MapSaid o = (map : List ℕ) × SheetSays M b (safe map) × (answer_in M (safe map) ≡ o)

    abbrev TraceSaid : Outcome → Type 0
    TraceSaid o = (s : ℕ) × (xs : List TraceStep) × SheetSays M b (trace s xs) × (answer_in M (trace s xs) ≡ o)

    map-from : (o : Outcome) → kind o ≡ 0 → outcome_of M b ≡ Ok o → (r : Reading) → sheet_of M b ≡ r → MapSaid o
    unfolding judge
    map-from o k q (refused n p) e = let y = given (refused n p) e in cc
    map-from o k q (holds (safe map)) e = (map, (says_iff_reads M few b bytes (safe map)).1 e, let y = given (holds (safe map)) e in cc)
    map-from o k q (holds (trace s xs)) e = absurd (omega (arith, k, trace-kind s xs e o q))

    trace-from : (o : Outcome) → kind o ≡ 1 → outcome_of M b ≡ Ok o → (r : Reading) → sheet_of M b ≡ r → TraceSaid o
    unfolding judge
    trace-from o k q (refused n p) e = let y = given (refused n p) e in cc
    trace-from o k q (holds (safe map)) e = absurd (omega (arith, k, map-kind map e o q))
    trace-from o k q (holds (trace s xs)) e = (s, xs, (says_iff_reads M few b bytes (trace s xs)).1 e, let y = given (holds (trace s xs)) e in cc)

    map_gives : (o : Outcome) (map : List ℕ) → SheetSays M b (safe map) → answer_in M (safe map) ≡ o → outcome_of M b ≡ Ok o
    unfolding judge
    map_gives o map w e = given (holds (safe map)) ((says_iff_reads M few b bytes (safe map)).0 w) ∙ ap Ok e

    trace-gives : (o : Outcome) (s : ℕ) (xs : List TraceStep) → SheetSays M b (trace s xs) → answer_in M (trace s xs) ≡ o → outcome_of M b ≡ Ok o
    unfolding judge
    trace-gives o s xs w e = given (holds (trace s xs)) ((says_iff_reads M few b bytes (trace s xs)).0 w) ∙ ap Ok e

-- An outcome over the model's system, where it is known when contents have it.
module _ (m : Model) (few : NumbersFit (system_of m)) (b : List ℕ) (bytes : AreBytes b) where
  map_iff : (o : Outcome) → kind o ≡ 0 → (P : List ℕ → Type 0)
      → ((map : List ℕ) → (answer_in (system_of m) (safe map) ≡ o) ↔ P map) → (outcome_of (system_of m) b ≡ Ok o) ↔ MapThat m b P
  map_iff o k P i = (
    λ q. let t = map-from (system_of m) b few bytes o k q (sheet_of (system_of m) b) refl in (t.0, t.1, (i t.0).0 t.2),
    λ t. map_gives (system_of m) b few bytes o t.0 t.1 ((i t.0).1 t.2),
  )

  trace_iff : (o : Outcome) → kind o ≡ 1 → (P : ℕ → List TraceStep → Type 0)
      → ((s : ℕ) (xs : List TraceStep) → Every (StepFits m) xs → (answer_in (system_of m) (trace s xs) ≡ o) ↔ P s xs)
      → (outcome_of (system_of m) b ≡ Ok o) ↔ TraceThat m b P
  trace_iff o k P i = (
    λ q. let t = trace-from (system_of m) b few bytes o k q (sheet_of (system_of m) b) refl in (t.0, t.1, t.2, (i t.0 t.1 t.2.fits.1).0 t.3),
    λ t. trace-gives (system_of m) b few bytes o t.0 t.1 t.2 ((i t.0 t.1 t.2.fits.1).1 t.3),
  )

-- Which of the two outcomes a map that passes has.
not-void : (v : Bool) → cond v Void SafeHolds ≡ SafeHolds → v ≡ false
not-void true e = cc
not-void false e = refl

is-void : (v : Bool) → cond v Void SafeHolds ≡ Void → v ≡ true
is-void true e = refl
is-void false e = cc

passed_safe : (m : Model) → (passed_answer (system_of m) ≡ SafeHolds) ↔ CanStart m One
unfolding passed_answer
passed_safe m = (
  λ e. can_start m (not-void _ e),
  λ c. rw ((no_iff _ _ (all-tests_tell m).tells_void).1 (λ v. v c)),
)

passed_void : (m : Model) → (passed_answer (system_of m) ≡ Void) ↔ IsVoid m
unfolding passed_answer
passed_void m = (
  λ e. (all-tests_tell m).tells_void.0 (is-void _ e),
  λ v. rw ((all-tests_tell m).tells_void.1 v),
)

-- Which of the three failed, from the answer.
module _ (m : Model) (map : List ℕ) where
  map_failed : (o : Outcome) → answer_in (system_of m) (safe map) ≡ o
      → first_of (test_a (state_count m) (starts m) map) (test_b (state_count m) (breaks m) map) (test_c (state_count m) (length m.commands) (system_of m).stars (next m) map)
      ≡ failed o
  map_failed o e = sym (map-answered (system_of m) map).1 ∙ ap failed e

  -- Where none failed, the answer is that for a map that passes.
  none_failed_answer : ConditionA m map → ConditionB m map → ConditionC m map → answer_in (system_of m) (safe map) ≡ passed_answer (system_of m)
  unfolding answer_in map_answer
  none_failed_answer a b c = rw (((all-tests_tell m).tells_a map).1 a, ((all-tests_tell m).tells_b map).1 b, ((all-tests_tell m).tells_c map).1 c)

  passed_iff : (o : Outcome) → failed o ≡ 0 → (P : Type 0) → (passed_answer (system_of m) ≡ o) ↔ P
      → (answer_in (system_of m) (safe map) ≡ o) ↔ (ConditionA m map × ConditionB m map × ConditionC m map × P)
  passed_iff o f P i = (
    λ e.
        let q = none_failed _ _ _ (map_failed o e ∙ f) in
        let a = ((all-tests_tell m).tells_a map).0 q.0 in
        let b = ((all-tests_tell m).tells_b map).0 q.1 in
        let c = ((all-tests_tell m).tells_c map).0 q.2 in
        (a, b, c, i.0 (sym (none_failed_answer a b c) ∙ e)),
    λ t. none_failed_answer t.0 t.1 t.2 ∙ i.1 t.3,
  )

  safe-holds_iff : (answer_in (system_of m) (safe map) ≡ SafeHolds) ↔ (ConditionA m map × ConditionB m map × ConditionC m map × CanStart m One)
  unfolding failed
  safe-holds_iff = passed_iff SafeHolds refl _ (passed_safe m)

  void_iff : (answer_in (system_of m) (safe map) ≡ Void) ↔ (ConditionA m map × ConditionB m map × ConditionC m map × IsVoid m)
  unfolding failed
  void_iff = passed_iff Void refl _ (passed_void m)

  fails_a_iff : (answer_in (system_of m) (safe map) ≡ FailsA) ↔ (¬ (ConditionA m map))
  unfolding answer_in map_answer failed
  fails_a_iff = (
    λ e. (no_iff _ _ ((all-tests_tell m).tells_a map)).0 (first_failed _ _ _ (map_failed FailsA e)),
    λ t. rw ((no_iff _ _ ((all-tests_tell m).tells_a map)).1 t),
  )

  fails_b_iff : (answer_in (system_of m) (safe map) ≡ FailsB) ↔ (ConditionA m map × ¬ (ConditionB m map))
  unfolding answer_in map_answer failed
  fails_b_iff = (
    λ e. let q = second_failed _ _ _ (map_failed FailsB e) in (((all-tests_tell m).tells_a map).0 q.0, (no_iff _ _ ((all-tests_tell m).tells_b map)).0 q.1),
    λ t. rw (((all-tests_tell m).tells_a map).1 t.0, (no_iff _ _ ((all-tests_tell m).tells_b map)).1 t.1),
  )

  fails_c_iff : (answer_in (system_of m) (safe map) ≡ FailsC) ↔ (ConditionA m map × ConditionB m map × ¬ (ConditionC m map))
  unfolding answer_in map_answer failed
  fails_c_iff = (
    λ e. let q = third_failed _ _ _ (map_failed FailsC e) in (((all-tests_tell m).tells_a map).0 q.0, ((all-tests_tell m).tells_b map).0 q.1, (no_iff _ _ ((all-tests_tell m).tells_c map)).0 q.2),
    λ t. rw (((all-tests_tell m).tells_a map).1 t.0, ((all-tests_tell m).tells_b map).1 t.1, (no_iff _ _ ((all-tests_tell m).tells_c map)).1 t.2),
  )

module _ (m : Model) (s : ℕ) (xs : List TraceStep) where
  trace_failed : (o : Outcome) → answer_in (system_of m) (trace s xs) ≡ o → first_of (starts m s) (test_e (next m) s xs) (breaks m (last_of s xs)) ≡ failed o
  trace_failed o e = sym (trace-answered (system_of m) s xs).1 ∙ ap failed e

  module _ (f : Every (StepFits m) xs) where
    trace-holds_iff : (answer_in (system_of m) (trace s xs) ≡ TraceHolds) ↔ (ConditionD m s × ConditionE m s xs × ConditionF m s xs)
    unfolding answer_in trace_answer walk failed
    trace-holds_iff = (
      λ e. let q = none_failed _ _ _ (trace_failed TraceHolds e) in (((all-tests_tell m).tells_d s).0 q.0, ((all-tests_tell m).tells_e s xs f).0 q.1, ((all-tests_tell m).tells_f s xs).0 q.2),
      λ t. rw (((all-tests_tell m).tells_d s).1 t.0, ((all-tests_tell m).tells_e s xs f).1 t.1, ((all-tests_tell m).tells_f s xs).1 t.2),
    )

    fails_d_iff : (answer_in (system_of m) (trace s xs) ≡ FailsD) ↔ (¬ (ConditionD m s))
    unfolding answer_in trace_answer walk failed
    fails_d_iff = (
      λ e. (no_iff _ _ ((all-tests_tell m).tells_d s)).0 (first_failed _ _ _ (trace_failed FailsD e)),
      λ t. rw ((no_iff _ _ ((all-tests_tell m).tells_d s)).1 t),
    )

    fails_e_iff : (answer_in (system_of m) (trace s xs) ≡ FailsE) ↔ (ConditionD m s × ¬ (ConditionE m s xs))
    unfolding answer_in trace_answer walk failed
    fails_e_iff = (
      λ e. let q = second_failed _ _ _ (trace_failed FailsE e) in (((all-tests_tell m).tells_d s).0 q.0, (no_iff _ _ ((all-tests_tell m).tells_e s xs f)).0 q.1),
      λ t. rw (((all-tests_tell m).tells_d s).1 t.0, (no_iff _ _ ((all-tests_tell m).tells_e s xs f)).1 t.1),
    )

    fails_f_iff : (answer_in (system_of m) (trace s xs) ≡ FailsF) ↔ (ConditionD m s × ConditionE m s xs × ¬ (ConditionF m s xs))
    unfolding answer_in trace_answer walk failed
    fails_f_iff = (
      λ e.
          let q = third_failed _ _ _ (trace_failed FailsF e) in
          (((all-tests_tell m).tells_d s).0 q.0, ((all-tests_tell m).tells_e s xs f).0 q.1, (no_iff _ _ ((all-tests_tell m).tells_f s xs)).0 q.2),
      λ t. rw (((all-tests_tell m).tells_d s).1 t.0, ((all-tests_tell m).tells_e s xs f).1 t.1, (no_iff _ _ ((all-tests_tell m).tells_f s xs)).1 t.2),
    )

pub numbers_fit : (m : Model) → Regular m → NumbersFit (system_of m)
numbers_fit m g =
    record { states = omega (arith, pow_small (m.shared_names + m.row_names) (state_count m) g.few_names refl); kind = omega arith; counts = omega arith }

-- Each outcome for the bytes b, and exactly where it is given.
pub record Given (m : Model) (b : List ℕ) : Type 0 where
  pub refusal : (n p : ℕ) → (wording_of (outcome_of (system_of m) b) ≡ returned n p) ↔ SheetRefused (system_of m) b n p
  pub safe_holds : (outcome_of (system_of m) b ≡ Ok SafeHolds) ↔ MapThat m b λ map. ConditionA m map × ConditionB m map × ConditionC m map × CanStart m One
  pub void : (outcome_of (system_of m) b ≡ Ok Void) ↔ MapThat m b λ map. ConditionA m map × ConditionB m map × ConditionC m map × IsVoid m
  pub fails_a : (outcome_of (system_of m) b ≡ Ok FailsA) ↔ MapThat m b λ map. ¬ (ConditionA m map)
  pub fails_b : (outcome_of (system_of m) b ≡ Ok FailsB) ↔ MapThat m b λ map. ConditionA m map × ¬ (ConditionB m map)
  pub fails_c : (outcome_of (system_of m) b ≡ Ok FailsC) ↔ MapThat m b λ map. ConditionA m map × ConditionB m map × ¬ (ConditionC m map)
  pub trace_holds : (outcome_of (system_of m) b ≡ Ok TraceHolds) ↔ TraceThat m b λ s xs. ConditionD m s × ConditionE m s xs × ConditionF m s xs
  pub fails_d : (outcome_of (system_of m) b ≡ Ok FailsD) ↔ TraceThat m b λ s xs. ¬ (ConditionD m s)
  pub fails_e : (outcome_of (system_of m) b ≡ Ok FailsE) ↔ TraceThat m b λ s xs. ConditionD m s × ¬ (ConditionE m s xs)
  pub fails_f : (outcome_of (system_of m) b ≡ Ok FailsF) ↔ TraceThat m b λ s xs. ConditionD m s × ConditionE m s xs × ¬ (ConditionF m s xs)

pub all-given : (m : Model) → Regular m → (b : List ℕ) → AreBytes b → Given m b
unfolding kind
all-given m g b bytes =
    let few = numbers_fit m g in
    record {
      refusal = refusal-means (system_of m) b;
      safe_holds = map_iff m few b bytes SafeHolds refl _ (safe-holds_iff m);
      void = map_iff m few b bytes Void refl _ (void_iff m);
      fails_a = map_iff m few b bytes FailsA refl _ (fails_a_iff m);
      fails_b = map_iff m few b bytes FailsB refl _ (fails_b_iff m);
      fails_c = map_iff m few b bytes FailsC refl _ (fails_c_iff m);
      trace_holds = trace_iff m few b bytes TraceHolds refl _ (trace-holds_iff m);
      fails_d = trace_iff m few b bytes FailsD refl _ (fails_d_iff m);
      fails_e = trace_iff m few b bytes FailsE refl _ (fails_e_iff m);
      fails_f = trace_iff m few b bytes FailsF refl _ (fails_f_iff m);
    }
