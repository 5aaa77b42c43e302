-- Where transitions are those of a model, their runs are the traces of the model and the runs of its table of one row.
-- Assumes nothing.
use mathlib.Core.Path.{◌≡◌, refl, sym, ap, ◌∙◌, subst}
use mathlib.Core.Bool.{true}
use mathlib.Core.List.{List, [], ◌∷◌, map}
use Prim.Native.Nat.{ℕ, suc, ◌+◌, ◌<◌}
use native.Mathlib.Omega.{arith}
use lib.ListN.{length}
use borrow.Author.Tests.{eqb-true}
use Rattle.notation.specs.Model.{Model, stars}
use Rattle.notation.specs.Regular.{Every, NumberedFrom, Regular}
use Rattle.meaning.specs.Meaning.{State, Choice, Move, step, idle, command_at, Fits, Breaks, AreSteps, IsRun, last}
use Rattle.meaning.specs.OneRow.{One, state_number, state_count, word_count, spread, spread_word, starts, breaks, next, TraceStep, spread_step, last_of}
use Rattle.meaning.specs.Evidence.{StepFits, ConditionD, ConditionE, TracePasses}
use Rattle.meaning.specs.working.Conditions.{test_e}
use Rattle.notation.proofs.Members.{joined}
use Rattle.meaning.proofs.Lists.{every-at}
use Rattle.meaning.proofs.Number.{state_number_lt, spread-state_number, state_number-spread}
use Rattle.meaning.proofs.Words.{word_of, word_of_lt, step-word}
use Rattle.meaning.proofs.Fits.{step_fits_lem}
use Rattle.notation.proofs.Booleans.{and_split}
use Rattle.meaning.proofs.OneRow.{starts_tell, breaks_tell, next-stays, last-is}
use Rattle.meaning.proofs.Accept.{all-tests_tell}
use Rattle.exploration.specs.Findings.{Reaches, TraceTo}
use Rattle.exploration.specs.working.Transitions.{Transitions, Lawful, move_of}
use Rattle.exploration.specs.working.Runs.{Run, starts_at, goes_on, final, Valid, steps, start_of, steps_of}
use Rattle.exploration.specs.working.Results.{Reached}
use Rattle.exploration.specs.working.Found.{Agrees}
use Rattle.exploration.proofs.TraceSteps.{last_snoc, tests_snoc}

-- The run that goes on by the steps of a trace.
unfoldable pub on_by : Run → List TraceStep → Run
on_by r [] = r
on_by r (x ∷ xs) = on_by (goes_on r (move_of x.command x.word)) xs

module _ (T : Transitions) (m : Model) (A : Agrees T m) where
  in_model : {s : ℕ} → s < T.size → s < state_count m
  in_model {s} h = subst (λ (n : ℕ). s < n) A.size h

  in_table : {s : ℕ} → s < state_count m → s < T.size
  in_table {s} h = subst (λ (n : ℕ). s < n) (sym A.size) h

  a_command : {k : ℕ} → k < T.commands → k < length m.commands
  a_command {k} h = subst (λ (n : ℕ). k < n) A.commands h

  of_command : {k : ℕ} → k < length m.commands → k < T.commands
  of_command {k} h = subst (λ (n : ℕ). k < n) (sym A.commands) h

  a_word : {k w : ℕ} → k < T.commands → w < T.words k → w < word_count (command_at m k)
  a_word {k} {w} c h = subst (λ (n : ℕ). w < n) (A.words k (a_command c)) h

  of_word : {k w : ℕ} → k < length m.commands → w < word_count (command_at m k) → w < T.words k
  of_word {k} {w} c h = subst (λ (n : ℕ). w < n) (sym (A.words k c)) h

  step_stays : (s k w : ℕ) → s < state_count m → k < length m.commands → T.step s k w < state_count m
  step_stays s k w h c = subst (λ (n : ℕ). n < state_count m) (sym (A.step s k w h c)) (next-stays m s k w)

  pub lawful : Lawful T
  lawful = record { step-below = λ s c w h k l. in_table (step_stays s c w (in_model h) (a_command k)) }

  pub final-below : (r : Run) → Valid T r → final T r < state_count m
  final-below (starts_at s) v = in_model v.0
  final-below (goes_on r k) v = step_stays (final T r) k.command k.word (final-below r v.0) (a_command v.1.0)

  -- A run gives a trace.
  start-below : (r : Run) → Valid T r → start_of r < state_count m
  start-below (starts_at s) v = in_model v.0
  start-below (goes_on r k) v = start-below r v.0

  start-starts : (r : Run) → Valid T r → starts m (start_of r) ≡ true
  start-starts (starts_at s) v = sym (A.starts s (in_model v.0)) ∙ v.1
  start-starts (goes_on r k) v = start-starts r v.0

  steps_fit_lem : (r : Run) → Valid T r → Every (StepFits m) (steps_of T r)
  unfolding steps_of
  steps_fit_lem (starts_at s) v = tt
  steps_fit_lem (goes_on r k) v =
      joined (StepFits m) (steps_of T r) _ (steps_fit_lem r v.0)
      (record { command = a_command v.1.0; word = a_word v.1.0 v.1.1; after = final-below (goes_on r k) v }, tt)

  pub steps-end : (r : Run) → last_of (start_of r) (steps_of T r) ≡ final T r
  unfolding steps_of last_of
  steps-end (starts_at s) = refl
  steps-end (goes_on r k) = last_snoc (start_of r) (steps_of T r) _

  steps-test : (r : Run) → Valid T r → test_e (next m) (start_of r) (steps_of T r) ≡ true
  unfolding steps_of test_e
  steps-test (starts_at s) v = refl
  steps-test (goes_on r k) v =
      tests_snoc (next m) (start_of r) (steps_of T r) _ (steps-test r v.0)
      (A.step (final T r) k.command k.word (final-below r v.0) (a_command v.1.0)
      ∙ ap (λ (s : ℕ). next m s k.command k.word) (sym (steps-end r)))

  run_of : (r : Run) → Valid T r → IsRun m (spread m One (start_of r)) (map (spread_step m One) (steps_of T r))
  run_of r v =
      record {
        start = (starts_tell m (start_of r)).0 (start-starts r v);
        steps = ((all-tests_tell m).tells_e (start_of r) (steps_of T r) (steps_fit_lem r v)).0 (steps-test r v);
      }

  pub trace-passes : (r : Run) → Valid T r → T.breaks (final T r) ≡ true → TracePasses m (start_of r) (steps_of T r)
  trace-passes r v e =
      record {
        start_fits = start-below r v;
        steps_fit = steps_fit_lem r v;
        starts = (run_of r v).start;
        steps = (run_of r v).steps;
        breaks = ((all-tests_tell m).tells_f (start_of r) (steps_of T r)).0
            (ap (breaks m) (steps-end r) ∙ sym (A.breaks (final T r) (final-below r v)) ∙ e);
      }

  pub trace-to : (r : Run) → Valid T r → TraceTo m (start_of r) (steps_of T r) (final T r)
  trace-to r v = record { start_fits = start-below r v; steps_fit = steps_fit_lem r v; starts = (run_of r v).start; steps = (run_of r v).steps; ends = steps-end r }

  pub run_reaches : (r : Run) → Valid T r → Reaches m (final T r)
  run_reaches r v = (
    spread m One (start_of r),
    map (spread_step m One) (steps_of T r),
    run_of r v,
    ap state_number (last-is m (start_of r) (steps_of T r) ∙ ap (spread m One) (steps-end r)) ∙ state_number-spread m (final T r) (final-below r v),
  )

  -- A trace gives a run.
  on-valid : (r : Run) (xs : List TraceStep) → Valid T r → Every (StepFits m) xs → Valid T (on_by r xs)
  unfolding on_by
  on-valid r [] v f = v
  on-valid r (x ∷ xs) v f = on-valid (goes_on r (move_of x.command x.word)) xs (v, (of_command f.0.command, of_word f.0.command f.0.word)) f.1

  on-final : (r : Run) (xs : List TraceStep) → Valid T r → Every (StepFits m) xs → test_e (next m) (final T r) xs ≡ true
      → final T (on_by r xs) ≡ last_of (final T r) xs
  unfolding on_by test_e last_of
  on-final r [] v f e = refl
  on-final r (x ∷ xs) v f e =
      let t = and_split _ _ e in
      let q = goes_on r (move_of x.command x.word) in
      let h : final T q ≡ x.after =
      A.step (final T r) x.command x.word (final-below r v) f.0.command ∙ sym (eqb-true _ _ t.0) in
      on-final q xs (v, (of_command f.0.command, of_word f.0.command f.0.word)) f.1
      (subst (λ (s : ℕ). test_e (next m) s xs ≡ true) (sym h) t.1)
      ∙ ap (λ (s : ℕ). last_of s xs) h

  start-valid : (s : ℕ) → s < state_count m → starts m s ≡ true → Valid T (starts_at s)
  start-valid s h e = (in_table h, A.starts s h ∙ e)

  module _ (s : ℕ) (xs : List TraceStep) (f : s < state_count m) (g : Every (StepFits m) xs) (d : ConditionD m s) where
    begins : Valid T (starts_at s)
    begins = start-valid s f ((starts_tell m s).1 d)

    steps-valid : Valid T (on_by (starts_at s) xs)
    steps-valid = on-valid (starts_at s) xs begins g

    steps-lead : ConditionE m s xs → final T (on_by (starts_at s) xs) ≡ last_of s xs
    steps-lead e = on-final (starts_at s) xs begins g (((all-tests_tell m).tells_e s xs g).1 e)

  pub to-valid : (s : ℕ) (xs : List TraceStep) (t : ℕ) → TraceTo m s xs t → Valid T (on_by (starts_at s) xs)
  to-valid s xs t p = steps-valid s xs p.start_fits p.steps_fit p.starts

  pub to-final : (s : ℕ) (xs : List TraceStep) (t : ℕ) → TraceTo m s xs t → final T (on_by (starts_at s) xs) ≡ t
  to-final s xs t p = steps-lead s xs p.start_fits p.steps_fit p.starts p.steps ∙ p.ends

  module _ (s : ℕ) (xs : List TraceStep) (p : TracePasses m s xs) where
    pub trace-valid : Valid T (on_by (starts_at s) xs)
    trace-valid = steps-valid s xs p.start_fits p.steps_fit p.starts

    pub trace-breaks : T.breaks (final T (on_by (starts_at s) xs)) ≡ true
    trace-breaks =
        A.breaks (final T (on_by (starts_at s) xs)) (final-below (on_by (starts_at s) xs) trace-valid)
        ∙ ap (breaks m) (steps-lead s xs p.start_fits p.steps_fit p.starts p.steps)
        ∙ ((all-tests_tell m).tells_f s xs).1 p.breaks

  -- A run of the table of one row gives a run to the number of its last state.
  pub record Told (s : State One) (n : ℕ) : Type 0 where
    pub run : Run
    pub valid : Valid T run
    pub long : steps run ≡ n
    pub ends : final T run ≡ state_number s
    pub fits : Fits m s

  module _ (g : Regular m) where
    numbered-at : (k : ℕ) → k < length m.commands → NumberedFrom 0 (stars (command_at m k))
    numbered-at k h = every-at _ m.commands idle k g.numbered h

    told-step : (s : State One) (n : ℕ) → Told s n → (k : ℕ) (c : Choice One) → k < length m.commands → Told (step (command_at m k) c s) (suc n)
    unfolding next
    told-step s n t k c h =
        let w = word_of (command_at m k) c in
        record {
          run = goes_on t.run (move_of k w);
          valid = (t.valid, (of_command h, of_word h (word_of_lt (command_at m k) c)));
          long = ap suc t.long;
          ends = A.step (final T t.run) k w (final-below t.run t.valid) h
              ∙ ap (λ (n : ℕ). next m n k w) t.ends
              ∙ ap (λ (q : State One). state_number (step (command_at m k) (spread_word One w) q)) (spread-state_number m s t.fits)
              ∙ ap state_number (sym (step-word (command_at m k) (numbered-at k h) c s));
          fits = step_fits_lem m c (command_at m k) s t.fits;
        }

    told-last : (s : State One) (n : ℕ) (xs : List (Move One)) → Told s n → AreSteps m s xs → Told (last s xs) (n + length xs)
    told-last s n [] t q = subst (Told s) (omega arith) t
    told-last s n (x ∷ xs) t q =
        subst (Told (last x.after xs)) (omega arith)
        (told-last x.after (suc n) xs (subst (λ (y : State One). Told y (suc n)) (sym q.1) (told-step s n t x.command x.choice q.0)) q.2)

    pub run-told : (s : State One) (xs : List (Move One)) → IsRun m s xs → Told (last s xs) (length xs)
    run-told s xs r =
        let f = r.start.fits in
        let n = state_number s in
        subst (Told (last s xs)) (omega arith)
        (told-last s 0 xs
        (record {
          run = starts_at n;
          valid = start-valid n (state_number_lt m s f) ((starts_tell m n).1 (rw (spread-state_number m s f) r.start));
          long = refl;
          ends = refl;
          fits = f;
        })
        r.steps)

    pub reaches_run : (t : ℕ) → Reaches m t → Reached T t
    reaches_run t (s, xs, r, e) =
        let q = run-told s xs r in
        record { run = q.run; valid = q.valid; ends = q.ends ∙ e }

    pub break_told : (s : State One) (xs : List (Move One)) (r : IsRun m s xs) → Breaks m (last s xs) → T.breaks (final T (run-told s xs r).run) ≡ true
    break_told s xs r b =
        let q = run-told s xs r in
        A.breaks (final T q.run) (final-below q.run q.valid)
        ∙ ap (breaks m) q.ends
        ∙ (breaks_tell m (state_number (last s xs))).1 (rw (spread-state_number m (last s xs) q.fits) b)
