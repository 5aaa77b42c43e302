-- Of each model one thing only is found: of two runs that differ one comes first, and no model has verdicts of two kinds.
-- Assumes nothing.
use mathlib.Core.Path.{◌≡◌, refl, sym, ap, ◌∙◌, subst}
use mathlib.Core.Logic.{◌⊎◌, inl, inr, ⊎_elim}
use mathlib.Core.Bool.{true}
use mathlib.Core.List.{List, [], ◌∷◌}
use Prim.Native.Nat.{ℕ, ◌<◌, ◌≤◌}
use native.Mathlib.Omega.{arith}
use lib.ListN.{length}
use lib.Dec.{eqb}
use borrow.Author.Tests.{eqb-true}
use Rattle.notation.specs.Model.{Model}
use Rattle.notation.specs.Regular.{Every}
use Rattle.meaning.specs.Meaning.{CanStart, Unsafe}
use Rattle.meaning.specs.OneRow.{One, next, TraceStep}
use Rattle.meaning.specs.Evidence.{StepFits, ConditionE, Verdict, safe_by, void_by, unsafe_by}
use Rattle.meaning.specs.working.Conditions.{test_e}
use Rattle.notation.proofs.Booleans.{and_split}
use Rattle.meaning.proofs.Accept.{all-tests_tell}
use Rattle.exploration.specs.Order.{StepBefore, StepsBefore, RunBefore}
use Rattle.exploration.specs.Findings.{TraceTo, FirstBreak, FindsOnce}
use Rattle.exploration.specs.working.Transitions.{Transitions}
use Rattle.exploration.specs.working.Runs.{Run, starts_at, start_of, steps_of}
use Rattle.exploration.proofs.Order.{AtMost, lt_or_ge}
use Rattle.exploration.proofs.RunsOfModels.{on_by}
use Rattle.exploration.proofs.TracesInOrder.{on-steps, run-before}
use Rattle.exploration.proofs.MapsAlike.{maps_alike}

-- A run that goes wrong begins at a start state.
unsafe_starts : (m : Model) → Unsafe m One → CanStart m One
unsafe_starts m (s, xs, r, b) = (s, r.start)

trichotomy : (a b : ℕ) → (a < b) ⊎ ((a ≡ b) ⊎ (b < a))
trichotomy a b =
    ⊎_elim
    (λ (h : a < b). inl h)
    (λ (h : b ≤ a). ⊎_elim (λ (k : b < a). inr (inr k)) (λ (k : a ≤ b). let e : a ≡ b = omega arith in inr (inl e)) (lt_or_ge b a))
    (lt_or_ge a b)

step-total : (x y : TraceStep) → StepBefore x y ⊎ (((x.command ≡ y.command) × (x.word ≡ y.word)) ⊎ StepBefore y x)
step-total x y =
    ⊎_elim
    (λ h. inl (inl h))
    (λ h.
    ⊎_elim
    (λ e.
    ⊎_elim
    (λ k. inl (inr (e, k)))
    (λ k. ⊎_elim (λ f. inr (inl (e, f))) (λ l. inr (inr (inr (sym e, l)))) k)
    (trichotomy x.word y.word))
    (λ k. inr (inr (inl k)))
    h)
    (trichotomy x.command y.command)

-- Two lists of as many steps, taken from one state where each step leads: they are one list, or one of them comes first.
module _ (step : ℕ → ℕ → ℕ → ℕ) where
  leads : (s : ℕ) (x : TraceStep) (xs : List TraceStep) → test_e step s (x ∷ xs) ≡ true
      → (x.after ≡ step s x.command x.word) × (test_e step x.after xs ≡ true)
  unfolding test_e
  leads s x xs e =
      let t = and_split (eqb x.after (step s x.command x.word)) (test_e step x.after xs) e in
      (eqb-true _ _ t.0, t.1)

  same_after : (s : ℕ) (x y : TraceStep) → x.after ≡ step s x.command x.word → y.after ≡ step s y.command y.word
      → x.command ≡ y.command → x.word ≡ y.word → x.after ≡ y.after
  same_after s x y p q e f = p ∙ ap (λ (k : ℕ). step s k x.word) e ∙ ap (step s y.command) f ∙ sym q

  steps-total : (s : ℕ) (xs ys : List TraceStep) → length xs ≡ length ys → test_e step s xs ≡ true → test_e step s ys ≡ true
      → StepsBefore xs ys ⊎ ((xs ≡ ys) ⊎ StepsBefore ys xs)
  steps-total s [] [] e p q = inr (inl refl)
  steps-total s [] (y ∷ ys) e p q = absurd (omega arith)
  steps-total s (x ∷ xs) [] e p q = absurd (omega arith)
  steps-total s (x ∷ xs) (y ∷ ys) e p q =
      let a = leads s x xs p in
      let b = leads s y ys q in
      ⊎_elim
      (λ h. inl (inl h))
      (λ h.
      ⊎_elim
      (λ (c : (x.command ≡ y.command) × (x.word ≡ y.word)).
      let f : x.after ≡ y.after = same_after s x y a.0 b.0 c.0 c.1 in
      ⊎_elim
      (λ k. inl (inr (c.0, c.1, k)))
      (λ k.
      ⊎_elim
      (λ (l : xs ≡ ys). inr (inl (λ i. record { command = c.0 i; word = c.1 i; after = f i } ∷ l i)))
      (λ l. inr (inr (inr (sym c.0, sym c.1, l))))
      k)
      (steps-total x.after xs ys (omega arith) a.1 (subst (λ (t : ℕ). test_e step t ys ≡ true) (sym f) b.1)))
      (λ k. inr (inr (inl k)))
      h)
      (step-total x y)

module _ (m : Model) where
  tested : (s : ℕ) (xs : List TraceStep) → Every (StepFits m) xs → ConditionE m s xs → test_e (next m) s xs ≡ true
  tested s xs f p = ((all-tests_tell m).tells_e s xs f).1 p

  runs_total : (s : ℕ) (xs : List TraceStep) (t : ℕ) (ys : List TraceStep) → test_e (next m) s xs ≡ true → test_e (next m) t ys ≡ true
      → RunBefore s xs t ys ⊎ ((unsafe_by s xs ≡ unsafe_by t ys) ⊎ RunBefore t ys s xs)
  runs_total s xs t ys p q =
      ⊎_elim
      (λ h. inl (inl h))
      (λ h.
      ⊎_elim
      (λ (e : length xs ≡ length ys).
      ⊎_elim
      (λ k. inl (inr (e, inl k)))
      (λ k.
      ⊎_elim
      (λ (f : s ≡ t).
      ⊎_elim
      (λ l. inl (inr (e, inr (f, l))))
      (λ l.
      ⊎_elim
      (λ (g : xs ≡ ys). inr (inl (λ i. unsafe_by (f i) (g i))))
      (λ n. inr (inr (inr (sym e, inr (sym f, n)))))
      l)
      (steps-total (next m) s xs ys e p (subst (λ (u : ℕ). test_e (next m) u ys ≡ true) (sym f) q)))
      (λ l. inr (inr (inr (sym e, inl l))))
      k)
      (trichotomy s t))
      (λ k. inr (inr (inl k)))
      h)
      (trichotomy (length xs) (length ys))

  first_alike : (s : ℕ) (xs : List TraceStep) (t : ℕ) (ys : List TraceStep) → FirstBreak m s xs → FirstBreak m t ys → unsafe_by s xs ≡ unsafe_by t ys
  first_alike s xs t ys F G =
      ⊎_elim
      (λ h. absurd (G.first s xs F.breaks h))
      (λ h. ⊎_elim (λ e. e) (λ k. absurd (F.first t ys G.breaks k)) h)
      (runs_total s xs t ys (tested s xs F.breaks.steps_fit F.breaks.steps) (tested t ys G.breaks.steps_fit G.breaks.steps))

  -- The run that a verdict gives, and of a run that does not come after another what that means.
  abbrev run_by : Verdict → Run
  run_by (safe_by a) = starts_at 0
  run_by (void_by a) = starts_at 0
  run_by (unsafe_by s xs) = on_by (starts_at s) xs

  pub not_after : (T : Transitions) (r : Run) (u : ℕ) → TraceTo m (start_of r) (steps_of T r) u → (s : ℕ) (xs : List TraceStep) (t : ℕ) → TraceTo m s xs t
      → ¬ (RunBefore (start_of r) (steps_of T r) s xs) → AtMost (on_by (starts_at s) xs) r
  not_after T r u P s xs t W n =
      ⊎_elim
      (λ h. inl (run-before T s xs r h))
      (λ h. ⊎_elim (λ e. inr (ap run_by e ∙ on-steps T r)) (λ k. absurd (n k)) h)
      (runs_total s xs (start_of r) (steps_of T r) (tested s xs W.steps_fit W.steps) (tested (start_of r) (steps_of T r) P.steps_fit P.steps))

pub finds-once : FindsOnce
finds-once m (safe_by a) (safe_by b) p q = ap safe_by (maps_alike m a b p.1 q.1)
finds-once m (safe_by a) (void_by b) p q = absurd (q.0 p.2)
finds-once m (safe_by a) (unsafe_by t ys) p q = let (s, xs, r, b) = q.0 in absurd (p.0 s xs r b)
finds-once m (void_by a) (safe_by b) p q = absurd (p.0 q.2)
finds-once m (void_by a) (void_by b) p q = ap void_by (p.1 ∙ sym q.1)
finds-once m (void_by a) (unsafe_by t ys) p q = absurd (p.0 (unsafe_starts m q.0))
finds-once m (unsafe_by s xs) (void_by b) p q = absurd (q.0 (unsafe_starts m p.0))
finds-once m (unsafe_by s xs) (safe_by b) p q = let (t, ys, r, h) = p.0 in absurd (q.0 t ys r h)
finds-once m (unsafe_by s xs) (unsafe_by t ys) p q = first_alike m s xs t ys p.1 q.1
