-- What a pause that nobody altered tells of the runs of the model's table of one row, and what portions and questions do there.
-- Assumes nothing.
use mathlib.Core.Path.{◌≡◌, refl, sym, ap, ◌∙◌, subst}
use mathlib.Core.Bool.{true, false, true≢false}
use mathlib.Core.Logic.{◌↔◌, ◌⊎◌, inl, inr, ⊎_elim}
use mathlib.Core.List.{List, [], ◌∷◌, ◌++◌}
use Prim.Native.Nat.{ℕ, suc, ◌-◌, ◌*◌, ◌<◌, ◌≤◌}
use native.Mathlib.Omega.{arith}
use lib.ListN.{length, get_or, length-map, get_or-map}
use lib.Seq.{get_or-take}
use Rattle.notation.specs.Model.{Model}
use Rattle.notation.specs.Texts.{TextSays}
use Rattle.notation.proofs.Regular.{all_regular}
use Rattle.meaning.specs.OneRow.{state_count, starts, breaks, next, TraceStep}
use Rattle.exploration.specs.Findings.{Reaches, TraceTo}
use Rattle.exploration.specs.Order.{RunBefore}
use Rattle.exploration.specs.Pause.{Pause}
use Rattle.exploration.specs.Trials.{trials_at_state}
use Rattle.exploration.specs.working.Transitions.{Transitions, Lawful}
use Rattle.exploration.specs.working.Exploring.{Seen, Progress, broke, through}
use Rattle.exploration.specs.working.Runs.{Run, starts_at, final, Valid, Before, start_of, steps_of}
use Rattle.exploration.specs.working.Pauses.{Stand, seen_in, broke_off, after}
use Rattle.exploration.specs.working.Found.{transitions_of, Agrees}
use Rattle.exploration.proofs.First.{at, length_snoc, at_old, at_new, final-below, Between, Ended, queue-length}
use Rattle.exploration.proofs.Order.{AtMost, lt_or_ge, before_trans, before_irrefl, at-most-before}
use Rattle.exploration.proofs.RunsOfModels.{on_by, run_reaches, trace-to, to-valid, to-final}
use Rattle.exploration.proofs.TracesInOrder.{on-steps, run-before}
use Rattle.exploration.proofs.FindsRight.{first_break}
use Rattle.exploration.proofs.FindsOnce.{not_after}
use Rattle.exploration.proofs.Pauses.{Marked, fit_after, Listed, listed-after, between-after, ended-after, Follows, from_start, from_place, follows_marked, marked_follows, first_run_lem, recorded-same, place_is, expanded-met}
use Rattle.exploration.proofs.PortionEnds.{met-few}
use Rattle.exploration.proofs.PauseTrials.{trials-after}
use Rattle.exploration.proofs.TrialCounts.{moves_are}
use Rattle.pauses.specs.Promises.{Paused, Among, StepFrom, ReachesNoLater, Broken, PauseMeans, PausesTell}
use Rattle.pauses.specs.working.Pausing.{flat_of}
use Rattle.pauses.proofs.AnyCalls as C
use Rattle.pauses.proofs.Unaltered.{StandsAt, unaltered-at}

module _ (text : List ℕ) (m : Model) (says : TextSays text m) (h : ℕ) (a : Paused) (S : StandsAt text m says h a) where
  abbrev T : Transitions
  T = transitions_of (flat_of text)

  abbrev stand : Stand
  stand = after (transitions_of (flat_of text)) h

  abbrev x : Seen
  x = seen_in (after (transitions_of (flat_of text)) h).went

  law : Lawful T
  law = C.law text m says

  agrees : Agrees T m
  agrees = (C.flat text m says).agrees

  -- The numbers of the position.
  met-is : a.position.met ≡ length x.queue
  met-is = ap (λ (p : Pause). p.met) S.holds.position

  expanded-is : a.position.expanded ≡ stand.expanded
  expanded-is = ap (λ (p : Pause). p.expanded) S.holds.position

  broke-is : a.position.broke ≡ broke_off stand.went
  broke-is = ap (λ (p : Pause). p.broke) S.holds.position

  trials-is : a.position.trials ≡ stand.trials
  trials-is = ap (λ (p : Pause). p.trials) S.holds.position

  -- The entries of the tables.
  entry : (i : ℕ) → i < length x.queue → get_or a.first i 0 ≡ get_or x.queue i 0
  entry i l = sym (get_or-take (length x.queue) a.first i 0 l) ∙ ap (λ (q : List ℕ). get_or q i 0) S.holds.queue

  pub mark : (t : ℕ) → t < state_count m → get_or a.second t 0 ≡ get_or x.parent t 0
  mark t l =
      sym (get_or-take T.size a.second t 0 (subst (λ (n : ℕ). t < n) (sym (C.sized text m says)) l)) ∙ ap (λ (q : List ℕ). get_or q t 0) S.holds.parents

  below : (t : ℕ) → t < state_count m → t < T.size
  below t l = subst (λ (n : ℕ). t < n) (sym (C.sized text m says)) l

  in_states : (i : ℕ) → i < length x.queue → get_or x.queue i 0 < state_count m
  in_states i l = subst (λ (n : ℕ). get_or x.queue i 0 < n) (C.sized text m says) ((fit_after T law h).below i l)

  listed : Listed T law x
  listed = listed-after T law h

  -- The states marked are those among the states met.
  pub among-marked : (t : ℕ) → Among a.position.met a.first t → Marked t x
  among-marked t (i, l, e) =
      let k : i < length x.queue = omega (arith, l, met-is) in
      subst (λ (u : ℕ). Marked u x) (sym (entry i k) ∙ e) (listed.marks i k)

  pub marked-among : (t : ℕ) → t < state_count m → Marked t x → Among a.position.met a.first t
  marked-among t l k = let (i, j, e) = listed.queued t (below t l) k in (i, omega (arith, j, met-is), entry i j ∙ e)

  reached_by : (i : ℕ) → i < a.position.met → Reaches m (get_or a.first i 0)
  reached_by i l =
      let k : i < length x.queue = omega (arith, l, met-is) in
      let r = listed.reached i k in
      subst (Reaches m) (r.ends ∙ sym (entry i k)) (run_reaches T m agrees r.run r.valid)

  -- A run leads to the state at one place that no run to the state at another comes before.
  abbrev Ordered : ℕ → ℕ → Type 0
  Ordered i j =
      (s : ℕ) × (xs : List TraceStep) × TraceTo m s xs (get_or a.first i 0)
      × ((t : ℕ) (ys : List TraceStep) → TraceTo m t ys (get_or a.first j 0) → ¬ (RunBefore t ys s xs))

  -- As long as no state breaks.
  went-through : (o : Progress) → stand.went ≡ o → a.position.broke ≡ false → (y : Seen) × (stand.went ≡ through y)
  went-through (broke y) e b = absurd (true≢false (sym (broke-is ∙ ap broke_off e) ∙ b))
  went-through (through y) e b = (y, e)

  module _ (y : Seen) (e : stand.went ≡ through y) where
    seen_same : x ≡ y
    seen_same = ap seen_in e

    between : Between T stand.expanded y
    between = between-after T law h y e

    abbrev runs : List Run
    runs = between.runs

    runs_long : length x.queue ≡ length between.runs
    runs_long = ap (λ (z : Seen). length z.queue) seen_same ∙ queue-length T between.runs y between.good

    run_entry : (i : ℕ) → i < length x.queue → get_or a.first i 0 ≡ final T (at between.runs i)
    run_entry i l = entry i l ∙ ap (λ (z : Seen). get_or z.queue i 0) seen_same ∙ place_is T law stand.expanded y between i

    step_entry : (i : ℕ) → i < stand.expanded → get_or a.first i 0 ≡ get_or y.queue i 0
    step_entry i l = entry i (omega (arith, l, expanded-met T h)) ∙ ap (λ (z : Seen). get_or z.queue i 0) seen_same

    follows_from : (t : ℕ) → t < state_count m → Follows T law y stand.expanded t → (starts m t ≡ true) ⊎ StepFrom m a.position.expanded a.first t
    follows_from t l (from_start s) = inl (sym (agrees.starts t l) ∙ s)
    follows_from t l (from_place i k c v f) =
        let q : i < length x.queue = omega (arith, k, expanded-met T h) in
        let command = subst (λ (n : ℕ). c.command < n) agrees.commands v.0 in
        inr
        (record {
          place = i;
          within = omega (arith, k, expanded-is);
          command = c.command;
          word = c.word;
          command_fits = command;
          word_fits = subst (λ (n : ℕ). c.word < n) (agrees.words c.command command) v.1;
          leads =
              ap (λ (s : ℕ). next m s c.command c.word) (step_entry i k)
              ∙ sym (agrees.step (get_or y.queue i 0) c.command c.word (subst (λ (z : Seen). get_or z.queue i 0 < state_count m) seen_same (in_states i q)) command)
              ∙ f;
        })

    from_follows : (t : ℕ) → t < state_count m → (starts m t ≡ true) ⊎ StepFrom m a.position.expanded a.first t → Follows T law y stand.expanded t
    from_follows t l (inl s) = from_start (agrees.starts t l ∙ s)
    from_follows t l (inr F) =
        let k : F.place < stand.expanded = omega (arith, F.within, expanded-is) in
        let q : F.place < length x.queue = omega (arith, k, expanded-met T h) in
        from_place F.place k (record { command = F.command; word = F.word }) (
          subst (λ (n : ℕ). F.command < n) (sym agrees.commands) F.command_fits,
          subst (λ (n : ℕ). F.word < n) (sym (agrees.words F.command F.command_fits)) F.word_fits,
        )
        (agrees.step (get_or y.queue F.place 0) F.command F.word (subst (λ (z : Seen). get_or z.queue F.place 0 < state_count m) seen_same (in_states F.place q)) F.command_fits
        ∙ ap (λ (s : ℕ). next m s F.command F.word) (sym (step_entry F.place k))
        ∙ F.leads)

    exactly : (t : ℕ) → t < state_count m → Among a.position.met a.first t ↔ ((starts m t ≡ true) ⊎ StepFrom m a.position.expanded a.first t)
    exactly t l = (
      λ k. follows_from t l (marked_follows T law stand.expanded y between t (below t l) (subst (Marked t) seen_same (among-marked t k))),
      λ k. marked-among t l (subst (Marked t) (sym seen_same) (follows_marked T law stand.expanded y between t (below t l) (from_follows t l k))),
    )

    ordered : (i j : ℕ) → i < j → j < a.position.met → Ordered i j
    ordered i j l k =
        let q : j < length x.queue = omega (arith, k, met-is) in
        let p : i < length x.queue = omega arith in
        let G = between.good in
        let iw : i < length between.runs = omega (arith, p, runs_long) in
        let jw : j < length between.runs = omega (arith, q, runs_long) in
        let r = at between.runs i in (
          start_of r,
          steps_of T r,
          subst (TraceTo m (start_of r) (steps_of T r)) (sym (run_entry i p)) (trace-to T m agrees r (G.valid i iw)),
          λ t ys W b.
              let z = on_by (starts_at t) ys in
              let f = first_run_lem T law stand.expanded y between j jw z (to-valid T m agrees t ys _ W) (to-final T m agrees t ys _ W ∙ run_entry j q) in
              before_irrefl r
              (before_trans r (at between.runs j) r (G.sorted i j l jw)
              (at-most-before (at between.runs j) z r f (run-before T t ys r b))),
        )

    tried : a.position.trials ≡ a.position.expanded * trials_at_state m
    tried =
        trials-is
        ∙ trials-after T h y e
        ∙ ap (λ (n : ℕ). stand.expanded * n) (moves_are T m agrees)
        ∙ ap (λ (n : ℕ). n * trials_at_state m) (sym expanded-is)

    unbroken : (i : ℕ) → i < a.position.met → breaks m (get_or a.first i 0) ≡ false
    unbroken i k =
        let q : i < length x.queue = omega (arith, k, met-is) in
        let w : i < length between.runs = omega (arith, q, runs_long) in
        ap (breaks m) (entry i q)
        ∙ sym (agrees.breaks (get_or x.queue i 0) (in_states i q))
        ∙ ap T.breaks (sym (entry i q) ∙ run_entry i q)
        ∙ between.good.reached i w

  -- Where the last state breaks.
  went-broke : (o : Progress) → stand.went ≡ o → a.position.broke ≡ true → (y : Seen) × (stand.went ≡ broke y)
  went-broke (broke y) e b = (y, e)
  went-broke (through y) e b = absurd (true≢false (sym b ∙ broke-is ∙ ap broke_off e))

  module _ (y : Seen) (e : stand.went ≡ broke y) where
    E : Ended T y
    E = ended-after T law h y e

    -- The queue's runs, with the one that breaks at the end.
    abbrev all : List Run
    all = E.runs ++ E.last ∷ []

    queue-at : (i : ℕ) → i < length x.queue → get_or a.first i 0 ≡ final T (at all i)
    queue-at i l =
        entry i l
        ∙ ap (λ (o : Progress). get_or (seen_in o).queue i 0) e
        ∙ ap (λ (q : List ℕ). get_or q i 0) E.queue-is
        ∙ get_or-map (final T) all i (starts_at 0)

    long : length x.queue ≡ suc (length E.runs)
    long = ap (λ (o : Progress). length (seen_in o).queue) e ∙ ap length E.queue-is ∙ length-map all (final T) ∙ length_snoc E.runs E.last

    old-at : (i : ℕ) → i < length E.runs → get_or a.first i 0 ≡ final T (at E.runs i)
    old-at i l = queue-at i (omega (arith, l, long)) ∙ ap (final T) (at_old E.runs E.last i l)

    last-at : (i : ℕ) → i ≡ length E.runs → get_or a.first i 0 ≡ final T E.last
    last-at i l = queue-at i (omega (arith, l, long)) ∙ ap (final T) (at_new E.runs E.last i l)

    last-is : a.position.met - 1 ≡ length E.runs
    last-is = omega (arith, met-is, long)

    -- A run of the queue does not come after the one that breaks.
    not_later : (r : Run) → AtMost r E.last → ¬ (RunBefore (start_of E.last) (steps_of T E.last) (start_of r) (steps_of T r))
    not_later r p b =
        before_irrefl r
        (at-most-before r E.last r p
        (subst (λ (q : Run). Before q r) (on-steps T E.last) (run-before T (start_of E.last) (steps_of T E.last) r b)))

    led : (r : Run) → Valid T r → AtMost r E.last → (t : ℕ) → final T r ≡ t → ReachesNoLater m (start_of E.last) (steps_of T E.last) t
    led r v p t f = (start_of r, steps_of T r, subst (TraceTo m (start_of r) (steps_of T r)) f (trace-to T m agrees r v), not_later r p)

    met_led : (t : ℕ) → Among a.position.met a.first t → ReachesNoLater m (start_of E.last) (steps_of T E.last) t
    met_led t (i, k, f) =
        ⊎_elim
        (λ (l : i < length E.runs). led (at E.runs i) (E.good.valid i l) (inl (E.earlier i l)) t (sym (old-at i l) ∙ f))
        (λ (l : length E.runs ≤ i).
        let g : i ≡ length E.runs = omega (arith, k, met-is, long) in
        led E.last E.first.valid (inr refl) t (sym (last-at i g) ∙ f))
        (lt_or_ge i (length E.runs))

    led_met : (t : ℕ) → (s : ℕ) (xs : List TraceStep) → TraceTo m s xs t → AtMost (on_by (starts_at s) xs) E.last → Among a.position.met a.first t
    led_met t s xs W (inl b) =
        let c = E.covered (on_by (starts_at s) xs) (to-valid T m agrees s xs t W) b in
        (c.0, omega (arith, c.1, met-is, long), old-at c.0 c.1 ∙ c.2 ∙ to-final T m agrees s xs t W)
    led_met t s xs W (inr f) =
        (length E.runs, omega (arith, met-is, long), last-at (length E.runs) refl ∙ ap (final T) (sym f) ∙ to-final T m agrees s xs t W)

    -- A run to a state of the queue does not come before those that end in the states before it.
    not_earlier : (i j : ℕ) → i < j → j < a.position.met → (l : i < length E.runs) → (z : Run) → Valid T z → final T z ≡ get_or a.first j 0 → ¬ (Before z (at E.runs i))
    not_earlier i j h k l z v f b =
        let r = at E.runs i in
        let d = before_trans z r E.last b (E.earlier i l) in
        ⊎_elim
        (λ (n : j < length E.runs).
        let c = E.covered z v d in
        let same = recorded-same T law E.before E.runs E.good c.0 j c.1 n (c.2 ∙ f ∙ old-at j n) in
        before_irrefl r
        (before_trans r (at E.runs j) r (E.good.sorted i j h n)
        (at-most-before (at E.runs j) z r (subst (λ (q : Run). AtMost q z) same c.3) b)))
        (λ (n : length E.runs ≤ j).
        let g : j ≡ length E.runs = omega (arith, k, met-is, long) in
        true≢false (sym E.first.breaking ∙ ap T.breaks (sym (last-at j g) ∙ sym f) ∙ E.first.first z v d))
        (lt_or_ge j (length E.runs))

    ordered-broken : (i j : ℕ) → i < j → j < a.position.met → Ordered i j
    ordered-broken i j h k =
        let l : i < length E.runs = omega (arith, h, k, met-is, long) in
        let r = at E.runs i in (
          start_of r,
          steps_of T r,
          subst (TraceTo m (start_of r) (steps_of T r)) (sym (old-at i l)) (trace-to T m agrees r (E.good.valid i l)),
          λ t ys W b. not_earlier i j h k l (on_by (starts_at t) ys) (to-valid T m agrees t ys _ W) (to-final T m agrees t ys _ W) (run-before T t ys r b),
        )

    broken : Broken m a
    broken =
        let r = E.last in
        let v = E.first.valid in
        let l = trace-to T m agrees r v in
        record {
          some = omega (arith, met-is, long);
          breaking =
              ap (breaks m) (last-at (a.position.met - 1) last-is)
              ∙ sym (agrees.breaks (final T r) (subst (λ (n : ℕ). final T r < n) (C.sized text m says) (final-below T law r v)))
              ∙ E.first.breaking;
          start = start_of r;
          steps = steps_of T r;
          leads = subst (TraceTo m (start_of r) (steps_of T r)) (sym (last-at (a.position.met - 1) last-is)) l;
          first_of_all = first_break T m agrees (all_regular text m says) r E.first;
          exactly = λ t k. (met_led t, λ (s, xs, W, n). led_met t s xs W (not_after m T r (final T r) l s xs t W n));
        }

  in_order : (o : Progress) → stand.went ≡ o → (i j : ℕ) → i < j → j < a.position.met → Ordered i j
  in_order (broke y) e = ordered-broken y e
  in_order (through y) e = ordered y e

  pub means : PauseMeans m a
  means =
      record {
        room = S.room;
        few_expanded = omega (arith, expanded-is, met-is, expanded-met T h);
        few_met = subst (λ (n : ℕ). a.position.met ≤ n) (C.sized text m says) (omega (arith, met-is, met-few T law h));
        tried = λ b. let (y, e) = went-through stand.went refl b in tried y e;
        reached = reached_by;
        exactly = λ b. let (y, e) = went-through stand.went refl b in exactly y e;
        ordered = in_order stand.went refl;
        unbroken = λ b. let (y, e) = went-through stand.went refl b in unbroken y e;
        broken = λ b. let (y, e) = went-broke stand.went refl b in broken y e;
      }

pub pauses_tell : PausesTell
pauses_tell text m says a U = let (h, S) = unaltered-at text m says a U in means text m says h a S
