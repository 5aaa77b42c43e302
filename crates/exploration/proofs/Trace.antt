-- Walking back along the recorded run, and writing its bytes from the last step to the first.
-- Assumes nothing.
use Prim.Native.Nat.{ℕ, suc, ◌+◌, ◌-◌, ◌*◌, ◌<◌, ◌≤◌}
use mathlib.Core.Path.{◌≡◌, refl, sym, ap, ◌∙◌, subst}
use mathlib.Core.Logic.{◌⊎◌, inl, inr, ⊎_elim}
use mathlib.Core.List.{List, [], ◌∷◌, ◌++◌, append-nil}
use native.Mathlib.Omega.{arith}
use lib.ListN.{length, get_or, set, take}
use lib.Seq.{sets, length-sets, set_comm, get_or-take}
use Rattle.sheets.specs.Sheets.{start_bytes, step_bytes, steps_bytes}
use Rattle.exploration.specs.working.Transitions.{Transitions, Lawful, Move, moves}
use Rattle.exploration.specs.working.Runs.{Run, starts_at, goes_on, final, MoveOf, Valid, steps, first_move, move_to, run_to, Traced, step_of, steps_of}
use Rattle.exploration.specs.working.Written.{run_bytes, RecordedTo}
use Rattle.exploration.proofs.First.{run-to, final-below}
use Rattle.exploration.proofs.TraceSteps.{run_snoc, run_length}
use Rattle.exploration.proofs.Order.{moves-has}
use Rattle.exploration.proofs.Recorded.{finds}
use Rattle.std.specs.Prelude.{IsSome}

-- Stores that don't meet.

set-sets : (l : List ℕ) (i v j : ℕ) (b : List ℕ) → i < j → set (sets l j b) i v ≡ sets (set l i v) j b
set-sets l i v j [] h = refl
set-sets l i v j (x ∷ b) h = set-sets (set l j x) i v (suc j) b (omega arith) ∙ ap (λ (u : List ℕ). sets u (suc j) b) (set_comm l j i x v (omega arith))

sets_swap : (l : List ℕ) (i : ℕ) (a b : List ℕ) (j : ℕ) → j ≡ i + length a → sets (sets l j b) i a ≡ sets l i (a ++ b)
sets_swap l i [] b j e = let f : j ≡ i = omega arith in rw f
sets_swap l i (v ∷ a) b j e = ap (λ (u : List ℕ). sets u (suc i) a) (set-sets l i v j b (omega arith)) ∙ sets_swap (set l i v) (suc i) a b j (omega arith)

-- The recorded run is the one that is walked back.
run_is : (M : Transitions) (p : List ℕ) (t : ℕ) (R : RecordedTo M p t) → run_to M p M.size t ≡ R.run
run_is M p t R = ap (run_to M p M.size) (sym R.ends) ∙ run-to M p R.run R.traced M.size (omega (arith, R.short))

pub recorded-short : (M : Transitions) (p : List ℕ) (t : ℕ) → RecordedTo M p t → steps (run_to M p M.size t) < M.size
recorded-short M p t R = rw (run_is M p t R) R.short

module _ (M : Transitions) (law : Lawful M) (P : List ℕ) where
  abbrev Here : ℕ → Type 0
  Here s = RecordedTo M (take M.size P) s

  module _ {s : ℕ} (R : Here s) where
    pub recorded-below : s < M.size
    recorded-below = rw R.ends at (final-below M law R.run R.valid)

    -- One step back: the run to the state before, and the move from there.
    record Back : Type 0 where
      before : Here (get_or P s 0 - 1)
      move : Move
      whole : R.run ≡ goes_on before.run move
      moved : MoveOf M move
      first : first_move M (get_or P s 0 - 1) s (moves M) ≡ move
      other : get_or P s 0 - 1 ≡ s → ⊥
      some : 1 ≤ get_or P s 0

    -- The run is at its start, or comes from somewhere.
    back : ((R.run ≡ starts_at s) × (get_or P s 0 ≡ s + 1)) ⊎ Back
    back = go R.run refl R.valid R.traced R.ends
      where
        parent : (n : ℕ) → get_or (take M.size P) s 0 ≡ n → get_or P s 0 ≡ n
        parent n e = sym (get_or-take M.size P s 0 recorded-below) ∙ e

        go : (r : Run) → R.run ≡ r → Valid M r → Traced M (take M.size P) r → final M r ≡ s → ((R.run ≡ starts_at s) × (get_or P s 0 ≡ s + 1)) ⊎ Back
        go (starts_at u) e v h f = inl (e ∙ ap starts_at f, parent (s + 1) (subst (λ (n : ℕ). get_or (take M.size P) n 0 ≡ n + 1) f h))
        go (goes_on y k) e v h f =
            let g : get_or P s 0 ≡ final M y + 1 = parent _ (subst (λ (n : ℕ). get_or (take M.size P) n 0 ≡ final M y + 1) f h.1) in
            let b : get_or P s 0 - 1 ≡ final M y = omega arith in
            inr (
            record {
              before = record { run = y; valid = v.0; traced = h.0; ends = sym b; short = omega (arith, R.short, ap steps e) };
              move = k;
              whole = e;
              moved = v.1;
              first = ap (λ (n : ℕ). first_move M n s (moves M)) b ∙ ap (λ (n : ℕ). first_move M (final M y) n (moves M)) (sym f) ∙ h.3;
              other = λ c. h.2 (sym b ∙ c ∙ sym f);
              some = omega arith;
            }
            )

    pub recorded-one : 1 ≤ get_or P s 0
    recorded-one = ⊎_elim (λ h. omega (arith, h.1)) (λ b. b.some) back

  -- The place s on the recorded run to t, n steps back.
  pub record Walking (t n s : ℕ) : Type 0 where
    pub here : Here s
    pub counted : n + steps here.run ≡ steps (run_to M (take M.size P) M.size t)
    pub short : n + steps here.run < M.size

  pub walking_start : (t : ℕ) → Here t → Walking t 0 t
  walking_start t R = record { here = R; counted = omega (arith, ap steps (run_is M (take M.size P) t R)); short = omega (arith, R.short) }

  module _ (t n s : ℕ) (W : Walking t n s) where
    pub walking_end : get_or P s 0 - 1 ≡ s → n ≡ steps (run_to M (take M.size P) M.size t)
    walking_end e = ⊎_elim (λ h. omega (arith, ap steps h.0, W.counted)) (λ b. absurd (b.other e)) (back W.here)

    pub walking_next : (get_or P s 0 - 1 ≡ s → ⊥) → Walking t (n + 1) (get_or P s 0 - 1)
    walking_next e =
        ⊎_elim
        (λ h. absurd (e (omega (arith, h.1))))
        (λ b.
        record {
          here = b.before;
          counted = omega (arith, ap steps b.whole, W.counted);
          short = omega (arith, ap steps b.whole, W.short);
        })
        (back W.here)

  -- The run to s is left to write, i steps long, from `at` on, before what out holds already.
  pub record Writing (t at : ℕ) (out₀ out : List ℕ) (i s : ℕ) : Type 0 where
    pub here : Here s
    pub left : steps here.run ≡ i
    pub short : i < M.size
    pub same : sets out at (run_bytes M here.run) ≡ sets out₀ at (run_bytes M (run_to M (take M.size P) M.size t))
    pub kept : length out ≡ length out₀
    pub room : at + 8 + 10 * i ≤ length out

  pub writing_start : (t at : ℕ) (out : List ℕ) (n : ℕ) → Here t → n ≡ steps (run_to M (take M.size P) M.size t) → at + 8 + 10 * n ≤ length out
      → Writing t at out out n t
  writing_start t at out n R e h =
      let f = run_is M (take M.size P) t R in
      let g : n ≡ steps R.run = e ∙ ap steps f in
      record { here = R; left = sym g; short = omega (arith, R.short); same = ap (λ (r : Run). sets out at (run_bytes M r)) (sym f); kept = refl; room = h }

  module _ (t at : ℕ) (out₀ out : List ℕ) (i s : ℕ) (W : Writing t at out₀ out i s) where
    step_back : 0 < i → Back W.here
    step_back h = ⊎_elim (λ k. absurd (omega (arith, ap steps k.0, W.left))) (λ b. b) (back W.here)

    -- The state before it is a state.
    pub writing_parent : 0 < i → get_or P s 0 - 1 < M.size
    writing_parent h = recorded-below (step_back h).before

    -- A move from there leads to it.
    pub writing_some : 0 < i → IsSome (move_to M (get_or P s 0 - 1) s (moves M))
    writing_some h =
        let b = step_back h in
        let m = b.move in
        let e : M.step (get_or P s 0 - 1) m.command m.word ≡ s =
        ap (λ (u : ℕ). M.step u m.command m.word) (sym b.before.ends) ∙ ap (final M) (sym b.whole) ∙ W.here.ends in
        finds M (get_or P s 0 - 1) s (moves M) m (moves-has M 0 M.commands m (omega arith) (omega (arith, b.moved.0)) b.moved.1) e

    pub record Turn (m : Move) : Type 0 where
      pub move : MoveOf M m
      pub next : Writing t at out₀ (sets out (at + 8 + 10 * (i - 1)) (step_bytes (step_of m s))) (i - 1) (get_or P s 0 - 1)

    -- The record of the last step left goes to its place.
    pub writing_next : 0 < i → (m : Move) → m ≡ first_move M (get_or P s 0 - 1) s (moves M) → Turn m
    writing_next h m e =
        let b = step_back h in
        let y = b.before.run in
        let d : b.move ≡ m = sym (e ∙ b.first) in
        let w : W.here.run ≡ goes_on y m = b.whole ∙ ap (goes_on y) d in
        let f : final M (goes_on y m) ≡ s = ap (final M) (sym w) ∙ W.here.ends in
        let place = at + 8 + 10 * (i - 1) in
        let l : steps y ≡ i - 1 = omega (arith, ap steps w, W.left) in
        record {
          move = subst (MoveOf M) d b.moved;
          next =
              record {
                here = b.before;
                left = l;
                short = omega (arith, W.short);
                same = sets_swap out at (run_bytes M y) (step_bytes (step_of m s)) place (omega (arith, run_length M y))
                    ∙ ap (λ (n : ℕ). sets out at (run_bytes M y ++ step_bytes (step_of m n))) (sym f)
                    ∙ ap (sets out at) (sym (run_snoc M y m))
                    ∙ ap (λ (r : Run). sets out at (run_bytes M r)) (sym w)
                    ∙ W.same;
                kept = length-sets out place (step_bytes (step_of m s)) ∙ W.kept;
                room = omega (arith, W.room, length-sets out place (step_bytes (step_of m s)));
              };
        }

    pub writing_end : i ≤ 0 → sets out at (start_bytes s) ≡ sets out₀ at (run_bytes M (run_to M (take M.size P) M.size t))
    unfolding run_bytes steps_of steps_bytes
    writing_end h =
        ⊎_elim
        (λ k. ap (sets out at) (sym (append-nil (start_bytes s))) ∙ ap (λ (r : Run). sets out at (run_bytes M r)) (sym k.0) ∙ W.same)
        (λ b. absurd (omega (arith, ap steps b.whole, W.left)))
        (back W.here)
