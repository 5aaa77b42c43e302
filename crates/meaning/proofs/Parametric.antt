-- One row stands for all: what a passing sheet says of one row it says of every table from one row up.
-- Assumes nothing.
use mathlib.Core.Path.{◌≡◌, refl, sym, ap, ◌∙◌, subst}
use mathlib.Core.Logic.{◌⊎◌, inl, inr, ⊎_elim}
use mathlib.Core.Bool.{Bool, true, false}
use mathlib.Core.List.{List, [], ◌∷◌, map}
use Prim.Native.Nat.{ℕ, ◌<◌}
use lib.ListN.{length}
use Rattle.notation.specs.Model.{Model, stars}
use Rattle.notation.specs.Regular.{NumberedFrom, Regular}
use Rattle.notation.proofs.Regular.{all_regular}
use Rattle.meaning.specs.Meaning.{Row, State, Choice, Move, step, idle, command_at, Fits, Breaks, AreSteps, IsRun, last, Safe, Unsafe, CanStart}
use Rattle.meaning.specs.OneRow.{One, the_row, state_number, state_count, spread, spread_word, starts, next, TraceStep, spread_step}
use Rattle.meaning.specs.Evidence.{Verdict, safe_by, void_by, unsafe_by, kind_of, in_map, MapPasses, TracePasses, TraceHolds, IsVoid, Passes, Holds, Claim}
use Rattle.meaning.specs.Rows.{Projection, MapsHold, TracesHold, OneKind, Together, VoidEverywhere, StartsEverywhere, SafeOrVoid}
use Rattle.meaning.specs.working.Conditions.{test_void}
use Rattle.meaning.proofs.View.{view, view_choice, view_move, view-step, view-start, view-run, view-last, seen-from}
use Rattle.meaning.proofs.Number.{one-is, state_number_lt, spread-state_number}
use Rattle.meaning.proofs.Words.{word_of, word_of_lt, step-word}
use Rattle.meaning.proofs.Lists.{every-at}
use Rattle.meaning.proofs.Fits.{step_fits_lem}
use Rattle.meaning.proofs.Accept.{tells-void, can_start}

-- 1. A step seen in row i is the one-row step of the state seen there, under the choice word of the choices seen there.
numbered-at : {m : Model} → Regular m → (k : ℕ) → k < length m.commands → NumberedFrom 0 (stars (command_at m k))
numbered-at {m} g k lt = every-at _ m.commands idle k g.numbered lt

pub projection : Projection
projection m g k lt n i c = (
  word_of (command_at m k) (view_choice (λ (o : One). i) c),
  word_of_lt (command_at m k) (view_choice (λ (o : One). i) c),
  λ s. view-step (λ (o : One). i) (command_at m k) c s
      ∙ step-word (command_at m k) (numbered-at g k lt) (view_choice (λ (o : One). i) c) (view (λ (o : One). i) s),
)

-- 2. Where a map passes, one row is safe: every state that a run reaches has its number in the map.
module _ (m : Model) (g : Regular m) (bytes : List ℕ) (p : MapPasses m bytes) where
  member-step : (s : State One) (k : ℕ) (c : Choice One) → Fits m s → k < length m.commands → in_map bytes (state_number s) ≡ true
      → in_map bytes (state_number (step (command_at m k) c s)) ≡ true
  unfolding next
  member-step s k c h lt e =
      let q = p.closed (state_number s) k (word_of (command_at m k) c) (state_number_lt m s h) lt (word_of_lt (command_at m k) c) e in
      rw (step-word (command_at m k) (numbered-at g k lt) c s)
      (rw (spread-state_number m s h) at q)

  reached-from : (s : State One) (xs : List (Move One)) → Fits m s → in_map bytes (state_number s) ≡ true → AreSteps m s xs
      → Fits m (last s xs) × (in_map bytes (state_number (last s xs)) ≡ true)
  reached-from s [] h e q = (h, e)
  reached-from s (x ∷ xs) h e q =
      reached-from x.after xs
      (rw q.1 (step_fits_lem m x.choice (command_at m x.command) s h))
      (rw q.1 (member-step s x.command x.choice h q.0 e))
      q.2

  pub reached : (s : State One) (xs : List (Move One)) → IsRun m s xs → Fits m (last s xs) × (in_map bytes (state_number (last s xs)) ≡ true)
  reached s xs r =
      let f = r.start.fits in
      reached-from s xs f
      (p.starts (state_number s) (state_number_lt m s f) (rw (spread-state_number m s f) r.start))
      r.steps

  one-safe : Safe m One
  one-safe s xs r b =
      let (h, e) = reached s xs r in
      p.keeps (state_number (last s xs)) (state_number_lt m (last s xs) h) e
      (rw (spread-state_number m (last s xs) h) b)

-- A break in one table is a break in every other, if neither is empty: every row of the other does what the breaking row does.
unsafe_elsewhere : {I J : Type 0} (m : Model) → I → J → Unsafe m I → Unsafe m J
unsafe_elsewhere {I} {J} m o j (s, xs, r, b) =
    let e = seen-from m (last s xs) o b in
    let f : J → I = λ x. e.0 in
    (view f s, map (view_move f) xs, view-run f m s xs r, rw (view-last f s xs) (e.1 J j))

pub together : Together
together m n₁ n₂ h₁ h₂ u = unsafe_elsewhere m (0, h₁) (0, h₂) u

pub maps_hold : MapsHold
maps_hold m g bytes p n h s xs r b =
    let u = unsafe_elsewhere m (0, h) the_row (s, xs, r, b) in
    one-safe m g bytes p u.0 u.1 u.2 u.3

-- 3. A passing trace: its run, with its row and its choices copied, is a run of every table from one row up, to a breaking state.
trace-one : {m : Model} {s : ℕ} {xs : List TraceStep} → TracePasses m s xs → TraceHolds m One s xs
trace-one p = record { run = record { start = p.starts; steps = p.steps }; breaks = p.breaks }

copied_steps : (m : Model) (I : Type 0) (xs : List TraceStep) → map (view_move (λ (i : I). the_row)) (map (spread_step m One) xs) ≡ map (spread_step m I) xs
unfolding spread_step spread spread_word
copied_steps m I [] = refl
copied_steps m I (x ∷ xs) = ap {B = List (Move I)} (λ r. spread_step m I x ∷ r) (copied_steps m I xs)

copied_break : (m : Model) (I : Type 0) → I → (s : State One) → Breaks m s → Breaks m (view (λ (i : I). the_row) s)
copied_break m I o s (inl h) = inl h
copied_break m I o s (inr h) = inr (o, rw (← (one-is h.0)) h.1)

trace-holds : (m : Model) (s : ℕ) (xs : List TraceStep) → TraceHolds m One s xs → (I : Type 0) → I → TraceHolds m I s xs
unfolding spread
trace-holds m s xs p I o =
    let f : I → One = λ i. the_row in
    let q = view-run f m (spread m One s) (map (spread_step m One) xs) p.run in
    let b = copied_break m I o (last (spread m One s) (map (spread_step m One) xs)) p.breaks in
    record {
      run = rw (copied_steps m I xs) at q;
      breaks = subst (λ (ys : List (Move I)). Breaks m (last (spread m I s) ys)) (copied_steps m I xs)
          (subst (Breaks m) (sym (view-last f (spread m One s) (map (spread_step m One) xs))) b);
    }

pub traces_hold : TracesHold
traces_hold m s xs p n h = trace-holds m s xs (trace-one p) (Row n) (0, h)

-- 4. No model has both a passing map and a passing trace.
pub one-kind : OneKind
one-kind m g bytes s xs p q = let t = trace-one q in one-safe m g bytes p (spread m One s) (map (spread_step m One) xs) t.run t.breaks

-- 5. Tables of all sizes can start, or none can: every row of one does what a row of the other does.
start-elsewhere : {I J : Type 0} (m : Model) → I → CanStart m I → CanStart m J
start-elsewhere {I} {J} m o (s, h) = let f : J → I = λ x. o in (view f s, view-start f m s h)

start-together : (m : Model) (n₁ n₂ : ℕ) → 0 < n₁ → CanStart m (Row n₁) → CanStart m (Row n₂)
start-together m n₁ n₂ h c = start-elsewhere m (0, h) c

pub void_everywhere : VoidEverywhere
void_everywhere m v n h c = v (start-together m n 1 h c)

-- One row has a start state or none: there are finitely many states to look at.
start-or-void : (m : Model) → CanStart m One ⊎ IsVoid m
start-or-void m = go (test_void (state_count m) (starts m)) refl
  where
    go : (b : Bool) → test_void (state_count m) (starts m) ≡ b → CanStart m One ⊎ IsVoid m
    go true e = inr ((tells-void m).0 e)
    go false e = inl (can_start m e)

pub starts_everywhere : StartsEverywhere
starts_everywhere m h n l = ⊎_elim (λ c. start-elsewhere m the_row c) (λ v. absurd (h v)) (start-or-void m)

pub safe-or-void : SafeOrVoid
safe-or-void m map p = ⊎_elim (λ c. inl (p, c)) (λ v. inr (p, v)) (start-or-void m)

-- 6. The claim.
holds : (m : Model) → Regular m → (x : Verdict) → Passes m x → (n : ℕ) → 0 < n → Holds m (Row n) x
holds m g (safe_by map) p n h = (start-elsewhere m the_row p.1, maps_hold m g map p.0 n h)
holds m g (void_by map) p n h = (void_everywhere m p.1 n h, maps_hold m g map p.0 n h)
holds m g (unsafe_by s xs) p n h = traces_hold m s xs p n h

same_kind_lem : (m : Model) → Regular m → (x y : Verdict) → Passes m x → Passes m y → kind_of y ≡ kind_of x
same_kind_lem m g (safe_by a) (safe_by b) p q = refl
same_kind_lem m g (safe_by a) (void_by b) p q = absurd (q.1 p.1)
same_kind_lem m g (safe_by a) (unsafe_by s xs) p q = absurd (one-kind m g a s xs p.0 q)
same_kind_lem m g (void_by a) (safe_by b) p q = absurd (p.1 q.1)
same_kind_lem m g (void_by a) (void_by b) p q = refl
same_kind_lem m g (void_by a) (unsafe_by s xs) p q = absurd (one-kind m g a s xs p.0 q)
same_kind_lem m g (unsafe_by s xs) (safe_by a) p q = absurd (one-kind m g a s xs q.0 p)
same_kind_lem m g (unsafe_by s xs) (void_by a) p q = absurd (one-kind m g a s xs q.0 p)
same_kind_lem m g (unsafe_by s xs) (unsafe_by t ys) p q = refl

pub claim : Claim
claim text m says x p n₁ n₂ h₁ h₂ =
    let g = all_regular text m says in
    record {
      here = holds m g x p n₁ h₁;
      there = holds m g x p n₂ h₂;
      alike = (together m n₁ n₂ h₁ h₂, together m n₂ n₁ h₂ h₁);
      start_alike = (start-together m n₁ n₂ h₁, start-together m n₂ n₁ h₂);
      agree = λ y q. same_kind_lem m g x y p q;
    }
