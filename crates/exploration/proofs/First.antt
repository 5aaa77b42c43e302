-- The search meets states in the order of their first runs, and stops at the first breaking run.
-- Assumes nothing.
use Prim.Native.Nat.{ℕ, suc, zero, ◌+◌, ◌-◌, ◌<◌, ◌≤◌}
use mathlib.Core.Path.{◌≡◌, refl, sym, ap, ◌∙◌, subst}
use mathlib.Core.Logic.{◌⊎◌, inl, inr, ⊎_elim}
use mathlib.Core.Bool.{Bool, true, false, cond, false≢true}
use mathlib.Core.List.Memᴰ
use mathlib.Core.List.{List, [], ◌∷◌, ◌++◌, map, map-append, append_assoc, append-nil, Memᴰ}
use native.Mathlib.Omega.{arith}
use native.Mathlib.Decide.{ℕ_discrete}
use lib.ListN.{length, get_or, set, replicate, length-append, length-set, length-map, length-replicate, get_or-replicate, get_or-append, get_or-map}
use lib.Seq.{get_or-append_seam, get_or-set_same, get_or-set_other}
use lib.Dec.{eqb, ltb}
use borrow.Author.Tests.{eq-eqb, ne_eqb, eqb-true, eqb-false, ltb-true, ltb-false}
use Rattle.exploration.specs.working.Transitions.{Transitions, Lawful, Move, moves}
use Rattle.exploration.specs.working.Exploring.{Seen, Progress, broke, through, and_then, progress, push, meet, try_moves, explore, take_in, search}
use Rattle.exploration.specs.working.Runs.{Run, starts_at, goes_on, final, Valid, Before, First, steps, first_move, run_to, Traced}
use Rattle.exploration.specs.working.Tables.{marked}
use Rattle.exploration.proofs.Laws.{marked-set, marked_le, marked_lt, marked_none}
use Rattle.exploration.proofs.Order.{lt_or_ge, before_trans, before_irrefl, before_then, AtMost, at-most_trans, at-most-before, at-most_then, Ascending, moves-ascending, ascending_left, ascending-found, moves_mem, moves-has}

pub final-below : (M : Transitions) → Lawful M → (r : Run) → Valid M r → final M r < M.size
final-below M law (starts_at s) v = v.0
final-below M law (goes_on r m) v = law.step-below (final M r) m.command m.word (final-below M law r v.0) v.1.0 v.1.1

-- Lists of runs by place.

abbrev pub at : List Run → ℕ → Run
at ρ i = get_or ρ i (starts_at 0)

pub length_snoc : (ρ : List Run) (z : Run) → length (ρ ++ z ∷ []) ≡ suc (length ρ)
length_snoc ρ z = omega (arith, length-append ρ (z ∷ []))

pub at_old : (ρ : List Run) (z : Run) (i : ℕ) → i < length ρ → at (ρ ++ z ∷ []) i ≡ at ρ i
at_old ρ z i h = get_or-append ρ (z ∷ []) (starts_at 0) i h

pub at_new : (ρ : List Run) (z : Run) (i : ℕ) → i ≡ length ρ → at (ρ ++ z ∷ []) i ≡ z
at_new ρ z i e = rw e (get_or-append_seam ρ z [] (starts_at 0))

snoc_all : (P : Run → Type 0) (ρ : List Run) (z : Run) → ((i : ℕ) → i < length ρ → P (at ρ i)) → P z → (i : ℕ) → i < length (ρ ++ z ∷ []) → P (at (ρ ++ z ∷ []) i)
snoc_all P ρ z old new i h =
    ⊎_elim
    (λ k. subst P (sym (at_old ρ z i k)) (old i k))
    (λ k. subst P (sym (at_new ρ z i (omega (arith, length_snoc ρ z)))) new)
    (lt_or_ge i (length ρ))

-- The table of parents records a run.

pub traced-met : (M : Transitions) (p : List ℕ) (z : Run) → Traced M p z → get_or p (final M z) 0 ≡ 0 → ⊥
traced-met M p (starts_at s) t e = omega arith
traced-met M p (goes_on y m) t e = omega (arith, t.1)

traced-set : (M : Transitions) (p : List ℕ) (t v : ℕ) → get_or p t 0 ≡ 0 → (z : Run) → Traced M p z → Traced M (set p t v) z
traced-set M p t v new (starts_at s) h = get_or-set_other p t s v 0 (λ e. traced-met M p (starts_at s) h (ap (λ (u : ℕ). get_or p u 0) e ∙ new)) ∙ h
traced-set M p t v new (goes_on y m) h = (
  traced-set M p t v new y h.0,
  get_or-set_other p t (final M (goes_on y m)) v 0 (λ e. traced-met M p (goes_on y m) h (ap (λ (u : ℕ). get_or p u 0) e ∙ new)) ∙ h.1,
  h.2,
  h.3,
)

first-move : (M : Transitions) (s t : ℕ) (a : List Move) (m : Move) (b : List Move) → ((l : Move) → Memᴰ l a → M.step s l.command l.word ≡ t → ⊥)
    → M.step s m.command m.word ≡ t → first_move M s t (a ++ m ∷ b) ≡ m
unfolding first_move
first-move M s t [] m b n e = rw (eq-eqb (M.step s m.command m.word) t e)
first-move M s t (l ∷ a) m b n e = rw (ne_eqb (M.step s l.command l.word) t (n l (Memᴰ.head refl))) (first-move M s t a m b (λ k h. n k (Memᴰ.tail h)) e)

-- The run that is read off is the run recorded.
pub run-to : (M : Transitions) (p : List ℕ) (z : Run) → Traced M p z → (n : ℕ) → steps z ≤ n → run_to M p n (final M z) ≡ z
unfolding run_to
run-to M p (starts_at s) h zero l = refl
run-to M p (starts_at s) h (suc n) l = rw (eq-eqb (get_or p s 0) (s + 1) h)
run-to M p (goes_on y m) h zero l = absurd (omega arith)
run-to M p (goes_on y m) h (suc n) l =
    let e : get_or p (final M (goes_on y m)) 0 - 1 ≡ final M y = omega (arith, h.1) in
    rw (ne_eqb (get_or p (final M (goes_on y m)) 0) (final M (goes_on y m) + 1) (λ k. h.2 (omega (arith, h.1))), e, h.3, run-to M p y h.0 n (omega arith))

-- What is met.

pub record Good (M : Transitions) (ρ : List Run) (x : Seen) : Type 0 where
  pub queue-is : x.queue ≡ map (final M) ρ
  pub sized : length x.parent ≡ M.size
  pub counted : length ρ ≡ marked x.parent
  pub valid : (i : ℕ) → i < length ρ → Valid M (at ρ i)
  pub traced : (i : ℕ) → i < length ρ → Traced M x.parent (at ρ i)
  pub short : (i : ℕ) → i < length ρ → steps (at ρ i) ≤ i
  pub reached : (i : ℕ) → i < length ρ → M.breaks (final M (at ρ i)) ≡ false
  pub sorted : (i j : ℕ) → i < j → j < length ρ → Before (at ρ i) (at ρ j)
  pub met : (t : ℕ) → t < M.size → (get_or x.parent t 0 ≡ 0 → ⊥) → (i : ℕ) × (i < length ρ) × (final M (at ρ i) ≡ t)

-- A state is met by a run at most y.
abbrev pub Covered : Transitions → List Run → Run → Type 0
Covered M ρ y = (j : ℕ) × (j < length ρ) × (final M (at ρ j) ≡ final M y) × AtMost (at ρ j) y

-- A run made by a move that was tried: from a place before `head`, or from `head` by one of `done`.
abbrev pub Upto : List Run → ℕ → List Move → Run → Type 0
Upto ρ head done (starts_at s) = Unit {0}
Upto ρ head done (goes_on y m) = (k : ℕ) × (y ≡ at ρ k) × ((k < head) ⊎ ((k ≡ head) × Memᴰ m done))

pub record Frontier (M : Transitions) (ρ : List Run) (head : ℕ) (done : List Move) : Type 0 where
  pub upto : (i : ℕ) → i < length ρ → Upto ρ head done (at ρ i)
  pub starts : (s : ℕ) → Valid M (starts_at s) → Covered M ρ (starts_at s)
  pub past : (i : ℕ) → i < head → (m : Move) → Memᴰ m (moves M) → Covered M ρ (goes_on (at ρ i) m)
  pub now : (m : Move) → Memᴰ m done → Covered M ρ (goes_on (at ρ head) m)

-- A run goes to the end.

queue-more : (M : Transitions) (ρ : List Run) (z : Run) (x : Seen) → x.queue ≡ map (final M) ρ → x.queue ++ (final M z ∷ []) ≡ map (final M) (ρ ++ z ∷ [])
queue-more M ρ z x e = ap (λ (l : List ℕ). l ++ (final M z ∷ [])) e ∙ sym (map-append (final M) ρ (z ∷ []))

module _ (M : Transitions) (ρ : List Run) (z : Run) where
  covered_more : (y : Run) → Covered M ρ y → Covered M (ρ ++ z ∷ []) y
  covered_more y c = (c.0, omega (arith, length_snoc ρ z, c.1), rw (at_old ρ z c.0 c.1) c.2, rw (at_old ρ z c.0 c.1) c.3)

  covered_new : Covered M (ρ ++ z ∷ []) z
  covered_new = (length ρ, omega (arith, length_snoc ρ z), ap (final M) (at_new ρ z (length ρ) refl), inr (at_new ρ z (length ρ) refl))

  upto_more : (head : ℕ) (done : List Move) → head < length ρ → (y : Run) → Upto ρ head done y → Upto (ρ ++ z ∷ []) head done y
  upto_more head done h (starts_at s) u = tt
  upto_more head done h (goes_on y m) u = (u.0, u.1 ∙ sym (at_old ρ z u.0 (⊎_elim (λ k. omega arith) (λ k. omega arith) u.2)), u.2)

  module _ (x : Seen) (s : ℕ) (G : Good M ρ x) where
    sorted_more : ((i : ℕ) → i < length ρ → Before (at ρ i) z) → (i j : ℕ) → i < j → j < length (ρ ++ z ∷ []) → Before (at (ρ ++ z ∷ []) i) (at (ρ ++ z ∷ []) j)
    sorted_more l i j h k =
        ⊎_elim
        (λ (o : j < length ρ). rw (at_old ρ z i (omega arith), at_old ρ z j o) (G.sorted i j h o))
        (λ (o : length ρ ≤ j). let e : j ≡ length ρ = omega (arith, length_snoc ρ z) in rw (at_old ρ z i (omega arith), at_new ρ z j e) (l i (omega arith)))
        (lt_or_ge j (length ρ))

    short-more : steps z ≤ length ρ → (i : ℕ) → i < length (ρ ++ z ∷ []) → steps (at (ρ ++ z ∷ []) i) ≤ i
    short-more st i h =
        ⊎_elim
        (λ (o : i < length ρ). rw (at_old ρ z i o) (G.short i o))
        (λ (o : length ρ ≤ i). rw (at_new ρ z i (omega (arith, length_snoc ρ z))) (omega arith))
        (lt_or_ge i (length ρ))

    met-more : (t : ℕ) → t < M.size → (get_or (push x s (final M z)).parent t 0 ≡ 0 → ⊥) → (i : ℕ) × (i < length (ρ ++ z ∷ [])) × (final M (at (ρ ++ z ∷ []) i) ≡ t)
    met-more t h nz =
        elim (ℕ_discrete t (final M z)) [
          | yes e ↦ (length ρ, omega (arith, length_snoc ρ z), ap (final M) (at_new ρ z (length ρ) refl) ∙ sym e)
          | no ne ↦
              let g = G.met t h (λ e. nz (get_or-set_other x.parent (final M z) t (s + 1) 0 ne ∙ e)) in
              (g.0, omega (arith, length_snoc ρ z, g.1), ap (final M) (at_old ρ z g.0 g.1) ∙ g.2)
        ]

    good_more : Valid M z → final M z < M.size → get_or x.parent (final M z) 0 ≡ 0 → M.breaks (final M z) ≡ false
        → ((i : ℕ) → i < length ρ → Before (at ρ i) z) → Traced M (push x s (final M z)).parent z → steps z ≤ length ρ
        → Good M (ρ ++ z ∷ []) (push x s (final M z))
    good_more v b new k l tr st =
        record {
          queue-is = queue-more M ρ z x G.queue-is;
          sized = length-set x.parent (final M z) (s + 1) ∙ G.sized;
          counted = length_snoc ρ z ∙ ap suc G.counted ∙ sym (marked-set x.parent (final M z) (s + 1) (rw G.sized b) new (omega arith));
          valid = snoc_all (Valid M) ρ z G.valid v;
          traced = snoc_all (Traced M (push x s (final M z)).parent) ρ z (λ i h. traced-set M x.parent (final M z) (s + 1) new (at ρ i) (G.traced i h)) tr;
          short = short-more st;
          reached = snoc_all (λ (y : Run). M.breaks (final M y) ≡ false) ρ z G.reached k;
          sorted = sorted_more l;
          met = met-more;
        }

-- While the moves of the state at `head` are tried, `done` of them so far.

pub record Going (M : Transitions) (head s : ℕ) (done : List Move) (x : Seen) : Type 0 where
  pub runs : List Run
  pub good : Good M runs x
  pub frontier : Frontier M runs head done
  pub within : head < length runs
  pub here : s ≡ final M (at runs head)

-- Where a break was found: the last of the queue's runs is the first breaking run; the others, which were seen before it was met, come before it, and every run before it ends in one of their states.
pub record Ended (M : Transitions) (x : Seen) : Type 0 where
  pub runs : List Run
  pub last : Run
  pub queue-is : x.queue ≡ map (final M) (runs ++ last ∷ [])
  pub traced : Traced M x.parent last
  pub short : steps last < M.size
  pub first : First M last
  pub before : Seen
  pub good : Good M runs before
  pub earlier : (i : ℕ) → i < length runs → Before (at runs i) last
  pub covered : (y : Run) → Valid M y → Before y last → Covered M runs y

abbrev pub Tries : Transitions → ℕ → ℕ → List Move → Progress → Type 0
Tries M head s done (broke x) = Ended M x
Tries M head s done (through x) = Going M head s done x

-- One move.

upto_done : (ρ : List Run) (head : ℕ) (done : List Move) (m : Move) (y : Run) → Upto ρ head done y → Upto ρ head (done ++ m ∷ []) y
upto_done ρ head done m (starts_at s) u = tt
upto_done ρ head done m (goes_on y l) u = (u.0, u.1, ⊎_elim (λ k. inl k) (λ k. inr (k.0, Memᴰ.append_left (m ∷ []) k.1)) u.2)

-- Places follow the order.
place-before : (M : Transitions) (ρ : List Run) (x : Seen) → Good M ρ x → (j head : ℕ) → j < length ρ → Before (at ρ j) (at ρ head) → j < head
place-before M ρ x G j head h b =
    ⊎_elim
    (λ (k : j < head). k)
    (λ (k : head ≤ j).
    absurd
    (⊎_elim
    (λ (l : head < j). before_irrefl (at ρ j) (before_trans (at ρ j) (at ρ head) (at ρ j) b (G.sorted head j l h)))
    (λ (l : j ≤ head). let e : j ≡ head = omega arith in before_irrefl (at ρ head) (rw e at b))
    (lt_or_ge head j)))
    (lt_or_ge j head)

-- A step from a covered run.
pub covered_step : (M : Transitions) (ρ : List Run) (r y : Run) (l : Move) → final M r ≡ final M y → AtMost r y → Covered M ρ (goes_on r l) → Covered M ρ (goes_on y l)
covered_step M ρ r y l e a c =
    (c.0, c.1, c.2 ∙ ap (λ (u : ℕ). M.step u l.command l.word) e, at-most_trans (at ρ c.0) (goes_on r l) (goes_on y l) c.3 (at-most_then r y l a))

module _ (M : Transitions) (law : Lawful M) (head s : ℕ) (done : List Move) (m : Move) (rest : List Move) (split : moves M ≡ done ++ m ∷ rest) (x : Seen) (W : Going M head s done x) where
  abbrev ρ : List Run
  ρ = W.runs

  abbrev r : Run
  r = at W.runs head

  abbrev z : Run
  z = goes_on (at W.runs head) m

  asc : Ascending (done ++ m ∷ rest)
  asc = rw split at (moves-ascending M 0 M.commands)

  z_valid : Valid M z
  z_valid = let i = moves_mem M 0 M.commands m (rw split (Memᴰ.append_right done (Memᴰ.head refl))) in (W.good.valid head W.within, (omega (arith, i.1), i.2))

  z_below : final M z < M.size
  z_below = final-below M law z z_valid

  earlier_run : (y : Run) → Upto ρ head done y → Before y z
  earlier_run (starts_at t) u = tt
  earlier_run (goes_on y l) u =
      ⊎_elim
      (λ k. inl (rw u.1 (W.good.sorted u.0 head k W.within)))
      (λ k. inr (u.1 ∙ ap (at ρ) k.0, ascending_left done m rest asc l k.1))
      u.2

  -- Every run met so far is before z.
  earlier : (i : ℕ) → i < length ρ → Before (at ρ i) z
  earlier i h = earlier_run (at ρ i) (W.frontier.upto i h)

  -- Every run before z ends in a state that is met.
  reach : (y : Run) → Valid M y → Before y z → Covered M ρ y
  reach (starts_at t) v b = W.frontier.starts t v
  reach (goes_on y l) v b =
      let c = reach y v.0 (before_trans y (goes_on y l) z (before_then y l) b) in
      let has = moves-has M 0 M.commands l (omega arith) (omega (arith, v.1.0)) v.1.1 in
      ⊎_elim
      (λ p.
      covered_step M ρ (at ρ c.0) y l c.2 c.3
      (W.frontier.past c.0 (place-before M ρ x W.good c.0 head c.1 (at-most-before (at ρ c.0) y r c.3 p)) l has))
      (λ p. covered_step M ρ r y l (ap (final M) (sym p.0)) (inr (sym p.0)) (W.frontier.now l (ascending-found done m rest asc l (rw split at has) p.1)))
      b

  done-cases : (P : Move → Type 0) → ((l : Move) → Memᴰ l done → P l) → P m → (l : Move) → Memᴰ l (done ++ m ∷ []) → P l
  done-cases P old new l h = ⊎_elim (λ k. old l k) (λ k. subst P (sym (Memᴰ.eq_of_singleton k)) new) (Memᴰ.append_cases done h)

  -- Z's state was met before.
  old-state : (get_or x.parent (final M z) 0 ≡ 0 → ⊥) → Going M head s (done ++ m ∷ []) x
  old-state o =
      let g = W.good.met (final M z) z_below o in
      record {
        runs = ρ;
        good = W.good;
        frontier =
            record {
              upto = λ i h. upto_done ρ head done m (at ρ i) (W.frontier.upto i h);
              starts = W.frontier.starts;
              past = W.frontier.past;
              now = done-cases (λ (l : Move). Covered M ρ (goes_on r l)) W.frontier.now (g.0, g.1, g.2, inl (earlier g.0 g.1));
            };
        within = W.within;
        here = W.here;
      }

  -- What the table of parents then says of z.
  z_traced : get_or x.parent (final M z) 0 ≡ 0 → Traced M (push x s (final M z)).parent z
  z_traced new = (
    traced-set M x.parent (final M z) (s + 1) new r (W.good.traced head W.within),
    get_or-set_same x.parent (final M z) (s + 1) 0 (rw W.good.sized z_below) ∙ ap (λ (u : ℕ). u + 1) W.here,
    (λ e. traced-met M x.parent r (W.good.traced head W.within) (ap (λ (u : ℕ). get_or x.parent u 0) e ∙ new)),
    rw split (first-move M (final M r) (final M z) done m rest
        (λ l h e. let c = W.frontier.now l h in traced-met M x.parent (at ρ c.0) (W.good.traced c.0 c.1) (ap (λ (u : ℕ). get_or x.parent u 0) (c.2 ∙ e) ∙ new))
        refl),
  )

  z_short : steps z ≤ length ρ
  z_short = omega (arith, W.good.short head W.within, W.within)

  z_room : get_or x.parent (final M z) 0 ≡ 0 → length ρ < M.size
  z_room new = omega (arith, W.good.counted, W.good.sized, marked_lt x.parent (final M z) (rw W.good.sized z_below) new)

  -- Z's state is new, and doesn't break.
  new_state : get_or x.parent (final M z) 0 ≡ 0 → M.breaks (final M z) ≡ false → Going M head s (done ++ m ∷ []) (push x s (final M z))
  new_state new k =
      record {
        runs = ρ ++ z ∷ [];
        good = good_more M ρ z x s W.good z_valid z_below new k earlier (z_traced new) z_short;
        frontier =
            record {
              upto =
                  snoc_all (Upto (ρ ++ z ∷ []) head (done ++ m ∷ [])) ρ z
                  (λ i h. upto_done (ρ ++ z ∷ []) head done m (at ρ i) (upto_more M ρ z head done W.within (at ρ i) (W.frontier.upto i h)))
                  (head, sym (at_old ρ z head W.within), inr (refl, Memᴰ.append_right done (Memᴰ.head refl)));
              starts = λ t v. covered_more M ρ z (starts_at t) (W.frontier.starts t v);
              past = λ i h l k. rw (at_old ρ z i (omega (arith, W.within))) (covered_more M ρ z (goes_on (at ρ i) l) (W.frontier.past i h l k));
              now =
                  done-cases (λ (l : Move). Covered M (ρ ++ z ∷ []) (goes_on (at (ρ ++ z ∷ []) head) l))
                  (λ l h. rw (at_old ρ z head W.within) (covered_more M ρ z (goes_on r l) (W.frontier.now l h)))
                  (rw (at_old ρ z head W.within) (covered_new M ρ z));
            };
        within = omega (arith, length_snoc ρ z, W.within);
        here = W.here ∙ ap (final M) (sym (at_old ρ z head W.within));
      }

  -- Z's state is new, and breaks: z is the first breaking run.
  break_state : get_or x.parent (final M z) 0 ≡ 0 → M.breaks (final M z) ≡ true → Ended M (push x s (final M z))
  break_state new k =
      record {
        runs = ρ;
        last = z;
        queue-is = queue-more M ρ z x W.good.queue-is;
        traced = z_traced new;
        short = omega (arith, z_short, z_room new);
        first =
            record {
              valid = z_valid;
              breaking = k;
              first = λ y v b. let c = reach y v b in ap M.breaks (sym c.2) ∙ W.good.reached c.0 c.1;
            };
        before = x;
        good = W.good;
        earlier = earlier;
        covered = reach;
      }

  try_new : get_or x.parent (final M z) 0 ≡ 0 → (b : Bool) → M.breaks (final M z) ≡ b → Tries M head s (done ++ m ∷ []) (progress b (push x s (final M z)))
  try_new new true k = break_state new k
  try_new new false k = new_state new k

  try_either : (b : Bool) → eqb (get_or x.parent (final M z) 0) 0 ≡ b → Tries M head s (done ++ m ∷ []) (cond b (progress (M.breaks (final M z)) (push x s (final M z))) (through x))
  try_either true e = try_new (eqb-true (get_or x.parent (final M z) 0) 0 e) (M.breaks (final M z)) refl
  try_either false e = old-state (eqb-false (get_or x.parent (final M z) 0) 0 e)

  try_move : Tries M head s (done ++ m ∷ []) (meet M s (M.step s m.command m.word) x)
  try_move = rw (ap (λ (u : ℕ). M.step u m.command m.word) W.here) (try_either (eqb (get_or x.parent (final M z) 0) 0) refl)

-- All moves.

tries_then : (M : Transitions) (head s : ℕ) (d e : List Move) (o : Progress) (f : Seen → Progress) → Tries M head s d o
    → ((y : Seen) → Going M head s d y → Tries M head s e (f y)) → Tries M head s e (and_then o f)
tries_then M head s d e (broke x) f t k = t
tries_then M head s d e (through x) f t k = k x t

pub tries_all : (M : Transitions) → Lawful M → (head s : ℕ) (done ms : List Move) → moves M ≡ done ++ ms → (x : Seen) → Going M head s done x → Tries M head s (moves M) (try_moves M s ms x)
unfolding try_moves
tries_all M law head s done [] split x W = rw (split, append-nil) W
tries_all M law head s done (m ∷ ms) split x W =
    tries_then M head s (done ++ m ∷ []) (moves M) (meet M s (M.step s m.command m.word) x) (try_moves M s ms)
    (try_move M law head s done m ms split x W)
    (λ y N. tries_all M law head s (done ++ m ∷ []) ms (split ∙ sym (append_assoc done (m ∷ []) ms)) y N)

-- The queue.

pub record Between (M : Transitions) (head : ℕ) (x : Seen) : Type 0 where
  pub runs : List Run
  pub good : Good M runs x
  pub frontier : Frontier M runs head []

-- Gone through: all that a run reaches is met, and none of it breaks.
pub record Closed (M : Transitions) (x : Seen) : Type 0 where
  pub runs : List Run
  pub good : Good M runs x
  pub reached : (y : Run) → Valid M y → Covered M runs y

abbrev pub Searched : Transitions → Progress → Type 0
Searched M (broke x) = Ended M x
Searched M (through x) = Closed M x

pub next-head : (M : Transitions) (head s : ℕ) (x : Seen) → Going M head s (moves M) x → Between M (head + 1) x
next-head M head s x W =
    record {
      runs = W.runs;
      good = W.good;
      frontier =
          record {
            upto = λ i h. upto_next (at W.runs i) (W.frontier.upto i h);
            starts = W.frontier.starts;
            past =
                λ i h m k.
                ⊎_elim (λ (l : i < head). W.frontier.past i l m k) (λ (l : head ≤ i). let e : i ≡ head = omega arith in rw e (W.frontier.now m k)) (lt_or_ge i head);
            now = λ m k. absurd (Memᴰ.not-nil k);
          };
    }
  where
    upto_next : (y : Run) → Upto W.runs head (moves M) y → Upto W.runs (head + 1) [] y
    upto_next (starts_at t) u = tt
    upto_next (goes_on y m) u = (u.0, u.1, inl (⊎_elim (λ k. omega arith) (λ k. omega arith) u.2))

closed : (M : Transitions) (head : ℕ) (x : Seen) (B : Between M head x) → length B.runs ≤ head → Closed M x
closed M head x B h = record { runs = B.runs; good = B.good; reached = go }
  where
    go : (y : Run) → Valid M y → Covered M B.runs y
    go (starts_at t) v = B.frontier.starts t v
    go (goes_on y l) v =
        let c = go y v.0 in
        covered_step M B.runs (at B.runs c.0) y l c.2 c.3
        (B.frontier.past c.0 (omega (arith, c.1)) l (moves-has M 0 M.commands l (omega arith) (omega (arith, v.1.0)) v.1.1))

pub queue-length : (M : Transitions) (ρ : List Run) (x : Seen) → Good M ρ x → length x.queue ≡ length ρ
queue-length M ρ x G = ap length G.queue-is ∙ length-map ρ (final M)

searched_then : (M : Transitions) (head s : ℕ) (d : List Move) (o : Progress) (f : Seen → Progress) → Tries M head s d o
    → ((y : Seen) → Going M head s d y → Searched M (f y)) → Searched M (and_then o f)
searched_then M head s d (broke x) f t k = t
searched_then M head s d (through x) f t k = k x t

module _ (M : Transitions) (law : Lawful M) (n head : ℕ) (x : Seen) (B : Between M head x) where
  pub here-is : get_or x.queue head 0 ≡ final M (at B.runs head)
  here-is = ap (λ (l : List ℕ). get_or l head 0) B.good.queue-is ∙ get_or-map (final M) B.runs head (starts_at 0)

  explored_next : ((y : Seen) → Between M (head + 1) y → Searched M (explore M n (head + 1) y))
      → (b : Bool) → ltb head (length x.queue) ≡ b → Searched M (cond b (and_then (try_moves M (get_or x.queue head 0) (moves M) x) (explore M n (head + 1))) (through x))
  explored_next rec false e = closed M head x B (omega (arith, ltb-false head (length x.queue) e, queue-length M B.runs x B.good))
  explored_next rec true e =
      searched_then M head (get_or x.queue head 0) (moves M) (try_moves M (get_or x.queue head 0) (moves M) x) (explore M n (head + 1))
      (tries_all M law head (get_or x.queue head 0) [] (moves M) refl x
      (record { runs = B.runs; good = B.good; frontier = B.frontier; within = omega (arith, ltb-true head (length x.queue) e, queue-length M B.runs x B.good); here = here-is }))
      (λ y N. rec y (next-head M head (get_or x.queue head 0) y N))

explored : (M : Transitions) → Lawful M → (n head : ℕ) (x : Seen) → M.size ≤ head + n → Between M head x → Searched M (explore M n head x)
unfolding explore
explored M law zero head x h B = closed M head x B (omega (arith, B.good.counted, marked_le x.parent, B.good.sized))
explored M law (suc n) head x h B = explored_next M law n head x B (λ y N. explored M law n (head + 1) y (omega arith) N) (ltb head (length x.queue)) refl

-- The start states.

abbrev pub Early : ℕ → Run → Type 0
Early s (starts_at t) = t < s
Early s (goes_on y m) = ⊥

early_more : (s : ℕ) (y : Run) → Early s y → Early (s + 1) y
early_more s (starts_at t) e = omega arith
early_more s (goes_on y m) e = e

early_before : (M : Transitions) (s : ℕ) (y : Run) → Early s y → Before y (starts_at s)
early_before M s (starts_at t) e = e
early_before M s (goes_on y m) e = e

early_other : (M : Transitions) (s : ℕ) (y : Run) → Early s y → final M y ≡ s → ⊥
early_other M s (starts_at t) e f = omega arith
early_other M s (goes_on y m) e f = e

early_upto : (ρ : List Run) (s : ℕ) (y : Run) → Early s y → Upto ρ 0 [] y
early_upto ρ s (starts_at t) e = tt
early_upto ρ s (goes_on y m) e = absurd e

pub record Starting (M : Transitions) (s : ℕ) (x : Seen) : Type 0 where
  pub runs : List Run
  pub good : Good M runs x
  pub early : (i : ℕ) → i < length runs → Early s (at runs i)
  pub starts : (t : ℕ) → t < s → Valid M (starts_at t) → Covered M runs (starts_at t)

abbrev pub Takes : Transitions → ℕ → Progress → Type 0
Takes M s (broke x) = Ended M x
Takes M s (through x) = Starting M s x

module _ (M : Transitions) (s : ℕ) (x : Seen) (S : Starting M s x) (h : s < M.size) where
  starts_more : (ρ : List Run) → ((t : ℕ) → t < s → Valid M (starts_at t) → Covered M ρ (starts_at t)) → (Valid M (starts_at s) → Covered M ρ (starts_at s))
      → (t : ℕ) → t < s + 1 → Valid M (starts_at t) → Covered M ρ (starts_at t)
  starts_more ρ old new t l v = ⊎_elim (λ (k : t < s). old t k v) (λ (k : s ≤ t). let e : t ≡ s = omega arith in rw e (new (rw e at v))) (lt_or_ge t s)

  no_start : M.starts s ≡ false → Starting M (s + 1) x
  no_start e =
      record {
        runs = S.runs;
        good = S.good;
        early = λ i k. early_more s (at S.runs i) (S.early i k);
        starts = starts_more S.runs S.starts (λ v. absurd (false≢true (sym e ∙ v.1)));
      }

  module _ (e : M.starts s ≡ true) where
    earlier_start : (i : ℕ) → i < length S.runs → Before (at S.runs i) (starts_at s)
    earlier_start i k = early_before M s (at S.runs i) (S.early i k)

    reach_start : (y : Run) → Valid M y → Before y (starts_at s) → Covered M S.runs y
    reach_start (starts_at t) v b = S.starts t b v
    reach_start (goes_on y m) v b = absurd b

    start-traced : Traced M (push x s s).parent (starts_at s)
    start-traced = get_or-set_same x.parent s (s + 1) 0 (rw S.good.sized h)

    take_new : get_or x.parent s 0 ≡ 0 → (b : Bool) → M.breaks s ≡ b → Takes M (s + 1) (progress b (push x s s))
    take_new new true k =
        record {
          runs = S.runs;
          last = starts_at s;
          queue-is = queue-more M S.runs (starts_at s) x S.good.queue-is;
          traced = start-traced;
          short = omega arith;
          first = record { valid = (h, e); breaking = k; first = λ y v b. let c = reach_start y v b in ap M.breaks (sym c.2) ∙ S.good.reached c.0 c.1 };
          before = x;
          good = S.good;
          earlier = earlier_start;
          covered = reach_start;
        }
    take_new new false k =
        record {
          runs = S.runs ++ starts_at s ∷ [];
          good = good_more M S.runs (starts_at s) x s S.good (h, e) h new k earlier_start start-traced (omega arith);
          early = snoc_all (Early (s + 1)) S.runs (starts_at s) (λ i l. early_more s (at S.runs i) (S.early i l)) (omega arith);
          starts =
              starts_more (S.runs ++ starts_at s ∷ [])
              (λ t l v. covered_more M S.runs (starts_at s) (starts_at t) (S.starts t l v))
              (λ v. covered_new M S.runs (starts_at s));
        }

    take-either : (b : Bool) → eqb (get_or x.parent s 0) 0 ≡ b → Takes M (s + 1) (cond b (progress (M.breaks s) (push x s s)) (through x))
    take-either true f = take_new (eqb-true (get_or x.parent s 0) 0 f) (M.breaks s) refl
    take-either false f = let g = S.good.met s h (eqb-false (get_or x.parent s 0) 0 f) in absurd (early_other M s (at S.runs g.0) (S.early g.0 g.1) g.2)

  take-one : (b : Bool) → M.starts s ≡ b → Takes M (s + 1) (cond b (meet M s s x) (through x))
  take-one true e = take-either e (eqb (get_or x.parent s 0) 0) refl
  take-one false e = no_start e

takes_then : (M : Transitions) (s t : ℕ) (o : Progress) (f : Seen → Progress) → Takes M s o → ((y : Seen) → Starting M s y → Takes M t (f y)) → Takes M t (and_then o f)
takes_then M s t (broke x) f k g = k
takes_then M s t (through x) f k g = g x k

pub taken : (M : Transitions) (n s : ℕ) (x : Seen) → s + n ≡ M.size → Starting M s x → Takes M M.size (take_in M n s x)
unfolding take_in
taken M zero s x h S = let e : s ≡ M.size = omega arith in subst (λ (t : ℕ). Starting M t x) e S
taken M (suc n) s x h S =
    takes_then M (s + 1) M.size (cond (M.starts s) (meet M s s x) (through x)) (take_in M n (s + 1))
    (take-one M s x S (omega arith) (M.starts s) refl)
    (λ y N. taken M n (s + 1) y (omega arith) N)

pub starting : (M : Transitions) → Starting M 0 (record { queue = []; parent = replicate M.size 0 })
starting M =
    record {
      runs = [];
      good =
          record {
            queue-is = refl;
            sized = length-replicate M.size 0;
            counted = sym (marked_none M.size);
            valid = λ i h. absurd (omega arith);
            traced = λ i h. absurd (omega arith);
            short = λ i h. absurd (omega arith);
            reached = λ i h. absurd (omega arith);
            sorted = λ i j h k. absurd (omega arith);
            met = λ t h k. absurd (k (get_or-replicate M.size t 0 0 h));
          };
      early = λ i h. absurd (omega arith);
      starts = λ t h. absurd (omega arith);
    }

pub queue-begun : (M : Transitions) (x : Seen) → Starting M M.size x → Between M 0 x
queue-begun M x S =
    record {
      runs = S.runs;
      good = S.good;
      frontier =
          record {
            upto = λ i h. early_upto S.runs M.size (at S.runs i) (S.early i h);
            starts = λ t v. S.starts t v.0 v;
            past = λ i h. absurd (omega arith);
            now = λ m k. absurd (Memᴰ.not-nil k);
          };
    }

search-from : (M : Transitions) (o : Progress) (f : Seen → Progress) → Takes M M.size o → ((y : Seen) → Starting M M.size y → Searched M (f y)) → Searched M (and_then o f)
search-from M (broke x) f k g = k
search-from M (through x) f k g = g x k

-- The search ends at the first breaking run; or it goes through, every state that a run reaches is met, and none breaks.
pub searched : (M : Transitions) → Lawful M → Searched M (search M)
unfolding search
searched M law =
    search-from M (take_in M M.size 0 (record { queue = []; parent = replicate M.size 0 })) (explore M M.size 0)
    (taken M M.size 0 (record { queue = []; parent = replicate M.size 0 }) (omega arith) (starting M))
    (λ y N. explored M law M.size 0 y (omega arith) (queue-begun M y N))
