-- The search's result is right.
-- Assumes nothing.
use Prim.Native.Nat.{ℕ, ◌-◌, ◌<◌}
use mathlib.Core.Path.{◌≡◌, sym, ap, ◌∙◌}
use mathlib.Core.Bool.{true, false}
use mathlib.Core.List.{List, [], ◌∷◌, ◌++◌, map, map-append}
use native.Mathlib.Omega.{arith}
use lib.ListN.{length, get_or, length-append, length-map, get_or-map}
use lib.Seq.{get_or_at}
use lib.Dec.{ltb}
use borrow.Author.Tests.{lt-ltb, ltb-true}
use Rattle.exploration.specs.working.Transitions.{Transitions, Lawful}
use Rattle.exploration.specs.working.Exploring.{Seen, Progress, broke, through, search}
use Rattle.exploration.specs.working.Runs.{final, run_to}
use Rattle.exploration.specs.working.Results.{result_of, result, Reached, AllReached, Right}
use Rattle.exploration.proofs.First.{at, Ended, Closed, Searched, searched, traced-met, run-to}

last_of : (l : List ℕ) (v : ℕ) → get_or (l ++ v ∷ []) (length (l ++ v ∷ []) - 1) 0 ≡ v
last_of l v = get_or_at l v [] 0 (length (l ++ v ∷ []) - 1) (omega (arith, length-append l (v ∷ [])))

pub queue-last : (M : Transitions) (x : Seen) (E : Ended M x) → get_or x.queue (length x.queue - 1) 0 ≡ final M E.last
queue-last M x E = rw (E.queue-is, map-append) (last_of (map (final M) E.runs) (final M E.last))

run-read : (M : Transitions) (x : Seen) (E : Ended M x) → run_to M x.parent M.size (get_or x.queue (length x.queue - 1) 0) ≡ E.last
run-read M x E = rw (queue-last M x E) (run-to M x.parent E.last E.traced M.size (omega (arith, E.short)))

closed-safe : (M : Transitions) (x : Seen) → Closed M x → AllReached M (map (ltb 0) x.parent)
closed-safe M x C =
    record {
      sized = length-map x.parent (ltb 0) ∙ C.good.sized;
      exact = λ t h. (reached t h, marked t);
      keeps = λ r v. let c = C.reached r v in ap M.breaks (sym c.2) ∙ C.good.reached c.0 c.1;
    }
  where
    entry : (t : ℕ) → get_or (map (ltb 0) x.parent) t false ≡ ltb 0 (get_or x.parent t 0)
    entry t = get_or-map (ltb 0) x.parent t 0

    reached : (t : ℕ) → t < M.size → get_or (map (ltb 0) x.parent) t false ≡ true → Reached M t
    reached t h e =
        let p : 0 < get_or x.parent t 0 = ltb-true 0 (get_or x.parent t 0) (sym (entry t) ∙ e) in
        let g = C.good.met t h (λ z. omega arith) in
        record { run = at C.runs g.0; valid = C.good.valid g.0 g.1; ends = g.2 }

    marked : (t : ℕ) → Reached M t → get_or (map (ltb 0) x.parent) t false ≡ true
    marked t r =
        let c = C.reached r.run r.valid in
        let p : 0 < get_or x.parent t 0 = positive (get_or x.parent t 0)
        (λ z. traced-met M x.parent (at C.runs c.0) (C.good.traced c.0 c.1) (ap (λ (u : ℕ). get_or x.parent u 0) (c.2 ∙ r.ends) ∙ z)) in
        entry t ∙ lt-ltb 0 (get_or x.parent t 0) p
      where
        positive : (n : ℕ) → (n ≡ 0 → ⊥) → 0 < n
        positive n h = omega arith

right_of : (M : Transitions) (o : Progress) → Searched M o → Right M (result_of M o)
right_of M (broke x) E = rw (run-read M x E) E.first
right_of M (through x) C = closed-safe M x C

pub result-right : (M : Transitions) → Lawful M → Right M (result M)
unfolding result
result-right M law = right_of M (search M) (searched M law)
