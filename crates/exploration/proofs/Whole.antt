-- From what the search leaves in the tables to what is found.
-- Assumes nothing.
use Prim.Native.Nat.{ℕ, zero, suc, ◌-◌, ◌<◌, ◌≤◌}
use mathlib.Core.Path.{◌≡◌, refl, sym, ap, ◌∙◌, subst}
use mathlib.Core.Bool.{Bool, true, false}
use mathlib.Core.List.{List, [], ◌∷◌, ◌++◌, map}
use native.Mathlib.Omega.{arith}
use lib.ListN.{length, get_or, take, drop, replicate, length-append, length-map}
use lib.Seq.{length-take-le, get_or-take}
use lib.Dec.{ltb}
use borrow.Author.Tests.{lt-ltb}
use Rattle.sheets.specs.Sheets.{map_length}
use Rattle.meaning.specs.Evidence.{Verdict, safe_by, void_by, unsafe_by}
use Rattle.exploration.specs.working.Transitions.{Transitions, Lawful}
use Rattle.exploration.specs.working.Exploring.{progress}
use Rattle.exploration.specs.working.Runs.{Run, final, run_to, start_of, steps_of}
use Rattle.exploration.specs.working.Tables.{seen, marked, Kept, Ran}
use Rattle.exploration.specs.working.Results.{first_run, result_of}
use Rattle.exploration.specs.working.Written.{map_from, RecordedTo, Closing}
use Rattle.exploration.specs.working.Found.{map_verdict, any_set, verdict_for}
use Rattle.exploration.proofs.Laws.{drop_later, count_le}
use Rattle.exploration.proofs.First.{Ended, Searched, searched}
use Rattle.exploration.proofs.Right.{queue-last}

-- Entries are counted exactly where one makes a bit.
none_marked : (l : List ℕ) → marked l ≡ 0 → any_set (map (ltb 0) l) ≡ false
unfolding marked any_set
none_marked [] e = refl
none_marked (zero ∷ l) e = none_marked l e
none_marked (suc v ∷ l) e = absurd (omega arith)

pub some-marked : (l : List ℕ) → 0 < marked l → any_set (map (ltb 0) l) ≡ true
unfolding marked any_set
some-marked [] h = absurd (omega arith)
some-marked (zero ∷ l) h = some-marked l h
some-marked (suc v ∷ l) h = rw (lt-ltb 0 (suc v) (omega arith))

-- From tables that can be closed to the verdict by how the search went.
module _ {M : Transitions} {q : List ℕ} {n : ℕ} {p : List ℕ} {b : Bool} (C : Closing M q n p b) where
  queue-count : length (take n q) ≡ n
  queue-count = length-take-le n q (omega (arith, count_le M q n p C.ready, C.ready.queue-room))

  abbrev pub verdict_left : Verdict
  verdict_left = verdict_for M (result_of M (progress b (seen M q n p)))

  abbrev pub last_run : Run
  last_run = run_to M (take M.size p) M.size (get_or q (n - 1) 0)

  pub closed_unsafe : b ≡ true → verdict_left ≡ unsafe_by (start_of last_run) (steps_of M last_run)
  unfolding verdict_for
  closed_unsafe f =
      let e : get_or (take n q) (length (take n q) - 1) 0 ≡ get_or q (n - 1) 0 =
      ap (λ (k : ℕ). get_or (take n q) (k - 1) 0) queue-count ∙ get_or-take n q (n - 1) 0 (omega (arith, C.some f)) in
      ap (λ (x : Bool). verdict_for M (result_of M (progress x (seen M q n p)))) f
      ∙ ap (λ (t : ℕ). verdict_for M (first_run (run_to M (take M.size p) M.size t))) e

  -- The bits that the table of parents makes, and their map.
  abbrev bits : List Bool
  bits = map (ltb 0) (take M.size p)

  abbrev pub map_left : List ℕ
  map_left = map_from (map (ltb 0) (take M.size p)) 0 (map_length M.size)

  module _ (f : b ≡ false) where
    closed-through : verdict_left ≡ map_verdict (any_set bits) map_left
    unfolding verdict_for
    closed-through = ap (λ (x : Bool). verdict_for M (result_of M (progress x (seen M q n p)))) f

    pub closed-void : n ≡ 0 → verdict_left ≡ void_by map_left
    closed-void e = closed-through ∙ ap (λ (x : Bool). map_verdict x map_left) (none_marked (take M.size p) (sym C.ready.counted ∙ e))

    pub closed-safe : 0 < n → verdict_left ≡ safe_by map_left
    closed-safe h = closed-through ∙ ap (λ (x : Bool). map_verdict x map_left) (some-marked (take M.size p) (rw C.ready.counted at h))

-- Tables that a part of the search kept are, cleared, as they were lent and cleared.
module _ {M : Transitions} {q₀ : List ℕ} {n₀ : ℕ} {p₀ q : List ℕ} {n : ℕ} {p : List ℕ} (K : Kept M q₀ n₀ p₀ q n p) where
  pub queue_cleared : replicate M.size 0 ++ drop M.size q ≡ replicate M.size 0 ++ drop M.size q₀
  queue_cleared = ap (λ (l : List ℕ). replicate M.size 0 ++ l) (drop_later n M.size q q₀ K.few K.queue-rest)

  pub parent_cleared : replicate M.size 0 ++ drop M.size p ≡ replicate M.size 0 ++ drop M.size p₀
  parent_cleared = ap (λ (l : List ℕ). replicate M.size 0 ++ l) K.parent-rest

-- The whole search leaves tables that can be closed.
module _ {M : Transitions} (law : Lawful M) {q₀ p₀ q : List ℕ} {n : ℕ} {p : List ℕ} {b : Bool} {j : ℕ} (R : Ran M q₀ p₀ q n p b j) where
  ran_count : length (take n q) ≡ n
  ran_count = length-take-le n q (omega (arith, R.kept.few, R.kept.ready.queue-room))

  module _ (f : b ≡ true) where
    ended : Ended M (seen M q n p)
    ended = subst (Searched M) (sym (rw f at R.what)) (searched M law)

    ran_some : 1 ≤ n
    ran_some = omega (arith, ran_count, ap length ended.queue-is, length-map (ended.runs ++ ended.last ∷ []) (final M), length-append ended.runs (ended.last ∷ []))

    last-at : get_or (take n q) (length (take n q) - 1) 0 ≡ get_or q (n - 1) 0
    last-at = ap (λ (k : ℕ). get_or (take n q) (k - 1) 0) ran_count ∙ get_or-take n q (n - 1) 0 (omega (arith, ran_some))

    ran_recorded : RecordedTo M (take M.size p) (get_or q (n - 1) 0)
    ran_recorded =
        record {
          run = ended.last;
          valid = ended.first.valid;
          traced = ended.traced;
          ends = sym (sym last-at ∙ queue-last M (seen M q n p) ended);
          short = ended.short;
        }

  pub ran_closing : Closing M q n p b
  ran_closing = record { ready = R.kept.ready; some = ran_some; recorded = ran_recorded }
