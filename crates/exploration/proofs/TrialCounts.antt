-- How many trials there are: the members of the map that is found times the choice words of all commands.
-- Assumes nothing.
use Prim.Native.Nat.{ℕ, suc, zero, ◌+◌, ◌-◌, ◌*◌, ◌^◌, ◌<◌, ◌≤◌}
use mathlib.Core.Path.{◌≡◌, refl, sym, ap, ◌∙◌, subst}
use mathlib.Core.Bool.{Bool, true, false, cond, false≢true}
use mathlib.Core.List.{List, [], ◌∷◌, ◌++◌, map, flat_map}
use mathlib.Core.Option.{some, some-injective, none-ne-some}
use native.Mathlib.Omega.{arith}
use native.Mathlib.Nat.{suc-mul, zero-mul, le_trans, mul-le-mul}
use native.Mathlib.Numerals.{add-one}
use lib.Dec.{ltb}
use lib.ListN.{length, get_or, take, length-append, length-map, get_or-map}
use lib.Pow.{pow_mono}
use borrow.Author.Tests.{lt-ltb}
use lib.Seq.{take-length}
use Rattle.notation.specs.Model.{Model, Command, stars}
use Rattle.notation.specs.Regular.{Regular, sum_over, Every}
use Rattle.meaning.specs.Meaning.{command_at, idle}
use Rattle.meaning.specs.OneRow.{state_count, word_count}
use Rattle.meaning.specs.Evidence.{in_map}
use Rattle.sheets.specs.Sheets.{map_length}
use Rattle.sheets.proofs.SheetOpened.{eighths}
use Rattle.evaluation.proofs.Powers.{pow_small}
use Rattle.exploration.specs.Members.{below, member_count}
use Rattle.exploration.specs.Trials.{trials_at_state, most_trials, trials_of}
use Rattle.exploration.specs.Promises.{TrialsCounted, TrialsWithin}
use Rattle.exploration.specs.working.Transitions.{Transitions, Move, words_from, moves_from, moves}
use Rattle.exploration.specs.working.Exploring.{Seen, Progress, broke, through, meet, try_moves, take_in, search, unseen}
use Rattle.exploration.specs.working.Tables.{marked}
use Rattle.exploration.specs.working.Trials.{Trial, trial_of, afterwards, trials_with, trials_from, trials, trial_count, every_trial, words_of}
use Rattle.exploration.specs.working.Results.{result_of, result}
use Rattle.exploration.specs.working.Written.{map_from}
use Rattle.exploration.specs.working.Found.{map_verdict, any_set, verdict_for, found_in, Agrees}
use Rattle.exploration.proofs.First.{Closed}
use Rattle.exploration.proofs.Members.{more, alike}
use Rattle.exploration.proofs.MapsFound.{map-has}
use Rattle.exploration.proofs.RunsOfModels.{lawful}
use Rattle.exploration.proofs.Trials.{queue-marked, closed, trials-listed}
use Rattle.exploration.proofs.Whole.{some-marked}

-- Every move at each state.
every-count : (M : Transitions) (l : List ℕ) → length (every_trial M l) ≡ length l * length (moves M)
unfolding flat_map
every-count M [] = sym (zero-mul (length (moves M)))
every-count M (s ∷ l) =
    let k = length (moves M) in
    length-append (map (trial_of s) (moves M)) (every_trial M l)
    ∙ (let e : length (map (trial_of s) (moves M)) + length (every_trial M l) ≡ length l * k + k = omega (arith, length-map (moves M) (trial_of s), every-count M l) in e)
    ∙ sym (suc-mul (length l) k)

-- The moves: the choice words of each command.
words_count : (c w n : ℕ) → length (words_from c w n) ≡ n
unfolding words_from
words_count c w zero = refl
words_count c w (suc n) = ap suc (words_count c (w + 1) n)

pub moves-count : (M : Transitions) (c n : ℕ) → length (moves_from M c n) ≡ words_of M.words c n
unfolding moves_from words_of
moves-count M c zero = refl
moves-count M c (suc n) =
    length-append (words_from c 0 (M.words c)) (moves_from M (c + 1) n) ∙ omega (arith, words_count c 0 (M.words c), moves-count M (c + 1) n)

words-from : (words : ℕ → ℕ) (c : ℕ) (ks : List Command)
    → ((k : ℕ) → k < length ks → words (c + k) ≡ word_count (get_or ks k idle)) → words_of words c (length ks) ≡ sum_over word_count ks
unfolding words_of sum_over
words-from words c [] h = refl
words-from words c (x ∷ ks) h =
    let e : c + 0 ≡ c = omega arith in
    let first : words c ≡ word_count x = ap words (sym e) ∙ h 0 (omega arith) in
    let others : words_of words (c + 1) (length ks) ≡ sum_over word_count ks =
    words-from words (c + 1) ks (λ k l. let f : c + 1 + k ≡ c + suc k = omega arith in ap words f ∙ h (suc k) (omega arith)) in
    omega (arith, first, others)

pub words_are_lem : (words : ℕ → ℕ) (m : Model) → ((k : ℕ) → k < length m.commands → words k ≡ word_count (command_at m k))
    → words_of words 0 (length m.commands) ≡ trials_at_state m
words_are_lem words m h = words-from words 0 m.commands (λ k l. let e : 0 + k ≡ k = omega arith in ap words e ∙ h k l)

-- The sum over n commands: with what is left from command k on, the sum so far makes the whole.
module _ (words : ℕ → ℕ) (n s k : ℕ) (h : s + words_of words k (n - k) ≡ words_of words 0 n) where
  pub sum-next : k < n → (x : ℕ) → x ≡ words k → s + x + words_of words (k + 1) (n - (k + 1)) ≡ words_of words 0 n
  unfolding words_of
  sum-next l x e = let f : n - k ≡ suc (n - (k + 1)) = omega arith in let g = rw f at h in omega (arith, g, e)

  pub sum-end : n ≤ k → s ≡ words_of words 0 n
  unfolding words_of
  sum-end l = let f : n - k ≡ 0 = omega arith in let g = rw f at h in omega (arith, g)

pub moves_are : (T : Transitions) (m : Model) → Agrees T m → length (moves T) ≡ trials_at_state m
moves_are T m A =
    ap (λ n. length (moves_from T 0 n)) A.commands ∙ moves-count T 0 (length m.commands) ∙ words_are_lem T.words m A.words

-- The members of the map that a table of parents makes are the entries that are not 0.
pub marked_next : (l : List ℕ) (i : ℕ) → i < length l → marked (take (suc i) l) ≡ marked (take i l) + cond (ltb 0 (get_or l i 0)) 1 0
unfolding marked
marked_next [] i h = absurd (omega arith)
marked_next (zero ∷ l) zero h = refl
marked_next (suc v ∷ l) zero h = rw (lt-ltb 0 (suc v) (omega arith))
marked_next (zero ∷ l) (suc i) h = marked_next l i (omega arith)
marked_next (suc v ∷ l) (suc i) h = omega (arith, marked_next l i (omega arith))

marked-below : (l : List ℕ) (n : ℕ) → n ≤ length l → length (below n (λ t. ltb 0 (get_or l t 0))) ≡ marked (take n l)
unfolding marked below
marked-below l zero h = refl
marked-below l (suc n) h =
    ap (λ k. length (below k (λ t. ltb 0 (get_or l t 0)))) (sym (add-one n))
    ∙ more (λ t. ltb 0 (get_or l t 0)) n
    ∙ omega (arith, marked-below l n (omega arith), marked_next l n (omega arith))

members-marked : (k : ℕ) (l : List ℕ) → length l ≡ 2 ^ k → member_count (2 ^ k) (map_from (map (ltb 0) l) 0 (map_length (2 ^ k))) ≡ marked l
members-marked k l e =
    ap length
    (alike (in_map (map_from (map (ltb 0) l) 0 (map_length (2 ^ k)))) (λ t. ltb 0 (get_or l t 0)) (2 ^ k)
    (λ t h. map-has (map (ltb 0) l) (map_length (2 ^ k)) t (omega (arith, eighths k)) ∙ get_or-map (ltb 0) l t 0))
    ∙ marked-below l (2 ^ k) (omega (arith, e))
    ∙ ap (λ n. marked (take n l)) (sym e)
    ∙ ap marked (take-length l)

-- A search that goes through.
module _ (T : Transitions) (m : Model) (A : Agrees T m) (x : Seen) (e : search T ≡ through x) where
  C : Closed T x
  C = closed T (lawful T m A) x e

  made : trial_count T ≡ marked x.parent * trials_at_state m
  made =
      ap length (trials-listed T (lawful T m A) x e)
      ∙ every-count T x.queue
      ∙ ap (λ n. n * length (moves T)) (queue-marked T x C)
      ∙ ap (λ n. marked x.parent * n) (moves_are T m A)

  abbrev bits : List Bool
  bits = map (ltb 0) x.parent

  abbrev found : List ℕ
  found = map_from (map (ltb 0) x.parent) 0 (map_length T.size)

  members-made : member_count (state_count m) found ≡ marked x.parent
  members-made =
      subst (λ n. member_count (state_count m) (map_from bits 0 (map_length n)) ≡ marked x.parent) (sym A.size)
      (members-marked (m.shared_names + m.row_names) x.parent (C.good.sized ∙ A.size))

  none_marked : any_set bits ≡ false → marked x.parent ≡ 0
  none_marked f = go (marked x.parent) (λ h. false≢true (sym f ∙ some-marked x.parent h))
    where
      go : (n : ℕ) → (0 < n → ⊥) → n ≡ 0
      go zero h = refl
      go (suc n) h = absurd (h (omega arith))

  told : (b : Bool) → any_set bits ≡ b → (k : ℕ) → trials_of m (map_verdict b found) ≡ some k → trial_count T ≡ k
  unfolding trials_of
  told true f k h = made ∙ ap (λ n. n * trials_at_state m) (sym members-made) ∙ some-injective _ k h
  told false f k h = made ∙ ap (λ n. n * trials_at_state m) (none_marked f) ∙ zero-mul (trials_at_state m) ∙ some-injective _ k h

pub trials-counted : TrialsCounted
unfolding found_in result verdict_for trials_of
trials-counted T m A k h = go (search T) refl h
  where
    go : (o : Progress) → search T ≡ o → trials_of m (verdict_for T (result_of T o)) ≡ some k → trial_count T ≡ k
    go (broke x) e f = absurd (none-ne-some k f)
    go (through x) e f = told T m A x e (any_set (map (ltb 0) x.parent)) refl k f

-- No search makes more trials than there are at all states: no more than the moves at a state, and no more states than there are.
few-after : (o : Progress) (f : Seen → List Trial) (n : ℕ) → ((y : Seen) → length (f y) ≤ n) → length (afterwards o f) ≤ n
few-after (broke y) f n h = omega arith
few-after (through y) f n h = h y

pub few_with : (M : Transitions) (s : ℕ) (ms : List Move) (x : Seen) → length (trials_with M s ms x) ≤ length ms
unfolding trials_with
few_with M s [] x = omega arith
few_with M s (m ∷ ms) x =
    let o = meet M s (M.step s m.command m.word) x in
    omega (arith, few-after o (trials_with M s ms) (length ms) (λ y. few_with M s ms y))

few-from : (M : Transitions) (n head : ℕ) (x : Seen) → length (trials_from M n head x) ≤ n * length (moves M)
unfolding trials_from
few-from M zero head x = omega arith
few-from M (suc n) head x =
    let s = get_or x.queue head 0 in
    let o = try_moves M s (moves M) x in
    let f = trials_from M n (head + 1) in
    go (ltb head (length x.queue)) (trials_with M s (moves M) x) (afterwards o f) (few_with M s (moves M) x)
    (few-after o f (n * length (moves M)) (λ y. few-from M n (head + 1) y))
  where
    go : (b : Bool) (u v : List Trial) → length u ≤ length (moves M) → length v ≤ n * length (moves M) → length (cond b (u ++ v) []) ≤ suc n * length (moves M)
    go true u v h k = omega (arith, length-append u v, suc-mul n (length (moves M)), h, k)
    go false u v h k = omega arith

pub trials-within : TrialsWithin
unfolding trials
trials-within T m A =
    le_trans (few-after (take_in T T.size 0 (unseen T)) (trials_from T T.size 0) (T.size * length (moves T)) (λ y. few-from T T.size 0 y))
    (eq_le (ap (λ n. n * length (moves T)) A.size ∙ ap (λ n. state_count m * n) (moves_are T m A)))
  where
    eq_le : {a b : ℕ} → a ≡ b → a ≤ b
    eq_le e = omega (arith, e)

-- And these are not many.
sum-few : (ks : List Command) → Every (λ k. length (stars k) ≤ 8) ks → sum_over word_count ks ≤ length ks * 256
unfolding sum_over
sum-few [] h = omega arith
sum-few (k ∷ ks) h = omega (arith, pow_mono {i = length (stars k)} {j = 8} h.0, sum-few ks h.1)

state-few : (m : Model) → Regular m → trials_at_state m ≤ 4096
state-few m g = omega (arith, sum-few m.commands g.few_stars, g.few_commands)

pub trials-few : (m : Model) → Regular m → most_trials m ≤ 16777216
trials-few m g = mul-le-mul (pow_small (m.shared_names + m.row_names) (state_count m) g.few_names refl) (state-few m g)
