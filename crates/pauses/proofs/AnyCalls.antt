-- What holds of every call of a search in portions, whatever position and tables are.
-- Assumes nothing.
use mathlib.Core.Path.{◌≡◌, refl, sym, ap, ◌∙◌, subst}
use mathlib.Core.Bool.{Bool, true, false, cond}
use mathlib.Core.Logic.{◌⊎◌, inl, inr}
use mathlib.Core.List.{List}
use mathlib.Core.Option.{Option}
use Prim.Native.Nat.{ℕ, ◌+◌, ◌-◌, ◌*◌, ◌^◌, ◌≤◌}
use Prim.Native.String.{String}
use native.Mathlib.Omega.{arith}
use native.Mathlib.Nat.{le_trans}
use lib.Dec.{leb, ltb}
use lib.ListN.{length, get_or, drop}
use lib.Pow.{pow_pos}
use lib.Seq.{drop-drop, drop-append-add, length_front, length-take-le}
use borrow.Author.Tests.{le-leb, leb-true, ltb-true}
use Rattle.notation.specs.Model.{Model}
use Rattle.notation.specs.Texts.{longest_text, TextSays, TextRefused}
use Rattle.notation.specs.working.Machine as N
use Rattle.notation.specs.working.Answer.{answer}
use Rattle.notation.proofs.Booleans.{and_split, and_join}
use Rattle.notation.proofs.Places.{refusals_bounded}
use Rattle.notation.proofs.Regular.{all_regular}
use Rattle.notation.proofs.Texts.{refused-answer, one_answer, answers_recased}
use Rattle.std.specs.Prelude.{Ok}
use Rattle.refusals.specs.Reasons.{number_of, reason_of}
use Rattle.evaluation.proofs.Powers.{pow_small}
use Rattle.meaning.specs.Evidence.{Verdict, safe_by, void_by, unsafe_by, evidence_of}
use Rattle.meaning.specs.OneRow.{state_count}
use Rattle.sheets.specs.Sheets.{System, size, sheet_room, system_of, little, record_bytes, header_bytes, sheet_bytes}
use Rattle.sheets.specs.working.FlatSystem.{system_in}
use Rattle.acceptance.specs.working.Test.{plan_of}
use Rattle.reader.specs.Read.{reading_in, code_in, read_code}
use Rattle.exploration.specs.Pause.{Pause}
use Rattle.exploration.specs.working.Transitions.{Transitions, Lawful, moves}
use Rattle.exploration.specs.working.Exploring.{Progress, broke, through}
use Rattle.exploration.specs.working.Results.{result_of}
use Rattle.exploration.specs.working.Trials.{trial_count}
use Rattle.exploration.specs.working.Pauses.{Stand, seen_in, opened, further, pause_of, stand_in, over, intact}
use Rattle.exploration.specs.working.Found.{found_in, verdict_for, transitions_of}
use Rattle.exploration.proofs.CodeSteps.{code_lawful, moves-few}
use Rattle.exploration.proofs.FoundShort.{Short, short-for, found-short}
use Rattle.exploration.proofs.Invariants as I
use Rattle.exploration.proofs.Pauses.{fit_after}
use Rattle.exploration.proofs.PortionEnds.{Reaching, reaching, further_none}
use Rattle.exploration.proofs.Portions.{judged}
use Rattle.exploration.proofs.Recorded.{recorded}
use Rattle.exploration.proofs.Trace.{recorded-short}
use Rattle.exploration.proofs.TrialCounts.{trials-within, trials-few}
use Rattle.exploration.proofs.Laws.{marked_le}
use Rattle.verdicts.specs.Answers as F
use Rattle.verdicts.specs.Left.{Left, zeroed}
use Rattle.verdicts.specs.Promises.{Room, answer_of, SearchRefused}
use Rattle.verdicts.specs.working.Searching.{roomy, verdict_of, left_with, left_alone, found_by}
use Rattle.verdicts.proofs.SearchTells.{searched_said, no_room, of_text}
use Rattle.pauses.specs.Answers.{paused}
use Rattle.pauses.specs.Held.{Held}
use Rattle.pauses.specs.Promises.{TableRoom, HeldRefused, AnyHeld, AnyLeft, AnyTells, RefusedFirst, Bounded, FinishBounded, AllBounded, PausesBounded, PausedWithoutCase}
use Rattle.pauses.specs.working.Pausing.{flat_of, tabled, held_alone, held_by, nothing_left, open_for, portion_in, portion_for, last_recorded, can_close, all_from, finish_in, finish_for, held_in, left_in, open_of, portion_of, finish_of}
use Rattle.pauses.proofs.FlatTexts.{FlatSays, flat_says}
use Rattle.pauses.proofs.Finished.{finish-no, finish-yes, finish-other}

-- A list put over the front of a table.

pub over-rest : (front l : List ℕ) (n : ℕ) → length front ≤ n → drop n (over front l) ≡ drop n l
over-rest front l n h =
    let e : n ≡ length front + (n - length front) = omega arith in
    ap (λ (k : ℕ). drop k (over front l)) e
    ∙ drop-append-add front (drop (length front) l) (n - length front)
    ∙ drop-drop (n - length front) (length front) l
    ∙ ap (λ (k : ℕ). drop k l) (sym e)

pub over-length : (front l : List ℕ) → length front ≤ length l → length (over front l) ≡ length l
over-length front l h = length_front l front (length front) (sym (length-take-le (length front) l h))

-- The length in an answer.
abbrev length_in : F.Wording → ℕ
length_in (F.verdict s n t) = n
length_in (F.returned n i) = 0

refused_left : (n i : ℕ) → number_of (reason_of n) ≡ n → (first second sheet : List ℕ) → SearchRefused n i first second sheet (left_alone n i first second sheet)
unfolding F.wording_of
refused_left n i e first second sheet = record { answered = ap (λ k. F.returned k i) e; first_kept = refl; second_kept = refl; sheet_kept = refl }

-- The flat form by the answer to a text.
abbrev flat_by : N.Outcome → System
flat_by o = system_in (code_in (reading_in o)).ops (plan_of (code_in (reading_in o)))

-- Over the flat form of a text's model.
module _ (text : List ℕ) (m : Model) (says : TextSays text m) where
  abbrev pub M : System
  M = flat_of text

  abbrev pub T : Transitions
  T = transitions_of (flat_of text)

  pub flat : FlatSays text m
  flat = flat_says text m says

  pub law : Lawful T
  law = code_lawful (read_code text).ops (plan_of (read_code text))

  pub few-states : size M ≤ 4096
  few-states = let plan = plan_of (read_code text) in pow_small plan.bits (2 ^ plan.bits) flat.sound.few_bits refl

  pub few-moves : length (moves T) ≤ 4096
  few-moves = moves-few (read_code text).ops (plan_of (read_code text)) flat.sound

  pub sized : size M ≡ state_count m
  sized = flat.agrees.size

  -- What a text's calls are.
  pub open_is : (first second : List ℕ) → open_of text first second ≡ open_for M first second
  unfolding open_of
  open_is first second = ap (λ (o : N.Outcome). held_in o (open_for M) first second) flat.read

  pub portion-is : (p : Pause) (k : ℕ) (first second : List ℕ) → portion_of text p k first second ≡ portion_for M p k first second
  unfolding portion_of
  portion-is p k first second = ap (λ (o : N.Outcome). held_in o (portion_for M p k) first second) flat.read

  pub finish-is : (p : Pause) (first second sheet : List ℕ) → finish_of text p first second sheet ≡ finish_for M p first second sheet
  unfolding finish_of
  finish-is p first second sheet = ap (λ (o : N.Outcome). left_in o (finish_for M p) first second sheet) flat.read

  -- Room is what is tested.
  pub tables_there : (first second : List ℕ) → TableRoom m first second → tabled M first second ≡ true
  unfolding tabled
  tables_there first second r =
      and_join _ _ (le-leb (size M) (length first) (subst (λ (n : ℕ). n ≤ length first) (sym sized) r.0))
      (le-leb (size M) (length second) (subst (λ (n : ℕ). n ≤ length second) (sym sized) r.1))

  pub tables_room : (first second : List ℕ) → tabled M first second ≡ true → TableRoom m first second
  unfolding tabled
  tables_room first second e =
      let a = and_split (leb (size M) (length first)) _ e in (
        subst (λ (n : ℕ). n ≤ length first) sized (leb-true (size M) (length first) a.0),
        subst (λ (n : ℕ). n ≤ length second) sized (leb-true (size M) (length second) a.1),
      )

  room-same : sheet_room M ≡ sheet_room (system_of m)
  room-same = ap (λ (n : ℕ). 4 + 3 + 10 * n) sized

  pub all_there : (first second sheet : List ℕ) → Room m first second sheet → roomy M first second sheet ≡ true
  unfolding roomy
  all_there first second sheet r =
      and_join _ _ (le-leb (size M) (length first) (subst (λ (n : ℕ). n ≤ length first) (sym sized) r.0))
      (and_join _ _ (le-leb (size M) (length second) (subst (λ (n : ℕ). n ≤ length second) (sym sized) r.1))
      (le-leb (sheet_room M) (length sheet) (subst (λ (n : ℕ). n ≤ length sheet) (sym room-same) r.2)))

  all_room : (first second sheet : List ℕ) → roomy M first second sheet ≡ true → Room m first second sheet
  unfolding roomy
  all_room first second sheet e =
      let a = and_split (leb (size M) (length first)) _ e in
      let b = and_split (leb (size M) (length second)) (leb (sheet_room M) (length sheet)) a.1 in (
        subst (λ (n : ℕ). n ≤ length first) sized (leb-true _ _ a.0),
        subst (λ (n : ℕ). n ≤ length second) sized (leb-true _ _ b.0),
        subst (λ (n : ℕ). n ≤ length sheet) room-same (leb-true _ _ b.1),
      )

  -- Where a search stands, over tables with room: the position, and what is left beyond the states.
  module _ (s : Stand) (R : Reaching T s) (first second : List ℕ) (r : TableRoom m first second) where
    queue-fits : length (seen_in s.went).queue ≤ state_count m
    queue-fits = subst (λ (n : ℕ). length (seen_in s.went).queue ≤ n) sized R.met

    parent-fits : length (seen_in s.went).parent ≡ state_count m
    parent-fits = R.fit.sized ∙ sized

    held_any : AnyHeld m first second (held_by s first second)
    held_any =
        record {
          position = pause_of s;
          answered = refl;
          first_kept = over-rest (seen_in s.went).queue first (state_count m) queue-fits;
          second_kept = over-rest (seen_in s.went).parent second (state_count m) (omega (arith, parent-fits));
          first_long = over-length (seen_in s.went).queue first (le_trans queue-fits r.0);
          second_long = over-length (seen_in s.went).parent second (omega (arith, parent-fits, r.1));
        }

  bounded_pause : (s : Stand) → Reaching T s → Bounded (paused (pause_of s))
  bounded_pause s R = (omega (arith, R.within, R.met, few-states), omega (arith, R.met, few-states), R.few)

  opened_reaching : Reaching T (opened T)
  opened_reaching =
      let F = subst (λ (s : Stand). I.Fit T (seen_in s.went)) (further_none T (opened T)) (fit_after T law 0) in
      record { fit = F; within = omega arith; met = omega (arith, F.counted, marked_le (seen_in (opened T).went).parent, F.sized); few = omega arith }

  further_reaching : (p : Pause) (k : ℕ) (first second : List ℕ) → TableRoom m first second → intact (size M) p first second ≡ true
      → Reaching T (further T k (stand_in T p first second))
  further_reaching p k first second r e =
      reaching T law few-states few-moves p first second
      (judged T p first second (subst (λ (n : ℕ). n ≤ length first) (sym sized) r.0) (subst (λ (n : ℕ). n ≤ length second) (sym sized) r.1) e) k

  -- Any property of what a portion leaves, where there is room.
  portion-cases : (P : Held → Type 0) (p : Pause) (k : ℕ) (first second : List ℕ) → TableRoom m first second
      → ((s : Stand) → Reaching T s → P (held_by s first second)) → P (record { answer = paused nothing_left; first = first; second = second })
      → P (portion_in M p k first second)
  unfolding portion_in
  portion-cases P p k first second r stands lost = go (intact (size M) p first second) refl
    where
      go : (b : Bool) → intact (size M) p first second ≡ b
          → P (cond b (held_by (further T k (stand_in T p first second)) first second) (record { answer = paused nothing_left; first = first; second = second }))
      go true e = stands (further T k (stand_in T p first second)) (further_reaching p k first second r e)
      go false e = lost

  none_any : (first second : List ℕ) → AnyHeld m first second (record { answer = paused nothing_left; first = first; second = second })
  none_any first second =
      record { position = nothing_left; answered = refl; first_kept = refl; second_kept = refl; first_long = refl; second_long = refl }

  -- What finishing leaves, where there is room: a verdict's sheet.
  pub record FinishedBy (p : Pause) (first second sheet : List ℕ) : Type 0 where
    pub verdict : Verdict
    pub trials : ℕ
    pub same : finish_in M p first second sheet ≡ left_with M verdict trials first second sheet
    pub short : length (sheet_bytes M (evidence_of verdict)) ≤ sheet_room M
    pub few : trials ≤ 67108864

  some-states : 1 ≤ T.size
  some-states = pow_pos M.bits

  header-room : (n : ℕ) → n + 2 ≤ length (header_bytes M) + 10 * T.size → n ≤ sheet_room M
  unfolding header_bytes record_bytes little
  header-room n h = omega arith

  found-fits : length (sheet_bytes M (evidence_of (found_in T))) ≤ sheet_room M
  found-fits = header-room (length (sheet_bytes M (evidence_of (found_in T)))) (found-short M T m flat.agrees)

  found-few : trial_count T ≤ 67108864
  found-few = omega (arith, trials-within T m flat.agrees, trials-few m (all_regular text m says))

  closed-short : (o : Progress) → I.Fit T (seen_in o) → can_close T o ≡ true → Short T (result_of T o)
  unfolding last_recorded
  closed-short (through x) F c = tt
  closed-short (broke x) F c =
      let a = and_split (ltb 0 (length x.queue)) _ c in
      let h = ltb-true 0 (length x.queue) a.0 in
      recorded-short T x.parent (get_or x.queue (length x.queue - 1) 0)
      (recorded T x.parent (get_or x.queue (length x.queue - 1) 0) (F.below (length x.queue - 1) (omega arith)) a.1)

  anew : (p : Pause) (first second sheet : List ℕ) → finish_in M p first second sheet ≡ found_by M first second sheet → FinishedBy p first second sheet
  anew p first second sheet e = record { verdict = found_in T; trials = trial_count T; same = e; short = found-fits; few = found-few }

  pub finished_by : (p : Pause) (first second sheet : List ℕ) → TableRoom m first second → FinishedBy p first second sheet
  finished_by p first second sheet r = go (intact (size M) p first second) refl
    where
      closes : (e : intact (size M) p first second ≡ true) (b : Bool) → can_close T (all_from M p first second).went ≡ b → FinishedBy p first second sheet
      closes e true c =
          let R = further_reaching p (size M) first second r e in
          let o = (all_from M p first second).went in
          record {
            verdict = verdict_for T (result_of T o);
            trials = (all_from M p first second).trials;
            same = finish-yes M p first second sheet e c;
            short = header-room (length (sheet_bytes M (evidence_of (verdict_for T (result_of T o))))) (short-for M T some-states (result_of T o) (closed-short o R.fit c));
            few = R.few;
          }
      closes e false c = anew p first second sheet (finish-other M p first second sheet e c)

      go : (b : Bool) → intact (size M) p first second ≡ b → FinishedBy p first second sheet
      go true e = closes e (can_close T (all_from M p first second).went) refl
      go false e = anew p first second sheet (finish-no M p first second sheet e)

  -- Where there is room, and where there is none.
  module _ (first second : List ℕ) where
    pub no_tables : ¬ (TableRoom m first second) → tabled M first second ≡ false
    no_tables h = go (tabled M first second) refl
      where
        go : (b : Bool) → tabled M first second ≡ b → b ≡ false
        go true e = absurd (h (tables_room first second e))
        go false e = refl

  module _ (p : Pause) (k : ℕ) (first second : List ℕ) where
    pub open-there : TableRoom m first second → open_of text first second ≡ held_by (opened T) first second
    unfolding open_for
    open-there r = open_is first second ∙ ap (λ (b : Bool). cond b (held_by (opened T) first second) (held_alone 8 0 first second)) (tables_there first second r)

    pub open_missing : ¬ (TableRoom m first second) → open_of text first second ≡ held_alone 8 0 first second
    unfolding open_for
    open_missing h = open_is first second ∙ ap (λ (b : Bool). cond b (held_by (opened T) first second) (held_alone 8 0 first second)) (no_tables first second h)

    pub portion-there : TableRoom m first second → portion_of text p k first second ≡ portion_in M p k first second
    unfolding portion_for
    portion-there r = portion-is p k first second ∙ ap (λ (b : Bool). cond b (portion_in M p k first second) (held_alone 8 0 first second)) (tables_there first second r)

    portion_missing : ¬ (TableRoom m first second) → portion_of text p k first second ≡ held_alone 8 0 first second
    unfolding portion_for
    portion_missing h = portion-is p k first second ∙ ap (λ (b : Bool). cond b (portion_in M p k first second) (held_alone 8 0 first second)) (no_tables first second h)

  module _ (p : Pause) (first second sheet : List ℕ) where
    pub finish-there : Room m first second sheet → finish_of text p first second sheet ≡ finish_in M p first second sheet
    unfolding finish_for
    finish-there r = finish-is p first second sheet ∙ ap (λ (b : Bool). cond b (finish_in M p first second sheet) (left_alone 8 0 first second sheet)) (all_there first second sheet r)

    finish_missing : ¬ (Room m first second sheet) → finish_of text p first second sheet ≡ left_alone 8 0 first second sheet
    unfolding finish_for
    finish_missing h =
        finish-is p first second sheet ∙ ap (λ (b : Bool). cond b (finish_in M p first second sheet) (left_alone 8 0 first second sheet)) (go (roomy M first second sheet) refl)
      where
        go : (b : Bool) → roomy M first second sheet ≡ b → b ≡ false
        go true e = absurd (h (all_room first second sheet e))
        go false e = refl

  -- The bytes of a verdict's sheet, and the answer that goes with it.
  verdict-length : (v : Verdict) (l t : ℕ) (s : String) (n : ℕ) (k : Option ℕ) → F.wording_of (Ok (verdict_of v l t)) ≡ F.verdict s n k → n ≡ l
  unfolding verdict_of F.wording_of
  verdict-length (safe_by map) l t s n k e = sym (ap length_in e)
  verdict-length (void_by map) l t s n k e = sym (ap length_in e)
  verdict-length (unsafe_by q xs) l t s n k e = sym (ap length_in e)

  left_any : (v : Verdict) (t : ℕ) (first second sheet : List ℕ) → length (sheet_bytes M (evidence_of v)) ≤ sheet_room M → AnyLeft m first second sheet (left_with M v t first second sheet)
  left_any v t first second sheet h =
      record {
        bytes = sheet_bytes M (evidence_of v);
        few = subst (λ (n : ℕ). length (sheet_bytes M (evidence_of v)) ≤ n) room-same h;
        written = refl;
        answered = λ n i e. searched_said v (length (sheet_bytes M (evidence_of v))) t n i e;
        told = λ s n k e. verdict-length v (length (sheet_bytes M (evidence_of v))) t s n k e;
        first_cleared = ap (λ (n : ℕ). zeroed n first) sized;
        second_cleared = ap (λ (n : ℕ). zeroed n second) sized;
      }

  verdict-few : (v : Verdict) (l t : ℕ) → l ≤ 7 + 10 * 4096 → t ≤ 67108864 → FinishBounded (F.wording_of (Ok (verdict_of v l t)))
  unfolding verdict_of F.wording_of
  verdict-few (safe_by map) l t h k = (h, k)
  verdict-few (void_by map) l t h k = (h, omega arith)
  verdict-few (unsafe_by q xs) l t h k = (h, omega arith)

  -- The bounds, for every position and all buffers.
  few-room : sheet_room M ≤ 7 + 10 * 4096
  few-room = omega (arith, few-states)

  bounded_none : Bounded (paused nothing_left)
  bounded_none = (omega arith, omega arith, omega arith)

  bounded_open : (first second : List ℕ) → (b : Bool) → tabled M first second ≡ b → Bounded (cond b (held_by (opened T) first second) (held_alone 8 0 first second)).answer
  bounded_open first second true e = bounded_pause (opened T) opened_reaching
  bounded_open first second false e = (omega arith, omega arith, omega arith)

  bounded_portion : (p : Pause) (k : ℕ) (first second : List ℕ) → (b : Bool) → tabled M first second ≡ b → Bounded (cond b (portion_in M p k first second) (held_alone 8 0 first second)).answer
  bounded_portion p k first second true e =
      portion-cases (λ (H : Held). Bounded H.answer) p k first second (tables_room first second e) bounded_pause bounded_none
  bounded_portion p k first second false e = (omega arith, omega arith, omega arith)

  bounded_finish : (p : Pause) (first second sheet : List ℕ) → (b : Bool) → roomy M first second sheet ≡ b
      → FinishBounded (answer_of (cond b (finish_in M p first second sheet) (left_alone 8 0 first second sheet)))
  unfolding F.wording_of
  bounded_finish p first second sheet true e =
      let r = all_room first second sheet e in
      let B = finished_by p first second sheet (r.0, r.1) in
      subst (λ (L : Left). FinishBounded (answer_of L)) (sym B.same)
      (verdict-few B.verdict (length (sheet_bytes M (evidence_of B.verdict))) B.trials (le_trans B.short few-room) B.few)
  bounded_finish p first second sheet false e = (omega (arith, no_room), omega (arith, no_room), omega arith)

pub any_tells : AnyTells
any_tells text m says p k first second sheet =
    record {
      opened = λ r. subst (AnyHeld m first second) (sym (open-there text m says p k first second r)) (held_any text m says (opened (T text m says)) (opened_reaching text m says) first second r);
      not_opened = λ h. subst (HeldRefused 8 0 first second) (sym (open_missing text m says p k first second h)) (alone 8 0);
      portion = λ r.
          subst (AnyHeld m first second) (sym (portion-there text m says p k first second r))
          (portion-cases text m says (AnyHeld m first second) p k first second r (λ s R. held_any text m says s R first second r) (none_any text m says first second));
      no_portion = λ h. subst (HeldRefused 8 0 first second) (sym (portion_missing text m says p k first second h)) (alone 8 0);
      finished = λ r.
          let B = finished_by text m says p first second sheet (r.0, r.1) in
          subst (AnyLeft m first second sheet) (sym (finish-there text m says p first second sheet r ∙ B.same))
          (left_any text m says B.verdict B.trials first second sheet B.short);
      not_finished = λ h. subst (SearchRefused 8 0 first second sheet) (sym (finish_missing text m says p first second sheet h)) (refused_left 8 0 no_room first second sheet);
    }
  where
    alone : (n i : ℕ) → HeldRefused n i first second (held_alone n i first second)
    alone n i = record { answered = refl; first_kept = refl; second_kept = refl }

-- A text that is refused.
module _ (text : List ℕ) (n i : ℕ) (e : answer text ≡ N.refused n i) where
  open-refused : (first second : List ℕ) → open_of text first second ≡ held_alone n i first second
  unfolding open_of
  open-refused first second = ap (λ (o : N.Outcome). held_in o (open_for (flat_of text)) first second) e

  portion-refused : (p : Pause) (k : ℕ) (first second : List ℕ) → portion_of text p k first second ≡ held_alone n i first second
  unfolding portion_of
  portion-refused p k first second = ap (λ (o : N.Outcome). held_in o (portion_for (flat_of text) p k) first second) e

  finish-refused : (p : Pause) (first second sheet : List ℕ) → finish_of text p first second sheet ≡ left_alone n i first second sheet
  unfolding finish_of
  finish-refused p first second sheet = ap (λ (o : N.Outcome). left_in o (finish_for (flat_of text) p) first second sheet) e

pub refused-first : RefusedFirst
refused-first text n i r p k first second sheet =
    let e = refused-answer r in
    record {
      opened = subst (HeldRefused n i first second) (sym (open-refused text n i e first second)) (record { answered = refl; first_kept = refl; second_kept = refl });
      portion = subst (HeldRefused n i first second) (sym (portion-refused text n i e p k first second)) (record { answered = refl; first_kept = refl; second_kept = refl });
      finished = subst (SearchRefused n i first second sheet) (sym (finish-refused text n i e p first second sheet)) (refused_left n i (of_text r) first second sheet);
    }

pub pauses_bounded : PausesBounded
unfolding open_for portion_for finish_for F.wording_of
pauses_bounded text p k first second sheet = go (one_answer text).some
  where
    go : ((m : Model) × TextSays text m) ⊎ ((n i : ℕ) × TextRefused text n i) → AllBounded text p k first second sheet
    go (inl (m, says)) =
        record {
          opened = subst (λ (H : Held). Bounded H.answer) (sym (open_is text m says first second)) (bounded_open text m says first second (tabled (flat_of text) first second) refl);
          portion = subst (λ (H : Held). Bounded H.answer) (sym (portion-is text m says p k first second)) (bounded_portion text m says p k first second (tabled (flat_of text) first second) refl);
          finished = subst (λ (L : Left). FinishBounded (answer_of L)) (sym (finish-is text m says p first second sheet)) (bounded_finish text m says p first second sheet (roomy (flat_of text) first second sheet) refl);
        }
    go (inr (n, i, r)) =
        let e = refused-answer r in
        let B = refusals_bounded text n i r in
        let b : (1 ≤ n) × (n ≤ 8) × (i ≤ longest_text) = (B.low, omega (arith, B.high), B.near) in
        record {
          opened = subst (λ (H : Held). Bounded H.answer) (sym (open-refused text n i e first second)) b;
          portion = subst (λ (H : Held). Bounded H.answer) (sym (portion-refused text n i e p k first second)) b;
          finished = subst (λ (L : Left). FinishBounded (answer_of L)) (sym (finish-refused text n i e p first second sheet))
              (omega (arith, of_text r, B.low), omega (arith, of_text r, B.high), B.near);
        }

-- Texts with the same answer have the same calls.
pub paused_without_case : PausedWithoutCase
unfolding open_of portion_of finish_of
paused_without_case text other r p k first second sheet =
    let e = answers_recased r in
    record {
      opened = ap (λ (o : N.Outcome). held_in o (open_for (flat_by o)) first second) e;
      portion = ap (λ (o : N.Outcome). held_in o (portion_for (flat_by o) p k) first second) e;
      finished = ap (λ (o : N.Outcome). left_in o (finish_for (flat_by o) p) first second sheet) e;
    }
