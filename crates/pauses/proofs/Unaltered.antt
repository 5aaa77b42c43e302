-- Position and tables that calls left hold where the search of the text's model stands, after so many states at most.
-- Assumes nothing.
use mathlib.Core.Path.{◌≡◌, refl, sym, ap, ◌∙◌, subst}
use mathlib.Core.Bool.{Bool, true, false, cond, true≢false}
use mathlib.Core.List.{List, [], ◌∷◌, ◌++◌}
use Prim.Native.Nat.{ℕ, ◌+◌, ◌≤◌}
use native.Mathlib.Omega.{arith}
use native.Mathlib.Nat.{le_trans}
use lib.ListN.{length, take, drop, replicate, length-take, take-append-drop}
use lib.Seq.{take_at, length-take-le, take-take}
use Rattle.notation.specs.Model.{Model}
use Rattle.notation.specs.Texts.{TextSays}
use Rattle.meaning.specs.OneRow.{state_count}
use Rattle.sheets.specs.Sheets.{System, size}
use Rattle.exploration.specs.Pause.{Pause}
use Rattle.exploration.specs.working.Transitions.{Transitions}
use Rattle.exploration.specs.working.Exploring.{Progress, search}
use Rattle.exploration.specs.working.Results.{result}
use Rattle.exploration.specs.working.Pauses.{Stand, seen_in, opened, after, further, pause_of, stand_in, over, Holds, intact}
use Rattle.exploration.specs.working.Found.{found_in, transitions_of}
use Rattle.exploration.proofs.Pauses.{fit_after, intact_held}
use Rattle.exploration.proofs.PortionEnds.{further_none, grown-further, after-all, all-went, all-trials, met-few}
use Rattle.exploration.proofs.Portions.{holds-stand, further-further}
use Rattle.verdicts.specs.Left.{Left}
use Rattle.verdicts.specs.Promises.{Room}
use Rattle.verdicts.specs.working.Searching.{roomy, left_by, left_alone, found_by, search_for, search_of}
use Rattle.pauses.specs.Answers.{Wording, paused, returned}
use Rattle.pauses.specs.Held.{Held}
use Rattle.pauses.specs.Promises.{TableRoom, Paused, HandsBack, Moved, Later, here, portioned, moved, Unaltered, portions_from, finish_from, PortionsAgree, FinishAgrees}
use Rattle.pauses.specs.working.Pausing.{flat_of, tabled, held_by, nothing_left, portion_in, can_close, all_from, finish_in, finish_for, open_of, portion_of, finish_of}
use Rattle.pauses.proofs.AnyCalls as C
use Rattle.pauses.proofs.Finished.{finish-no, finish-yes, finish-other}

-- The position in an answer.
abbrev position_in : Wording → Pause
position_in (paused p) = p
position_in (returned n i) = nothing_left

-- Whether an answer is a position.
abbrev is_position : Wording → ℕ
is_position (paused p) = 1
is_position (returned n i) = 0

-- A list put over a front that is no longer.
over-over : (a b l : List ℕ) → length a ≤ length b → over b (over a l) ≡ over b l
over-over a b l h = ap (λ (r : List ℕ). b ++ r) (C.over-rest a l (length b) h)

pub over-same : (a l : List ℕ) → take (length a) l ≡ a → over a l ≡ l
over-same a l e = ap (λ (f : List ℕ). f ++ drop (length a) l) (sym e) ∙ take-append-drop (length a) l

module _ (text : List ℕ) (m : Model) (says : TextSays text m) where
  abbrev M : System
  M = flat_of text

  abbrev T : Transitions
  T = transitions_of (flat_of text)

  abbrev queue_at : ℕ → List ℕ
  queue_at h = (seen_in (after (transitions_of (flat_of text)) h).went).queue

  abbrev parents_at : ℕ → List ℕ
  parents_at h = (seen_in (after (transitions_of (flat_of text)) h).went).parent

  queue-few : (h : ℕ) → length (queue_at h) ≤ state_count m
  queue-few h = subst (λ (n : ℕ). length (queue_at h) ≤ n) (C.sized text m says) (met-few T (C.law text m says) h)

  parents-sized : (h : ℕ) → length (parents_at h) ≡ size M
  parents-sized h = (fit_after T (C.law text m says) h).sized

  -- What is held after h states at most.
  pub record StandsAt (h : ℕ) (a : Paused) : Type 0 where
    pub holds : Holds T (after T h) a.position a.first a.second
    pub room : TableRoom m a.first a.second

  held_at : (h : ℕ) (first second : List ℕ) → TableRoom m first second → (a : Paused) → HandsBack (held_by (after T h) first second) a → StandsAt h a
  held_at h first second r a b =
      record {
        holds =
            record {
              position = sym (ap position_in b.0);
              queue = ap (take (length (queue_at h))) (sym b.1) ∙ take_at (queue_at h) (drop (length (queue_at h)) first) (length (queue_at h)) refl;
              parents = ap (take (size M)) (sym b.2) ∙ take_at (parents_at h) (drop (length (parents_at h)) second) (size M) (parents-sized h);
            };
        room = (
          subst (λ (n : ℕ). state_count m ≤ n) (sym (ap length (sym b.1) ∙ C.over-length (queue_at h) first (le_trans (queue-few h) r.0))) r.0,
          subst (λ (n : ℕ). state_count m ≤ n)
              (sym (ap length (sym b.2) ∙ C.over-length (parents_at h) second (subst (λ (n : ℕ). n ≤ length second) (sym (parents-sized h ∙ C.sized text m says)) r.1))) r.1,
        );
      }

  hands : (H K : Held) → H ≡ K → (a : Paused) → HandsBack H a → HandsBack K a
  hands H K e a b = subst (λ (G : Held). HandsBack G a) e b

  opened-is : (first second : List ℕ) → TableRoom m first second → open_of text first second ≡ held_by (after T 0) first second
  opened-is first second r =
      C.open-there text m says nothing_left 0 first second r ∙ ap (λ (s : Stand). held_by s first second) (sym (further_none T (opened T)))

  opened-at : (first second : List ℕ) (a : Paused) → HandsBack (open_of text first second) a → StandsAt 0 a
  opened-at first second a b = go (tabled M first second) refl
    where
      go : (t : Bool) → tabled M first second ≡ t → StandsAt 0 a
      go true e =
          let r = C.tables_room text m says first second e in
          held_at 0 first second r a (hands _ _ (opened-is first second r) a b)
      go false e =
          let h : ¬ (TableRoom m first second) = λ r. true≢false (sym (C.tables_there text m says first second r) ∙ e) in
          let z : ◌≡◌ {A = ℕ} 0 1 = sym (ap (λ (H : Held). is_position H.answer) (C.open_missing text m says nothing_left 0 first second h)) ∙ ap is_position b.0 in
          absurd (omega arith)

  -- A portion goes on from there.
  pub portion-goes : (h : ℕ) (a : Paused) → StandsAt h a → (k : ℕ) → portion_of text a.position k a.first a.second ≡ held_by (after T (h + k)) a.first a.second
  unfolding portion_in
  portion-goes h a S k =
      let i = intact_held T (C.law text m says) (C.few-states text m says) (C.few-moves text m says) h S.holds in
      let s = further T k (stand_in T a.position a.first a.second) in
      let lost : Held = record { answer = paused nothing_left; first = a.first; second = a.second } in
      C.portion-there text m says a.position k a.first a.second S.room
      ∙ ap (λ (t : Bool). cond t (held_by s a.first a.second) lost) i
      ∙ ap (λ (u : Stand). held_by (further T k u) a.first a.second) (holds-stand S.holds)
      ∙ ap (λ (u : Stand). held_by u a.first a.second) (further-further T h k (opened T))

  portioned-at : (h : ℕ) (a : Paused) → StandsAt h a → (k : ℕ) (b : Paused) → HandsBack (portion_of text a.position k a.first a.second) b → StandsAt (h + k) b
  portioned-at h a S k b e = held_at (h + k) a.first a.second S.room b (hands _ _ (portion-goes h a S k) b e)

  long-enough : (l k : List ℕ) (n : ℕ) → take n l ≡ take n k → n ≤ length k → n ≤ length l
  long-enough l k n e h = omega (arith, ap length e, length-take-le n k h, length-take n l)

  moved_at : (h : ℕ) (a : Paused) → StandsAt h a → (b : Paused) → Moved m a b → StandsAt h b
  moved_at h a S b e =
      let n = length (queue_at h) in
      let f : take n b.first ≡ take n a.first =
      sym (take-take n (state_count m) b.first (queue-few h)) ∙ ap (take n) e.first ∙ take-take n (state_count m) a.first (queue-few h) in
      record {
        holds =
            record {
              position = e.position ∙ S.holds.position;
              queue = f ∙ S.holds.queue;
              parents = subst (λ (k : ℕ). take k b.second ≡ take k a.second) (sym (C.sized text m says)) e.second ∙ S.holds.parents;
            };
        room = (long-enough b.first a.first (state_count m) e.first S.room.0, long-enough b.second a.second (state_count m) e.second S.room.1);
      }

  pub later_at : (h : ℕ) (a : Paused) → StandsAt h a → (b : Paused) → Later text m a b → (k : ℕ) × StandsAt (h + k) b
  later_at h a S _ here = (0, subst (λ (n : ℕ). StandsAt n a) (omega arith) S)
  later_at h a S _ (portioned b l k c e) =
      let (j, B) = later_at h a S b l in
      (j + k, subst (λ (n : ℕ). StandsAt n c) (omega arith) (portioned-at (h + j) b B k c e))
  later_at h a S _ (moved b l c e) = let (j, B) = later_at h a S b l in (j, moved_at (h + j) b B c e)

  pub unaltered-at : (a : Paused) → Unaltered text m a → (h : ℕ) × StandsAt h a
  unaltered-at a U = let (k, S) = later_at 0 U.start (opened-at U.lent_first U.lent_second U.start U.opened) a U.since in (0 + k, S)

  -- Finished from there, the search leaves what it leaves in one go.

  all_of : (h : ℕ) → after T (h + size M) ≡ after T (size M)
  all_of h = ap (after T) (let e : h + size M ≡ size M + h = omega arith in e) ∙ after-all T (C.law text m says) h

  found_left : (first second sheet : List ℕ) → left_by M (after T (size M)).went (after T (size M)).trials first second sheet ≡ found_by M first second sheet
  unfolding found_in result
  found_left first second sheet =
      ap (λ (o : Progress). left_by M o (after T (size M)).trials first second sheet) (all-went T (C.law text m says))
      ∙ ap (λ (n : ℕ). left_by M (search T) n first second sheet) (all-trials T (C.law text m says))

  finish-found : (h : ℕ) (a : Paused) → StandsAt h a → (sheet : List ℕ) → finish_in M a.position a.first a.second sheet ≡ found_by M a.first a.second sheet
  finish-found h a S sheet = go (intact (size M) a.position a.first a.second) refl
    where
      all_same : all_from M a.position a.first a.second ≡ after T (size M)
      all_same = ap (further T (size M)) (holds-stand S.holds) ∙ further-further T h (size M) (opened T) ∙ all_of h

      closes : (e : intact (size M) a.position a.first a.second ≡ true) (b : Bool) → can_close T (all_from M a.position a.first a.second).went ≡ b
          → finish_in M a.position a.first a.second sheet ≡ found_by M a.first a.second sheet
      closes e true c =
          finish-yes M a.position a.first a.second sheet e c
          ∙ ap (λ (s : Stand). left_by M s.went s.trials a.first a.second sheet) all_same
          ∙ found_left a.first a.second sheet
      closes e false c = finish-other M a.position a.first a.second sheet e c

      go : (b : Bool) → intact (size M) a.position a.first a.second ≡ b → finish_in M a.position a.first a.second sheet ≡ found_by M a.first a.second sheet
      go true e = closes e (can_close T (all_from M a.position a.first a.second).went) refl
      go false e = finish-no M a.position a.first a.second sheet e

  pub finish-searched : (h : ℕ) (a : Paused) → StandsAt h a → (sheet : List ℕ) → finish_of text a.position a.first a.second sheet ≡ search_of text a.first a.second sheet
  unfolding finish_for search_for
  finish-searched h a S sheet =
      C.finish-is text m says a.position a.first a.second sheet
      ∙ ap (λ (L : Left). cond (roomy M a.first a.second sheet) L (left_alone 8 0 a.first a.second sheet)) (finish-found h a S sheet)
      ∙ (C.flat text m says).same a.first a.second sheet

  -- Portions one after the other, over the tables as they were lent.

  abbrev held_paused : ℕ → List ℕ → List ℕ → Paused
  held_paused h first second =
      let H = held_by (after (transitions_of (flat_of text)) h) first second in
      record { position = pause_of (after (transitions_of (flat_of text)) h); first = H.first; second = H.second }

  paused-at : (h : ℕ) (first second : List ℕ) → TableRoom m first second → StandsAt h (held_paused h first second)
  paused-at h first second r = held_at h first second r (held_paused h first second) (refl, refl, refl)

  again : (h k : ℕ) (first second : List ℕ) → held_by (after T (h + k)) (held_paused h first second).first (held_paused h first second).second ≡ held_by (after T (h + k)) first second
  again h k first second =
      let g : length (queue_at h) ≤ length (queue_at (h + k)) = subst (λ (s : Stand). length (queue_at h) ≤ length (seen_in s.went).queue) (further-further T h k (opened T)) (grown-further T k (after T h)) in
      let f = over-over (queue_at h) (queue_at (h + k)) first g in
      let e = over-over (parents_at h) (parents_at (h + k)) second (omega (arith, parents-sized h, parents-sized (h + k))) in
      λ i. record { answer = paused (pause_of (after T (h + k))); first = f i; second = e i }

  pub portions_stand : (ks : List ℕ) (h : ℕ) (first second : List ℕ) → TableRoom m first second
      → (j : ℕ) × (portions_from text ks (held_by (after T h) first second) ≡ held_by (after T j) first second)
  unfolding portions_from
  portions_stand [] h first second r = (h, refl)
  portions_stand (k ∷ ks) h first second r =
      let (j, e) = portions_stand ks (h + k) first second r in
      (j, ap (portions_from text ks) (portion-goes h (held_paused h first second) (paused-at h first second r) k ∙ again h k first second) ∙ e)

  -- The tables of a pause, cleared, are those lent, cleared.
  searched-same : (h : ℕ) (first second sheet : List ℕ) → Room m first second sheet
      → search_of text (held_paused h first second).first (held_paused h first second).second sheet ≡ search_of text first second sheet
  unfolding search_for
  searched-same h first second sheet r =
      let a = held_paused h first second in
      let S = paused-at h first second (r.0, r.1) in
      let q = C.over-rest (queue_at h) first (size M) (met-few T (C.law text m says) h) in
      let p = C.over-rest (parents_at h) second (size M) (omega (arith, parents-sized h)) in
      let L = found_by M first second sheet in
      sym ((C.flat text m says).same a.first a.second sheet)
      ∙ ap (λ (t : Bool). cond t (found_by M a.first a.second sheet) (left_alone 8 0 a.first a.second sheet)) (C.all_there text m says a.first a.second sheet (S.room.0, S.room.1, r.2))
      ∙ (λ i. record { answer = L.answer; first = replicate (size M) 0 ++ q i; second = replicate (size M) 0 ++ p i; sheet = L.sheet })
      ∙ sym (ap (λ (t : Bool). cond t (found_by M first second sheet) (left_alone 8 0 first second sheet)) (C.all_there text m says first second sheet r))
      ∙ (C.flat text m says).same first second sheet

pub finish_agrees : FinishAgrees
finish_agrees text m says a U sheet = let (h, S) = unaltered-at text m says a U in finish-searched text m says h a S sheet

pub portions_agree : PortionsAgree
portions_agree text m says ks first second sheet r =
    let t : TableRoom m first second = (r.0, r.1) in
    let (j, e) = portions_stand text m says ks 0 first second t in
    ap (λ (H : Held). finish_from text H.answer H.first H.second sheet) (ap (portions_from text ks) (opened-is text m says first second t) ∙ e)
    ∙ finish-searched text m says j (held_paused text m says j first second) (paused-at text m says j first second t) sheet
    ∙ searched-same text m says j first second sheet r
