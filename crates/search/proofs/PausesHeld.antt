-- What the parts of a search in portions leave, put together.
-- Assumes nothing.
use mathlib.Core.Path.{◌≡◌, refl, sym, ap, ◌∙◌, subst}
use mathlib.Core.Bool.{Bool, true, false, cond, false≢true, ◌&&◌}
use mathlib.Core.List.{List}
use Prim.Native.Nat.{ℕ, ◌-◌, ◌<◌, ◌≤◌}
use native.Mathlib.Omega.{arith}
use lib.Dec.{leb, ltb}
use lib.ListN.{length, get_or, take}
use lib.Seq.{length-take-le, get_or-take}
use borrow.Author.Tests.{leb-true, lt-ltb, le-ltb}
use Rattle.notation.specs.working.Machine as N
use Rattle.notation.specs.working.Answer.{answer}
use Rattle.std.specs.Prelude.{Result, Ok, Err}
use Rattle.refusals.specs.declared.Refusal.{Refusal}
use Rattle.refusals.specs.Reasons.{number_of, refusal_of}
use Rattle.refusals.proofs.Texts.{text_reason}
use Rattle.notation.proofs.Booleans.{and_split}
use Rattle.evaluation.specs.declared.plan.Plan.{Plan}
use Rattle.evaluation.specs.working.CodeSystem.{Sound}
use Rattle.sheets.specs.Sheets.{System, size, sheet_room}
use Rattle.sheets.specs.working.FlatSystem.{system_in}
use Rattle.reader.specs.Read.{read_code}
use Rattle.acceptance.specs.working.Test.{ReadInto}
use Rattle.acceptance.proofs.TestTexts.{read_of, refused_of, plan_read}
use Rattle.exploration.specs.Pause.{Pause}
use Rattle.exploration.specs.working.Transitions.{Transitions}
use Rattle.exploration.specs.working.Exploring.{Progress, broke, progress}
use Rattle.exploration.specs.working.CodeTransitions.{transitions_in}
use Rattle.exploration.specs.working.Tables.{seen, Ready, Kept, Began}
use Rattle.exploration.specs.working.Pauses.{Stand, opened, further, stand_in, intact, GoneOn, records_to}
use Rattle.exploration.specs.working.Found.{found_in}
use Rattle.exploration.specs.working.Written.{RecordedTo, Closing}
use Rattle.exploration.proofs.Laws.{count_le}
use Rattle.exploration.proofs.Recorded.{recorded}
use Rattle.exploration.proofs.Portions.{left_flag, left_count, left_queue, left_parents}
use Rattle.verdicts.specs.Left.{Left}
use Rattle.verdicts.specs.working.Searching.{left_by, found_by}
use Rattle.verdicts.specs.Answers.{Searched}
use Rattle.verdicts.proofs.SearchTells.{no_room}
use Rattle.exploration.specs.working.Trials.{trial_count}
use Rattle.exploration.specs.working.Results.{result_of}
use Rattle.exploration.specs.working.Found.{verdict_for}
use Rattle.conditions.specs.declared.outcome.Declined.{Declined}
use Rattle.conditions.specs.declared.outcome.Declined.TheVariants.{Refused}
use Rattle.pauses.specs.Answers.{Wording, paused, returned}
use Rattle.pauses.specs.Held.{Held, Holding}
use Rattle.pauses.specs.working.Pausing.{flat_of, tabled, held_alone, held_by, nothing_left, portion_in, last_recorded, can_close, closed_by, all_from, finish_in, held_in, left_in, met_for, met_in, met_of}
use Rattle.search.specs.working.Ends.{Ends, room_told}
use Rattle.search.proofs.SearchesLeft.{told_none, told_some, left_kept}

-- A call that may have left this answers so, and leaves the tables so.
abbrev pub Told : Held → Wording → List ℕ → List ℕ → Type 0
Told H w first second = (w ≡ H.answer) × Holding H first second

-- A refusal in words.
abbrev pub refused-with : Refusal → Wording
refused-with x = returned (number_of x.reason) x.place

-- Where the tables have no room the call is refused, and else it leaves what is due.
module _ (M : System) (states : ℕ) (e : states ≡ size M) (q p : List ℕ) where
  abbrev pub there : Bool
  there = leb states (length q) && leb states (length p)

  tested-tabled : there ≡ tabled M q p
  unfolding tabled
  tested-tabled = ap (λ (n : ℕ). leb n (length q) && leb n (length p)) e

  pub tables-missing : {x : Refusal} → Err x ≡ room_told there → (tabled M q p ≡ false) × (x ≡ refusal_of 8 0)
  tables-missing h = let n = told_none there h in (sym tested-tabled ∙ n.0, n.1)

  pub tables_there : {u : Unit {0}} → Ok u ≡ room_told there → tabled M q p ≡ true
  tables_there h = sym tested-tabled ∙ told_some there h

  -- There is room for both.
  pub tables-fit : {u : Unit {0}} → Ok u ≡ room_told there → (states ≤ length q) × (states ≤ length p)
  tables-fit h = let a = and_split (leb states (length q)) _ (told_some there h) in (leb-true _ _ a.0, leb-true _ _ a.1)

  module _ (due : Held) where
    pub told-refused : {x : Refusal} → Err x ≡ room_told there → Told (cond (tabled M q p) due (held_alone 8 0 q p)) (refused-with x) q p
    told-refused {x} h =
        let n = tables-missing h in
        subst (λ (H : Held). Told H (refused-with x) q p) (sym (ap (λ (t : Bool). cond t due (held_alone 8 0 q p)) n.0))
        (ap refused-with n.1 ∙ ap (λ (k : ℕ). returned k 0) no_room, (refl, refl))

    pub told_due : {u : Unit {0}} → Ok u ≡ room_told there → {w : Wording} {q₁ p₁ : List ℕ} → Told due w q₁ p₁ → Told (cond (tabled M q p) due (held_alone 8 0 q p)) w q₁ p₁
    told_due h {w} {q₁} {p₁} t = subst (λ (H : Held). Told H w q₁ p₁) (sym (ap (λ (b : Bool). cond b due (held_alone 8 0 q p)) (tables_there h))) t

pause_same : {e₁ e₂ m₁ m₂ t₁ t₂ : ℕ} {b₁ b₂ : Bool} → e₁ ≡ e₂ → m₁ ≡ m₂ → b₁ ≡ b₂ → t₁ ≡ t₂
    → ◌≡◌ {A = Pause} (record { expanded = e₁; met = m₁; broke = b₁; trials = t₁ }) (record { expanded = e₂; met = m₂; broke = b₂; trials = t₂ })
pause_same a b c d = λ i. record { expanded = a i; met = b i; broke = c i; trials = d i }

-- Over the flat form of a model.
module _ (ops : List ℕ) (plan : Plan) where
  abbrev T : Transitions
  T = transitions_in ops plan

  abbrev M : System
  M = system_in ops plan

  -- Tables and numbers after a part of the search, by where it stands.
  held_stand : {q₀ : List ℕ} {n₀ : ℕ} {p₀ q : List ℕ} {n : ℕ} {p : List ℕ} → Kept T q₀ n₀ p₀ q n p → (b : Bool) (s : Stand) → progress b (seen T q n p) ≡ s.went
      → (e j : ℕ) → e ≡ s.expanded → j ≡ s.trials
      → Told (held_by s q₀ p₀) (paused (record { expanded = e; met = n; broke = b; trials = j })) q p
  held_stand K b s h e j f g = (ap paused (pause_same f (left_count T K b h) (left_flag T K b h) g), (left_queue T K b h, left_parents T K b h))

  pub open_held : (q₀ p₀ : List ℕ) {q : List ℕ} {n : ℕ} {p : List ℕ} {b : Bool} → Began T q₀ p₀ q n p b → (e j : ℕ) → (e ≡ 0) × (j ≡ 0)
      → Told (held_by (opened T) q₀ p₀) (paused (record { expanded = e; met = n; broke = b; trials = j })) q p
  open_held q₀ p₀ {q} {n} {p} {b} B e j z = held_stand B.kept b (opened T) B.what e j z.0 z.1

  module _ (k : ℕ) (a : Pause) (q₀ p₀ : List ℕ) where
    pub portion_held : intact (size M) a q₀ p₀ ≡ true → (b : Pause) {q p : List ℕ} → GoneOn T k a q₀ p₀ b q p → Told (portion_in M a k q₀ p₀) (paused b) q p
    unfolding portion_in
    portion_held h b {q} {p} G =
        let s = further T k (stand_in T a q₀ p₀) in
        let lost : Held = record { answer = paused nothing_left; first = q₀; second = p₀ } in
        subst (λ (H : Held). Told H (paused b) q p)
        (sym (ap (λ (t : Bool). cond t (held_by s q₀ p₀) lost) h))
        (held_stand G.kept b.broke s (ap (λ (u : Stand). u.went) G.stand) b.expanded b.trials
        (ap (λ (u : Stand). u.expanded) G.stand) (ap (λ (u : Stand). u.trials) G.stand))

    pub portion_lost : intact (size M) a q₀ p₀ ≡ false → Told (portion_in M a k q₀ p₀) (paused nothing_left) q₀ p₀
    unfolding portion_in
    portion_lost h =
        let s = further T k (stand_in T a q₀ p₀) in
        let lost : Held = record { answer = paused nothing_left; first = q₀; second = p₀ } in
        subst (λ (H : Held). Told H (paused nothing_left) q₀ p₀) (sym (ap (λ (t : Bool). cond t (held_by s q₀ p₀) lost) h)) (refl, (refl, refl))

  -- What a search that is finished leaves.
  module _ (S : Sound plan) (states : ℕ) (e : states ≡ size M) (o : List ℕ) (room : sheet_room M ≤ length o) (a : Pause) (q₀ p₀ : List ℕ) where
    pub finish-anew : intact (size M) a q₀ p₀ ≡ false → {r : Searched} {q₂ p₂ o₂ : List ℕ} → Ends (found_by M q₀ p₀ o) r q₂ p₂ o₂ → Ends (finish_in M a q₀ p₀ o) r q₂ p₂ o₂
    unfolding finish_in
    finish-anew h {r} {q₂} {p₂} {o₂} l =
        subst (λ (L : Left). Ends L r q₂ p₂ o₂)
        (sym (ap (λ (t : Bool). cond t (closed_by M (all_from M a q₀ p₀).went (all_from M a q₀ p₀).trials q₀ p₀ o) (found_by M q₀ p₀ o)) h)) l

    module _ (h : intact (size M) a q₀ p₀ ≡ true) (b : Pause) {q p : List ℕ} (G : GoneOn T states a q₀ p₀ b q p) where
      abbrev went : Progress
      went = progress b.broke (seen T q b.met p)

      all_same : stand_in T b q p ≡ all_from M a q₀ p₀
      all_same = G.stand ∙ ap (λ (n : ℕ). further T n (stand_in T a q₀ p₀)) e

      closing : finish_in M a q₀ p₀ o ≡ closed_by M went b.trials q₀ p₀ o
      unfolding finish_in
      closing =
          ap (λ (t : Bool). cond t (closed_by M (all_from M a q₀ p₀).went (all_from M a q₀ p₀).trials q₀ p₀ o) (found_by M q₀ p₀ o)) h
          ∙ ap (λ (s : Stand). closed_by M s.went s.trials q₀ p₀ o) (sym all_same)

      pub finish_unclosed : can_close T went ≡ false → {r : Searched} {q₂ p₂ o₂ : List ℕ} → Ends (found_by M q p o) r q₂ p₂ o₂ → Ends (finish_in M a q₀ p₀ o) r q₂ p₂ o₂
      unfolding closed_by
      finish_unclosed c {r} {q₂} {p₂} {o₂} l =
          subst (λ (L : Left). Ends L r q₂ p₂ o₂)
          (left_kept ops plan S states e o room G.kept (found_in T) (trial_count T)
          ∙ sym (closing ∙ ap (λ (t : Bool). cond t (left_by M went b.trials q₀ p₀ o) (found_by M q₀ p₀ o)) c))
          l

      pub finish-closed : can_close T went ≡ true → {r : Searched} {q₂ p₂ o₂ : List ℕ} → Ends (left_by M went b.trials q p o) r q₂ p₂ o₂ → Ends (finish_in M a q₀ p₀ o) r q₂ p₂ o₂
      unfolding closed_by
      finish-closed c {r} {q₂} {p₂} {o₂} l =
          subst (λ (L : Left). Ends L r q₂ p₂ o₂)
          (left_kept ops plan S states e o room G.kept (verdict_for T (result_of T went)) b.trials
          ∙ sym (closing ∙ ap (λ (t : Bool). cond t (left_by M went b.trials q₀ p₀ o) (found_by M q₀ p₀ o)) c))
          l

-- Whether the tables tell the sheet.
module _ (T : Transitions) (b : Bool) (n : ℕ) (q p : List ℕ) where
  abbrev Went : Progress
  Went = progress b (seen T q n p)

  pub close_through : b ≡ false → can_close T Went ≡ true
  close_through e = ap (λ (t : Bool). can_close T (progress t (seen T q n p))) e

  pub close_nothing : b ≡ true → n ≡ 0 → can_close T Went ≡ false
  unfolding last_recorded
  close_nothing e z = ap (λ (t : Bool). can_close T (progress t (seen T q n p))) e ∙ ap (λ (k : ℕ). can_close T (broke (seen T q k p))) z

  pub close_recorded : (states : ℕ) → states ≡ T.size → Ready T q n p → b ≡ true → 0 < n → can_close T Went ≡ records_to T (take states p) states (get_or q (n - 1) 0)
  unfolding last_recorded
  close_recorded states f R e h =
      let l : length (take n q) ≡ n = length-take-le n q (omega (arith, count_le T q n p R, R.queue-room)) in
      ap (λ (t : Bool). can_close T (progress t (seen T q n p))) e
      ∙ ap (λ (k : ℕ). ltb 0 k && records_to T (take T.size p) T.size (get_or (take n q) (k - 1) 0)) l
      ∙ ap (λ (t : Bool). t && records_to T (take T.size p) T.size (get_or (take n q) (n - 1) 0)) (lt-ltb 0 n h)
      ∙ ap (records_to T (take T.size p) T.size) (get_or-take n q (n - 1) 0 (omega arith))
      ∙ ap (λ (k : ℕ). records_to T (take k p) k (get_or q (n - 1) 0)) (sym f)

  -- Then a sheet can be written from them.
  pub can_close_lem : Ready T q n p → can_close T Went ≡ true → Closing T q n p b
  can_close_lem R c = record { ready = R; some = λ e. (told e).0; recorded = λ e. (told e).1 }
    where
      positive : (k : ℕ) → (k ≡ 0 → ⊥) → 0 < k
      positive k h = omega arith

      told : b ≡ true → (1 ≤ n) × RecordedTo T (take T.size p) (get_or q (n - 1) 0)
      told e =
          let h : 0 < n = positive n (λ z. false≢true (sym (close_nothing e z) ∙ c)) in
          (h, recorded T (take T.size p) (get_or q (n - 1) 0) (R.below (n - 1) (omega arith)) (sym (close_recorded T.size refl R e h) ∙ c))

-- Whether a state is met, test by test.
module _ (M : System) (states : ℕ) (e : states ≡ size M) (t : ℕ) (q p : List ℕ) where
  pub unasked : {x : Refusal} → Err x ≡ room_told (there M states e q p) → Err (Refused x) ≡ met_for M t q p
  unfolding met_for
  unasked h = let n = tables-missing M states e q p h in rw n.0 (ap (λ (y : Refusal). Err (Refused y)) n.1)

  module _ {u : Unit {0}} (h : Ok u ≡ room_told (there M states e q p)) where
    pub no-state : states ≤ t → Err (Refused (refusal_of 10 0)) ≡ met_for M t q p
    unfolding met_for
    no-state l = rw (tables_there M states e q p h, le-ltb t (size M) (subst (λ (n : ℕ). n ≤ t) e l))

    pub entry-told : t < states → Ok (ltb 0 (get_or p t 0)) ≡ met_for M t q p
    unfolding met_for
    entry-told l = rw (tables_there M states e q p h, lt-ltb t (size M) (subst (λ (n : ℕ). t < n) e l))

-- The text was read, and the code is that of its model; or it was refused.
module _ (text : List ℕ) {told : Result Plan Refusal} {ops : List ℕ} (P : ReadInto text told ops) where
  module _ {plan : Plan} (h : told ≡ Ok plan) where
    pub flat_same : system_in ops plan ≡ flat_of text
    flat_same = ap (λ (x : List ℕ). system_in x plan) P.coded ∙ ap (λ (x : Plan). system_in (read_code text).ops x) (plan_read text P plan h)

    pub held_read : (due : System → List ℕ → List ℕ → Held) (q p : List ℕ) {w : Wording} {q₁ p₁ : List ℕ}
        → Told (due (system_in ops plan) q p) w q₁ p₁ → Told (held_in (answer text) (due (flat_of text)) q p) w q₁ p₁
    held_read due q p {w} {q₁} {p₁} t =
        subst (λ (H : Held). Told H w q₁ p₁)
        (ap (λ (M : System). due M q p) flat_same ∙ sym (ap (λ (u : N.Outcome). held_in u (due (flat_of text)) q p) (read_of text P plan h).told))
        t

    pub left_read : (due : System → List ℕ → List ℕ → List ℕ → Left) (q p o : List ℕ) {r : Searched} {q₁ p₁ o₁ : List ℕ}
        → Ends (due (system_in ops plan) q p o) r q₁ p₁ o₁ → Ends (left_in (answer text) (due (flat_of text)) q p o) r q₁ p₁ o₁
    left_read due q p o {r} {q₁} {p₁} {o₁} t =
        subst (λ (L : Left). Ends L r q₁ p₁ o₁)
        (ap (λ (M : System). due M q p o) flat_same ∙ sym (ap (λ (u : N.Outcome). left_in u (due (flat_of text)) q p o) (read_of text P plan h).told))
        t

    pub met-read : (t : ℕ) (q p : List ℕ) {r : Result Bool Declined} → r ≡ met_for (system_in ops plan) t q p → r ≡ met_of text t q p
    unfolding met_in met_of
    met-read t q p e =
        e ∙ ap (λ (M : System). met_for M t q p) flat_same ∙ sym (ap (λ (u : N.Outcome). met_in u (met_for (flat_of text) t) q p) (read_of text P plan h).told)

  module _ {r : Refusal} (h : told ≡ Err r) where
    pub held_refused : (due : List ℕ → List ℕ → Held) (q p : List ℕ) → Told (held_in (answer text) due q p) (refused-with r) q p
    held_refused due q p =
        let t = refused_of text P r h in
        subst (λ (H : Held). Told H (refused-with r) q p) (sym (ap (λ (u : N.Outcome). held_in u due q p) t.2))
        (ap refused-with t.3 ∙ ap (λ (k : ℕ). returned k t.1) (text_reason text t.0 t.1 t.2), (refl, refl))

    pub left_refused : (due : List ℕ → List ℕ → List ℕ → Left) (q p o : List ℕ) → Ends (left_in (answer text) due q p o) (Err r) q p o
    left_refused due q p o =
        let t = refused_of text P r h in
        subst (λ (L : Left). Ends L (Err r) q p o) (sym (ap (λ (u : N.Outcome). left_in u due q p o) t.2)) (ap Err t.3, (refl, refl, refl))

    pub met-refused : (t : ℕ) (q p : List ℕ) → Err (Refused r) ≡ met_of text t q p
    unfolding met_in met_of
    met-refused s q p =
        let t = refused_of text P r h in
        ap (λ (x : Refusal). Err (Refused x)) t.3 ∙ sym (ap (λ (u : N.Outcome). met_in u (met_for (flat_of text) s) q p) t.2)
