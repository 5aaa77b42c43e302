-- What the search over a model's code leaves, put together from what its parts leave.
-- Assumes nothing.
use mathlib.Core.Path.{◌≡◌, refl, sym, ap, ◌∙◌, subst}
use mathlib.Core.Bool.{Bool, true, false, cond, ◌&&◌}
use mathlib.Core.List.{List, ◌++◌, map}
use Prim.Native.Nat.{ℕ, ◌+◌, ◌-◌, ◌*◌, ◌^◌, ◌<◌, ◌≤◌}
use native.Mathlib.Omega.{arith}
use lib.Dec.{leb, ltb}
use lib.ListN.{length, get_or, take, drop, replicate}
use lib.Pow.{pow_pos}
use lib.Seq.{sets, length-sets}
use Rattle.evaluation.proofs.Powers.{pow_small}
use Rattle.evaluation.specs.declared.plan.Plan.{Plan}
use Rattle.evaluation.specs.working.CodeSystem.{Sound}
use Rattle.sheets.specs.Sheets.{System, size, header_length, sheet_room, little, record_bytes, header_bytes, map_length}
use Rattle.sheets.specs.working.SheetReading.{counts_in}
use Rattle.sheets.specs.working.FlatSystem.{system_in}
use Rattle.exploration.specs.working.Transitions.{Transitions, Lawful}
use Rattle.exploration.specs.working.CodeTransitions.{transitions_in}
use Rattle.exploration.specs.working.Exploring.{Progress, progress, search}
use Rattle.exploration.specs.working.Results.{result}
use Rattle.exploration.specs.working.Tables.{seen, Kept, Ran}
use Rattle.exploration.specs.working.Trials.{trial_count}
use Rattle.exploration.specs.working.Written.{head_bytes, run_bytes, map_from, Closing, TraceStored}
use Rattle.meaning.specs.Evidence.{Verdict}
use Rattle.verdicts.specs.Left.{Left}
use Rattle.verdicts.specs.working.Searching.{roomy, left_with, left_by, found_by, left_alone}
use Rattle.search.specs.working.Ends.{Ends, room_told}
use Rattle.verdicts.specs.declared.finding.Finding.TheVariants.{Safe, Void, Unsafe}
use Rattle.verdicts.specs.Answers.{Searched}
use Rattle.std.specs.Prelude.{Ok, Err}
use Rattle.refusals.specs.declared.Refusal.{Refusal}
use Rattle.refusals.specs.Reasons.{refusal_of}
use Rattle.exploration.specs.working.Found.{found_in}
use Rattle.exploration.proofs.CodeSteps.{code_lawful}
use Rattle.exploration.proofs.Laws.{count_le}
use Rattle.exploration.proofs.Whole.{queue_cleared, parent_cleared, last_run, closed_unsafe, map_left, closed-void, closed-safe}
use Rattle.exploration.proofs.TraceSteps.{steps-count}
use Rattle.exploration.proofs.Map.{map-length}
use Rattle.search.proofs.SheetsFound.{trace_left, safe-map_left, void-map_left}

-- The map of at most 4096 states has at most 512 bytes.
pub length-small : (k states n : ℕ) → k ≤ 12 → states ≡ 2 ^ k → n ≡ map_length states → n ≤ 512
unfolding map_length
length-small k states n h e f = let a = pow_small k states h e in omega arith

-- Over what the search left in the tables, in a buffer that has room for every sheet and its header.
module _ (ops : List ℕ) (plan : Plan) (S : Sound plan) (states : ℕ) (e : states ≡ 2 ^ plan.bits) (o₀ : List ℕ) (room : sheet_room (system_in ops plan) ≤ length o₀)
  where
    abbrev T : Transitions
    T = transitions_in ops plan

    abbrev law : Lawful T
    law = code_lawful ops plan

    abbrev M : System
    M = system_in ops plan

    -- Where the records behind the header begin.
    abbrev at : ℕ
    at = header_length M

    module _ {o₁ : List ℕ} (h : o₁ ≡ sets o₀ 0 (record_bytes 1 (counts_in plan))) where
      header : o₁ ≡ sets o₀ 0 (header_bytes M)
      unfolding header_bytes
      header = h

      header-kept : length o₁ ≡ length o₀
      header-kept = ap length h ∙ length-sets o₀ 0 (record_bytes 1 (counts_in plan))

      -- Room for a map of n bytes.
      module _ (n : ℕ) (f : n ≡ map_length states) where
        map-room : at + 6 + n ≤ length o₁
        unfolding map_length
        map-room =
            let s : 0 < states = rw e (pow_pos plan.bits) in
            let k = header-kept in
            omega arith

        pub map-asked : (m : ℕ) → states ≤ m → (o₂ : List ℕ) → o₂ ≡ sets o₁ at (head_bytes n 2) → (states ≤ m) × (n ≤ 512) × (at + 6 + n ≤ length o₂)
        map-asked m s o₂ g =
            (s, length-small plan.bits states n S.few_bits e f, omega (arith, map-room, ap length g, length-sets o₁ at (head_bytes n 2)))

      module _ {q : List ℕ} {n : ℕ} {p : List ℕ} {b : Bool} (C : Closing T q n p b) (j : ℕ) where
        pub second-room : states ≤ length p
        second-room = rw e C.ready.parent-room

        pub count-few : n ≤ 4096
        count-few = omega (arith, count_le T q n p C.ready, pow_small plan.bits (2 ^ plan.bits) S.few_bits refl)

        pub last_within : b ≡ true → n - 1 < length q
        last_within f = let a = C.some f in let d = count_le T q n p C.ready in let g = C.ready.queue-room in omega arith

        -- What is to be left.
        abbrev Due : Left
        Due = left_by M (progress b (seen T q n p)) j q p o₀

        sized : (l l₁ : List ℕ) → l₁ ≡ replicate states 0 ++ drop states l → l₁ ≡ replicate (2 ^ plan.bits) 0 ++ drop (2 ^ plan.bits) l
        sized l l₁ h = subst (λ (k : ℕ). l₁ ≡ replicate k 0 ++ drop k l) e h

        module _ {q₁ p₁ : List ℕ} (eq : q₁ ≡ replicate states 0 ++ drop states q) (ep : p₁ ≡ replicate states 0 ++ drop states p) where
          pub unsafe_left : b ≡ true → {o : List ℕ} {len : ℕ} → TraceStored T p (get_or q (n - 1) 0) at o₁ o len → Ends Due (Ok (Unsafe len)) q₁ p₁ o
          unfolding header_bytes record_bytes little run_bytes
          unsafe_left f w =
              trace_left M o₀ header q p (sized q q₁ eq) (sized p p₁ ep) j (closed_unsafe C f) w.bytes
              (w.ends ∙ ap (λ (k : ℕ). at + 8 + 10 * k) (sym (steps-count T (last_run C))))

          module _ (f : b ≡ false) {k : ℕ} (g : k ≡ map_length states) {o₂ o : List ℕ} (x : o₂ ≡ sets o₁ at (head_bytes k 2))
              (y : o ≡ sets o₂ (at + 6) (map_from (map (ltb 0) (take states p)) 0 k)) where
            counted : k ≡ map_length (2 ^ plan.bits)
            counted = g ∙ ap map_length e

            long : k ≡ length (map_left C)
            long = counted ∙ sym (map-length (map (ltb 0) (take (2 ^ plan.bits) p)) 0 (map_length (2 ^ plan.bits)))

            stored : o ≡ sets o₂ (at + 6) (map_left C)
            stored =
                y
                ∙ ap (λ (u : ℕ). sets o₂ (at + 6) (map_from (map (ltb 0) (take u p)) 0 k)) e
                ∙ ap (λ (u : ℕ). sets o₂ (at + 6) (map_from (map (ltb 0) (take (2 ^ plan.bits) p)) 0 u)) counted

            pub void_left : n ≡ 0 → Ends Due (Ok (Void (at + 6 + k))) q₁ p₁ o
            unfolding header_bytes record_bytes little
            void_left z = void-map_left M o₀ header q p (sized q q₁ eq) (sized p p₁ ep) long x stored j (closed-void C f z)

            pub safe_left : 0 < n → Ends Due (Ok (Safe (at + 6 + k) j)) q₁ p₁ o
            unfolding header_bytes record_bytes little
            safe_left z = safe-map_left M o₀ header q p (sized q q₁ eq) (sized p p₁ ep) long x stored j refl (closed-safe C f z)

    -- What is left hangs on tables only beyond their states.
    pub left_kept : {q₀ : List ℕ} {n₀ : ℕ} {p₀ q : List ℕ} {n : ℕ} {p : List ℕ} → Kept T q₀ n₀ p₀ q n p → (v : Verdict) (t : ℕ)
        → left_with M v t q p o₀ ≡ left_with M v t q₀ p₀ o₀
    left_kept {q₀} {n₀} {p₀} {q} {n} {p} K v t = λ i.
        record { answer = (left_with M v t q p o₀).answer; first = queue_cleared K i; second = parent_cleared K i; sheet = (left_with M v t q p o₀).sheet }

    -- Where the whole search was run, that is what the search finds.
    pub run_left : {q₀ p₀ q p : List ℕ} {n : ℕ} {b : Bool} {j : ℕ} → Ran T q₀ p₀ q n p b j → {r : Searched} {q₁ p₁ o : List ℕ}
        → Ends (left_by M (progress b (seen T q n p)) j q p o₀) r q₁ p₁ o → Ends (found_by M q₀ p₀ o₀) r q₁ p₁ o
    unfolding found_in result
    run_left {q₀} {p₀} {q} {p} {n} {b} {j} R {r} {q₁} {p₁} {o} l =
        subst (λ (L : Left). Ends L r q₁ p₁ o)
        (ap (λ (u : Progress). left_by M u j q p o₀) R.what
        ∙ ap (λ (k : ℕ). left_by M (search T) k q p o₀) R.tried
        ∙ left_kept R.kept (found_in T) (trial_count T))
        l

-- What was told of the room tells the test.
pub told_none : (b : Bool) {x : Refusal} → Err x ≡ room_told b → (b ≡ false) × (x ≡ refusal_of 8 0)
told_none true e = cc
told_none false e = (refl, cc)

pub told_some : (b : Bool) {u : Unit {0}} → Ok u ≡ room_told b → b ≡ true
told_some true e = refl
told_some false e = cc

-- Where there is no room the call is refused, and else it leaves what is due.
module _ (M : System) (due : Left) (states : ℕ) (e : states ≡ size M) (q p o : List ℕ) where
  abbrev pub Judged : Left
  Judged = cond (roomy M q p o) due (left_alone 8 0 q p o)

  abbrev tested : Bool
  tested = leb states (length q) && (leb states (length p) && leb (4 + length M.counts + 10 * states) (length o))

  tested-roomy : tested ≡ roomy M q p o
  unfolding roomy
  tested-roomy = ap (λ (n : ℕ). leb n (length q) && (leb n (length p) && leb (4 + length M.counts + 10 * n) (length o))) e

  pub room_missing : {x : Refusal} → Err x ≡ room_told tested → Ends Judged (Err x) q p o
  room_missing {x} h =
      let n = told_none tested h in
      subst (λ (L : Left). Ends L (Err x) q p o) (sym (ap (λ (t : Bool). cond t due (left_alone 8 0 q p o)) (sym tested-roomy ∙ n.0)))
      (ap Err n.1, (refl, refl, refl))

  pub room_there : {u : Unit {0}} → Ok u ≡ room_told tested → {r : Searched} {q₁ p₁ o₁ : List ℕ} → Ends due r q₁ p₁ o₁ → Ends Judged r q₁ p₁ o₁
  room_there h {r} {q₁} {p₁} {o₁} l =
      subst (λ (L : Left). Ends L r q₁ p₁ o₁) (sym (ap (λ (t : Bool). cond t due (left_alone 8 0 q p o)) (sym tested-roomy ∙ told_some tested h))) l
