-- What a call of the search leaves: a verdict with its sheet, or a refusal with every buffer as it was.
-- Assumes nothing.
use mathlib.Core.Path.{◌≡◌, refl, sym, ap, ◌∙◌, subst}
use mathlib.Core.Logic.{◌↔◌, ◌⊎◌, inl, inr}
use mathlib.Core.Bool.{Bool, true, false, true≢false}
use mathlib.Core.List.{List}
use mathlib.Core.Option.{Option, some}
use Prim.Native.Nat.{ℕ, ◌≤◌}
use Prim.Native.String.{String}
use native.Mathlib.Omega.{arith}
use native.Mathlib.Nat.{le_trans}
use lib.Dec.{leb}
use lib.ListN.{length, get_or}
use borrow.Author.Tests.{leb-true, le-leb}
use Rattle.std.specs.Prelude.{Ok}
use Rattle.refusals.specs.Reasons.{number_of, reason_of}
use Rattle.refusals.proofs.Numbers.{number_told}
use Rattle.refusals.proofs.Texts.{text_reason}
use Rattle.notation.specs.Bytes.{bytes}
use Rattle.notation.specs.Model.{Model}
use Rattle.notation.specs.Regular.{Regular}
use Rattle.notation.specs.Texts.{TextSays, TextRefused}
use Rattle.notation.specs.working.Machine as N
use Rattle.notation.proofs.Texts.{says-answer, refused-answer, one_answer, answers_recased}
use Rattle.notation.proofs.Regular.{all_regular}
use Rattle.meaning.specs.Meaning.{Safe, Unsafe, CanStart}
use Rattle.meaning.specs.OneRow.{One, state_count}
use Rattle.notation.proofs.Booleans.{and_split, and_join}
use Rattle.sheets.specs.Sheets.{sheet_room, system_of, little, record_bytes, header_bytes, sheet_bytes}
use Rattle.meaning.specs.Evidence.{IsVoid, Verdict, safe_by, void_by, unsafe_by, evidence_of}
use Rattle.exploration.specs.Findings.{Finds}
use Rattle.exploration.specs.Trials.{trials_of}
use Rattle.exploration.specs.working.Trials.{trial_count}
use Rattle.verdicts.specs.Answers.{Wording, verdict, returned, wording_of}
use Rattle.verdicts.specs.Left.{Left}
use Rattle.verdicts.specs.Promises.{LeavesTell, RoomTells, Room, SearchDone, SearchRefused, SearchTells, TextRefusedFirst, SearchedWithoutCase}
use Rattle.exploration.specs.working.Found.{found_in, transitions_of}
use Rattle.verdicts.specs.working.Searching.{roomy, verdict_of, left_with, left_alone, search_for, search_in, search_of}
use Rattle.exploration.proofs.FindsRight.{own, finds}
use Rattle.exploration.proofs.FoundShort.{found-short}
use Rattle.exploration.proofs.TrialCounts.{trials-counted}

-- The call for a text that says a model is the call for the model.
pub said : (text : List ℕ) (m : Model) → TextSays text m → (first second sheet : List ℕ)
    → search_of text first second sheet ≡ search_for (system_of m) first second sheet
unfolding search_of search_in
said text m s first second sheet =
    ap (λ (o : N.Outcome). search_in o first second sheet) (says-answer s.says)
    ∙ ap (λ (n : Model). search_for (system_of n) first second sheet) s.meant

pub room-tells : RoomTells
unfolding roomy
room-tells m first second sheet = (
  λ e.
      let a = and_split (leb (state_count m) (length first)) _ e in
      let b = and_split (leb (state_count m) (length second)) (leb (sheet_room (system_of m)) (length sheet)) a.1 in
      (leb-true _ _ a.0, leb-true _ _ b.0, leb-true _ _ b.1),
  λ r. and_join _ _ (le-leb _ _ r.0) (and_join _ _ (le-leb _ _ r.1) (le-leb _ _ r.2)),
)

false_unless : (b : Bool) → (b ≡ true → ⊥) → b ≡ false
false_unless true h = absurd (h refl)
false_unless false h = refl

-- The first letter of a verdict tells which it is.
abbrev initial : Wording → ℕ
initial (verdict s n t) = get_or (bytes s) 0 0
initial (returned n p) = 0

pub unsafe_safe : (n k : ℕ) (t u : Option ℕ) → verdict "unsafe" n t ≡ verdict "safe" k u → ⊥
unfolding bytes
unsafe_safe n k t u e = let z : ◌≡◌ {A = ℕ} 117 115 = ap initial e in omega arith

pub void-safe : (n k : ℕ) (t u : Option ℕ) → verdict "void" n t ≡ verdict "safe" k u → ⊥
unfolding bytes
void-safe n k t u e = let z : ◌≡◌ {A = ℕ} 118 115 = ap initial e in omega arith

pub void_unsafe : (n k : ℕ) (t u : Option ℕ) → verdict "void" n t ≡ verdict "unsafe" k u → ⊥
unfolding bytes
void_unsafe n k t u e = let z : ◌≡◌ {A = ℕ} 118 117 = ap initial e in omega arith

pub not-verdict : (n p k : ℕ) (t : Option ℕ)
    → (returned n p ≡ verdict "safe" k t → ⊥) × (returned n p ≡ verdict "void" k t → ⊥) × (returned n p ≡ verdict "unsafe" k t → ⊥)
unfolding bytes
not-verdict n p k t = (
  λ e. let z : ◌≡◌ {A = ℕ} 0 115 = ap initial e in omega arith,
  λ e. let z : ◌≡◌ {A = ℕ} 0 118 = ap initial e in omega arith,
  λ e. let z : ◌≡◌ {A = ℕ} 0 117 = ap initial e in omega arith,
)

-- What is found has its place in a buffer with room.
pub sheet-short : (m : Model) → length (sheet_bytes (system_of m) (evidence_of (found_in (transitions_of (system_of m))))) ≤ sheet_room (system_of m)
unfolding header_bytes record_bytes little
sheet-short m = omega (arith, found-short (system_of m) (transitions_of (system_of m)) m (own m))

-- The answer to a verdict x after t trials, where t is the number of x's trials if it has one.
abbrev pub Made : Model → Verdict → ℕ → Type 0
Made m x t = (k : ℕ) → trials_of m x ≡ some k → t ≡ k

abbrev Says : Model → Verdict → ℕ → String → ℕ → Type 0
Says m x t v n = wording_of (Ok (verdict_of x n t)) ≡ verdict v n (trials_of m x)

said_safe : (m : Model) (x : Verdict) (t : ℕ) → Made m x t → Finds m x → (n : ℕ) → Says m x t "safe" n ↔ (Safe m One × CanStart m One)
unfolding verdict_of wording_of trials_of
said_safe m (safe_by map) t made F n = (λ e. (F.0, F.2), λ h. ap (λ k. verdict "safe" n (some k)) (made _ refl))
said_safe m (void_by map) t made F n = (λ e. absurd (void-safe n n _ _ e), λ h. absurd (F.0 h.1))
said_safe m (unsafe_by s xs) t made F n = (λ e. absurd (unsafe_safe n n _ _ e), λ h. let (q, ys, r, b) = F.0 in absurd (h.0 q ys r b))

said_void : (m : Model) (x : Verdict) (t : ℕ) → Made m x t → Finds m x → (n : ℕ) → Says m x t "void" n ↔ IsVoid m
unfolding verdict_of wording_of trials_of
said_void m (safe_by map) t made F n = (λ e. absurd (void-safe n n _ _ (sym e)), λ v. absurd (v F.2))
said_void m (void_by map) t made F n = (λ e. F.0, λ v. refl)
said_void m (unsafe_by s xs) t made F n = (λ e. absurd (void_unsafe n n _ _ (sym e)), λ v. let (q, ys, r, b) = F.0 in absurd (v (q, r.start)))

said_unsafe : (m : Model) (x : Verdict) (t : ℕ) → Made m x t → Finds m x → (n : ℕ) → Says m x t "unsafe" n ↔ Unsafe m One
unfolding verdict_of wording_of trials_of
said_unsafe m (safe_by map) t made F n = (λ e. absurd (unsafe_safe n n _ _ (sym e)), λ h. let (q, ys, r, b) = h in absurd (F.0 q ys r b))
said_unsafe m (void_by map) t made F n = (λ e. absurd (void_unsafe n n _ _ e), λ h. let (q, ys, r, b) = h in absurd (F.0 (q, r.start)))
said_unsafe m (unsafe_by s xs) t made F n = (λ e. F.0, λ h. refl)

-- What the search of a model finds, and the trials that it makes.
abbrev pub found_of : Model → Verdict
found_of m = found_in (transitions_of (system_of m))

abbrev pub made_of : Model → ℕ
made_of m = trial_count (transitions_of (system_of m))

pub made_told : (m : Model) → Made m (found_of m) (made_of m)
made_told m = trials-counted (transitions_of (system_of m)) m (own m)

module _ (m : Model) where
  module _ (first second sheet : List ℕ) where
    left_with_lem : Regular m → length (sheet_bytes (system_of m) (evidence_of (found_of m))) ≤ length sheet
        → SearchDone m first second sheet (left_with (system_of m) (found_of m) (made_of m) first second sheet)
    left_with_lem g h =
        let n = length (sheet_bytes (system_of m) (evidence_of (found_of m))) in
        record {
          found = found_of m;
          right = finds m g;
          fits = h;
          written = refl;
          safely = said_safe m (found_of m) (made_of m) (made_told m) (finds m g) n;
          voidly = said_void m (found_of m) (made_of m) (made_told m) (finds m g) n;
          unsafely = said_unsafe m (found_of m) (made_of m) (made_told m) (finds m g) n;
          tried = made_told m;
          first_cleared = refl;
          second_cleared = refl;
        }

    -- With room, and without.
    pub with_room : Room m first second sheet
        → search_for (system_of m) first second sheet ≡ left_with (system_of m) (found_of m) (made_of m) first second sheet
    unfolding search_for
    with_room r = rw ((room-tells m first second sheet).1 r)

    without_room : ¬ (Room m first second sheet) → search_for (system_of m) first second sheet ≡ left_alone 8 0 first second sheet
    unfolding search_for
    without_room h = rw (false_unless (roomy (system_of m) first second sheet) (λ e. h ((room-tells m first second sheet).0 e)))

left_alone_lem : (n p : ℕ) → number_of (reason_of n) ≡ n → (first second sheet : List ℕ) → SearchRefused n p first second sheet (left_alone n p first second sheet)
unfolding wording_of
left_alone_lem n p e first second sheet = record { answered = ap (λ k. returned k p) e; first_kept = refl; second_kept = refl; sheet_kept = refl }

-- The numbers of refusals are those of reasons.
pub no_room : number_of (reason_of 8) ≡ 8
no_room = number_told 8 (omega arith) (omega arith)

pub of_text : {text : List ℕ} {n i : ℕ} → TextRefused text n i → number_of (reason_of n) ≡ n
of_text {text} {n} {i} r = text_reason text n i (refused-answer r)

pub search-tells : SearchTells
search-tells text m says first second sheet =
    record {
      room_there = λ r.
          subst (SearchDone m first second sheet)
          (sym (said text m says first second sheet ∙ with_room m first second sheet r))
          (left_with_lem m first second sheet (all_regular text m says) (le_trans (sheet-short m) r.2));
      room_missing = λ h.
          subst (SearchRefused 8 0 first second sheet) (sym (said text m says first second sheet ∙ without_room m first second sheet h)) (left_alone_lem 8 0 no_room first second sheet);
    }

pub leaves_tell : LeavesTell
leaves_tell L first second sheet (p, q, r) = λ t. record { answer = L.answer; first = p t; second = q t; sheet = r t }

refused_left : (text : List ℕ) (n i : ℕ) → TextRefused text n i → (first second sheet : List ℕ) → search_of text first second sheet ≡ left_alone n i first second sheet
unfolding search_of search_in
refused_left text n i r first second sheet = ap (λ (o : N.Outcome). search_in o first second sheet) (refused-answer r)

pub text-refused-first : TextRefusedFirst
text-refused-first text n i r first second sheet =
    subst (SearchRefused n i first second sheet) (sym (refused_left text n i r first second sheet)) (left_alone_lem n i (of_text r) first second sheet)

pub searched_without_case : SearchedWithoutCase
unfolding search_of
searched_without_case text other r first second sheet = ap (λ (o : N.Outcome). search_in o first second sheet) (answers_recased r)

-- A property holds of what a call leaves if it does where the text is refused, where there is no room, and where a model is searched.
pub whatever_left : (text first second sheet : List ℕ) (P : Left → Type 0)
    → ((n i : ℕ) → TextRefused text n i → P (left_alone n i first second sheet))
    → ((m : Model) → TextSays text m → ¬ (Room m first second sheet) → P (left_alone 8 0 first second sheet))
    → ((m : Model) → TextSays text m → Room m first second sheet → P (left_with (system_of m) (found_of m) (made_of m) first second sheet))
    → P (search_of text first second sheet)
whatever_left text first second sheet P refused missing searched = go (one_answer text).some
  where
    with_model : (m : Model) → TextSays text m → (b : Bool) → roomy (system_of m) first second sheet ≡ b → P (search_of text first second sheet)
    with_model m says true e =
        let r = (room-tells m first second sheet).0 e in
        subst P (sym (said text m says first second sheet ∙ with_room m first second sheet r)) (searched m says r)
    with_model m says false e =
        let h : ¬ (Room m first second sheet) = λ r. true≢false (sym ((room-tells m first second sheet).1 r) ∙ e) in
        subst P (sym (said text m says first second sheet ∙ without_room m first second sheet h)) (missing m says h)

    go : ((m : Model) × TextSays text m) ⊎ ((n i : ℕ) × TextRefused text n i) → P (search_of text first second sheet)
    go (inl (m, says)) = with_model m says (roomy (system_of m) first second sheet) refl
    go (inr (n, i, r)) = subst P (sym (refused_left text n i r first second sheet)) (refused n i r)

-- A call that has searched was not refused.
pub searched_said : (x : Verdict) (l t n p : ℕ) → wording_of (Ok (verdict_of x l t)) ≡ returned n p → ⊥
unfolding verdict_of wording_of
searched_said (safe_by map) l t n p e = (not-verdict n p l _).0 (sym e)
searched_said (void_by map) l t n p e = (not-verdict n p l _).1 (sym e)
searched_said (unsafe_by s xs) l t n p e = (not-verdict n p l _).2 (sym e)

pub searched-not-refused : (text : List ℕ) (m : Model) → TextSays text m → (first second sheet : List ℕ) → Room m first second sheet
    → (n p : ℕ) → wording_of (search_of text first second sheet).answer ≡ returned n p → ⊥
searched-not-refused text m says first second sheet r n p e =
    searched_said (found_of m) (length (sheet_bytes (system_of m) (evidence_of (found_of m)))) (made_of m) n p
    (ap (λ (L : Left). wording_of L.answer) (sym (said text m says first second sheet ∙ with_room m first second sheet r)) ∙ e)
