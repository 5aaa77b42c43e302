-- What yes and no tell of runs: no of every map that passes, yes of the search's.
-- Assumes nothing.
use mathlib.Core.Path.{◌≡◌, sym, ap, ◌∙◌, subst}
use mathlib.Core.Logic.Iff
use mathlib.Core.Logic.{◌↔◌, ◌⊎◌, inl, inr}
use mathlib.Core.Bool.{true≢false}
use mathlib.Core.List.{List}
use mathlib.Core.Option.{Option}
use mathlib.Mathlib.Data.Bool.Basic.{eq-false-eq-not-eq-true}
use Prim.Native.Nat.{ℕ, ◌<◌, ◌≤◌}
use native.Mathlib.Omega.{arith}
use lib.ListN.{length, take}
use lib.Seq.{sets}
use Rattle.notation.specs.Model.{Model}
use Rattle.notation.specs.Texts.{TextSays}
use Rattle.notation.proofs.Regular.{all_regular}
use Rattle.notation.proofs.Texts.{one-model}
use Rattle.meaning.specs.Meaning.{last, Safe, Unsafe, CanStart}
use Rattle.meaning.specs.OneRow.{One, state_count}
use Rattle.meaning.specs.Evidence.{safe, in_map, MapPasses, IsVoid, Verdict, safe_by, void_by, unsafe_by, evidence_of}
use Rattle.meaning.proofs.Number.{state_number_lt}
use Rattle.meaning.proofs.Parametric as P
use Rattle.sheets.specs.Sheets.{system_of, sheet_bytes}
use Rattle.sheets.specs.SheetTexts.{AreBytes, SheetSays}
use Rattle.acceptance.specs.Promises.{answer_to}
use Rattle.acceptance.proofs.Claims.{pass-tells}
use Rattle.exploration.specs.Findings.{Reaches, ExactMap, Finds}
use Rattle.exploration.specs.Trials.{trials_of}
use Rattle.exploration.proofs.EmptyMaps.{void-exact}
use Rattle.verdicts.specs.Answers as S
use Rattle.verdicts.specs.Answers.{verdict}
use Rattle.verdicts.specs.Left.{Left}
use Rattle.verdicts.specs.Promises.{Room, answer_of}
use Rattle.verdicts.specs.working.Searching.{search_of, left_alone}
use Rattle.verdicts.proofs.SearchTells.{search-tells, whatever_left, unsafe_safe, void_unsafe, not-verdict}
use Rattle.verdicts.proofs.SheetBytes.{map-sheet-bytes}
use Rattle.verdicts.proofs.SheetsPass.{front, sheets_pass}
use Rattle.questions.specs.Answers.{yes, no}
use Rattle.questions.specs.Promises.{reply_to, LetsMapPass, NoMeansNever, GaveMap, YesMeansReached}
use Rattle.questions.proofs.ReachedTells.{whether, reached-tells}

-- The map that the test lets pass, and that it passes.
let_pass : (text : List ℕ) (m : Model) → TextSays text m → (b : List ℕ) → AreBytes b → LetsMapPass (answer_to text b)
    → (map : List ℕ) × SheetSays (system_of m) b (safe map) × MapPasses m map
let_pass text m says b hb (inl e) = let (map, w, p) = (pass-tells text m says b hb).safe_sheet.0 e in (map, w, p.0)
let_pass text m says b hb (inr e) = let (map, w, p) = (pass-tells text m says b hb).void_sheet.0 e in (map, w, p.0)

pub no-means_never : NoMeansNever
no-means_never text m says b hb t e (s, xs, r, f) = go (whether text m says b hb)
  where
    go : LetsMapPass (answer_to text b) ⊎ (¬ (LetsMapPass (answer_to text b))) → ⊥
    go (inl h) =
        let (map, w, p) = let_pass text m says b hb h in
        let (fits, has) = P.reached m (all_regular text m says) map p s xs r in
        let l : t < state_count m = subst (λ (n : ℕ). n < state_count m) f (state_number_lt m (last s xs) fits) in
        true≢false (sym has ∙ ap (in_map map) f ∙ ((reached-tells text m says b hb t).no_member h map w l).0 e)
    go (inr h) = let q = (reached-tells text m says b hb t).no_map h in let z : ◌≡◌ {A = ℕ} 0 1 = cc in omega arith

-- What the search has written where it gave a map: the map of exactly the states that runs reach, which passes.
record Wrote (text : List ℕ) (m : Model) (b : List ℕ) : Type 0 where
  map : List ℕ
  exact : ExactMap m map
  bytes : b ≡ sheet_bytes (system_of m) (safe map)
  passes : LetsMapPass (answer_to text b)

module _ (text : List ℕ) (m : Model) (says : TextSays text m) (first second sheet : List ℕ) (n : ℕ) (k : Option ℕ) where
  abbrev left : Left
  left = search_of text first second sheet

  -- A call that gave a map was not refused, so there was room.
  not-refused : (i p : ℕ) → ¬ (GaveMap (left_alone i p first second sheet) n k)
  unfolding S.wording_of
  not-refused i p (inl e) = (not-verdict _ p n k).0 e
  not-refused i p (inr e) = (not-verdict _ p n k).1 e

  room : GaveMap left n k → Room m first second sheet
  room =
      whatever_left text first second sheet (λ (L : Left). GaveMap L n k → Room m first second sheet)
      (λ i p r gave. absurd (not-refused i p gave))
      (λ o said h gave. absurd (not-refused 8 0 gave))
      (λ o said r gave. subst (λ (u : Model). Room u first second sheet) (one-model text o m said says) r)

  passing : GaveMap left n k → LetsMapPass (answer_to text (take n left.sheet))
  passing (inl e) = inl ((sheets_pass text first second sheet).after_safe n k e)
  passing (inr e) = inr ((sheets_pass text first second sheet).after_void n k e)

  -- An answer tells one length, and one that gave a map is not unsafe.
  same_length : (l : ℕ) (j : Option ℕ) → GaveMap left l j → GaveMap left n k → l ≡ n
  same_length l j (inl a) (inl e) = cc
  same_length l j (inl a) (inr e) = cc
  same_length l j (inr a) (inl e) = cc
  same_length l j (inr a) (inr e) = cc

  not_unsafe : (l : ℕ) (j : Option ℕ) → answer_of left ≡ verdict "unsafe" l j → ¬ (GaveMap left n k)
  not_unsafe l j u (inl e) = unsafe_safe l n j k (sym u ∙ e)
  not_unsafe l j u (inr e) = void_unsafe n l k j (sym e ∙ u)

  module _ (gave : GaveMap left n k) where
    module _ (map : List ℕ) (fits : length (sheet_bytes (system_of m) (safe map)) ≤ length sheet)
        (written : left.sheet ≡ sets sheet 0 (sheet_bytes (system_of m) (safe map))) where
      wrote_map : (j : Option ℕ) → ExactMap m map → GaveMap left (length (sheet_bytes (system_of m) (safe map))) j → Wrote text m (take n left.sheet)
      wrote_map j E a =
          let b = sheet_bytes (system_of m) (safe map) in
          record {
            map = map;
            exact = E;
            bytes = ap (take n) written ∙ subst (λ (i : ℕ). take i (sets sheet 0 b) ≡ b) (same_length (length b) j a gave) (front sheet b fits);
            passes = passing gave;
          }

    -- Of what may be found, only a map gives one.
    by_verdict : (x : Verdict) → Finds m x → length (sheet_bytes (system_of m) (evidence_of x)) ≤ length sheet
        → left.sheet ≡ sets sheet 0 (sheet_bytes (system_of m) (evidence_of x))
        → (Safe m One × CanStart m One → answer_of left ≡ verdict "safe" (length (sheet_bytes (system_of m) (evidence_of x))) (trials_of m x))
        → (IsVoid m → answer_of left ≡ verdict "void" (length (sheet_bytes (system_of m) (evidence_of x))) (trials_of m x))
        → (Unsafe m One → answer_of left ≡ verdict "unsafe" (length (sheet_bytes (system_of m) (evidence_of x))) (trials_of m x))
        → Wrote text m (take n left.sheet)
    by_verdict (safe_by map) F fits written safely voidly unsafely = wrote_map map fits written _ F.1 (inl (safely (F.0, F.2)))
    by_verdict (void_by map) F fits written safely voidly unsafely =
        wrote_map map fits written _ (subst (ExactMap m) (sym F.1) (void-exact m F.0)) (inr (voidly F.0))
    by_verdict (unsafe_by s xs) F fits written safely voidly unsafely = absurd (not_unsafe _ _ (unsafely F.0) gave)

    wrote : Wrote text m (take n left.sheet)
    wrote =
        let D = (search-tells text m says first second sheet).room_there (room gave) in
        by_verdict D.found D.right D.fits D.written D.safely.1 D.voidly.1 D.unsafely.1

-- So the reply tells which states runs reach.
module _ (text : List ℕ) (m : Model) (says : TextSays text m) (b : List ℕ) (W : Wrote text m b) (t : ℕ) (l : t < state_count m) where
  are_bytes : AreBytes b
  are_bytes = subst AreBytes (sym W.bytes) (map-sheet-bytes m (all_regular text m says) W.map W.exact.bytes)

  says_map : SheetSays (system_of m) b (safe W.map)
  says_map =
      record { bytes = W.bytes; short = (let_pass text m says b are_bytes W.passes).1.short; fits = W.exact.fits }

  exactly : ((reply_to text b t ≡ yes) ↔ Reaches m t) × ((reply_to text b t ≡ no) ↔ (¬ (Reaches m t)))
  exactly =
      let R = reached-tells text m says b are_bytes t in
      let i = W.exact.exact t l in
      let j = Iff.trans (Iff.symm (eq-false-eq-not-eq-true (in_map W.map t))) (Iff.not i) in
      (Iff.trans (R.member W.passes W.map says_map l) i, Iff.trans (R.no_member W.passes W.map says_map l) j)

pub yes-means-reached : YesMeansReached
yes-means-reached text m says first second sheet n k gave t l =
    exactly text m says (take n (search_of text first second sheet).sheet) (wrote text m says first second sheet n k gave) t l
