-- A sheet that was written is read back; and the first six bytes of a short record, as a writer stores them.
-- Assumes nothing.
use Rattle.sheets.proofs.SheetLaws.{record-whole, step-whole, kinds-apart}
use mathlib.Core.Path.{◌≡◌, refl, sym, ap, ◌∙◌, subst}
use mathlib.Core.Bool.{true}
use mathlib.Core.List.{List, [], ◌∷◌, ◌++◌, append_assoc, append-nil}
use Prim.Native.Nat.{ℕ, ◌+◌, ◌*◌, ◌/◌, ◌%◌, ◌<◌, ◌≤◌}
use native.Mathlib.Omega.{arith}
use native.Mathlib.Nat.{add_assoc}
use lib.ListN.{length, get_or, take, drop, length-append}
use lib.Seq.{get_or-append-add, drop-append-add, take_all}
use borrow.Author.Tests.{eq-eqb, le-leb, lt-ltb}
use Rattle.notation.proofs.Booleans.{and_join}
use Rattle.meaning.specs.Evidence.{Sheet, safe, trace}
use Rattle.meaning.specs.OneRow.{TraceStep}
use Rattle.sheets.specs.SheetTexts.{two_at, four_at, is_record, same_counts, unused_clear, step_in, step_fits, InSystem, NumbersFit, SheetSays}
use Rattle.sheets.specs.Sheets.{System, size, header_length, map_length, little, record_bytes, header_bytes, step_bytes, steps_bytes, sheet_bytes, map_bytes, start_bytes}
use Rattle.sheets.specs.working.SheetReading.{holds, demand, either, map_in, map_at, steps_in, step_count, trace_at, body_at, sheet_in, sheet_of, StepsStand}
use Rattle.notation.specs.Regular.{Every}
use Rattle.sheets.proofs.SheetOpened.{steps_of}

-- What stands behind `pre` is read as if `pre` were not there.
module _ (pre l : List ℕ) where
  pub get_past : (j : ℕ) → get_or (pre ++ l) (length pre + j) 0 ≡ get_or l j 0
  get_past j = get_or-append-add pre l j 0

  pub two_past : (j : ℕ) → two_at (pre ++ l) (length pre + j) ≡ two_at l j
  unfolding two_at
  two_past j = rw (get_past j, add_assoc (length pre) j 1, get_past (j + 1))

  pub four_past : (j : ℕ) → four_at (pre ++ l) (length pre + j) ≡ four_at l j
  unfolding four_at
  four_past j = rw (two_past j, add_assoc (length pre) j 2, two_past (j + 2))

-- Numbers below 65536 in two bytes and in four.
pub two-little : (n : ℕ) → n < 65536 → n % 256 + 256 * (n / 256 % 256) ≡ n
two-little n h = omega arith

pub four_little : (n : ℕ) → n < 65536 → n % 256 + 256 * (n / 256 % 256) + 65536 * (n / 256 / 256 % 256 + 256 * (n / 256 / 256 / 256 % 256)) ≡ n
four_little n h =
    let a : n / 256 / 256 ≡ 0 = omega arith in
    rw a (omega arith)

-- A record at the front.
module _ (kind : ℕ) (payload post : List ℕ) (k : kind < 65536) (n : length payload < 65536) where
  front_length : length (record_bytes kind payload ++ post) ≡ 6 + length payload + length post
  unfolding record_bytes little
  front_length = omega (arith, length-append payload post)

  four_here : four_at (record_bytes kind payload ++ post) 0 ≡ length payload
  unfolding record_bytes little four_at two_at
  four_here = four_little (length payload) n

  kind-here : two_at (record_bytes kind payload ++ post) 4 ≡ kind
  unfolding record_bytes little two_at
  kind-here = two-little kind k

  get_here : (j : ℕ) → get_or (record_bytes kind payload ++ post) (6 + j) 0 ≡ get_or (payload ++ post) j 0
  unfolding record_bytes little
  get_here j = get_or-append-add (little 4 (length payload) ++ little 2 kind) (payload ++ post) j 0

  two_in : (j : ℕ) → two_at (record_bytes kind payload ++ post) (6 + j) ≡ two_at (payload ++ post) j
  unfolding two_at
  two_in j = rw (get_here j, add_assoc 6 j 1, get_here (j + 1))

-- A record behind `pre`.
module _ (kind : ℕ) (pre payload post : List ℕ) (k : kind < 65536) (n : length payload < 65536) where
  abbrev whole : List ℕ
  whole = pre ++ (record_bytes kind payload ++ post)

  -- It stands at p.
  module _ (p : ℕ) (e : length pre ≡ p) where
    pub record-there : is_record whole p kind (length payload) ≡ true
    record-there =
        let z : length pre + 0 ≡ p = omega arith in
        let room : p + 6 + length payload ≤ length whole = omega (arith, length-append pre (record_bytes kind payload ++ post), front_length kind payload post k n) in
        record-whole _ _ _ _ room
        (subst (λ (x : ℕ). four_at whole x ≡ length payload) z (four_past pre (record_bytes kind payload ++ post) 0 ∙ four_here kind payload post k n))
        (subst (λ (x : ℕ). two_at whole (x + 4) ≡ kind) e (two_past pre (record_bytes kind payload ++ post) 4 ∙ kind-here kind payload post k n))

    pub get_there : (j q : ℕ) → p + 6 + j ≡ q → get_or whole q 0 ≡ get_or (payload ++ post) j 0
    get_there j q f =
        let z : length pre + (6 + j) ≡ q = omega arith in
        subst (λ (x : ℕ). get_or whole x 0 ≡ get_or (payload ++ post) j 0) z (get_past pre (record_bytes kind payload ++ post) (6 + j) ∙ get_here kind payload post k n j)

    pub two-there : (j q : ℕ) → p + 6 + j ≡ q → two_at whole q ≡ two_at (payload ++ post) j
    two-there j q f =
        let z : length pre + (6 + j) ≡ q = omega arith in
        subst (λ (x : ℕ). two_at whole x ≡ two_at (payload ++ post) j) z (two_past pre (record_bytes kind payload ++ post) (6 + j) ∙ two_in kind payload post k n j)

    pub payload_there : drop (p + 6) whole ≡ payload ++ post
    unfolding record_bytes little
    payload_there =
        let z : length pre + 6 ≡ p + 6 = omega arith in
        subst (λ (x : ℕ). drop x whole ≡ payload ++ post) z (drop-append-add pre (record_bytes kind payload ++ post) 6)

-- The steps.
step_eq : (x y : TraceStep) → x.command ≡ y.command → x.word ≡ y.word → x.after ≡ y.after → x ≡ y
step_eq x y c w a = λ t. record { command = c t; word = w t; after = a t }

step-length : (x : TraceStep) → length (step_bytes x) ≡ 10
unfolding step_bytes record_bytes little
step-length x = refl

pub steps-length : (xs : List TraceStep) → length (steps_bytes xs) ≡ 10 * length xs
unfolding steps_bytes
steps-length [] = refl
steps-length (x ∷ xs) = omega (arith, length-append (step_bytes x) (steps_bytes xs), step-length x, steps-length xs)

module _ (M : System) (few : NumbersFit M) where
  module _ (pre post : List ℕ) (x : TraceStep) (fits : InSystem M x) (p : ℕ) (e : length pre ≡ p) where
    abbrev payload : List ℕ
    payload = x.command ∷ x.word ∷ little 2 x.after

    abbrev with_step : List ℕ
    with_step = pre ++ (step_bytes x ++ post)

    step-record : is_record with_step p 4 4 ≡ true
    unfolding step_bytes little
    step-record = record-there 4 pre payload post (omega arith) (omega arith) p e

    step-read : step_in with_step (p + 6) ≡ x
    unfolding step_bytes step_in little two_at
    step-read =
        let c = get_there 4 pre payload post (omega arith) (omega arith) p e 0 (p + 6) (omega arith) in
        let w = get_there 4 pre payload post (omega arith) (omega arith) p e 1 (p + 6 + 1) (omega arith) in
        let t = two-there 4 pre payload post (omega arith) (omega arith) p e 2 (p + 6 + 2) (omega arith) in
        let u = two-little x.after (omega (arith, fits.after, few.states)) in
        step_eq _ _ c w (t ∙ u)

    step_in_range : step_fits (size M) M.commands M.stars (step_in with_step (p + 6)) ≡ true
    step_in_range = rw step-read (step-whole _ _ _ _ fits)

  -- All of them, behind `pre`.
  pub steps-there : (xs : List TraceStep) (pre : List ℕ) (p : ℕ) → length pre ≡ p → Every (InSystem M) xs
      → StepsStand (size M) M.commands M.stars (pre ++ steps_bytes xs) p (length xs) × (steps_in (pre ++ steps_bytes xs) p (length xs) ≡ xs)
  unfolding StepsStand steps_in steps_bytes
  steps-there [] pre p e fits = (tt, refl)
  steps-there (x ∷ xs) pre p e fits =
      let a : pre ++ step_bytes x ++ steps_bytes xs ≡ pre ++ (step_bytes x ++ steps_bytes xs) = append_assoc pre (step_bytes x) (steps_bytes xs) in
      let q : length (pre ++ step_bytes x) ≡ p + 10 = omega (arith, length-append pre (step_bytes x), step-length x) in
      let r = steps-there xs (pre ++ step_bytes x) (p + 10) q fits.1 in
      let S = subst (λ (l : List ℕ). StepsStand (size M) M.commands M.stars l (p + 10) (length xs)) a r.0 in
      let I = subst (λ (l : List ℕ). steps_in l (p + 10) (length xs) ≡ xs) a r.1 in (
        (step-record pre (steps_bytes xs) x fits.0 p e, step_in_range pre (steps_bytes xs) x fits.0 p e, S),
        ap (λ (y : TraceStep). y ∷ steps_in (pre ++ (step_bytes x ++ steps_bytes xs)) (p + 10) (length xs)) (step-read pre (steps_bytes xs) x fits.0 p e)
            ∙ ap (λ (ys : List TraceStep). x ∷ ys) I,
      )

  -- The header.
  header-length : length (header_bytes M) ≡ header_length M
  unfolding header_bytes record_bytes little
  header-length = omega arith

  counts-there : (ns pre post : List ℕ) (p : ℕ) → length pre ≡ p → same_counts ns (pre ++ (ns ++ post)) p ≡ true
  unfolding same_counts
  counts-there [] pre post p e = refl
  counts-there (n ∷ ns) pre post p e =
      let z : length pre + 0 ≡ p = omega arith in
      let q : length (pre ++ (n ∷ [])) ≡ p + 1 = omega (arith, length-append pre (n ∷ [])) in
      and_join _ _ (eq-eqb _ _ (subst (λ (x : ℕ). get_or (pre ++ (n ∷ (ns ++ post))) x 0 ≡ n) z (get_past pre (n ∷ (ns ++ post)) 0)))
      (subst (λ (l : List ℕ). same_counts ns l (p + 1) ≡ true) (append_assoc pre (n ∷ []) (ns ++ post)) (counts-there ns (pre ++ (n ∷ [])) post (p + 1) q))

  module _ (post : List ℕ) where
    header-record : is_record (header_bytes M ++ post) 0 M.kind (length M.counts) ≡ true
    unfolding header_bytes
    header-record = record-there M.kind [] M.counts post few.kind few.counts 0 refl

    header-counts : same_counts M.counts (header_bytes M ++ post) 6 ≡ true
    unfolding header_bytes record_bytes little
    header-counts = counts-there M.counts (little 4 (length M.counts) ++ little 2 M.kind) post 6 refl

    pub header_read : length (header_bytes M ++ post) ≤ 65536
        → sheet_of M (header_bytes M ++ post) ≡ body_at (size M) M.commands M.stars (header_bytes M ++ post) (header_length M)
    unfolding sheet_in demand
    header_read h = rw (le-leb _ _ h, header-record, header-counts)

  -- A map.
  module _ (map : List ℕ) (long : length map ≡ map_length (size M)) (clear : unused_clear (size M) (get_or map 0 0) ≡ true) (h : length map < 65536) where
    abbrev map_sheet : List ℕ
    map_sheet = header_bytes M ++ (record_bytes 2 map ++ [])

    map-record : is_record map_sheet (header_length M) 2 (map_length (size M)) ≡ true
    map-record =
        subst (λ (n : ℕ). is_record map_sheet (header_length M) 2 n ≡ true) long
        (record-there 2 (header_bytes M) map [] (omega arith) h (header_length M) header-length)

    map-clear : unused_clear (size M) (get_or map_sheet (header_length M + 6) 0) ≡ true
    map-clear =
        subst (λ (x : ℕ). unused_clear (size M) x ≡ true)
        (sym (get_there 2 (header_bytes M) map [] (omega arith) h (header_length M) header-length 0 (header_length M + 6) (omega arith)
        ∙ ap (λ (l : List ℕ). get_or l 0 0) (append-nil map)))
        clear

    map-end : length map_sheet ≡ header_length M + 6 + map_length (size M)
    map-end =
        omega (arith, long, length-append (header_bytes M) (record_bytes 2 map ++ []), front_length 2 map [] (omega arith) h, header-length)

    map_back : map_in map_sheet (header_length M + 6) (map_length (size M)) ≡ map
    unfolding map_in
    map_back =
        ap (take (map_length (size M))) (payload_there 2 (header_bytes M) map [] (omega arith) h (header_length M) header-length ∙ append-nil map)
        ∙ take_all (map_length (size M)) map (omega (arith, long))

    pub map_read : body_at (size M) M.commands M.stars map_sheet (header_length M) ≡ holds (safe map)
    unfolding body_at either map_at demand
    map_read = rw (map-record, map-clear, eq-eqb _ _ map-end) (ap (λ (l : List ℕ). holds (safe l)) map_back)

  -- A trace.
  module _ (s : ℕ) (xs : List TraceStep) (small : s < size M) (fits : Every (InSystem M) xs) where
    abbrev trace_sheet : List ℕ
    trace_sheet = header_bytes M ++ (record_bytes 3 (little 2 s) ++ steps_bytes xs)

    trace-record : is_record trace_sheet (header_length M) 3 2 ≡ true
    unfolding little
    trace-record = record-there 3 (header_bytes M) (little 2 s) (steps_bytes xs) (omega arith) (omega arith) (header_length M) header-length

    pub trace-start : two_at trace_sheet (header_length M + 6) ≡ s
    unfolding little two_at
    trace-start =
        two-there 3 (header_bytes M) (little 2 s) (steps_bytes xs) (omega arith) (omega arith) (header_length M) header-length 0 (header_length M + 6) (omega arith)
        ∙ two-little s (omega (arith, few.states))

    pub trace_pre : length (header_bytes M ++ record_bytes 3 (little 2 s)) ≡ header_length M + 8
    unfolding header_bytes record_bytes little
    trace_pre = omega (arith, length-append (header_bytes M) (record_bytes 3 (little 2 s)))

    pub trace-count : step_count trace_sheet (header_length M + 8) ≡ length xs
    unfolding step_count
    trace-count =
        omega (
          arith,
          steps-length xs,
          trace_pre,
          ap length (append_assoc (header_bytes M) (record_bytes 3 (little 2 s)) (steps_bytes xs)),
          length-append (header_bytes M ++ record_bytes 3 (little 2 s)) (steps_bytes xs),
        )

    abbrev trace-there : StepsStand (size M) M.commands M.stars trace_sheet (header_length M + 8) (length xs) × (steps_in trace_sheet (header_length M + 8) (length xs) ≡ xs)
    trace-there =
        subst (λ (l : List ℕ). StepsStand (size M) M.commands M.stars l (header_length M + 8) (length xs) × (steps_in l (header_length M + 8) (length xs) ≡ xs))
        (append_assoc (header_bytes M) (record_bytes 3 (little 2 s)) (steps_bytes xs))
        (steps-there xs (header_bytes M ++ record_bytes 3 (little 2 s)) (header_length M + 8) trace_pre fits)

    pub trace-read : body_at (size M) M.commands M.stars trace_sheet (header_length M) ≡ holds (trace s xs)
    unfolding body_at either trace_at demand
    trace-read =
        rw (kinds-apart _ (header_length M) 2 (map_length (size M)) trace-record, trace-record, trace-start, lt-ltb s (size M) small, trace-count)
        (steps_of (size M) M.commands M.stars trace_sheet (header_length M + 8) (length xs) _ trace-there.0 ∙ ap (λ (l : List TraceStep). holds (trace s l)) trace-there.1)

map-short : (n : ℕ) (states : ℕ) → states ≤ 65536 → n ≡ map_length states → n < 65536
unfolding map_length
map-short n states h e = omega arith

pub reads-written : (M : System) → NumbersFit M → (b : List ℕ) (x : Sheet) → SheetSays M b x → sheet_of M b ≡ holds x
unfolding sheet_bytes map_bytes start_bytes
reads-written M few b (safe map) w =
    let e : b ≡ header_bytes M ++ (record_bytes 2 map ++ []) = w.bytes ∙ ap (λ (l : List ℕ). header_bytes M ++ l) (sym (append-nil (record_bytes 2 map))) in
    ap (sheet_of M) e
    ∙ header_read M few (record_bytes 2 map ++ []) (subst (λ (l : List ℕ). length l ≤ 65536) e w.short)
    ∙ map_read M few map w.fits.long w.fits.clear (map-short _ _ few.states w.fits.long)
reads-written M few b (trace s xs) w =
    ap (sheet_of M) w.bytes
    ∙ header_read M few (record_bytes 3 (little 2 s) ++ steps_bytes xs) (subst (λ (l : List ℕ). length l ≤ 65536) w.bytes w.short)
    ∙ trace-read M few s xs w.fits.0 w.fits.1
