-- A sheet that is read is the bytes of what it holds.
-- Assumes nothing.
use mathlib.Core.Path.{◌≡◌, refl, sym, ap, ◌∙◌, subst}
use mathlib.Core.Logic.{inl, inr}
use mathlib.Core.Bool.{true}
use mathlib.Core.List.{List, [], ◌∷◌, ◌++◌, append_assoc, append-nil}
use Prim.Native.Nat.{ℕ, zero, suc, ◌+◌, ◌-◌, ◌*◌, ◌/◌, ◌%◌, ◌<◌, ◌≤◌}
use native.Mathlib.Omega.{arith}
use native.Mathlib.Numerals.{add-one}
use lib.ListN.{length, get_or, take, drop, length-drop, drop_of_length-le}
use lib.Seq.{get_or-take, get_or-drop, drop-cons, drop-drop, length-take-le}
use Rattle.meaning.specs.Evidence.{Sheet}
use Rattle.sheets.specs.SheetTexts.{two_at, four_at, is_record, same_counts, unused_clear, step_in, InSystem, SheetSays, AreBytes}
use Rattle.sheets.specs.Sheets.{System, size, header_length, map_length, little, record_bytes, header_bytes, step_bytes, steps_bytes, sheet_bytes, map_bytes, start_bytes}
use Rattle.sheets.specs.working.SheetReading.{map_in, steps_in, step_count, StepsStand, TraceStands, MapStands}
use Rattle.notation.specs.Regular.{Every}
use Rattle.sheets.specs.Promises.{SaysIffReads}
use Rattle.sheets.proofs.SheetLaws.{record-parts, count-parts, step-parts, map-length_pos}
use Rattle.sheets.proofs.SheetOpened.{Stands, body_inv, sheet_inv, the_map, the_trace}
use Rattle.sheets.proofs.SheetWritten.{reads-written}

-- The bytes of a number that was read.
pub little-two : (a b n : ℕ) → a < 256 → b < 256 → a + 256 * b ≡ n → little 2 n ≡ a ∷ b ∷ []
unfolding little
little-two a b n ha hb e =
    let p : n % 256 ≡ a = omega arith in
    let m : n / 256 ≡ b = omega arith in
    let q : b % 256 ≡ b = omega arith in
    rw (p, m, q)

pub little_four : (a b c d n : ℕ) → a < 256 → b < 256 → c < 256 → d < 256 → a + 256 * b + 65536 * (c + 256 * d) ≡ n → little 4 n ≡ a ∷ b ∷ c ∷ d ∷ []
unfolding little
little_four a b c d n ha hb hc hd e =
    let p : n % 256 ≡ a = omega arith in
    let m : n / 256 ≡ b + 256 * (c + 256 * d) = omega arith in
    let q : (b + 256 * (c + 256 * d)) % 256 ≡ b = omega arith in
    let k : (b + 256 * (c + 256 * d)) / 256 ≡ c + 256 * d = omega arith in
    let r : (c + 256 * d) % 256 ≡ c = omega arith in
    let s : (c + 256 * d) / 256 ≡ d = omega arith in
    let t : d % 256 ≡ d = omega arith in
    rw (p, m, q, k, r, s, t)

next : (b : List ℕ) (p q : ℕ) → p < length b → p + 1 ≡ q → drop p b ≡ get_or b p 0 ∷ drop q b
next b p q h e = drop-cons b p 0 h ∙ ap (λ (x : ℕ). get_or b p 0 ∷ drop x b) (sym (add-one p) ∙ e)

take-drop : (n : ℕ) (l : List ℕ) → l ≡ take n l ++ drop n l
take-drop zero l = refl
take-drop (suc n) [] = refl
take-drop (suc n) (x ∷ l) = ap (λ (t : List ℕ). x ∷ t) (take-drop n l)

-- The record at p, and what follows it.
module _ (b : List ℕ) (bytes : AreBytes b) where
  two_bytes : (p : ℕ) → little 2 (two_at b p) ≡ get_or b p 0 ∷ get_or b (p + 1) 0 ∷ []
  unfolding two_at
  two_bytes p = little-two _ _ _ (bytes p) (bytes (p + 1)) refl

  four_bytes : (p : ℕ) → little 4 (four_at b p) ≡ get_or b p 0 ∷ get_or b (p + 1) 0 ∷ get_or b (p + 2) 0 ∷ get_or b (p + 2 + 1) 0 ∷ []
  unfolding four_at two_at
  four_bytes p = little_four _ _ _ _ _ (bytes p) (bytes (p + 1)) (bytes (p + 2)) (bytes (p + 2 + 1)) refl

  module _ (p kind n : ℕ) (e : is_record b p kind n ≡ true) where
    room : p + 6 + n ≤ length b
    room = (record-parts b p kind n e).0

    -- Its first six bytes.
    head_split : drop p b ≡ (little 4 n ++ little 2 kind) ++ drop (p + 6) b
    head_split =
        let z = room in
        next b p (p + 1) (omega arith) refl
        ∙ ap (λ (l : List ℕ). get_or b p 0 ∷ l) (next b (p + 1) (p + 2) (omega arith) (omega arith)
        ∙ ap (λ (l : List ℕ). get_or b (p + 1) 0 ∷ l) (next b (p + 2) (p + 2 + 1) (omega arith) refl
        ∙ ap (λ (l : List ℕ). get_or b (p + 2) 0 ∷ l) (next b (p + 2 + 1) (p + 4) (omega arith) (omega arith)
        ∙ ap (λ (l : List ℕ). get_or b (p + 2 + 1) 0 ∷ l) (next b (p + 4) (p + 4 + 1) (omega arith) refl
        ∙ ap (λ (l : List ℕ). get_or b (p + 4) 0 ∷ l) (next b (p + 4 + 1) (p + 6) (omega arith) (omega arith))))))
        ∙ sym (ap (λ (l : List ℕ). (l ++ (get_or b (p + 4) 0 ∷ get_or b (p + 4 + 1) 0 ∷ [])) ++ drop (p + 6) b) (four_bytes p))
        ∙ sym (ap (λ (l : List ℕ). (little 4 (four_at b p) ++ l) ++ drop (p + 6) b) (two_bytes (p + 4)))
        ∙ ap (λ (x : ℕ). (little 4 x ++ little 2 (two_at b (p + 4))) ++ drop (p + 6) b) (record-parts b p kind n e).1
        ∙ ap (λ (x : ℕ). (little 4 n ++ little 2 x) ++ drop (p + 6) b) (record-parts b p kind n e).2

    pub record_split : drop p b ≡ record_bytes kind (take n (drop (p + 6) b)) ++ drop (p + 6 + n) b
    unfolding record_bytes
    record_split =
        let z = room in
        let s : length (drop (p + 6) b) ≡ length b - (p + 6) = length-drop (p + 6) b in
        let k : length (take n (drop (p + 6) b)) ≡ n = length-take-le n (drop (p + 6) b) (omega arith) in
        head_split
        ∙ ap (λ (l : List ℕ). (little 4 n ++ little 2 kind) ++ l) (take-drop n (drop (p + 6) b) ∙ ap (λ (l : List ℕ). take n (drop (p + 6) b) ++ l) (drop-drop n (p + 6) b))
        ∙ sym (append_assoc (little 4 n ++ little 2 kind) (take n (drop (p + 6) b)) (drop (p + 6 + n) b))
        ∙ ap (λ (x : ℕ). (little 4 x ++ little 2 kind ++ take n (drop (p + 6) b)) ++ drop (p + 6 + n) b) (sym k)

  -- A step's payload.
  step_four : (q : ℕ) → q + 4 ≤ length b → take 4 (drop q b) ≡ (step_in b q).command ∷ (step_in b q).word ∷ little 2 (step_in b q).after
  unfolding step_in
  step_four q h =
      ap (take 4) (next b q (q + 1) (omega arith) refl
      ∙ ap (λ (l : List ℕ). get_or b q 0 ∷ l) (next b (q + 1) (q + 2) (omega arith) (omega arith)
      ∙ ap (λ (l : List ℕ). get_or b (q + 1) 0 ∷ l) (next b (q + 2) (q + 2 + 1) (omega arith) refl
      ∙ ap (λ (l : List ℕ). get_or b (q + 2) 0 ∷ l) (next b (q + 2 + 1) (q + 4) (omega arith) (omega arith)))))
      ∙ sym (ap (λ (l : List ℕ). get_or b q 0 ∷ get_or b (q + 1) 0 ∷ l) (two_bytes (q + 2)))

  module _ (states commands : ℕ) (stars : ℕ → ℕ) where
    pub steps_split : (n p : ℕ) → StepsStand states commands stars b p n → drop p b ≡ steps_bytes (steps_in b p n) ++ drop (p + 10 * n) b
    unfolding StepsStand steps_in steps_bytes step_bytes
    steps_split zero p S = let z : p ≡ p + 10 * 0 = omega arith in ap (λ (x : ℕ). drop x b) z
    steps_split (suc n) p S =
        let z = room p 4 4 S.0 in
        let y : p + 6 + 4 ≡ p + 10 = omega arith in
        let x : p + 10 + 10 * n ≡ p + 10 * suc n = omega arith in
        record_split p 4 4 S.0
        ∙ ap (λ (l : List ℕ). record_bytes 4 l ++ drop (p + 6 + 4) b) (step_four (p + 6) z)
        ∙ ap (λ (k : ℕ). step_bytes (step_in b (p + 6)) ++ drop k b) y
        ∙ ap (λ (l : List ℕ). step_bytes (step_in b (p + 6)) ++ l) (steps_split n (p + 10) S.2 ∙ ap (λ (k : ℕ). steps_bytes (steps_in b (p + 10) n) ++ drop k b) x)
        ∙ sym (append_assoc (step_bytes (step_in b (p + 6))) (steps_bytes (steps_in b (p + 10) n)) (drop (p + 10 * suc n) b))

  -- A start state's payload.
  start-two : (q : ℕ) → q + 2 ≤ length b → take 2 (drop q b) ≡ little 2 (two_at b q)
  start-two q h = ap (take 2) (next b q (q + 1) (omega arith) refl ∙ ap (λ (l : List ℕ). get_or b q 0 ∷ l) (next b (q + 1) (q + 2) (omega arith) (omega arith))) ∙ sym (two_bytes q)

  -- The header.
  counts_split : (ns : List ℕ) (p : ℕ) → p + length ns ≤ length b → same_counts ns b p ≡ true → take (length ns) (drop p b) ≡ ns
  counts_split [] p h e = refl
  counts_split (n ∷ ns) p h e =
      let c = count-parts n ns b p e in
      ap (take (suc (length ns))) (next b p (p + 1) (omega arith) refl)
      ∙ ap (λ (x : ℕ). x ∷ take (length ns) (drop (p + 1) b)) c.0
      ∙ ap (λ (l : List ℕ). n ∷ l) (counts_split ns (p + 1) (omega arith) c.1)

  pub header_split : (M : System) → is_record b 0 M.kind (length M.counts) ≡ true → same_counts M.counts b 6 ≡ true
      → b ≡ header_bytes M ++ drop (header_length M) b
  unfolding header_bytes
  header_split M e f =
      record_split 0 M.kind (length M.counts) e
      ∙ ap (λ (l : List ℕ). record_bytes M.kind l ++ drop (header_length M) b) (counts_split M.counts 6 (room 0 M.kind (length M.counts) e) f)

steps_cover : (b : List ℕ) (p : ℕ) → p ≤ length b → length b ≤ p + 10 * step_count b p
unfolding step_count
steps_cover b p h = omega arith

-- The contents are in range.
module _ (M : System) (b : List ℕ) where
  steps_range : (n p : ℕ) → StepsStand (size M) M.commands M.stars b p n → Every (InSystem M) (steps_in b p n)
  unfolding StepsStand steps_in
  steps_range zero p S = tt
  steps_range (suc n) p S = (step-parts _ _ _ _ S.1, steps_range n (p + 10) S.2)

  module _ (bytes : AreBytes b) (short : length b ≤ 65536) (e : is_record b 0 M.kind (length M.counts) ≡ true) (f : same_counts M.counts b 6 ≡ true) where
    abbrev at : ℕ
    at = header_length M

    says_map : MapStands (size M) b at → SheetSays M b (the_map (size M) M.commands M.stars b at)
    unfolding sheet_bytes map_bytes start_bytes map_in
    says_map S =
        let n = map_length (size M) in
        let s : length (drop (at + 6) b) ≡ length b - (at + 6) = length-drop (at + 6) b in
        let first : get_or (take (map_length (size M)) (drop (at + 6) b)) 0 0 ≡ get_or b (at + 6) 0 =
        get_or-take (map_length (size M)) (drop (at + 6) b) 0 0 (map-length_pos (size M) _ refl)
        ∙ get_or-drop (at + 6) b 0 0
        ∙ (let z : at + 6 + 0 ≡ at + 6 = omega arith in ap (λ (x : ℕ). get_or b x 0) z) in
        let end : drop (at + 6 + map_length (size M)) b ≡ [] = drop_of_length-le b {i = at + 6 + map_length (size M)} (omega (arith, S.end)) in
        record {
          bytes =
              header_split b bytes M e f
              ∙ ap (λ (l : List ℕ). header_bytes M ++ l)
              (record_split b bytes at 2 (map_length (size M)) S.head
              ∙ ap (λ (l : List ℕ). record_bytes 2 (take (map_length (size M)) (drop (at + 6) b)) ++ l) end ∙ append-nil _);
          short = short;
          fits =
              record {
                long = length-take-le (map_length (size M)) (drop (at + 6) b) (omega (arith, S.end));
                clear = subst (λ (x : ℕ). unused_clear (size M) x ≡ true) (sym first) S.clear;
              };
        }

    says-trace : TraceStands (size M) M.commands M.stars b at → SheetSays M b (the_trace (size M) M.commands M.stars b at)
    unfolding sheet_bytes map_bytes start_bytes
    says-trace S =
        let r : at + 6 + 2 ≤ length b = (record-parts b at 3 2 S.head).0 in
        let w : length b ≤ at + 8 + 10 * step_count b (at + 8) = steps_cover b (at + 8) (omega (arith, r)) in
        let end : drop (at + 8 + 10 * step_count b (at + 8)) b ≡ [] = drop_of_length-le b {i = at + 8 + 10 * step_count b (at + 8)} w in
        record {
          bytes =
              header_split b bytes M e f
              ∙ ap (λ (l : List ℕ). header_bytes M ++ l)
              (record_split b bytes at 3 2 S.head
              ∙ (let z : at + 6 + 2 ≡ at + 8 = omega arith in ap (λ (x : ℕ). record_bytes 3 (take 2 (drop (at + 6) b)) ++ drop x b) z)
              ∙ ap (λ (l : List ℕ). record_bytes 3 l ++ drop (at + 8) b) (start-two b bytes (at + 6) r)
              ∙ ap (λ (l : List ℕ). record_bytes 3 (little 2 (two_at b (at + 6))) ++ l)
              (steps_split b bytes (size M) M.commands M.stars (step_count b (at + 8)) (at + 8) S.steps
              ∙ ap (λ (l : List ℕ). steps_bytes (steps_in b (at + 8) (step_count b (at + 8))) ++ l) end
              ∙ append-nil _));
          short = short;
          fits = (S.start, steps_range (step_count b (at + 8)) (at + 8) S.steps);
        }

    says_of : (x : Sheet) → Stands (size M) M.commands M.stars b at x → SheetSays M b x
    says_of x (inl q) = subst (λ (y : Sheet). SheetSays M b y) (sym q.1) (says_map q.0)
    says_of x (inr q) = subst (λ (y : Sheet). SheetSays M b y) (sym q.1) (says-trace q.0)

pub says_iff_reads : SaysIffReads
says_iff_reads M few b bytes x = (
  λ w. reads-written M few b x w,
  λ e. let o = sheet_inv M b x e in
      says_of M b bytes o.short o.header o.counts x (body_inv (size M) M.commands M.stars b (header_length M) x o.body),
)
