-- Four lanes' numbers at once, in fields of 16 bits.
-- Assumes nothing.
use Prim.Native.Nat.{ℕ, zero, suc, ◌+◌, ◌-◌, ◌*◌, ◌/◌, ◌%◌, ◌^◌, ◌≤◌, ◌<◌}
use mathlib.Core.Path.{◌≡◌, refl, sym, ap, ap₂, ◌∙◌}
use mathlib.Core.List.{List}
use native.Mathlib.Omega.{arith}
use native.Mathlib.Nat.{mod-eq_of_lt, mod-lt, pow-suc, add-mul, mul_assoc, add-zero}
use lib.Bits.{bit_and, and_block, and_mask, and_le_r}
use lib.Pow.{pow_mono, pow_pos, shr-shr, split}
use lib.ListN.{get_or}
use Rattle.evaluation.specs.working.CodeMachine.{run_of, start_of}
use Rattle.meaning.specs.working.Digits.{digit}
use Rattle.evaluation.specs.working.Cells.{run_cells, no_tops}
use Rattle.evaluation.specs.working.Ends.{sum_of, start_cells, lane_of, fours, row_of, pick_of}
use Rattle.evaluation.proofs.LaneEnds.{lanes_right}

-- The lowest field, and the rest.
peel : (x f : ℕ) → bit_and x (f * 65536 + 1) ≡ bit_and (x / 65536) f * 65536 + x % 2
peel x f =
    ap (λ (y : ℕ). bit_and y (f * 65536 + 1)) (sym (split x 16))
    ∙ and_block 16 (x / 65536) f (x % 65536) 1 (mod-lt x (pow_pos 16)) (omega arith)
    ∙ ap (λ (y : ℕ). bit_and (x / 65536) f * 65536 + y) (and_mask (x % 65536) 1 ∙ low x)
  where
    low : (x : ℕ) → x % 65536 % 2 ≡ x % 2
    low x = omega arith

abbrev pub four : ℕ → ℕ → ℕ → ℕ → ℕ
four a b d e = a + 65536 * b + 4294967296 * d + 281474976710656 * e

four_bits : (x : ℕ) → bit_and x fours ≡ four (x % 2) (x / 65536 % 2) (x / 65536 / 65536 % 2) (x / 65536 / 65536 / 65536 % 2)
four_bits x =
    let y = x / 65536 in
    let z = y / 65536 in
    let u = z / 65536 in
    let e0 : bit_and u 1 ≡ u % 2 = and_mask u 1 in
    let e1 = peel z 1 in
    let e2 = peel y 65537 in
    let e3 = peel x 4295032833 in
    e3 ∙ ap (λ (k : ℕ). k * 65536 + x % 2) (e2 ∙ ap (λ (k : ℕ). k * 65536 + y % 2) (e1 ∙ ap (λ (k : ℕ). k * 65536 + z % 2) e0))
    ∙ out (x % 2) (y % 2) (z % 2) (u % 2)
  where
    out : (a b d e : ℕ) → ((e * 65536 + d) * 65536 + b) * 65536 + a ≡ four a b d e
    out a b d e = omega arith

-- In a word shifted by r they are the bits r, r + 16, r + 32, r + 48.
four_lanes : (x r : ℕ) → bit_and (x / 2 ^ r) fours ≡ four (digit x r) (digit x (r + 16)) (digit x (r + 32)) (digit x (r + 48))
four_lanes x r =
    let e1 : x / 2 ^ r / 65536 ≡ x / 2 ^ (r + 16) = shr-shr x r 16 in
    let e2 : x / 2 ^ r / 65536 / 65536 ≡ x / 2 ^ (r + 32) = ap (λ (k : ℕ). k / 65536) e1 ∙ shr-shr x (r + 16) 16 ∙ ap (λ (k : ℕ). x / 2 ^ k) (a32 r) in
    let e3 : x / 2 ^ r / 65536 / 65536 / 65536 ≡ x / 2 ^ (r + 48) = ap (λ (k : ℕ). k / 65536) e2 ∙ shr-shr x (r + 32) 16 ∙ ap (λ (k : ℕ). x / 2 ^ k) (a48 r) in
    four_bits (x / 2 ^ r)
    ∙ ap (λ (k : ℕ). four (digit x r) (k % 2) (x / 2 ^ r / 65536 / 65536 % 2) (x / 2 ^ r / 65536 / 65536 / 65536 % 2)) e1
    ∙ ap (λ (k : ℕ). four (digit x r) (digit x (r + 16)) (k % 2) (x / 2 ^ r / 65536 / 65536 / 65536 % 2)) e2
    ∙ ap (λ (k : ℕ). four (digit x r) (digit x (r + 16)) (digit x (r + 32)) (k % 2)) e3
  where
    a32 : (r : ℕ) → r + 16 + 16 ≡ r + 32
    a32 r = omega arith

    a48 : (r : ℕ) → r + 32 + 16 ≡ r + 48
    a48 r = omega arith

-- A sum of fields is the fields' sums.
sum_four : (f a b d e : ℕ → ℕ) (n : ℕ) → ((i : ℕ) → f i ≡ four (a i) (b i) (d i) (e i))
    → sum_of f n ≡ four (sum_of a n) (sum_of b n) (sum_of d n) (sum_of e n)
unfolding sum_of
sum_four f a b d e zero h = refl
sum_four f a b d e (suc i) h =
    ap₂ (λ (x y : ℕ). x * 2 ^ i + y) (h i) (sum_four f a b d e i h)
    ∙ ap (λ (x : ℕ). x + four (sum_of a i) (sum_of b i) (sum_of d i) (sum_of e i)) (times (a i) (b i) (d i) (e i) (2 ^ i))
    ∙ join (a i * 2 ^ i) (b i * 2 ^ i) (d i * 2 ^ i) (e i * 2 ^ i) (sum_of a i) (sum_of b i) (sum_of d i) (sum_of e i)
  where
    times : (a b d e p : ℕ) → four a b d e * p ≡ four (a * p) (b * p) (d * p) (e * p)
    times a b d e p =
        add-mul (a + 65536 * b + 4294967296 * d) (281474976710656 * e) p
        ∙ ap₂ (λ (x y : ℕ). x + y)
        (add-mul (a + 65536 * b) (4294967296 * d) p ∙ ap₂ (λ (x y : ℕ). x + y) (add-mul a (65536 * b) p ∙ ap (λ (x : ℕ). a * p + x) (mul_assoc 65536 b p)) (mul_assoc 4294967296 d p))
        (mul_assoc 281474976710656 e p)

    join : (a b d e a' b' d' e' : ℕ) → four a b d e + four a' b' d' e' ≡ four (a + a') (b + b') (d + d') (e + e')
    join a b d e a' b' d' e' = omega arith

sum_lt : (f : ℕ → ℕ) (n : ℕ) → ((i : ℕ) → f i < 2) → sum_of f n < 2 ^ n
unfolding sum_of
sum_lt f zero h = omega arith
sum_lt f (suc i) h = rw (pow-suc 2 i) (top (f i) (2 ^ i) (sum_of f i) (h i) (sum_lt f i h))
  where
    top : (x p y : ℕ) → x < 2 → y < p → x * p + y < p * 2
    top zero p y a b = omega arith
    top (suc zero) p y a b = omega arith
    top (suc (suc x)) p y a b = absurd (omega arith)

lane_lt : (c : List ℕ) (n l : ℕ) → n ≤ 16 → lane_of c n l < 65536
lane_lt c n l h =
    let g : 2 ^ n ≤ 2 ^ 16 = pow_mono {i = n} {j = 16} h in
    let s = sum_lt (λ i. digit (get_or c i 0) l) n (λ i. omega arith) in
    omega arith

-- A row has four lanes.
pub row_four : (c : List ℕ) (n r : ℕ) → row_of c n r ≡ four (lane_of c n r) (lane_of c n (r + 16)) (lane_of c n (r + 32)) (lane_of c n (r + 48))
row_four c n r =
    sum_four (λ i. bit_and (get_or c i 0 / 2 ^ r) fours) (λ i. digit (get_or c i 0) r) (λ i. digit (get_or c i 0) (r + 16)) (λ i. digit (get_or c i 0) (r + 32)) (λ i. digit (get_or c i 0) (r + 48)) n
    (λ i. four_lanes (get_or c i 0) r)

module _ (a b d e : ℕ) (ha : a < 65536) (hb : b < 65536) (hd : d < 65536) (he : e < 65536) where
  field0 : four a b d e / 1 % 65536 ≡ a
  field0 = omega arith

  field1 : four a b d e / 65536 % 65536 ≡ b
  field1 = omega arith

  field2 : four a b d e / 4294967296 % 65536 ≡ d
  field2 = omega arith

  field3 : four a b d e / 281474976710656 % 65536 ≡ e
  field3 = omega arith

pub row_field : (c : List ℕ) (n r q : ℕ) → n ≤ 16 → q < 4 → row_of c n r / 2 ^ (q * 16) % 65536 ≡ lane_of c n (r + q * 16)
row_field c n r q hn hq = ap (λ (x : ℕ). x / 2 ^ (q * 16) % 65536) (row_four c n r) ∙ go q hq
  where
    go : (q : ℕ) → q < 4 → four (lane_of c n r) (lane_of c n (r + 16)) (lane_of c n (r + 32)) (lane_of c n (r + 48)) / 2 ^ (q * 16) % 65536 ≡ lane_of c n (r + q * 16)
    go zero h = field0 _ _ _ _ (lane_lt c n r hn) (lane_lt c n (r + 16) hn) (lane_lt c n (r + 32) hn) (lane_lt c n (r + 48) hn) ∙ ap (lane_of c n) (sym (add-zero r))
    go (suc zero) h = field1 _ _ _ _ (lane_lt c n r hn) (lane_lt c n (r + 16) hn) (lane_lt c n (r + 32) hn) (lane_lt c n (r + 48) hn)
    go (suc (suc zero)) h = field2 _ _ _ _ (lane_lt c n r hn) (lane_lt c n (r + 16) hn) (lane_lt c n (r + 32) hn) (lane_lt c n (r + 48) hn)
    go (suc (suc (suc zero))) h = field3 _ _ _ _ (lane_lt c n r hn) (lane_lt c n (r + 16) hn) (lane_lt c n (r + 32) hn) (lane_lt c n (r + 48) hn)
    go (suc (suc (suc (suc q)))) h = absurd (omega arith)

-- The rows are those of the cells c.
abbrev pub Have : List ℕ → ℕ → List ℕ → Type 0
Have c n rows = (r : ℕ) → r < 16 → get_or rows r 0 ≡ row_of c n r

-- What is picked from the rows is the lane's number.
pub pick-right : (c rows : List ℕ) (n l : ℕ) → n ≤ 16 → l < 64 → Have c n rows → pick_of rows l ≡ lane_of c n l
pick-right c rows n l hn hl have =
    ap (λ (x : ℕ). x / 2 ^ (l / 16 * 16) % 65536) (have (l % 16) (omega arith))
    ∙ row_field c n (l % 16) (l / 16) hn (omega arith)
    ∙ ap (lane_of c n) (whole l)
  where
    whole : (l : ℕ) → l % 16 + l / 16 * 16 ≡ l
    whole l = omega arith

-- What is picked for lane l is the state that the one-word machine leaves with word 64 * b + l.
pub picked_right : (os rows : List ℕ) (b s n l : ℕ) → n ≤ 16 → s < 2 ^ n → l < 64
    → Have (run_cells os b no_tops (start_cells n s)) n rows
    → pick_of rows l ≡ (run_of os (64 * b + l) (start_of s)).state % 2 ^ n
picked_right os rows b s n l hn hs hl have =
    pick-right (run_cells os b no_tops (start_cells n s)) rows n l hn hl have ∙ lanes_right os b s n l (omega arith) hs hl

-- ---- reading a row from the top: it does not run over

pub row_room : (x n i : ℕ) → 0 < i → i ≤ n → n ≤ 16 → x + fours ≤ 2 ^ (n - i) * fours → x * 2 % 2 ^ 64 ≡ x * 2
row_room x n i h k b s = let g : 2 ^ (n - i) ≤ 2 ^ 15 = pow_mono {i = n - i} {j = 15} (omega arith) in mod-eq_of_lt (omega arith)

pub row_more : (x m n i : ℕ) → 0 < i → i ≤ n → m ≤ fours → x + fours ≤ 2 ^ (n - i) * fours → x * 2 + m + fours ≤ 2 ^ (n - (i - 1)) * fours
row_more x m n i h k q s =
    let e : n - (i - 1) ≡ suc (n - i) = omega arith in
    rw (e, pow-suc 2 (n - i)) (omega arith)

pub row-bits : (x r : ℕ) → bit_and (x / 2 ^ r) fours ≤ fours
row-bits x r = and_le_r (x / 2 ^ r) fours
