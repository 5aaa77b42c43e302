-- A number of n bits in one lane of n cells: bit i of x is bit l of the cell at p i. What a store to a cell does to it.
-- Assumes nothing.
use Prim.Native.Nat.{ℕ, zero, suc, ◌+◌, ◌-◌, ◌*◌, ◌/◌, ◌%◌, ◌^◌, ◌≤◌, ◌<◌}
use mathlib.Core.Path.{◌≡◌, sym, ap, ap₂, ◌∙◌, subst}
use mathlib.Core.List.{List}
use mathlib.Core.Logic.{◌⊎◌, inl, inr}
use native.Mathlib.Omega.{arith}
use native.Mathlib.Nat.{mod-lt, div-one, pow-suc, eq-or-lt_of_le}
use native.Mathlib.Numerals.{one-add, add-one}
use native.Mathlib.Decide.{dec_lt}
use lib.Arith.{digits_lt}
use lib.Pow.{pow_pos, shr-shr, shr_lt, field, mod-mod-pow, mod-pow-add}
use lib.ListN.{length, get_or, set}
use lib.Seq.{get_or-set_same, get_or-set_other}
use Rattle.meaning.specs.working.Digits.{digit, put}
use Rattle.meaning.proofs.PutBits.{put_lt, put_same, put-below, put_above}
use Rattle.evaluation.proofs.LaneBits.{lane_zero}

pub record Zone (c : List ℕ) (p : ℕ → ℕ) (n l x : ℕ) : Type 0 where
  pub small : x < 2 ^ n
  pub same : (i : ℕ) → i < n → digit x i ≡ digit (get_or c (p i) 0) l

-- ---- bits of a number with one more, or one less, below

pub bit_zero : (x : ℕ) → digit x 0 ≡ x % 2
bit_zero x = ap (λ (y : ℕ). y % 2) (div-one x)

pub bit_half : (x i : ℕ) → digit (x / 2) i ≡ digit x (suc i)
bit_half x i = ap (λ (y : ℕ). y % 2) (shr-shr x 1 i ∙ ap (λ (k : ℕ). x / 2 ^ k) (one-add i))

pub bit_twice : (y b i : ℕ) → b < 2 → digit (y * 2 + b) (suc i) ≡ digit y i
bit_twice y b i h = sym (bit_half (y * 2 + b) i) ∙ ap (λ (z : ℕ). digit z i) (half y b h)
  where
    half : (y b : ℕ) → b < 2 → (y * 2 + b) / 2 ≡ y
    half y b h = omega arith

pub bit-first : (y b : ℕ) → b < 2 → digit (y * 2 + b) 0 ≡ b
bit-first y b h = bit_zero (y * 2 + b) ∙ odd y b h
  where
    odd : (y b : ℕ) → b < 2 → (y * 2 + b) % 2 ≡ b
    odd y b h = omega arith

pub bit_out : (x n : ℕ) → x < 2 ^ n → digit x n ≡ 0
bit_out x n h = ap (λ (y : ℕ). y % 2) (none (x / 2 ^ n) (shr_lt 0 n (subst (λ (k : ℕ). x < 2 ^ k) (sym (zero_plus n)) h)))
  where
    none : (y : ℕ) → y < 1 → y ≡ 0
    none y h = omega arith

    zero_plus : (n : ℕ) → 0 + n ≡ n
    zero_plus n = omega arith

-- The bits below m are those of the number's part below 2 ^ m.
pub bit-mod : (x m i : ℕ) → i < m → digit (x % 2 ^ m) i ≡ digit x i
bit-mod x m i h =
    let e : m - 1 - i + 1 + i ≡ m = omega arith in
    ap (λ (k : ℕ). x % 2 ^ k / 2 ^ i % 2) (sym e)
    ∙ ap (λ (y : ℕ). y % 2) (field x (m - 1 - i + 1) i) ∙ mod-mod-pow (x / 2 ^ i) (m - 1 - i) 1

-- A number's double, cut to one more digit.
twice_mod : (x m : ℕ) → x * 2 % 2 ^ suc m ≡ x % 2 ^ m * 2
twice_mod x m =
    ap (λ (k : ℕ). x * 2 % 2 ^ k) (sym (add-one m))
    ∙ mod-pow-add (x * 2) m 1 ∙ ap₂ (λ (a b : ℕ). a % 2 ^ m * 2 + b) (dbl x) (even x) ∙ plus (x % 2 ^ m * 2)
  where
    dbl : (x : ℕ) → x * 2 / 2 ≡ x
    dbl x = omega arith

    even : (x : ℕ) → x * 2 % 2 ≡ 0
    even x = omega arith

    plus : (x : ℕ) → x + 0 ≡ x
    plus x = omega arith

pow-next : (m : ℕ) → 2 ^ suc m ≡ 2 ^ m * 2
pow-next m = pow-suc 2 m

half_small : (x m : ℕ) → x < 2 ^ suc m → x / 2 < 2 ^ m
half_small x m h = let e = pow-next m in omega arith

module _ (c : List ℕ) (l : ℕ) where
  -- A store elsewhere.
  pub zone_apart : (p : ℕ → ℕ) (n x k v : ℕ) → ((i : ℕ) → i < n → p i ≡ k → ⊥) → Zone c p n l x → Zone (set c k v) p n l x
  zone_apart p n x k v apart z =
      record { small = z.small; same = λ i h. z.same i h ∙ ap (λ (y : ℕ). digit y l) (sym (get_or-set_other c k (p i) v 0 (apart i h))) }

  -- One more below, in the cell k.
  pub zone_push : (p q : ℕ → ℕ) (m x k v b : ℕ) → k < length c → q 0 ≡ k
      → ((i : ℕ) → i < m → q (suc i) ≡ p i) → ((i : ℕ) → i < m → p i ≡ k → ⊥) → digit v l ≡ b → b < 2
      → Zone c p (suc m) l x → Zone (set c k v) q (suc m) l (x * 2 % 2 ^ suc m + b)
  zone_push p q m x k v b inside first next apart val hb z =
      record {
        small =
            subst (λ (y : ℕ). y + b < 2 ^ suc m) (sym (twice_mod x m))
            (subst (λ (y : ℕ). x % 2 ^ m * 2 + b < y) (sym (pow-next m)) (digits_lt (mod-lt x (pow_pos m)) hb));
        same = λ i h. ap (λ (y : ℕ). digit (y + b) i) (twice_mod x m) ∙ go i h;
      }
    where
      go : (i : ℕ) → i < suc m → digit (x % 2 ^ m * 2 + b) i ≡ digit (get_or (set c k v) (q i) 0) l
      go zero h =
          bit-first (x % 2 ^ m) b hb ∙ sym val
          ∙ ap (λ (y : ℕ). digit y l) (sym (get_or-set_same c k v 0 inside) ∙ ap (λ (y : ℕ). get_or (set c k v) y 0) (sym first))
      go (suc i) h =
          bit_twice (x % 2 ^ m) b i hb ∙ bit-mod x m i (omega arith) ∙ z.same i (omega arith)
          ∙ ap (λ (y : ℕ). digit y l) (sym (get_or-set_other c k (p i) v 0 (apart i (omega arith))) ∙ ap (λ (y : ℕ). get_or (set c k v) y 0) (sym (next i (omega arith))))

  -- The lowest taken away, and its cell k cleared.
  pub zone_pop : (p q : ℕ → ℕ) (m x k : ℕ) → l < 64 → k < length c → q m ≡ k
      → ((i : ℕ) → i < m → q i ≡ p (suc i)) → ((i : ℕ) → i < m → p (suc i) ≡ k → ⊥)
      → Zone c p (suc m) l x → Zone (set c k 0) q (suc m) l (x / 2)
  zone_pop p q m x k hl inside last next apart z =
      record {
        small = less x (2 ^ suc m) z.small;
        same = λ i h. bit_half x i ∙ go i (eq-or-lt_of_le {n = i} {m = m} (omega arith));
      }
    where
      less : (x n : ℕ) → x < n → x / 2 < n
      less x n h = omega arith

      go : (i : ℕ) → (i ≡ m) ⊎ (i < m) → digit x (suc i) ≡ digit (get_or (set c k 0) (q i) 0) l
      go i (inl e) =
          ap (λ (y : ℕ). digit x (suc y)) e ∙ bit_out x (suc m) z.small ∙ sym (lane_zero l hl)
          ∙ ap (λ (y : ℕ). digit y l) (sym (get_or-set_same c k 0 0 inside) ∙ ap (λ (y : ℕ). get_or (set c k 0) y 0) (sym (ap q e ∙ last)))
      go i (inr h) =
          z.same (suc i) (omega arith)
          ∙ ap (λ (y : ℕ). digit y l) (sym (get_or-set_other c k (p (suc i)) 0 0 (apart i h)) ∙ ap (λ (y : ℕ). get_or (set c k 0) y 0) (sym (next i h)))

  -- The lowest made another, in its cell k.
  pub zone_top : (p : ℕ → ℕ) (m x k v b : ℕ) → k < length c → p 0 ≡ k
      → ((i : ℕ) → i < m → p (suc i) ≡ k → ⊥) → digit v l ≡ b → b < 2
      → Zone c p (suc m) l x → Zone (set c k v) p (suc m) l (x / 2 * 2 + b)
  zone_top p m x k v b inside first apart val hb z =
      record {
        small = subst (λ (y : ℕ). x / 2 * 2 + b < y) (sym (pow-next m)) (digits_lt (half_small x m z.small) hb);
        same = go;
      }
    where
      go : (i : ℕ) → i < suc m → digit (x / 2 * 2 + b) i ≡ digit (get_or (set c k v) (p i) 0) l
      go zero h =
          bit-first (x / 2) b hb ∙ sym val
          ∙ ap (λ (y : ℕ). digit y l) (sym (get_or-set_same c k v 0 inside) ∙ ap (λ (y : ℕ). get_or (set c k v) y 0) (sym first))
      go (suc i) h =
          bit_twice (x / 2) b i hb ∙ bit_half x i ∙ z.same (suc i) h
          ∙ ap (λ (y : ℕ). digit y l) (sym (get_or-set_other c k (p (suc i)) v 0 (apart i (omega arith))))

  -- Bit j made another, in the cell j.
  pub zone_put : (n x j v b : ℕ) → n ≤ length c → j < n → digit v l ≡ b → b < 2
      → Zone c (λ i. i) n l x → Zone (set c j v) (λ i. i) n l (put x j b)
  zone_put n x j v b inside hj val hb z =
      record { small = put_lt x j b hb n hj z.small; same = λ i h. go i h (eq_or_lt (i) (j)) }
    where
      eq_or_lt : (i j : ℕ) → (i ≡ j) ⊎ ((i < j) ⊎ (j < i))
      eq_or_lt i j = three (dec_lt i j) (dec_lt j i)
        where
          three : Dec (i < j) → Dec (j < i) → (i ≡ j) ⊎ ((i < j) ⊎ (j < i))
          three (yes a) b = inr (inl a)
          three (no a) (yes b) = inr (inr b)
          three (no a) (no b) = inl (omega arith)

      go : (i : ℕ) → i < n → (i ≡ j) ⊎ ((i < j) ⊎ (j < i)) → digit (put x j b) i ≡ digit (get_or (set c j v) i 0) l
      go i h (inl e) =
          ap (digit (put x j b)) e ∙ put_same x j b hb ∙ sym val
          ∙ ap (λ (y : ℕ). digit y l) (sym (get_or-set_same c j v 0 (omega arith)) ∙ ap (λ (y : ℕ). get_or (set c j v) y 0) (sym e))
      go i h (inr (inl a)) = put-below x j b i hb a ∙ z.same i h ∙ ap (λ (y : ℕ). digit y l) (sym (get_or-set_other c j i v 0 (λ e. omega arith)))
      go i h (inr (inr a)) = put_above x j b i hb a ∙ z.same i h ∙ ap (λ (y : ℕ). digit y l) (sym (get_or-set_other c j i v 0 (λ e. omega arith)))

  -- A store that changes nothing in this lane.
  pub zone_keep : (n x j v : ℕ) → n ≤ length c → j < n → digit v l ≡ digit (get_or c j 0) l
      → Zone c (λ i. i) n l x → Zone (set c j v) (λ i. i) n l x
  zone_keep n x j v inside hj val z = record { small = z.small; same = λ i h. z.same i h ∙ go i (eq i) }
    where
      eq : (i : ℕ) → (i ≡ j) ⊎ (i ≡ j → ⊥)
      eq i = two (dec_lt i j) (dec_lt j i)
        where
          two : Dec (i < j) → Dec (j < i) → (i ≡ j) ⊎ (i ≡ j → ⊥)
          two (yes a) b = inr (λ e. omega arith)
          two (no a) (yes b) = inr (λ e. omega arith)
          two (no a) (no b) = inl (omega arith)

      go : (i : ℕ) → (i ≡ j) ⊎ (i ≡ j → ⊥) → digit (get_or c i 0) l ≡ digit (get_or (set c j v) i 0) l
      go i (inl e) =
          ap (λ (y : ℕ). digit (get_or c y 0) l) e ∙ sym val
          ∙ ap (λ (y : ℕ). digit y l) (sym (get_or-set_same c j v 0 (omega arith)) ∙ ap (λ (y : ℕ). get_or (set c j v) y 0) (sym e))
      go i (inr n) = ap (λ (y : ℕ). digit y l) (sym (get_or-set_other c j i v 0 n))
