-- One-row states and choices have numbers: a state is the one that its number spreads, and each list of choices is that of a word.
-- Assumes nothing.
use mathlib.Core.Path.{◌≡◌, refl, sym, ap, ◌∙◌, fun_ext}
use mathlib.Core.HLevel.{Σ_prop_path}
use mathlib.Core.Bool.{Bool, true, false, cond}
use mathlib.Core.List.{List, [], ◌∷◌, ◌++◌}
use Prim.Native.Nat.{ℕ, zero, suc, ◌+◌, ◌*◌, ◌/◌, ◌%◌, ◌^◌, ◌<◌}
use native.Mathlib.Nat.{zero-div, div-one, pow-suc, zero-add, suc-add, mod-eq_of_lt, not-suc-le-zero, le_of_suc-le-suc}
use native.Mathlib.Bridge.{le_prop}
use native.Mathlib.Omega.{arith}
use lib.Arith.{lt-one, mod-mul}
use lib.Dec.{eqb}
use lib.Pow.{pow_pos, shr-shr}
use lib.ListN.{length, get_or, length-append}
use lib.Seq.{get_or-append-add}
use Rattle.notation.specs.Model.{Model}
use Rattle.meaning.specs.Meaning.{State, Fits}
use Rattle.meaning.specs.Bits.{bit, first, number}
use Rattle.meaning.specs.OneRow.{state_count, spread, One, the_row, state_number}

odd : (n : ℕ) (b : Bool) → eqb ((n * 2 + cond b 1 0) % 2) 1 ≡ b
odd n true = let h : (n * 2 + 1) % 2 ≡ 1 = omega arith in rw h
odd n false = let h : (n * 2 + 0) % 2 ≡ 0 = omega arith in rw h

half : (n : ℕ) (b : Bool) → (n * 2 + cond b 1 0) / 2 ≡ n
half n true = omega arith
half n false = omega arith

pub bit-suc : (n j : ℕ) → bit n (suc j) ≡ bit (n / 2) j
unfolding bit
bit-suc n j =
    let h : n / 2 ^ suc j ≡ n / 2 / 2 ^ j = ap (λ (x : ℕ). n / 2 ^ x) (let e : suc j ≡ 1 + j = omega arith in e) ∙ sym (shr-shr n 1 j) in
    rw h

pub bit-number : (l : List Bool) (j : ℕ) → bit (number l) j ≡ get_or l j false
unfolding bit number
bit-number [] j = rw zero-div
bit-number (b ∷ bs) zero = rw div-one (odd (number bs) b)
bit-number (b ∷ bs) (suc j) = bit-suc (number (b ∷ bs)) j ∙ ap (λ (x : ℕ). bit x j) (half (number bs) b) ∙ bit-number bs j

pub number_lt : (l : List Bool) → number l < 2 ^ length l
unfolding number
number_lt [] = omega arith
number_lt (true ∷ bs) = let h : number bs < 2 ^ length bs = number_lt bs in rw pow-suc (omega arith)
number_lt (false ∷ bs) = let h : number bs < 2 ^ length bs = number_lt bs in rw pow-suc (omega arith)

first-front : (l t : List Bool) → first (length l) (λ j. get_or (l ++ t) j false) ≡ l
first-front [] t = refl
first-front (b ∷ bs) t = ap {B = List Bool} (λ r. b ∷ r) (first-front bs t)

first-all : (l : List Bool) → first (length l) (λ j. get_or l j false) ≡ l
first-all [] = refl
first-all (b ∷ bs) = ap {B = List Bool} (λ r. b ∷ r) (first-all bs)

first_back : (h l : List Bool) → first (length l) (λ j. get_or (h ++ l) (length h + j) false) ≡ l
first_back h l =
    ap (first (length l)) (fun_ext (λ j. get_or-append-add h l j false)) ∙ first-all l

pub one-is : (i : One) → i ≡ the_row
one-is i = Σ_prop_path (λ n. le_prop) (lt-one i.1)

module _ (m : Model) (s : State One) (fit : Fits m s) where
  pub state_number_lt : state_number s < state_count m
  unfolding state_number
  state_number_lt = rw (← fit.shared_bits, ← (fit.row_bits the_row), ← length-append) (number_lt (s.shared ++ s.rows the_row))

  pub spread-state_number : spread m One (state_number s) ≡ s
  unfolding state_number spread
  spread-state_number =
      let g = s.shared in
      let r = s.rows the_row in
      let e : bit (number (g ++ r)) ≡ (λ j. get_or (g ++ r) j false) = fun_ext (bit-number (g ++ r)) in
      let p : first m.shared_names (bit (number (g ++ r))) ≡ g = rw (e, ← fit.shared_bits) (first-front g r) in
      let q : first m.row_names (λ j. bit (number (g ++ r)) (m.shared_names + j)) ≡ r = rw (e, ← fit.shared_bits, ← (fit.row_bits the_row)) (first_back g r) in
      λ t. record { shared = p t; rows = λ i. (q ∙ ap s.rows (sym (one-is i))) t }

-- The other way: the state that a number spreads has that number.
pub first-length : {A : Type 0} (k : ℕ) (f : ℕ → A) → length (first k f) ≡ k
first-length zero f = refl
first-length (suc k) f = ap suc (first-length k (λ j. f (suc j)))

pub first-same : {A : Type 0} (k : ℕ) (f g : ℕ → A) → ((j : ℕ) → j < k → f j ≡ g j) → first k f ≡ first k g
first-same zero f g h = refl
first-same (suc k) f g h = λ i. h zero (omega arith) i ∷ first-same k (λ j. f (suc j)) (λ j. g (suc j)) (λ j l. h (suc j) (omega arith)) i

pub first-at : {A : Type 0} (k : ℕ) (f : ℕ → A) (d : A) (j : ℕ) → j < k → get_or (first k f) j d ≡ f j
first-at zero f d j h = absurd (not-suc-le-zero h)
first-at (suc k) f d zero h = refl
first-at (suc k) f d (suc j) h = first-at k (λ i. f (suc i)) d j (le_of_suc-le-suc h)

first-add : (a b : ℕ) (f : ℕ → Bool) → first a f ++ first b (λ j. f (a + j)) ≡ first (a + b) f
first-add zero b f = rw zero-add (ap (first b) (fun_ext (λ j. ap f (zero-add j))))
first-add (suc a) b f =
    rw suc-add (ap {B = List Bool} (λ r. f zero ∷ r) (ap (λ (g : ℕ → Bool). first a (λ j. f (suc j)) ++ first b g) (fun_ext (λ j. ap f (suc-add a j))) ∙ first-add a b (λ j. f (suc j))))

pub low_bit : (n : ℕ) → n / 2 * 2 + cond (bit n zero) 1 0 ≡ n
unfolding bit
low_bit n = rw div-one (go (n % 2) refl)
  where
    go : (r : ℕ) → n % 2 ≡ r → n / 2 * 2 + cond (eqb r 1) 1 0 ≡ n
    go zero e = omega arith
    go (suc zero) e = omega arith
    go (suc (suc r)) e = absurd (omega arith)

-- The lowest k bits make the number's remainder.
pub number-low : (k n : ℕ) → number (first k (bit n)) ≡ n % 2 ^ k
unfolding number
number-low zero n = omega arith
number-low (suc k) n =
    let b : n / 2 * 2 + cond (bit n zero) 1 0 ≡ n = low_bit n in
    let e : n % 2 ^ suc k ≡ n / 2 % 2 ^ k * 2 + n % 2 = ap (λ (x : ℕ). n % x) (pow-suc 2 k) ∙ mod-mul n (pow_pos k) (omega arith) in
    ap (λ (f : ℕ → Bool). number (first k f) * 2 + cond (bit n zero) 1 0) (fun_ext (bit-suc n))
    ∙ ap (λ (x : ℕ). x * 2 + cond (bit n zero) 1 0) (number-low k (n / 2))
    ∙ (let z : n / 2 % 2 ^ k * 2 + cond (bit n zero) 1 0 ≡ n % 2 ^ suc k = omega (arith, b, e) in z)

pub number-first : (k n : ℕ) → n < 2 ^ k → number (first k (bit n)) ≡ n
number-first k n h = number-low k n ∙ mod-eq_of_lt h

pub state_number-spread : (m : Model) (s : ℕ) → s < state_count m → state_number (spread m One s) ≡ s
unfolding state_number spread
state_number-spread m s h = rw (first-add m.shared_names m.row_names (bit s)) (number-first (m.shared_names + m.row_names) s h)
