-- The condition A, and whether there is no start state, one turn of a loop at a time; and what `all` finds of the numbers of a range.
-- Assumes nothing.
use mathlib.Core.Path.{◌≡◌, refl, sym, ap, ◌∙◌, subst}
use mathlib.Core.Bool.{Bool, true, false, not, ◌&&◌, and-true, and-false, and_assoc}
use mathlib.Core.List.{List}
use mathlib.Core.Logic.{◌⊎◌, inl, inr}
use Prim.Native.Nat.{ℕ, zero, suc, ◌+◌, ◌-◌, ◌*◌, ◌/◌, ◌^◌, ◌<◌, ◌≤◌}
use native.Mathlib.Omega.{arith}
use native.Mathlib.Numerals.{add-one}
use native.Mathlib.Nat.{mod-lt, not-suc-le-zero, le_of_suc-le-suc, eq-or-lt_of_le}
use lib.Seq.{slice}
use denote.Param.Members.{Mut}
use Rattle.std.specs.Prelude.{cond, Some, None}
use Rattle.std.specs.List.{list_all, range_with_len}
use Rattle.std.specs.Fn.{Called}
use Rattle.std.specs.Iterator.{ChecksAll}
use Rattle.std.specs.declared.ops.Range.{Range}
use Rattle.std.proofs.iter.Yields.{nat_range_steps}
use Rattle.std.proofs.lemmas.Iterator.{YieldsList-from_range}
use Rattle.std.proofs.lemmas.Iterator.Search.{all_from_yields_List}
use lib.Pow.{pow_pos}
use Rattle.notation.proofs.Booleans.{and_split}
use Rattle.std.proofs.Math.Path.{fun_ext}
use Rattle.meaning.specs.Evidence.{in_map}
use Rattle.meaning.specs.working.Conditions.{every, implies, test_void, test_a}
use Rattle.evaluation.specs.working.CodeMachine.{run_of, start_of}
use Rattle.evaluation.specs.working.Batches.{after_of}
use Rattle.evaluation.specs.working.CodeSystem.{segment_of, next_in, Bounds}
use Rattle.evaluation.proofs.OneRowCode.{cut}

-- A state of n bits after a command has its bit in a map that has one for each.
pub member-room : (ops ends : List ℕ) (n s k w x m : ℕ) → x ≡ next_in ops ends n s k w → 2 ^ n ≤ 8 * m → x / 8 < m
unfolding next_in after_of
member-room ops ends n s k w x m e h = omega (arith, e, h, mod-lt (run_of (segment_of ops ends (4 + k)) w (start_of s)).state (pow_pos n))

-- A test of every number below n, from the first number on.
every_front : (n : ℕ) (f : ℕ → Bool) → f 0 && every n (λ k. f (suc k)) ≡ every (suc n) f
unfolding every
every_front zero f = and-true (f 0)
every_front (suc n) f = sym (and_assoc (f 0) (every n (λ k. f (suc k))) (f (suc n))) ∙ ap (λ (b : Bool). b && f (suc n)) (every_front n f)

range_every : (f : ℕ → Bool) (n a : ℕ) → list_all f (range_with_len a n) ≡ every n (λ k. f (a + k))
unfolding every
range_every f zero a = refl
range_every f (suc n) a =
    let e : ◌≡◌ {A = ℕ → Bool} (λ k. f (a + 1 + k)) (λ k. f (a + suc k)) = fun_ext (λ k. let q : a + 1 + k ≡ a + suc k = omega arith in ap f q) in
    let q : a ≡ a + 0 = omega arith in
    ap (λ (b : Bool). f a && b) (range_every f n (a + 1) ∙ ap (every n) e)
    ∙ ap (λ (x : ℕ). f x && every n (λ k. f (a + suc k))) q
    ∙ every_front n (λ k. f (a + k))

-- What `all` finds of the numbers below n is what `every` asks of them, where its closure is the test.
pub every-told : {F : Type 0} {g : Mut F (ℕ × Unit {0}) Bool} (test : ℕ → Bool) (n m : ℕ) (f : F) (u : Range ℕ) (r : Bool) → n ≡ m
    → ChecksAll nat_range_steps g (record { start = 0; end = n }) f r u → ((x : ℕ) (b : Bool) (q : F) → Called g f (x, tt) b q → (q ≡ f) × (b ≡ test x)) → r ≡ every m test
every-told test n m f u r e ran calls =
    let q : n - 0 ≡ m = omega arith in
    let z : ◌≡◌ {A = ℕ → Bool} (λ k. test (0 + k)) test = fun_ext (λ k. let y : 0 + k ≡ k = omega arith in ap test y) in
    all_from_yields_List test u f r ran (YieldsList-from_range 0 n (n - 0) refl refl) calls
    ∙ range_every test (n - 0) 0 ∙ ap (every (n - 0)) z ∙ ap (λ (x : ℕ). every x test) q

-- A test that holds of every number below n, one number more at a time.
pub every_none : (f : ℕ → Bool) → every 0 f ≡ true
unfolding every
every_none f = refl

pub every_more : (f : ℕ → Bool) (i : ℕ) → every (i + 1) f ≡ every i f && f i
unfolding every
every_more f i = rw add-one

pub every-next : (f : ℕ → Bool) (i : ℕ) → every i f ≡ true → f i ≡ true → every (i + 1) f ≡ true
unfolding every
every-next f i e h = rw (add-one, e, h)

pub every_fail : (n : ℕ) (f : ℕ → Bool) (i : ℕ) → i < n → f i ≡ false → false ≡ every n f
unfolding every
every_fail zero f i h e = absurd (not-suc-le-zero h)
every_fail (suc n) f i h e = go (every_fail n f i) (eq-or-lt_of_le (le_of_suc-le-suc h))
  where
    go : (i < n → f i ≡ false → false ≡ every n f) → (i ≡ n) ⊎ (i < n) → false ≡ every n f && f n
    go below (inl q) = let z : f n ≡ false = subst (λ (x : ℕ). f x ≡ false) q e in sym (rw z (and-false (every n f)))
    go below (inr lt) = rw (← below lt e)

implies-no : (a b : Bool) → a ≡ false → implies a b ≡ true
unfolding implies
implies-no a b e = rw e

-- A start state that is no member fails A.
pub start_outside : (n m s : ℕ) (starts : ℕ → Bool) (map : List ℕ) → s < m → m ≡ n → starts s ≡ true → in_map map s ≡ false
    → Some false ≡ cond (test_void n starts) None (Some (test_a n starts map))
unfolding test_void test_a implies
start_outside n m s starts map h q e f =
    let l : s < n = omega arith in
    rw (← every_fail n (λ x. not (starts x)) s l (ap not e), ← every_fail n (λ x. implies (starts x) (in_map map x)) s l (rw (e, f)))

-- Where there is no start state, A holds of every map.
pub void_a : (n : ℕ) (starts : ℕ → Bool) (map : List ℕ) → test_void n starts ≡ true → test_a n starts map ≡ true
unfolding test_void test_a every
void_a zero starts map e = refl
void_a (suc n) starts map e =
    let s = and_split _ _ e in
    let h : starts n ≡ false = grind arith in
    rw (void_a n starts map s.0) (implies-no _ _ h)

-- The state after command k, whose code words stand between the bounds of its segment.
pub next-told : (ops : List ℕ) {ends : List ℕ} (n s k w : ℕ) {from to : ℕ} → Bounds ends (4 + k) from to
    → after_of (slice from to ops) s n w ≡ next_in ops ends n s k w
unfolding next_in
next-told ops n s k w B = ap (λ (os : List ℕ). after_of os s n w) (cut ops B)
