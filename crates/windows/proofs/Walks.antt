-- Rules for a walk by hand. They say nothing of the crate.
--     counts         a loop whose turn i takes the context `At i` to `At (i + 1)`, n times, and is left at `At n`
--     alone          of a callee's `ensured`, the clause, where it says nothing of last values
--     alone-as       the same, and what follows of it
--     big-lit        a literal whose bound a proof shows
--     calls-knowing  a call of a function with no `&mut`, whose contract says that the result is val, and more: the tokens are back, and val's own machine value lands
--     calls-equal    the same, where it says no more
-- Assumes `Logic`.
use mathlib.Core.Path.{◌≡◌, sym, subst, ap, ◌∙◌}
use Prim.Native.Nat.{ℕ, zero, suc, ◌+◌, ◌*◌, ◌^◌, ◌<◌}
use native.Mathlib.Nat.{add-zero, add-suc, suc-add, zero-add, lt-suc_self, lt_of_le_of_lt, le-add_right, mul-le-mul_right, le_of_lt, lt_trans, le_refl}
use lib.Dec.{lit<, ltb}
use mathlib.Core.Bool.{true, false}
use borrow.Author.Tests.{lt-ltb, le-ltb}
use mathlib.Core.List.{List, [], ◌∷◌}
use lib.WfN.{lt-wf_rel}
use seplogic.Ra.Ura.{Ura}
use mir.Syntax.{Callee, Width, Place, int_big, Opd as Operand, Body, seq, call, loop}
use mir.Val.{Val, vint, Fits}
use base.Logic.{SProp, ent, sep, ex, guard, via, snd∗, ex_i, ex_e, guard_i, guard_e, id⊢}
use prog.Wp.{Env, Calls, Loops, Wp, Tables, after_turn}
use types.Logic.{Logic, sem}
use sound.Loop.{loop_rule}
use sound.WpLaws.{FmC}
use contract.Monad.{fact, fact_i, fact_use}
use types.Kit.{Item, ‵, raw, some, later, ◌⊛◌, ⋆, Post, post, any_q, runs, lands, Seq, ◌$◌, use1, await, pick, split, move, drop}
use types.Run.{Opd, Opds}
use denote.RattleType.{RattleType}
use denote.Laws.{Is, Tells, shows}
use denote.Signature.{type_at}
use denote.Steps.{only, heard, peeks}
use denote.Triple.Statement.{Triple}
use contract.Lifetimes.{Lfts}
use denote.Triple.Entry.{Args, Res, alive}
use denote.Triple.Spec.{triple_of}
use denote.Triple.Clauses.{Clauses, Ended, Lasts, lasts, closing, ensured}
use denote.Triple.Call.{calls_at}

-- the next number
pub one_more : (i : ℕ) → i + 1 ≡ suc i
one_more i = add-suc i zero ∙ ap suc (add-zero i)

pub next_fits : (i n : ℕ) → i < n → n < 2 ^ 64 → i + 1 < 2 ^ 64
next_fits i n l fits = subst (λ (j : ℕ). j < 2 ^ 64) (sym (one_more i)) (lt_of_le_of_lt l fits)

-- what a test of i against n gives
pub is-less : (i n : ℕ) → i < n → ltb i n ≡ true
is-less i n l = lt-ltb i n l

pub not-less : (n : ℕ) → ltb n n ≡ false
not-less n = le-ltb n n (le_refl n)

-- the place of element i of n, s bytes each, fits a usize
pub within : (s i n : ℕ) → i < n → n * s < 2 ^ 63 → i * s < 2 ^ 64
within s i n l room = lt_trans (lt_of_le_of_lt (mul-le-mul_right s (le_of_lt l)) room) (lit< tt)

module _ {M : Type 1} {𝓤 : Ura M} (𝓛 : Logic 𝓤) (At : ℕ → List (Item 𝓤)) (n : ℕ) where
  open 𝓛 use {H}

  abbrev Inv : ℕ → SProp 𝓤
  Inv t = ex 𝓤 (λ (i : ℕ). guard 𝓤 (i + t ≡ n) (⋆ 𝓛 (At i)))

  into : (i t : ℕ) → i + t ≡ n → ent 𝓤 (⋆ 𝓛 (At i)) (Inv t)
  into i t e = via 𝓤 (guard 𝓤 (i + t ≡ n) (⋆ 𝓛 (At i))) (guard_i 𝓤 (i + t ≡ n) (⋆ 𝓛 (At i)) e) (ex_i 𝓤 (λ (j : ℕ). guard 𝓤 (j + t ≡ n) (⋆ 𝓛 (At j))) i)

  abbrev Below : ℕ → SProp 𝓤
  Below t = ex 𝓤 (λ (u : ℕ). guard 𝓤 (u < t) (Inv u))

  module _ {K : Type 0} (𝓣 : Tables 𝓤 H) (E : Env 𝓤 H) (turn : Body) (q : Post 𝓤 H)
      (more : (i : ℕ) → i < n → (X : SProp 𝓤) → ent 𝓤 (⋆ 𝓛 (At (suc i))) X → Seq K 𝓛 (At i) (runs 𝓣.C 𝓣.Λ E turn (any_q (after_turn 𝓤 H X (post 𝓤 H q)))))
      (ends : (X : SProp 𝓤) → Seq K 𝓛 (At n) (runs 𝓣.C 𝓣.Λ E turn (any_q (after_turn 𝓤 H X (post 𝓤 H q))))) where
    at_turn : (t i : ℕ) → i + t ≡ n → ent 𝓤 (⋆ 𝓛 (At i)) (Wp 𝓤 H 𝓣.C 𝓣.Λ E turn (after_turn 𝓤 H (Below t) (post 𝓤 H q)))
    at_turn zero i e = subst (λ (j : ℕ). ent 𝓤 (⋆ 𝓛 (At j)) (Wp 𝓤 H 𝓣.C 𝓣.Λ E turn (after_turn 𝓤 H (Below zero) (post 𝓤 H q)))) (sym e ∙ add-zero i) (ends (Below zero)).prf
    at_turn (suc t) i e =
        (more i (subst (λ (k : ℕ). i < k) (sym (add-suc i t) ∙ e) (lt_of_le_of_lt (le-add_right i t) (lt-suc_self (i + t)))) (Below (suc t))
        (via 𝓤 (Inv t) (into (suc i) t (suc-add i t ∙ sym (add-suc i t) ∙ e))
        (via 𝓤 (guard 𝓤 (t < suc t) (Inv t)) (guard_i 𝓤 (t < suc t) (Inv t) (lt-suc_self t)) (ex_i 𝓤 (λ (u : ℕ). guard 𝓤 (u < suc t) (Inv u)) t)))).prf

    turns : (t : ℕ) → ent 𝓤 (Inv t) (Wp 𝓤 H 𝓣.C 𝓣.Λ E turn (after_turn 𝓤 H (Below t) (post 𝓤 H q)))
    turns t = ex_e 𝓤 (λ (i : ℕ). guard 𝓤 (i + t ≡ n) (⋆ 𝓛 (At i))) (λ i. guard_e 𝓤 (i + t ≡ n) (⋆ 𝓛 (At i)) (at_turn t i))

    pub counts : Seq K 𝓛 (At 0) (runs 𝓣.C 𝓣.Λ E (loop turn) q)
    counts = record { prf = via 𝓤 (Inv n) (into 0 n (zero-add n)) (loop_rule 𝓤 H 𝓛.laws 𝓣 ◌<◌ lt-wf_rel.wf E turn (post 𝓤 H q) Inv turns n) }

pub alone : {M : Type 1} {𝓤 : Ura M} (𝓛 : Logic 𝓤) (T : Ended) (κs : Lfts T.signature.lifetimes) (a : Args T.signature κs) (φ : Type 0)
    → ent 𝓤 (ex 𝓤 (λ (ws : Lasts T κs a). sep 𝓤 (sem 𝓛 (lasts T κs a ws)) (fact 𝓤 φ))) (fact 𝓤 φ)
alone {𝓤 = 𝓤} 𝓛 T κs a φ = ex_e 𝓤 _ (λ ws. snd∗ 𝓤 (sem 𝓛 (lasts T κs a ws)) (fact 𝓤 φ))

-- the same, and what follows of it
pub alone_as : {M : Type 1} {𝓤 : Ura M} (𝓛 : Logic 𝓤) (T : Ended) (κs : Lfts T.signature.lifetimes) (a : Args T.signature κs) (φ ψ : Type 0) → (φ → ψ)
    → ent 𝓤 (ex 𝓤 (λ (ws : Lasts T κs a). sep 𝓤 (sem 𝓛 (lasts T κs a ws)) (fact 𝓤 φ))) (fact 𝓤 ψ)
alone_as {𝓤 = 𝓤} 𝓛 T κs a φ ψ k = fact_use 𝓤 φ (alone 𝓛 T κs a φ) (λ p. fact_i 𝓤 ψ _ (k p))

module _ {M : Type 1} {𝓤 : Ura M} {𝓛 : Logic 𝓤} {K : Type 0} where
  open 𝓛 use {H}

  pub big_lit : K → {Γ : List (Item 𝓤)} {E : Env 𝓤 H} {w : Width} {n : ℕ} → Fits w n → Opd K 𝓛 Γ E (int_big w n) (vint w n)
  big_lit t {w = w} {n = n} fits = record { go = λ Kt h. via 𝓤 (Kt (vint w n)) h (guard_i 𝓤 (Fits w n) (Kt (vint w n)) fits) }

  module _ {Γ : List (Item 𝓤)} {E : Env 𝓤 H} {C : Calls 𝓤 H} {Λ : Loops 𝓤 H} {q : Post 𝓤 H} {f : Callee} {xs : List Operand} {d : Place} {rest : Body} where
    pub calls_knowing : K → FmC 𝓤 H 𝓛.laws C → (T : Ended) (c : Clauses 𝓤 T) → Triple 𝓤 (C f) (triple_of 𝓛 T.signature (closing 𝓛 T c))
        → (y : (triple_of 𝓛 T.signature (closing 𝓛 T c)).Ghost)
        → Opds K 𝓛 (raw ((triple_of 𝓛 T.signature (closing 𝓛 T c)).pre y) ∷ Γ) E xs ((triple_of 𝓛 T.signature (closing 𝓛 T c)).args y)
        → (val : Res T.signature y.0.0) (vals : Res T.signature y.0.0 → List Val) (more : Type 0)
        → Tells (type_at T.signature.result y.0.0) (Is (type_at T.signature.result y.0.0)) vals
        → ((r : Res T.signature y.0.0) → ent 𝓤 (ensured 𝓛 T c y.0.0 y.0.3 y.1 r) (fact 𝓤 ((r ≡ val) × more)))
        → (Is (type_at T.signature.result y.0.0) val (vals val) → more → Seq K 𝓛 (raw (alive 𝓛 T.signature y.0.0 y.0.1) ∷ Γ) (lands C Λ E d (only (vals val)) rest q))
        → Seq K 𝓛 (raw ((triple_of 𝓛 T.signature (closing 𝓛 T c)).pre y) ∷ Γ) (runs C Λ E (seq (call f xs d) rest) q)
    calls_knowing t fm T c met y os val vals more tells says k =
        let R : RattleType = type_at T.signature.result y.0.0 in
        calls_at t fm (triple_of 𝓛 T.signature (closing 𝓛 T c)) met y os (λ v.
        use1 𝓛 (later (some (λ (r : Res T.signature y.0.0). (raw (alive 𝓛 T.signature y.0.0 y.0.1) ⊛ ‵ (R.own_val r (v ∷ []))) ⊛ raw (ensured 𝓛 T c y.0.0 y.0.3 y.1 r)))) (id⊢ 𝓤 _) $ await t tt $ pick t (λ r.
        split t $ move t (1 ∷ []) $ use1 𝓛 (raw (fact 𝓤 ((r ≡ val) × more))) (says r) $ heard t ((r ≡ val) × more) (λ e. split t $ move t (1 ∷ []) $
        peeks t R (Is R) (shows 𝓛 R) r (v ∷ []) (λ is. drop t $
        let is' : Is R val (v ∷ []) = subst (λ (z : R.Denot). Is R z (v ∷ [])) e.0 is in
        subst (λ (u : Val). Seq K 𝓛 (raw (alive 𝓛 T.signature y.0.0 y.0.1) ∷ Γ) (lands C Λ E d u rest q)) (sym (ap only (tells val (v ∷ []) is')))
        (k (subst (Is R val) (tells val (v ∷ []) is') is') e.1)))))

    pub calls_equal : K → FmC 𝓤 H 𝓛.laws C → (T : Ended) (c : Clauses 𝓤 T) → Triple 𝓤 (C f) (triple_of 𝓛 T.signature (closing 𝓛 T c))
        → (y : (triple_of 𝓛 T.signature (closing 𝓛 T c)).Ghost)
        → Opds K 𝓛 (raw ((triple_of 𝓛 T.signature (closing 𝓛 T c)).pre y) ∷ Γ) E xs ((triple_of 𝓛 T.signature (closing 𝓛 T c)).args y)
        → (val : Res T.signature y.0.0) (vals : Res T.signature y.0.0 → List Val)
        → Tells (type_at T.signature.result y.0.0) (Is (type_at T.signature.result y.0.0)) vals
        → ((r : Res T.signature y.0.0) → ent 𝓤 (ensured 𝓛 T c y.0.0 y.0.3 y.1 r) (fact 𝓤 (r ≡ val)))
        → (Is (type_at T.signature.result y.0.0) val (vals val) → Seq K 𝓛 (raw (alive 𝓛 T.signature y.0.0 y.0.1) ∷ Γ) (lands C Λ E d (only (vals val)) rest q))
        → Seq K 𝓛 (raw ((triple_of 𝓛 T.signature (closing 𝓛 T c)).pre y) ∷ Γ) (runs C Λ E (seq (call f xs d) rest) q)
    calls_equal t fm T c met y os val vals tells says k =
        calls_knowing t fm T c met y os val vals (Unit {0}) tells (λ r. fact_use 𝓤 (r ≡ val) (says r) (λ p. fact_i 𝓤 ((r ≡ val) × Unit {0}) _ (p, tt))) (λ is _. k is)
