-- A run on 64 words is in lane l the run of the one-word machine with word 64 * batch + l.
-- Assumes nothing.
use Prim.Native.Nat.{ℕ, zero, suc, ◌+◌, ◌-◌, ◌*◌, ◌/◌, ◌%◌, ◌<◌, min, max}
use mathlib.Core.Path.{◌≡◌, refl, sym, ap, ap₂, ◌∙◌, subst}
use mathlib.Core.List.{List, [], ◌∷◌}
use mathlib.Core.Bool.{cond}
use native.Mathlib.Omega.{arith}
use lib.Dec.{eqb}
use lib.Bits.{bit_and, bit_or, bit_xor}
use lib.ListN.{get_or, set}
use lib.Seq.{get_or-set_other}
use borrow.Author.Tests.{ne_eqb, eq-eqb}
use Rattle.std.proofs.lemmas.Nat.Bits.{bit_at_and, bit_at_or}
use Rattle.evaluation.specs.declared.machine.Machine.{Machine}
use Rattle.evaluation.specs.working.CodeMachine.{node_kind, kind_of, step_of, run_of}
use Rattle.meaning.specs.working.Digits.{digit, put}
use Rattle.evaluation.specs.declared.lanes.Tops.{Tops}
use Rattle.evaluation.specs.working.Cells.{ones, star_of, down, mdown, tops_kind, cells_kind, tops_of, cells_of, run_cells}
use Rattle.evaluation.proofs.LaneBits.{lane_not, lane_all, lane_star, lane_store_on, lane_store_off}
use Rattle.evaluation.proofs.Zones.{Zone}
use Rattle.evaluation.proofs.LaneMoves.{Sim, top, second, mask_top, mask_second, pushed, popped, topped, mask_pushed, mask_popped, mask_topped, stored, kept}

-- The two machines side by side.
abbrev pub Both : ℕ → Tops → List ℕ → Machine → Type 0
Both l t c m = Sim l t.sp t.mp c m.stack m.mask m.state

and-bits : (x y : ℕ) → x < 2 → y < 2 → min y x ≡ (x + y) / 2
and-bits x y p q = omega arith

or-bits : (x y : ℕ) → x < 2 → y < 2 → max y x ≡ (x + y + 1) / 2
or-bits x y p q = omega arith

else_bits : (x y : ℕ) → x < 2 → y < 2 → min y (1 - x) ≡ (y + (1 - x)) / 2
else_bits x y p q = omega arith

module _ (l b j sp mp : ℕ) (c : List ℕ) (m : Machine) (hl : l < 64) (hj : j < 32) (z : Sim l sp mp c m.stack m.mask m.state) where
  abbrev Goal : ℕ → Type 0
  Goal k = Both l (tops_kind k sp mp) (cells_kind k j b sp mp c) (kind_of k j (64 * b + l) m)

  abbrev st : ℕ
  st = m.stack

  abbrev on : ℕ
  on = m.mask

  abbrev s : ℕ
  s = m.state

  t0 : st % 2 ≡ digit (get_or c (32 + sp) 0) l
  t0 = top l sp mp c st on s hl z

  t1 : st / 2 % 2 ≡ digit (get_or c (32 + down sp) 0) l
  t1 = second l sp mp c st on s hl z

  m0 : on % 2 ≡ digit (get_or c (96 + mp) 0) l
  m0 = mask_top l sp mp c st on s hl z

  m1 : on / 2 % 2 ≡ digit (get_or c (96 + mdown mp) 0) l
  m1 = mask_second l sp mp c st on s hl z

  lit : Goal 0
  unfolding tops_kind cells_kind kind_of node_kind
  lit = pushed l sp mp c st on s hl z (j % 2 * ones) (j % 2) (lane_all (j % 2) l (omega arith) hl) (omega arith)

  var : Goal 1
  unfolding tops_kind cells_kind kind_of node_kind
  var = pushed l sp mp c st on s hl z (get_or c j 0) (digit s j) (sym (z.of_state_lem.same j hj)) (omega arith)

  star : Goal 2
  unfolding tops_kind cells_kind kind_of node_kind
  star = pushed l sp mp c st on s hl z (star_of j b) (digit (64 * b + l) j) (lane_star j b l hl) (omega arith)

  neg : Goal 3
  unfolding tops_kind cells_kind kind_of node_kind
  neg = topped l sp mp c st on s hl z (bit_xor (get_or c (32 + sp) 0) ones) (1 - st % 2) (lane_not (get_or c (32 + sp) 0) l hl ∙ ap (λ (x : ℕ). 1 - x) (sym t0)) (omega arith)

  quarter : (x v : ℕ) → x / 2 / 2 * 2 + v ≡ x / 4 * 2 + v
  quarter x v = omega arith

  conj : Goal 4
  unfolding tops_kind cells_kind kind_of node_kind
  conj =
      let v = bit_and (get_or c (32 + down sp) 0) (get_or c (32 + sp) 0) in
      let r = (st % 2 + st / 2 % 2) / 2 in
      let e : digit v l ≡ r =
      bit_at_and (get_or c (32 + down sp) 0) (get_or c (32 + sp) 0) l ∙ ap₂ min (sym t1) (sym t0) ∙ and-bits (st % 2) (st / 2 % 2) (omega arith) (omega arith) in
      subst (λ (x : ℕ). Sim l (down sp) mp (set (set c (32 + sp) 0) (32 + down sp) v) x on s) (quarter st r)
      (topped l (down sp) mp (set c (32 + sp) 0) (st / 2) on s hl (popped l sp mp c st on s hl z) v r e (omega arith))

  disj : Goal 5
  unfolding tops_kind cells_kind kind_of node_kind
  disj =
      let v = bit_or (get_or c (32 + down sp) 0) (get_or c (32 + sp) 0) in
      let r = (st % 2 + st / 2 % 2 + 1) / 2 in
      let e : digit v l ≡ r =
      bit_at_or (get_or c (32 + down sp) 0) (get_or c (32 + sp) 0) l ∙ ap₂ max (sym t1) (sym t0) ∙ or-bits (st % 2) (st / 2 % 2) (omega arith) (omega arith) in
      subst (λ (x : ℕ). Sim l (down sp) mp (set (set c (32 + sp) 0) (32 + down sp) v) x on s) (quarter st r)
      (topped l (down sp) mp (set c (32 + sp) 0) (st / 2) on s hl (popped l sp mp c st on s hl z) v r e (omega arith))

  abbrev mixed : ℕ
  mixed = bit_xor (get_or c j 0) (bit_and (bit_xor (get_or c j 0) (get_or c (32 + sp) 0)) (get_or c (96 + mp) 0))

  store : Goal 6
  unfolding tops_kind cells_kind kind_of
  store = go (on % 2) refl (omega arith)
    where
      go : (x : ℕ) → on % 2 ≡ x → x < 2
          → Both l (record { sp = down sp; mp = mp }) (set (set c (32 + sp) 0) j mixed)
          (cond (eqb (on % 2) 0) (record { stack = st / 2; mask = on; state = s }) (record { stack = st / 2; mask = on; state = put s j (st % 2) }))
      go zero e h =
          rw (eq-eqb (on % 2) 0 e)
          (kept l (down sp) mp (set c (32 + sp) 0) (st / 2) on s hl (popped l sp mp c st on s hl z) j mixed hj
          (lane_store_off (get_or c j 0) (get_or c (32 + sp) 0) (get_or c (96 + mp) 0) l (sym m0 ∙ e)
          ∙ ap (λ (y : ℕ). digit y l) (sym (get_or-set_other c (32 + sp) j 0 0 (λ q. omega arith)))))
      go (suc zero) e h =
          rw (ne_eqb (on % 2) 0 (λ q. omega arith))
          (stored l (down sp) mp (set c (32 + sp) 0) (st / 2) on s hl (popped l sp mp c st on s hl z) j mixed (st % 2) hj
          (lane_store_on (get_or c j 0) (get_or c (32 + sp) 0) (get_or c (96 + mp) 0) l (sym m0 ∙ e) ∙ sym t0) (omega arith))
      go (suc (suc x)) e h = absurd (omega arith)

  when : Goal 7
  unfolding tops_kind cells_kind kind_of
  when =
      mask_pushed l (down sp) mp (set c (32 + sp) 0) (st / 2) on s hl (popped l sp mp c st on s hl z)
      (bit_and (get_or c (96 + mp) 0) (get_or c (32 + sp) 0)) ((on % 2 + st % 2) / 2)
      (bit_at_and (get_or c (96 + mp) 0) (get_or c (32 + sp) 0) l ∙ ap₂ min (sym m0) (sym t0) ∙ both (on % 2) (st % 2) (omega arith) (omega arith))
      (omega arith)
    where
      both : (x y : ℕ) → x < 2 → y < 2 → min x y ≡ (x + y) / 2
      both x y p q = omega arith

  other : Goal 8
  unfolding tops_kind cells_kind kind_of
  other =
      mask_topped l sp mp c st on s hl z (bit_and (get_or c (96 + mdown mp) 0) (bit_xor (get_or c (96 + mp) 0) ones)) ((on / 2 % 2 + (1 - on % 2)) / 2)
      (bit_at_and (get_or c (96 + mdown mp) 0) (bit_xor (get_or c (96 + mp) 0) ones) l
      ∙ ap₂ min (sym m1) (lane_not (get_or c (96 + mp) 0) l hl ∙ ap (λ (x : ℕ). 1 - x) (sym m0))
      ∙ else_bits (on % 2) (on / 2 % 2) (omega arith) (omega arith))
      (omega arith)

  end : Goal 9
  unfolding tops_kind cells_kind kind_of
  end = mask_popped l sp mp c st on s hl z

  rest : (k : ℕ) → 9 < k → Goal k
  unfolding tops_kind cells_kind kind_of node_kind
  rest k h =
      rw (
        ne_eqb k 0 (λ q. omega arith),
        ne_eqb k 1 (λ q. omega arith),
        ne_eqb k 2 (λ q. omega arith),
        ne_eqb k 3 (λ q. omega arith),
        ne_eqb k 4 (λ q. omega arith),
        ne_eqb k 5 (λ q. omega arith),
        ne_eqb k 6 (λ q. omega arith),
        ne_eqb k 7 (λ q. omega arith),
        ne_eqb k 8 (λ q. omega arith),
        ne_eqb k 9 (λ q. omega arith),
      ) z

  pub kind : (k : ℕ) → Goal k
  kind zero = lit
  kind (suc zero) = var
  kind (suc (suc zero)) = star
  kind (suc (suc (suc zero))) = neg
  kind (suc (suc (suc (suc zero)))) = conj
  kind (suc (suc (suc (suc (suc zero))))) = disj
  kind (suc (suc (suc (suc (suc (suc zero)))))) = store
  kind (suc (suc (suc (suc (suc (suc (suc zero))))))) = when
  kind (suc (suc (suc (suc (suc (suc (suc (suc zero)))))))) = other
  kind (suc (suc (suc (suc (suc (suc (suc (suc (suc zero))))))))) = end
  kind (suc (suc (suc (suc (suc (suc (suc (suc (suc (suc k)))))))))) = rest (suc (suc (suc (suc (suc (suc (suc (suc (suc (suc k)))))))))) (omega arith)

-- One code word.
pub step_lane : (l b op : ℕ) (t : Tops) (c : List ℕ) (m : Machine) → l < 64 → Both l t c m → Both l (tops_of op t) (cells_of op b t c) (step_of op (64 * b + l) m)
step_lane l b op t c m hl z = kind l b (op % 32) t.sp t.mp c m hl (omega arith) z (op / 32)

-- All of them: in lane l the state is that of the one-word machine with word 64 * b + l.
pub run_lane : (l b : ℕ) (os : List ℕ) (t : Tops) (c : List ℕ) (m : Machine) → l < 64 → Both l t c m
    → Zone (run_cells os b t c) (λ i. i) 32 l (run_of os (64 * b + l) m).state
run_lane l b [] t c m hl z = z.of_state_lem
run_lane l b (o ∷ os) t c m hl z = run_lane l b os (tops_of o t) (cells_of o b t c) (step_of o (64 * b + l) m) hl (step_lane l b o t c m hl z)
