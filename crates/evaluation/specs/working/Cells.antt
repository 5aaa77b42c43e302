-- The machine that runs code words with 64 choice words at once: bit l of each cell belongs to word 64 * batch + l.
-- Cells 0 to 31 are the state's bits, 32 to 95 the stack of values, 96 to 127 the stack of masks. Both stacks go round.
-- Assumes nothing.
use Rattle.std.specs.Prelude.{ℕ, ◌+◌, ◌-◌, ◌*◌, ◌/◌, ◌%◌, List, [], ◌∷◌, cond, eqb, get_or, set}
use Rattle.std.specs.Int.Bits.{bit_and, bit_or, bit_xor}
use Rattle.evaluation.specs.declared.lanes.Tops.{Tops}
use Rattle.meaning.specs.working.Digits.{digit}

abbrev pub ones : ℕ
ones = 0xffff_ffff_ffff_ffff

-- The lanes of star j in batch b: lane l is bit j of 64 * b + l.
unfoldable pub star_of : ℕ → ℕ → ℕ
star_of j b =
    cond (eqb j 0) 0xaaaa_aaaa_aaaa_aaaa
    (cond (eqb j 1) 0xcccc_cccc_cccc_cccc
    (cond (eqb j 2) 0xf0f0_f0f0_f0f0_f0f0
    (cond (eqb j 3) 0xff00_ff00_ff00_ff00
    (cond (eqb j 4) 0xffff_0000_ffff_0000
    (cond (eqb j 5) 0xffff_ffff_0000_0000
    (digit b (j - 6) * ones))))))

-- The next place up and down the stack of values, and up and down the stack of masks.
abbrev pub up : ℕ → ℕ
up sp = (sp + 63) % 64

abbrev pub down : ℕ → ℕ
down sp = (sp + 1) % 64

abbrev pub mup : ℕ → ℕ
mup mp = (mp + 31) % 32

abbrev pub mdown : ℕ → ℕ
mdown mp = (mp + 1) % 32

-- The tops after a code word of kind k.
unfoldable pub tops_kind : ℕ → ℕ → ℕ → Tops
tops_kind k sp mp =
    cond (eqb k 0) (record { sp = up sp; mp = mp })
    (cond (eqb k 1) (record { sp = up sp; mp = mp })
    (cond (eqb k 2) (record { sp = up sp; mp = mp })
    (cond (eqb k 3) (record { sp = sp; mp = mp })
    (cond (eqb k 4) (record { sp = down sp; mp = mp })
    (cond (eqb k 5) (record { sp = down sp; mp = mp })
    (cond (eqb k 6) (record { sp = down sp; mp = mp })
    (cond (eqb k 7) (record { sp = down sp; mp = mup mp })
    (cond (eqb k 8) (record { sp = sp; mp = mp })
    (cond (eqb k 9) (record { sp = sp; mp = mdown mp })
    (record { sp = sp; mp = mp }))))))))))

-- The cells after a code word of kind k with argument j. A pop clears its cell.
unfoldable pub cells_kind : ℕ → ℕ → ℕ → ℕ → ℕ → List ℕ → List ℕ
cells_kind k j b sp mp c =
    cond (eqb k 0) (set c (32 + up sp) (j % 2 * ones))
    (cond (eqb k 1) (set c (32 + up sp) (get_or c j 0))
    (cond (eqb k 2) (set c (32 + up sp) (star_of j b))
    (cond (eqb k 3) (set c (32 + sp) (bit_xor (get_or c (32 + sp) 0) ones))
    (cond (eqb k 4) (set (set c (32 + sp) 0) (32 + down sp) (bit_and (get_or c (32 + down sp) 0) (get_or c (32 + sp) 0)))
    (cond (eqb k 5) (set (set c (32 + sp) 0) (32 + down sp) (bit_or (get_or c (32 + down sp) 0) (get_or c (32 + sp) 0)))
    (cond (eqb k 6) (set (set c (32 + sp) 0) j (bit_xor (get_or c j 0) (bit_and (bit_xor (get_or c j 0) (get_or c (32 + sp) 0)) (get_or c (96 + mp) 0))))
    (cond (eqb k 7) (set (set c (32 + sp) 0) (96 + mup mp) (bit_and (get_or c (96 + mp) 0) (get_or c (32 + sp) 0)))
    (cond (eqb k 8) (set c (96 + mp) (bit_and (get_or c (96 + mdown mp) 0) (bit_xor (get_or c (96 + mp) 0) ones)))
    (cond (eqb k 9) (set c (96 + mp) 0)
    c)))))))))

abbrev pub tops_of : ℕ → Tops → Tops
tops_of op t = tops_kind (op / 32) t.sp t.mp

abbrev pub cells_of : ℕ → ℕ → Tops → List ℕ → List ℕ
cells_of op b t c = cells_kind (op / 32) (op % 32) b t.sp t.mp c

-- The code words one after another.
abbrev pub run_cells : List ℕ → ℕ → Tops → List ℕ → List ℕ
run_cells [] b t c = c
run_cells (o ∷ os) b t c = run_cells os b (tops_of o t) (cells_of o b t c)

-- The tops where a run begins.
abbrev pub no_tops : Tops
no_tops = record { sp = 0; mp = 0 }
