-- A batch's rows serve the 64 words from a multiple of 64.
-- Assumes nothing.
use Prim.Native.Nat.{ℕ, zero, suc, ◌+◌, ◌*◌, ◌/◌, ◌%◌, ◌^◌, ◌≤◌, ◌<◌}
use mathlib.Core.Path.{◌≡◌, refl, ap, ◌∙◌, subst}
use mathlib.Core.List.{List}
use native.Mathlib.Omega.{arith}
use lib.Dec.{eqb, ltb}
use lib.ListN.{length, replicate}
use mathlib.Core.Bool.{Bool, true, false, cond, ◌&&◌}
use borrow.Author.Tests.{eq-eqb, ne_eqb, lt-ltb, le-ltb}
use Rattle.evaluation.specs.Promises.{LanesAgree}
use Rattle.evaluation.specs.working.CodeMachine.{run_of, start_of}
use Rattle.evaluation.specs.working.Ends.{row_of, fills, pick_of}
use Rattle.evaluation.specs.working.Batches.{after_of, cells_at, filled_of}
use Rattle.evaluation.proofs.LaneRows.{Have, picked_right}
use Rattle.evaluation.proofs.LaneEnds.{fills-at, fills-length}

-- Before the word w the rows are those of its batch, unless w begins another one.
pub record Ready (os : List ℕ) (s n w : ℕ) (rows : List ℕ) : Type 0 where
  pub full : length rows ≡ 16
  pub have : (0 < w → 0 < w % 64) → Have (cells_at os s n (w / 64)) n rows

-- A word that begins another batch, and words that do not.
pub filled_new : (os : List ℕ) (s n w : ℕ) (rows r : List ℕ) → w % 64 ≡ 0 → 0 < w → r ≡ fills (row_of (cells_at os s n (w / 64)) n) 16 rows → r ≡ filled_of os s n w rows
unfolding filled_of
filled_new os s n w rows r h k q = rw (eq-eqb (w % 64) 0 h, lt-ltb 0 w k) q

pub filled-old : (os : List ℕ) (s n w : ℕ) (rows : List ℕ) → (w % 64 ≡ 0 → ⊥) → rows ≡ filled_of os s n w rows
unfolding filled_of
filled-old os s n w rows h = rw (ne_eqb (w % 64) 0 h)

pub filled-first : (os : List ℕ) (s n w : ℕ) (rows : List ℕ) → w ≤ 0 → rows ≡ filled_of os s n w rows
unfolding filled_of
filled-first os s n w rows h = go (eqb (w % 64) 0)
  where
    go : (b : Bool) → rows ≡ cond (b && ltb 0 w) (fills (row_of (cells_at os s n (w / 64)) n) 16 rows) rows
    go true = rw (le-ltb 0 w h)
    go false = refl

-- Filled for w they are those of its batch, and ready for the next word.
pub filled : (os : List ℕ) (s n w : ℕ) (rows : List ℕ) → Ready os s n w rows → Have (cells_at os s n (w / 64)) n (filled_of os s n w rows)
filled os s n w rows z = go (w % 64) refl w refl
  where
    row : ℕ → ℕ
    row = row_of (cells_at os s n (w / 64)) n

    go : (x : ℕ) → w % 64 ≡ x → (y : ℕ) → w ≡ y → Have (cells_at os s n (w / 64)) n (filled_of os s n w rows)
    go (suc x) e y f = subst (Have (cells_at os s n (w / 64)) n) (filled-old os s n w rows (λ q. omega arith)) (z.have (λ h. omega arith))
    go zero e zero f = subst (Have (cells_at os s n (w / 64)) n) (filled-first os s n w rows (omega arith)) (z.have (λ h. omega arith))
    go zero e (suc y) f =
        subst (Have (cells_at os s n (w / 64)) n) (filled_new os s n w rows (fills row 16 rows) e (omega arith) refl)
        (λ r h. fills-at row 16 r rows (let f = z.full in omega arith) h)

pub filled_full : (os : List ℕ) (s n w : ℕ) (rows : List ℕ) → length rows ≡ 16 → length (filled_of os s n w rows) ≡ 16
unfolding filled_of
filled_full os s n w rows h = go (eqb (w % 64) 0 && ltb 0 w)
  where
    go : (b : Bool) → length (cond b (fills (row_of (cells_at os s n (w / 64)) n) 16 rows) rows) ≡ 16
    go true = fills-length (row_of (cells_at os s n (w / 64)) n) 16 rows ∙ h
    go false = h

pub ready-next : (os : List ℕ) (s n w : ℕ) (rows after : List ℕ) → after ≡ filled_of os s n w rows → Ready os s n w rows → Ready os s n (w + 1) after
ready-next os s n w rows after e z =
    rw e
    (record {
      full = filled_full os s n w rows z.full;
      have = λ h.
          let q : w / 64 ≡ (w + 1) / 64 = omega (arith, h (omega arith)) in
          subst (λ (b : ℕ). Have (cells_at os s n b) n (filled_of os s n w rows)) q (filled os s n w rows z);
    })

pub ready-first : (os : List ℕ) (s n : ℕ) (rows : List ℕ) → rows ≡ fills (row_of (cells_at os s n 0) n) 16 (replicate 16 0) → Ready os s n 0 rows
ready-first os s n rows e =
    rw e
    (record {
      full = fills-length (row_of (cells_at os s n 0) n) 16 (replicate 16 0);
      have = λ h r k. fills-at (row_of (cells_at os s n 0) n) 16 r (replicate 16 0) (omega arith) k;
    })

-- What is picked for w from the rows of its batch is the state that the one-word machine leaves with w.
lane_at : (os : List ℕ) (s n w : ℕ) (rows : List ℕ) → n ≤ 16 → s < 2 ^ n → Have (cells_at os s n (w / 64)) n rows → pick_of rows (w % 64) ≡ after_of os s n w
unfolding cells_at after_of
lane_at os s n w rows hn hs have =
    picked_right os rows (w / 64) s n (w % 64) hn hs (omega arith) have
    ∙ ap (λ (v : ℕ). (run_of os v (start_of s)).state % 2 ^ n) (whole w)
  where
    whole : (w : ℕ) → 64 * (w / 64) + w % 64 ≡ w
    whole w = omega arith

pub lanes_agree : LanesAgree
lanes_agree os s n w rows hn hs full =
    let row = row_of (cells_at os s n (w / 64)) n in
    lane_at os s n w (fills row 16 rows) hn hs λ r h. fills-at row 16 r rows (omega arith) h

-- So it is from rows that are filled anew only where w begins another batch.
pub picked : (os : List ℕ) (s n w : ℕ) (rows after : List ℕ) → n ≤ 16 → s < 2 ^ n → after ≡ filled_of os s n w rows → Ready os s n w rows
    → pick_of after (w % 64) ≡ after_of os s n w
picked os s n w rows after hn hs e z =
    ap (λ (r : List ℕ). pick_of r (w % 64)) e ∙ lane_at os s n w (filled_of os s n w rows) hn hs (filled os s n w rows z)
