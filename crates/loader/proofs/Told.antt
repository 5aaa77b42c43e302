-- The numbers that C is given tell the answers, and fit.
-- Assumes nothing.
use mathlib.Core.Path.{◌≡◌, sym, ap}
use mathlib.Core.Logic.{◌⊎◌, inl, inr}
use mathlib.Core.List.{List}
use Prim.Native.Nat.{ℕ, ◌+◌, ◌*◌, ◌/◌, ◌%◌, ◌≤◌}
use native.Mathlib.Omega.{arith}
use lib.ListN.{length}
use borrow.Author.Tests.{ne_eqb}
use Rattle.notation.specs.Model.{Model}
use Rattle.notation.specs.Texts.{TextSays, TextRefused}
use Rattle.notation.proofs.Texts.{one_answer}
use Rattle.notation.proofs.Regular.{all_regular}
use Rattle.notation.proofs.Places.{refusals_bounded}
use Rattle.std.specs.Prelude.{Ok, Err}
use Rattle.refusals.specs.declared.Refusal.{Refusal}
use Rattle.refusals.specs.Reasons.{number_of}
use Rattle.reader.specs.declared.Code.{Code}
use Rattle.reader.specs.Read.{reading_of}
use Rattle.reader.specs.Answers as R
use Rattle.reader.specs.Promises.{Counted}
use Rattle.reader.proofs.Promised.{model_called, refusal_called, read_answers}
use Rattle.acceptance.specs.working.Test.{test_of}
use Rattle.acceptance.proofs.Places.{answers_bounded}
use Rattle.packing.specs.Packed.{packed, most_above}
use Rattle.packing.proofs.Packed.{low-back, above_back}
use Rattle.packing.proofs.OutcomesTold.{outcome_told}
use Rattle.loader.specs.Numbers.{model_number, read_number, reading_for}
use Rattle.loader.specs.Promises.{TestNumbersTell, reading_to, ReadNumbersTell}

pub test_numbers_tell : TestNumbersTell
test_numbers_tell text b = outcome_told (test_of text b) (answers_bounded text b)

-- The counts are bytes, and so the number tells them.
model-back : (a b k : ℕ) → a ≤ 255 → b ≤ 255 → k ≤ 255 → reading_for (model_number a b k) ≡ R.model a b k
model-back a b k ha hb hk =
    let above = a + 256 * b + 65536 * k in
    let low : model_number a b k % 256 ≡ 109 = low-back 109 above (omega arith) in
    let high : model_number a b k / 256 ≡ above = above_back 109 above (omega arith) in
    let first : above % 256 ≡ a = omega arith in
    let rest : above / 256 ≡ b + 256 * k = omega arith in
    let second : (b + 256 * k) % 256 ≡ b = omega arith in
    let third : above / 65536 ≡ k = omega arith in
    rw (low, high, first, rest, second, third)

refusal-back : (n i : ℕ) → n ≤ 7 → reading_for (packed n i) ≡ R.returned n i
refusal-back n i h = rw (low-back n i (omega arith), above_back n i (omega arith), ne_eqb n 109 (omega arith))

read_back : (text : List ℕ) → ((m : Model) × TextSays text m) ⊎ ((n i : ℕ) × TextRefused text n i) → reading_for (read_number (reading_to text)) ≡ reading_to text
unfolding read_number
read_back text (inl (m, s)) =
    let g = all_regular text m s in
    rw (model_called text m s) (model-back m.shared_names m.row_names (length m.commands) (omega (arith, g.few_shared)) (omega (arith, g.few_row)) (omega (arith, g.few_commands)))
read_back text (inr (n, i, r)) = rw (refusal_called text n i r) (refusal-back n i (refusals_bounded text n i r).high)

pub read_numbers_tell : ReadNumbersTell
unfolding read_number
read_numbers_tell text =
    record {
      back = read_back text (one_answer text).some;
      model = λ m s. ap read_number (model_called text m s);
      refusal = λ n i r. ap read_number (refusal_called text n i r);
    }

-- What `read` returns is within these bounds.
pub near : (text : List ℕ) (r : Refusal) → Err r ≡ reading_of text → r.place ≤ most_above
unfolding R.wording_of
near text r h =
    let b = refusals_bounded text (number_of r.reason) r.place (((read_answers text).refuses (number_of r.reason) r.place).0 (sym (ap R.wording_of h))) in
    omega (arith, b.near)

pub counts_fit : (text : List ℕ) (c : Code) → Ok c ≡ reading_of text → (c.shared + c.row ≤ 12) × (c.commands ≤ 16)
unfolding R.wording_of
counts_fit text c h = go (((read_answers text).reads c.shared c.row c.commands).0 (sym (ap R.wording_of h)))
  where
    go : ((m : Model) × TextSays text m × Counted m c.shared c.row c.commands) → (c.shared + c.row ≤ 12) × (c.commands ≤ 16)
    go (m, s, e) = let g = all_regular text m s in (omega (arith, e.0, e.1, g.few_names), omega (arith, e.2, g.few_commands))
