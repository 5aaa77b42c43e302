-- What a read leaves of the room, and what fits behind it.
-- Assumes nothing.
use Rattle.std.proofs.Common.{◌≡◌, ℕ, ◌+◌, ◌≤◌, List, ◌++◌, length, take, sym, ap, ◌∙◌}
use Rattle.std.proofs.lemmas.List.{take-append-le}
use Rattle.std.proofs.Math.Seq.{take-append-add}
use Rattle.std.proofs.Common.{length-take-le}
use borrow.Rule.Slice.PartMut.{put_mid, post_of}

-- The first n bytes that came into the part from place a on stand behind those before it.
pub taken_behind : (a k n : ℕ) (xs ys : List ℕ) → a ≤ length xs → n ≤ length ys → take a xs ++ take n ys ≡ take (a + n) (put_mid a k xs ys)
taken_behind a k n xs ys h f =
    let e : length (take a xs) ≡ a = length-take-le a xs h in
    sym
    (ap (λ m. take (m + n) (put_mid a k xs ys)) (sym e)
    ∙ take-append-add (take a xs) (ys ++ post_of a k xs) n
    ∙ ap (λ l. take a xs ++ l) (take-append-le n ys (post_of a k xs) f))
