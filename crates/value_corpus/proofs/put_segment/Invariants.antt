-- `put_segment` meets its contract: there is room for two numbers for each code word that is left.
use Rattle.std.proofs.Common.{◌+◌, ◌-◌, ◌*◌, ◌≤◌, ℕ, length, cond}
use Rattle.std.specs.Slice.Iter.{split_rest, split_done}
use Rattle.streams.specs.Growth.{Grows}
use Rattle.value_corpus.proofs.put_segment.Given as goal

abbrev pub invariant-loop-code : goal.invariant-loop-code
invariant-loop-code l =
    let left : ℕ = cond (split_done l.code-iterator) 0 (length (split_rest l.code-iterator)) in
    (goal.iterator-loop-code).can_next l.code-iterator ×
    (goal.iterator-loop-code).is_finite l.code-iterator ×
    (left ≤ length l.words) ×
    Grows l.fn.out (42 * (length l.words - left)) l.out ×
    (l.passes + left ≤ length l.words)
