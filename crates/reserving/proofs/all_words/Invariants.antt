-- `all_words` meets its contract: the sum so far and the words of the commands that are left make the whole sum.
use Prim.Native.Nat.{◌+◌, ◌-◌, ◌*◌, ◌^◌, ◌≤◌}
use mathlib.Core.Path.{◌≡◌}
use Rattle.evaluation.specs.working.CodeSystem.{stars_in}
use Rattle.exploration.specs.working.Trials.{words_of}
use Rattle.reserving.proofs.all_words.Given as goal

abbrev pub invariant-commands : goal.invariant-commands
invariant-commands l =
    (l.sum + words_of (λ i. 2 ^ stars_in l.table.plan.stars i) l.k (l.table.plan.commands - l.k) ≡ words_of (λ i. 2 ^ stars_in l.table.plan.stars i) 0 l.table.plan.commands)
    × (l.sum ≤ 256 * l.k)
