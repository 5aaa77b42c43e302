-- `count_members` meets its contract: the bits of each byte are summed up.
use mathlib.Core.Path.{◌≡◌, ◌∙◌}
use lib.Count.{ones}
use Rattle.std.specs.List.{sum_by}
use Rattle.std.proofs.Common.{rules}
use Rattle.counting.proofs.Ones.{ones-summed}
use Rattle.counting.proofs.members.count_members.Goals as goal

pub returns : goal.returns
returns c =
    let e : c.sum.result ≡ sum_by ones c.args.map.now = search rules in
    e ∙ ones-summed c.args.map.now
