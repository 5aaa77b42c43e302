-- The counts of what is found of a safe model.
-- Assumes nothing.
use Prim.Native.Nat.{◌+◌}
use lib.Pow.{pow_pos}
use Rattle.counting.specs.Promises.{SafeCounted}
use Rattle.counting.proofs.Ones.{members-ones}
use Rattle.counting.proofs.Sums.{counts-add-up}
use Rattle.counting.proofs.Settings.{settings_occur}
use Rattle.counting.proofs.Reachable.{reachable_counted}
use Rattle.counting.specs.Counts.{setting_count}
use Rattle.meaning.specs.OneRow.{state_count}

pub safe-counted : SafeCounted
safe-counted m bytes F =
    let E = F.1 in
    record {
      ones = members-ones (m.shared_names + m.row_names) bytes E.fits E.bytes;
      sum = counts-add-up (state_count m) (setting_count m) bytes (pow_pos m.shared_names);
      occur = settings_occur (state_count m) (setting_count m) bytes (pow_pos m.shared_names);
      reached = reachable_counted m bytes E;
    }
