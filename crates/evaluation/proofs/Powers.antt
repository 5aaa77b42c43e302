-- Powers of two up to 4,096.
-- Assumes nothing.
use mathlib.Core.Path.{◌≡◌}
use Prim.Native.Nat.{ℕ, ◌^◌, ◌≤◌}
use lib.Pow.{pow_mono}

pub pow_small : (k n : ℕ) → k ≤ 12 → n ≡ 2 ^ k → n ≤ 4096
pow_small k n h e = rw e (pow_mono {i = k} {j = 12} h)
