-- What was put together is got back.
-- Assumes nothing.
use mathlib.Core.Path.{◌≡◌}
use Prim.Native.Nat.{ℕ, ◌/◌, ◌%◌, ◌<◌}
use native.Mathlib.Omega.{arith}
use Rattle.packing.specs.Packed.{packed}

pub low-back : (low above : ℕ) → low < 256 → packed low above % 256 ≡ low
low-back low above h = omega arith

pub above_back : (low above : ℕ) → low < 256 → packed low above / 256 ≡ above
above_back low above h = omega arith
