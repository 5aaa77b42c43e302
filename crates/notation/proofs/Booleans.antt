-- Two tests joined by `&&`: taken apart, and put together.
-- Assumes nothing.
use mathlib.Core.Path.{◌≡◌, refl}
use mathlib.Core.Bool.{Bool, true, false, ◌&&◌}

pub and_split : (a b : Bool) → a && b ≡ true → (a ≡ true) × (b ≡ true)
and_split true b e = (refl, e)
and_split false b e = (e, cc)

pub and_join : (a b : Bool) → a ≡ true → b ≡ true → a && b ≡ true
and_join a b p q = rw (p, q)
