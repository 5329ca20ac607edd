-- What two tests say together, and a test that came out both ways.
use mathlib.Core.Path.{◌≡◌}
use mathlib.Core.Bool.{Bool, true, false, ◌&&◌}
use Rattle.std.proofs.lemmas.Bool as std

pub and_first : (a b : Bool) → a && b ≡ true → a ≡ true
and_first a b e = (std.and_parts a b e).0

pub and_second : (a b : Bool) → a && b ≡ true → b ≡ true
and_second a b e = (std.and_parts a b e).1

pub both_ways : {b : Bool} → b ≡ true → b ≡ false → ⊥
both_ways {b} p q = std.both_ways b q p

-- not both hold, and the second does
pub and_left : (a b : Bool) → b ≡ true → a && b ≡ false → a ≡ false
and_left true b p q = absurd (both_ways p q)
and_left false b p q = q
