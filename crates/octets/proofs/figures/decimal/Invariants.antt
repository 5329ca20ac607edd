-- The loop's invariant: the digits that were found stand at the end of the text, behind zeros, and behind the digits of what is left they
-- are the number's. As a u64 has 20 digits at most, there is a place for each.
use Prim.Native.Nat.{ℕ, ◌+◌}
use mathlib.Core.Path.{◌≡◌}
use mathlib.Core.List.{List, ◌++◌}
use lib.ListN.{length, replicate}
use Rattle.octets.specs.Figures.{decimal}
use Rattle.octets.proofs.figures.decimal.Given as goal

abbrev pub invariant-loop-rest : goal.invariant-loop-rest
invariant-loop-rest l = (done : List ℕ) × (decimal l.number ≡ decimal l.rest ++ done) × (l.text ≡ replicate (l.from + 1) 0 ++ done) × (l.from + 1 + length done ≡ 20)

abbrev pub decreases-loop-rest : goal.decreases-loop-rest
decreases-loop-rest l = l.rest
