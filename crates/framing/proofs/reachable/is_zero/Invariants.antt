-- `is_zero` meets its contract.
use mathlib.Core.Path.{◌≡◌}
use lib.ListN.{take}
use Rattle.line.specs.machine.Reachable.{all_zero}
use Rattle.framing.proofs.reachable.is_zero.Given as goal

abbrev pub invariant-loop-byte : goal.invariant-loop-byte
invariant-loop-byte l = l.zero ≡ all_zero (take l.byte-index l.bytes)
