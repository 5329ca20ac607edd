-- The running check, taken over the bytes that are left, is the check of all.
use mathlib.Core.Path.{◌≡◌}
use lib.ListN.{drop}
use Rattle.octets.specs.Check.{check_from}
use Rattle.octets.proofs.checksum.checksum_from.Given as goal

abbrev pub invariant-loop-byte : goal.invariant-loop-byte
invariant-loop-byte l = check_from l.checksum (drop l.byte-index l.bytes) ≡ check_from l.running l.bytes
