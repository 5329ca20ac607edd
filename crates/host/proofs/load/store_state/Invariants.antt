-- The loop's invariant: with the digits of the rest in front, the block has the whole header.
use Rattle.std.proofs.Common.{◌≡◌}
use Rattle.octets.specs.Digits.{digits}
use Rattle.octets.specs.Put.{put}
use Rattle.host.specs.Block.{header_size}
use Rattle.host.proofs.load.store_state.Given as goal

abbrev pub invariant-loop-i : goal.invariant-loop-i
invariant-loop-i l = put l.block 0 (digits 256 l.i l.rest) ≡ put l.initial.block 0 (digits 256 header_size l.initial.rest)
